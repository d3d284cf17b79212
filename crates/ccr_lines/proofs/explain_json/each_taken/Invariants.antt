use Rattle.std.proofs.Common.{◌≡◌, take, flat_map}
use Rattle.ccr_lines.specs.ExplainJson.{taken_json}
use Rattle.ccr_lines.specs.Json.{after_comma}
use Rattle.ccr_lines.proofs.explain_json.each_taken.Given as goal

abbrev pub invariant-loop-taken : goal.invariant-loop-taken
invariant-loop-taken l = l.out.items ≡ flat_map (λ t. after_comma (taken_json t)) (take l.taken-index l.inputs)
