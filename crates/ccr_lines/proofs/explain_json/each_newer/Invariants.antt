use Rattle.std.proofs.Common.{◌≡◌, take, flat_map}
use Rattle.ccr_lines.specs.ExplainJson.{refusal_json}
use Rattle.ccr_lines.specs.Json.{after_comma}
use Rattle.ccr_lines.proofs.explain_json.each_newer.Given as goal

abbrev pub invariant-loop-refusal : goal.invariant-loop-refusal
invariant-loop-refusal l = l.out.items ≡ flat_map (λ r. after_comma (refusal_json r)) (take l.refusal-index l.newer)
