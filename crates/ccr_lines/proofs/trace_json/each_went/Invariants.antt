use Rattle.std.proofs.Common.{◌≡◌, take, flat_map}
use Rattle.ccr_lines.specs.Json.{after_comma}
use Rattle.ccr_lines.specs.TraceJson.{went_json}
use Rattle.ccr_lines.proofs.trace_json.each_went.Given as goal

abbrev pub invariant-loop-went : goal.invariant-loop-went
invariant-loop-went l = l.out.items ≡ flat_map (λ w. after_comma (went_json w)) (take l.went-index l.trace)
