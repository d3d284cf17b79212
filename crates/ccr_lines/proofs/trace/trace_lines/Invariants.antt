use Rattle.std.proofs.Common.{◌≡◌, take, flat_map, string_bytes}
use Rattle.ccr_lines.specs.Traces.{went_line}
use Rattle.ccr_lines.proofs.trace.trace_lines.Given as goal

abbrev pub invariant-loop-went : goal.invariant-loop-went
invariant-loop-went l = string_bytes l.text ≡ flat_map (λ w. went_line w) (take l.went-index l.trace)
