use Rattle.std.proofs.Common.{◌≡◌, take, flat_map}
use Rattle.ccr_lines.specs.Traces.{went, went_if}
use Rattle.ccr_lines.proofs.trace.trace_of.Given as goal

abbrev pub invariant-loop-k : goal.invariant-loop-k
invariant-loop-k l =
    l.trace.items ≡ flat_map (λ b. went_if (went l.history.tables l.resource l.pin b)) (take l.k l.history.builds)
