use Rattle.std.proofs.Common.{◌≡◌, ◌==◌, drop}
use Rattle.std.specs.List.{list_any}
use Rattle.ccr_lines.proofs.witness.names_job.Given as goal

abbrev pub invariant-loop-n : goal.invariant-loop-n
invariant-loop-n l =
    list_any (λ m. m == l.job) (drop l.n-index l.n-items) ≡ list_any (λ m. m == l.job) l.n-items
