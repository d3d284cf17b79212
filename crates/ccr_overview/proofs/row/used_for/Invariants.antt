use Rattle.std.proofs.Common.{◌≡◌, drop, find}
use Rattle.std.specs.Str.{bytes_eq}
use Rattle.ccr_overview.proofs.row.used_for.Given as goal

abbrev pub invariant-loop-k : goal.invariant-loop-k
invariant-loop-k l =
    find (λ u. bytes_eq l.input u.input) (drop l.k l.build.used) ≡ find (λ u. bytes_eq l.input u.input) l.build.used
