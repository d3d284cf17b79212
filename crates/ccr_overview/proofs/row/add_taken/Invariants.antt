use Rattle.std.proofs.Common.{◌≡◌, drop, map, string_bytes}
use Rattle.ccr_pipeline.specs.Names.{with_names}
use Rattle.ccr_overview.proofs.row.add_taken.Given as goal

abbrev pub invariant-loop-k : goal.invariant-loop-k
invariant-loop-k l =
    with_names (map string_bytes l.names.items) (map (λ u. u.input) (drop l.k l.build.used)) ≡ with_names (map string_bytes l.fn.names.items) (map (λ u. u.input) l.build.used)
