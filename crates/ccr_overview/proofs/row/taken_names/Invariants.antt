use Rattle.std.proofs.Common.{◌≡◌, drop, flat_map, map, string_bytes}
use Rattle.ccr_overview.specs.PageRows.{taken_names}
use Rattle.ccr_pipeline.specs.Names.{with_names}
use Rattle.ccr_overview.proofs.row.taken_names.Given as goal

abbrev pub invariant-loop-build : goal.invariant-loop-build
invariant-loop-build l =
    with_names (map string_bytes l.names.items) (flat_map (λ b. map (λ u. u.input) b.used) (drop l.build-index l.builds)) ≡ taken_names l.builds
