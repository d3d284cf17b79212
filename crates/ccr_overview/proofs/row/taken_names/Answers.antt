use Rattle.std.proofs.Common.{sym, map, string_bytes}
use Rattle.ccr_overview.specs.PageRows.{taken_names}
use Rattle.ccr_overview.proofs.Going.{names_more}
use Rattle.ccr_overview.proofs.row.taken_names.Goals as goal

pub loop-build-preserved : goal.loop-build-preserved
loop-build-preserved c =
    names_more (λ b. map (λ u. u.input) b.used) c.args.builds.now c.loop-build.build-index c.build-item.result
    (map string_bytes c.loop-build.names.items) (map string_bytes c.add_taken.new.names.items) (taken_names c.args.builds.now)
    c.loop-build-test.true (sym c.build-item.is) c.in_ok-add_taken.ensures c.loop-build.invariant
