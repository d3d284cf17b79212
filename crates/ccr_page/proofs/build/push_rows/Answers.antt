use Rattle.ccr_page.specs.Builds.{row_pieces}
use Rattle.ccr_page.proofs.Adding.{adds_more}
use Rattle.ccr_page.proofs.build.push_rows.Goals as goal

pub loop-row-preserved : goal.loop-row-preserved
loop-row-preserved c =
    adds_more (row_pieces c.args.page.now c.args.position c.args.job.now c.args.has_rest) c.as_slice-row-items.result.now c.loop-row.row-index c.row-item.result c.args.out.now.items c.loop-row.out.items c.push_row.new.out.items
    c.loop-row-test.true c.row-item.is c.loop-row.invariant c.in_ok-push_row.ensures
