use Rattle.std.proofs.Common.{◌<◌, arith}
use Rattle.ccr_history.proofs.Items.{left_of-cons}
use Rattle.ccr_pipeline.specs.Objects.{value_faults}
use Rattle.ccr_pipeline.proofs.Faulted.{checks_fault, first_append}
use Rattle.ccr_pipeline.proofs.ObjectLemmas.{rows_first, value_first, value_inside, inside_none}
use Rattle.ccr_pipeline.proofs.object.+objects.Goals as goal

pub check_value-returns-in_err-check : goal.check_value-returns-in_err-check
check_value-returns-in_err-check t c =
    checks_fault _ _ _ c.from_residual.ensures.1 (value_first _ _ _ _ _ _ c.in_err-check.ensures)

pub check_value-returns : goal.check_value-returns
check_value-returns t c =
    let some : 0 < c.args.left = omega arith in
    rw (value_inside _ _ _ _ _ some, c.in_ok-check.ensures) c.check_inside.ensures

pub check_rows-returns-in_err-check_row-clause-checked : goal.check_rows-returns-in_err-check_row-clause-checked
check_rows-returns-in_err-check_row-clause-checked t c =
    checks_fault _ _ _ c.from_residual.ensures.1
    (rw c.loop-row.invariant.checked (rows_first (value_faults c.args.left) c.loop-row.names _ _ _ _ _ _ c.loop-row-test.true c.in_err-check_row.ensures.checked))

pub check_inside-returns-in_default : goal.check_inside-returns-in_default
check_inside-returns-in_default t c =
    inside_none _ _ _ _ _ c.in_default.not-Parallel c.in_default.not-Objects c.in_default.not-Object c.in_default.not-OwnName

pub check_objects-returns-in_err-check_object : goal.check_objects-returns-in_err-check_object
check_objects-returns-in_err-check_object t c =
    checks_fault _ _ _ c.from_residual.ensures.1
    (rw (c.loop-i.invariant, left_of-cons _ _ _ _ c.loop-i-test.true c.index-members-i.is)
    (first_append _ _ _ (rw (c.member.ensures.value, c.member.ensures.place) at c.in_err-check_object.ensures.checked)))
