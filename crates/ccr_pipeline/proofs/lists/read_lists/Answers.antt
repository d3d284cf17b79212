use Rattle.ccr_pipeline.specs.Reading.{faults_before}
use Rattle.ccr_pipeline.proofs.Faulted.{checks_fault, first_append}
use Rattle.ccr_pipeline.proofs.lists.read_lists.Goals as goal

pub returns-in_err-resources-clause-checked : goal.returns-in_err-resources-clause-checked
unfolding faults_before
returns-in_err-resources-clause-checked c =
    let object = rw (c.is_object.ensures, c.top.ensures) at c.in_ok-require.ensures in
    let list = c.in_ok-check_list.ensures in
    checks_fault _ _ _ c.from_residual-in_err-resources.ensures.1
    (rw (object, list) (first_append _ _ _ (rw (c.list_at.ensures, c.requires) at c.in_err-resources.ensures.checked)))
