use Rattle.ccr_findings.specs.Hunts.{hunt_data}
use Rattle.ccr_findings.proofs.Jobs.{planned}
use Rattle.ccr_findings.proofs.find_job.find_plan.Goals as goal

pub returns : goal.returns
returns c =
    planned _ (hunt_data c.args.hunt.now) _ _ _ _ _ _ _ _ c.new.ensures c.in_ok-find_list.ensures
    (rw c.closing.ensures at c.in_ok-find_own_keys.ensures) c.in_ok-find_hooks.ensures c.in_ok-plan.ensures c.find_few.ensures
