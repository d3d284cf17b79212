use Rattle.std.proofs.Common.{◌≡◌}
use Rattle.ccr_pipeline.specs.JobData.{resource_data}
use Rattle.ccr_process.specs.Ends.{end_data}
use Rattle.ccr_process.specs.Launches.{LaunchData, launch_data}
use Rattle.ccr_task.specs.Places.{places_data}
use Rattle.ccr_task.specs.Starting.{started_check}
use Rattle.ccr_serve.proofs.Launching.{found_run, lost_after}
use Rattle.ccr_serve.proofs.found.find_by_run.Goals as goal

pub returns-clause-ok : goal.returns-clause-ok
returns-clause-ok g c =
    found_run (λ (l : LaunchData). l ≡ started_check (places_data c.args.places.now) (resource_data c.args.resource.now)
    (launch_data c.args.launch))
    (g.R.Runner.pairs c.args.runner.now) (g.R.Runner.pairs c.run.new.self)
    (launch_data c.in_ok-begun.begun) (end_data c.run.result) c.run.ensures c.in_ok-begun.ensures
    c.found_by.result c.found_by.ensures

pub returns-clause-err : goal.returns-clause-err
returns-clause-err g c =
    lost_after (λ (l : LaunchData). l ≡ started_check (places_data c.args.places.now) (resource_data c.args.resource.now)
    (launch_data c.args.launch))
    (g.R.Runner.pairs c.args.runner.now) (g.R.Runner.pairs c.run.new.self)
    (launch_data c.in_ok-begun.begun) (end_data c.run.result) c.run.ensures c.in_ok-begun.ensures
    c.found_by.result
