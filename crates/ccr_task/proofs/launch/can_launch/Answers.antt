use Rattle.std.proofs.Common.{rules, ◌≡◌, ◌∙◌, map}
use Rattle.ccr_pipeline.specs.JobData.{resource_data, job_data}
use Rattle.ccr_steps.specs.Asks.{ask_data}
use Rattle.ccr_task.specs.Launching.{can_launch}
use Rattle.ccr_task.proofs.Known.{launches}
use Rattle.ccr_task.proofs.launch.can_launch.Goals as goal

pub returns-in-Fetch-clause-named : goal.returns-in-Fetch-clause-named
returns-in-Fetch-clause-named c = λ job there own.
    let rs = map resource_data c.args.pipeline.now.resources.items in
    let js = map job_data c.args.pipeline.now.jobs.items in
    let exact : c.is_some.result ≡ can_launch rs (ask_data c.args.ask.now) = search rules in
    exact ∙ launches rs js job c.args.pipeline.now.linked there (ask_data c.args.ask.now) own

pub returns-in-Push-clause-named : goal.returns-in-Push-clause-named
returns-in-Push-clause-named c = λ job there own.
    let rs = map resource_data c.args.pipeline.now.resources.items in
    let js = map job_data c.args.pipeline.now.jobs.items in
    let exact : c.is_some-in-Push.result ≡ can_launch rs (ask_data c.args.ask.now) = search rules in
    exact ∙ launches rs js job c.args.pipeline.now.linked there (ask_data c.args.ask.now) own
