use Rattle.std.proofs.Common.{◌≡◌}
use Rattle.ccr_process.specs.Ends.{end_data}
use Rattle.ccr_process.specs.Launches.{LaunchData, launch_data}
use Rattle.ccr_steps.specs.Asks.{ask_data}
use Rattle.ccr_task.specs.Faulty.{said_data}
use Rattle.ccr_task.specs.Places.{places_data}
use Rattle.ccr_task.specs.Starting.{step_label_data, started_ask}
use Rattle.ccr_serve.proofs.Launching.{lost_after, run_answered}
use Rattle.ccr_serve.proofs.answer.answer_by_run.Goals as goal

pub returns-clause-ok : goal.returns-clause-ok
returns-clause-ok g c =
    run_answered (places_data c.args.places.now) c.args.job.now c.args.number (step_label_data c.args.label) (ask_data c.args.ask.now)
    (launch_data c.args.launch) c.in_ok-begun.begun
    (g.S.Shelf.calls c.args.shelf.now) (g.S.Shelf.calls c.settle.new.shelf)
    (g.R.Runner.pairs c.args.runner.now) (g.R.Runner.pairs c.run-end.new.self)
    (end_data c.run-end.result) (said_data c.in_ok-said.said)
    c.in_ok-begun.ensures c.run-end.ensures c.in_ok-said.ensures c.settle.result c.settle.ensures.ok

pub returns-clause-err : goal.returns-clause-err
returns-clause-err g c =
    lost_after (λ (l : LaunchData). l ≡ started_ask (places_data c.args.places.now) c.args.job.now c.args.number
    (step_label_data c.args.label) (ask_data c.args.ask.now) (launch_data c.args.launch))
    (g.R.Runner.pairs c.args.runner.now) (g.R.Runner.pairs c.run-end.new.self)
    (launch_data c.in_ok-begun.begun) (end_data c.run-end.result) c.run-end.ensures c.in_ok-begun.ensures
    c.settle.result

pub returns-in_err-said-clause-err : goal.returns-in_err-said-clause-err
returns-in_err-said-clause-err g c =
    lost_after (λ (l : LaunchData). l ≡ started_ask (places_data c.args.places.now) c.args.job.now c.args.number
    (step_label_data c.args.label) (ask_data c.args.ask.now) (launch_data c.args.launch))
    (g.R.Runner.pairs c.args.runner.now) (g.R.Runner.pairs c.run-end.new.self)
    (launch_data c.in_ok-begun.begun) (end_data c.run-end.result) c.run-end.ensures c.in_ok-begun.ensures
    c.from_residual-in_err-said.result
