use Rattle.ccr_steps.specs.Asks.{ask_data}
use Rattle.ccr_task.specs.Places.{places_data}
use Rattle.ccr_task.specs.Starting.{step_label_data}
use Rattle.ccr_serve.proofs.Launching.{answered_after, answered_lost}
use Rattle.ccr_serve.proofs.answer.answer_by_launch.Goals as goal

pub returns-clause-ok : goal.returns-clause-ok
returns-clause-ok g c =
    rw c.in-Ok.is (answered_after (places_data c.args.places.now) c.args.job.now c.args.number (step_label_data c.args.label)
    (ask_data c.args.ask.now) c.in-Ok.launch
    (g.S.Shelf.calls c.args.shelf.now) (g.S.Shelf.calls c.make_folders.new.shelf)
    (g.S.Shelf.calls c.answer_by_run.new.shelf)
    (g.R.Runner.pairs c.args.runner.now) (g.R.Runner.pairs c.answer_by_run.new.runner)
    c.in-Ok-make_folders.ensures c.answer_by_run.result c.answer_by_run.ensures.ok)

pub returns-clause-err : goal.returns-clause-err
returns-clause-err g c =
    rw c.in-Ok.is (answered_lost (places_data c.args.places.now) c.args.job.now c.args.number (step_label_data c.args.label)
    (ask_data c.args.ask.now) c.in-Ok.launch
    (g.S.Shelf.calls c.args.shelf.now) (g.S.Shelf.calls c.make_folders.new.shelf)
    (g.S.Shelf.calls c.answer_by_run.new.shelf)
    (g.R.Runner.pairs c.args.runner.now) (g.R.Runner.pairs c.answer_by_run.new.runner)
    c.in-Ok-make_folders.ensures c.answer_by_run.result c.answer_by_run.ensures.err c.answer_by_run.ensures.same)
