use Rattle.ccr_pipeline.specs.Pipelines.{pipeline_data}
use Rattle.ccr_task.specs.Places.{places_data}
use Rattle.ccr_task.specs.Starting.{step_label_data}
use Rattle.ccr_serve.proofs.Launching.{by_program, begun_by_program}
use Rattle.ccr_serve.proofs.answer.answer_to.Goals as goal

pub returns : goal.returns
returns g c = record {
  ok = by_program (places_data c.args.places.now) (pipeline_data c.args.pipeline.now).resources
      c.args.job.now c.args.number (step_label_data c.args.label) c.args.ask.now
      c.launch_of-launch.result (g.S.Shelf.calls c.args.shelf.now) (g.S.Shelf.calls c.answer_by_launch.new.shelf)
      (g.R.Runner.pairs c.args.runner.now) (g.R.Runner.pairs c.answer_by_launch.new.runner)
      c.in_default.not-ReadConfig c.requires c.launch_of-launch.ensures c.answer_by_launch.result
      c.answer_by_launch.ensures.ok;
  err = begun_by_program (places_data c.args.places.now) (pipeline_data c.args.pipeline.now).resources
      c.args.job.now c.args.number (step_label_data c.args.label) c.args.ask.now
      c.launch_of-launch.result (g.S.Shelf.calls c.args.shelf.now) (g.S.Shelf.calls c.answer_by_launch.new.shelf)
      (g.R.Runner.pairs c.args.runner.now) (g.R.Runner.pairs c.answer_by_launch.new.runner)
      c.in_default.not-ReadConfig c.requires c.launch_of-launch.ensures c.answer_by_launch.result
      c.answer_by_launch.ensures.err;
}
