use Rattle.std.proofs.Common.{◌∙◌, sym}
use Rattle.ccr_pipeline.specs.Pipelines.{pipeline_data}
use Rattle.ccr_lines.specs.BuildCertificates.{place_for}
use Rattle.ccr_lines.proofs.Taking.{places_more, none_there}
use Rattle.ccr_lines.proofs.taken.places_taken.Goals as goal

pub returns-in-None : goal.returns-in-None
returns-in-None c =
    none_there (place_for (pipeline_data c.args.pipeline.now) c.args.history.now c.args.build.now.used) c.args.inputs.now
    c.loop-input.input-index c.input-item.result c.loop-input-test.true (sym c.input-item.is)
    (sym c.place_for.ensures ∙ c.in-None.is)

pub loop-input-preserved : goal.loop-input-preserved
loop-input-preserved c =
    places_more (place_for (pipeline_data c.args.pipeline.now) c.args.history.now c.args.build.now.used) c.args.inputs.now
    c.loop-input.input-index c.input-item.result c.in-Some.place c.loop-input.places.items c.push.new.self.items
    c.loop-input-test.true (sym c.input-item.is) c.loop-input.invariant (sym c.place_for.ensures ∙ c.in-Some.is)
    c.in_ok-push-in-Some.ensures.items
