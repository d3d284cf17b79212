use Rattle.std.proofs.Common.{◌<◌, length, map, slice_index, refl, sym, arith}
use Rattle.ccr_pipeline.specs.Inputs.{input_data}
use Rattle.ccr_pipeline.specs.Pipelines.{pipeline_data}
use Rattle.ccr_lines.specs.Newest.{took_each}
use Rattle.ccr_lines.proofs.Placing.{each_on, each_not}
use Rattle.ccr_lines.proofs.newest.took_each.Goals as goal

pub returns-then-not-took_one : goal.returns-then-not-took_one
returns-then-not-took_one c =
    let p = pipeline_data c.args.pipeline.now in
    let h = c.args.history.now in
    let b = c.args.build.now in
    let is = c.args.inputs.now in
    let ns = c.args.places.now in
    let there : c.loop-k.k < length ns = omega (arith, c.loop-k-test.true, c.requires) in
    each_not p h b is ns c.loop-k.k c.index-inputs-k.result (slice_index ns c.loop-k.k) c.took_one.result
    (took_each p h (map input_data is) ns b) c.loop-k-test.true (sym c.index-inputs-k.is) there refl
    c.took_one.ensures c.if-not-took_one.true c.loop-k.invariant

pub loop-k-preserved : goal.loop-k-preserved
loop-k-preserved c =
    let p = pipeline_data c.args.pipeline.now in
    let h = c.args.history.now in
    let b = c.args.build.now in
    let is = c.args.inputs.now in
    let ns = c.args.places.now in
    let there : c.loop-k.k < length ns = omega (arith, c.loop-k-test.true, c.requires) in
    each_on p h b is ns c.loop-k.k c.index-inputs-k.result (slice_index ns c.loop-k.k) c.took_one.result
    (took_each p h (map input_data is) ns b) c.loop-k-test.true (sym c.index-inputs-k.is) there refl
    c.took_one.ensures c.if-not-took_one.false c.loop-k.invariant
