use Rattle.std.proofs.Common.{◌≡◌, ◌+◌, ◌-◌, suc, ◌∙◌, ap, option_map, string_bytes, arith}
use Rattle.ccr_pipeline.specs.Pipelines.{pipeline_data}
use Rattle.ccr_lines.specs.Stops.{next_stop, stopping_job}
use Rattle.ccr_lines.proofs.Stopping.{stop_on, stop_here}
use Rattle.ccr_lines.proofs.stop.stopping_job.Goals as goal

pub loop-preserved : goal.loop-preserved
loop-preserved c =
    let p = pipeline_data c.args.pipeline.now in
    let h = c.args.history.now in
    let n = c.args.most - c.loop.counter in
    let m = c.args.most - (c.loop.counter + 1) in
    let more : n ≡ suc m = omega arith in
    stop_on p h c.args.pair n m (string_bytes c.loop.stop) (string_bytes c.in-Some.next)
    (stopping_job c.args.most p h c.args.pair c.args.job.now) _ more
    (c.in_ok-next.ensures ∙ ap (λ j. next_stop p h c.args.pair j) c.as_str.ensures.value)
    (ap (λ x. option_map string_bytes x) c.in-Some.is) c.loop.invariant

pub returns-in-None : goal.returns-in-None
returns-in-None c =
    let p = pipeline_data c.args.pipeline.now in
    let h = c.args.history.now in
    let n = c.args.most - c.loop.counter in
    let m = c.args.most - (c.loop.counter + 1) in
    let more : n ≡ suc m = omega arith in
    stop_here p h c.args.pair n m (string_bytes c.loop.stop) (stopping_job c.args.most p h c.args.pair c.args.job.now) _ more
    (c.in_ok-next.ensures ∙ ap (λ j. next_stop p h c.args.pair j) c.as_str.ensures.value)
    (ap (λ x. option_map string_bytes x) c.in-None.is) c.loop.invariant
