use Rattle.std.proofs.Common.{◌∙◌, ap}
use Rattle.ccr_pipeline.specs.Inputs.{input_data}
use Rattle.ccr_lines.specs.Reasons.{subject_data, scope_at}
use Rattle.ccr_lines.specs.Stops.{stop_of}
use Rattle.ccr_lines.proofs.reason.stopped.Goals as goal

pub returns : goal.returns
returns c =
    let s = subject_data c.args.subject.now in
    let x = input_data c.args.input.now in (
      c.requires.enabled,
      c.requires.allowed,
      (
        c.args.job,
        c.requires.unmoved,
        c.in_ok-stop.ensures
            ∙ (ap (λ n. stop_of s.pipeline s.history (n, c.args.place) c.job_name.result.now) c.scope_at.ensures
            ∙ ap (λ t. stop_of s.pipeline s.history (scope_at s x, c.args.place) t) c.job_name.ensures),
      ),
    )
