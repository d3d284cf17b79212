use Rattle.std.proofs.Common.{◌≡◌, ◌++◌, ◌∙◌, [], ap}
use Rattle.ccr_pipeline.specs.Inputs.{input_data}
use Rattle.ccr_lines.specs.Explained.{IsNewerRefused}
use Rattle.ccr_lines.specs.Reasons.{subject_data}
use Rattle.ccr_lines.proofs.Explaining.{newest_so}
use Rattle.ccr_lines.proofs.explain.newer_of.Goals as goal

pub returns : goal.returns
returns c =
    let s = subject_data c.args.subject.now in
    let x = input_data c.args.input.now in
    let a = c.in_ok-push_newer.ensures in
    let b = c.in_ok-push_newer-2.ensures in
    let d = c.in_ok-push_newer-3.ensures in
    newest_so (λ place rs. IsNewerRefused s c.args.number x place rs) s x c.newest_place-newest.result
    c.saturating_sub.result c.saturating_sub-2.result a.0 b.0 d.0 c.push_newer-3.new.newer.items
    c.newest_place-newest.ensures c.saturating_sub.ensures c.saturating_sub-2.ensures a.1 b.1 d.1
    (d.2 ∙ (ap (λ t. t ++ d.0) b.2 ∙ (ap (λ t. (t ++ b.0) ++ d.0) a.2
    ∙ ap (λ t. ((t ++ a.0) ++ b.0) ++ d.0) c.new-newer.ensures.items)))
