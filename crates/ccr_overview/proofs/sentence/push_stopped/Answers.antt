use Rattle.std.proofs.Common.{ap, codes, ◌∷◌, ◌++◌, []}
use Rattle.ccr_lines.specs.Lines.{status_word}
use Rattle.ccr_overview.specs.PageData.{Plain}
use Rattle.ccr_overview.specs.Sentences.{build_row, stopped_words}
use Rattle.ccr_overview.proofs.Clashing.{three_added}
use Rattle.ccr_overview.proofs.sentence.push_stopped.Goals as goal

pub returns : goal.returns
returns c =
    let b = c.args.build.now in
    three_added c.push_status.result _ _ _ _ _ _ _ (stopped_words c.args.at b) c.in_ok-push_plain.ensures c.in_ok-push_build.ensures
    c.push_status.ensures
    (ap (λ s. Plain (codes "stopped: ") ∷ build_row c.args.at b ∷ Plain (codes " " ++ status_word s) ∷ []) c.status.ensures)
