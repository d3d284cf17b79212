use Rattle.std.proofs.Common.{◌≡◌, ◌∷◌, ◌++◌, [], ◌∙◌, ap, decimal}
use Rattle.serde_json.specs.Data.{string}
use Rattle.serde_json.specs.Written.{compact_text}
use Rattle.ccr_lines.specs.Json.{list}
use Rattle.ccr_lines.specs.Lines.{status_word}
use Rattle.ccr_lines.specs.ReleaseJson.{release_object}
use Rattle.ccr_lines.proofs.JsonTexts.{and, last}
use Rattle.ccr_lines.proofs.release_json.release_object.Goals as goal

pub returns : goal.returns
returns c = λ us ms ts took moved together.
    let b = c.args.build.now in
    c.in_ok-push_object.ensures.object
    (list us ∷ string b.job ∷ list ms ∷ string (decimal b.number) ∷ string (status_word b.status) ∷ list ts ∷ [])
    (and took (and (ap (λ t. compact_text (string t)) c.job.ensures)
    (and moved (and (ap (λ n. compact_text (string (decimal n))) c.number.ensures)
    (and (ap (λ t. compact_text (string t)) (c.word_of.ensures ∙ ap status_word c.status.ensures))
    (last together))))))
    ∙ ap (λ t. t ++ compact_text (release_object b us ms ts)) c.new-out.ensures.items
