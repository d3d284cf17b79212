use Rattle.std.proofs.Common.{◌∷◌, ◌++◌, [], ◌∙◌, ap, decimal}
use Rattle.serde_json.specs.Data.{string}
use Rattle.serde_json.specs.Written.{compact_text}
use Rattle.ccr_lines.specs.Json.{list}
use Rattle.ccr_lines.specs.Live.{live_object}
use Rattle.ccr_lines.proofs.JsonTexts.{and, last}
use Rattle.ccr_lines.proofs.live.live_object.Goals as goal

pub returns : goal.returns
returns c = λ us took.
    let b = c.args.build.now in
    c.in_ok-push_object.ensures.object (list us ∷ string b.job ∷ string (decimal b.number) ∷ [])
    (and took (and (ap (λ t. compact_text (string t)) c.job.ensures)
    (last (ap (λ n. compact_text (string (decimal n))) c.number.ensures))))
    ∙ ap (λ t. t ++ compact_text (live_object b us)) c.new-out.ensures.items
