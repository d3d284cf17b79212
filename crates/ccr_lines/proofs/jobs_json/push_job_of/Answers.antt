use Rattle.std.proofs.Common.{◌∷◌, [], ap}
use Rattle.serde_json.specs.Data.{boolean, string}
use Rattle.serde_json.specs.Written.{compact_text}
use Rattle.ccr_lines.specs.Json.{list}
use Rattle.ccr_lines.specs.JobsJson.{is_due, newest_json}
use Rattle.ccr_lines.specs.Outlooks.{outlook_words}
use Rattle.std.proofs.Common.{refl}
use Rattle.ccr_lines.proofs.JsonTexts.{and, last}
use Rattle.ccr_lines.proofs.jobs_json.push_job_of.Goals as goal

pub returns : goal.returns
returns c = λ f r is os finished inputs words running outputs.
    c.push_item.ensures.object
    (newest_json f ∷ boolean (is_due c.args.outlook) ∷ list is ∷ string c.args.name.now
    ∷ string (outlook_words c.args.outlook) ∷ newest_json r ∷ list os ∷ [])
    (and finished (and (ap (λ b. compact_text (boolean b)) c.is_due.ensures) (and inputs (and refl
    (and words (and running (last outputs)))))))
