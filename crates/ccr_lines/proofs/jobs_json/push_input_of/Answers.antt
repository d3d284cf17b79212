use Rattle.std.proofs.Common.{◌∷◌, [], ap, map, refl}
use Rattle.serde_json.specs.Data.{boolean, string}
use Rattle.serde_json.specs.Written.{compact_text}
use Rattle.ccr_pipeline.specs.Inputs.{input_data}
use Rattle.ccr_lines.specs.Json.{list}
use Rattle.ccr_lines.proofs.JsonTexts.{and, last}
use Rattle.ccr_lines.proofs.jobs_json.push_input_of.Goals as goal

pub returns : goal.returns
returns c = λ passed.
    let i = input_data c.args.input.now in
    c.push_item.ensures.object
    (string i.name ∷ list (map (λ job. string job) i.passed) ∷ string i.resource ∷ boolean i.trigger ∷ [])
    (and (ap (λ t. compact_text (string t)) c.as_str.ensures.value) (and passed
    (and (ap (λ t. compact_text (string t)) c.as_str-2.ensures.value) (last refl))))
