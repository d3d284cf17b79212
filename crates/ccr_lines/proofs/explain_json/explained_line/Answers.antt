use Rattle.std.proofs.Common.{◌∷◌, ◌++◌, [], ◌∙◌, List, ap, map, flat_map, option_map, string_bytes}
use Rattle.serde_json.specs.Data.{string}
use Rattle.serde_json.specs.Written.{compact_text}
use Rattle.ccr_lines.specs.ExplainedData.{TakenData, ExplainedData}
use Rattle.ccr_lines.specs.ExplainJson.{taken_json, last_json, words_json, explained_object}
use Rattle.ccr_lines.specs.Json.{after_comma}
use Rattle.ccr_lines.specs.JobsJson.{is_due}
use Rattle.ccr_lines.specs.Outlooks.{outlook_words}
use Rattle.ccr_lines.proofs.JsonTexts.{array_of_each}
use Rattle.ccr_lines.proofs.explain_json.explained_line.Goals as goal

pub returns : goal.returns
returns c =
    let e = c.args.explained.now in
    let seen = c.explained.view_is in
    let is = map (λ t. taken_json t) e.inputs in
    let l = last_json e.last in
    let n = string (outlook_words e.outlook) in
    let w = words_json e.why in
    let name = c.as_str-name.result.now in
    let due = is_due e.outlook in
    c.in_ok-line.ensures ∙ ap (λ t. t ++ 10 ∷ [])
    (c.in_ok-push_explained_of.ensures is l n w
    (array_of_each (λ t. taken_json t) e.inputs c.deref-2.result.now
    (c.deref-2.ensures.value ∙ (c.in_ok-inputs.ensures
    ∙ ap (λ (ts : List TakenData). flat_map (λ t. after_comma (taken_json t)) ts)
    (c.deref.ensures.value ∙ ap (λ (x : ExplainedData). x.inputs) seen))))
    (c.deref-3.ensures.value ∙ (c.in_ok-last.ensures ∙ ap (λ (x : ExplainedData). compact_text (last_json x.last)) seen))
    (c.deref-4.ensures.value ∙ (c.in_ok-next.ensures
    ∙ ap (λ (x : ExplainedData). compact_text (string (outlook_words x.outlook))) seen))
    (c.deref-5.ensures.value ∙ (c.in_ok-why.ensures
    ∙ (ap (λ o. compact_text (words_json (option_map string_bytes o))) c.as_ref.ensures.value
    ∙ ap (λ (x : ExplainedData). compact_text (words_json x.why)) seen)))
    ∙ (ap (λ t. t ++ compact_text (explained_object c.is_due-due.result is name l n w)) c.new-text.ensures.items
    ∙ (ap (λ b. compact_text (explained_object b is name l n w))
    (c.is_due-due.ensures ∙ ap (λ (x : ExplainedData). is_due x.outlook) seen)
    ∙ ap (λ t. compact_text (explained_object due is t l n w))
    (c.as_str-name.ensures.value ∙ ap (λ (x : ExplainedData). x.job) seen))))
