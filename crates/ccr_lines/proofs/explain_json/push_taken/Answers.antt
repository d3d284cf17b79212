use Rattle.std.proofs.Common.{◌++◌, ◌∙◌, List, ap, map, flat_map, option_copied}
use Rattle.ccr_lines.specs.ExplainedData.{RefusalData, PassedData, TakenData}
use Rattle.ccr_lines.specs.ExplainJson.{refusal_json, passed_json, taken_object}
use Rattle.ccr_lines.specs.Json.{after_comma}
use Rattle.ccr_lines.proofs.JsonTexts.{array_of_each}
use Rattle.ccr_lines.proofs.explain_json.push_taken.Goals as goal

pub returns : goal.returns
returns c =
    let t = c.args.taken.now in
    let own = c.taken.inside in
    let seen = c.taken.view_is in
    let old = c.args.out.now.items in
    let ns = map (λ r. refusal_json r) t.newer in
    let ps = map (λ b. passed_json b) t.passed in
    let resource = c.as_str-resource.result.now in
    let version = option_copied c.as_ref-version.result in
    c.in_ok-push_taken_of.ensures ns ps
    (array_of_each (λ r. refusal_json r) t.newer c.deref-3.result.now
    (c.deref-3.ensures.value ∙ (c.in_ok-newer.ensures
    ∙ ap (λ (rs : List RefusalData). flat_map (λ r. after_comma (refusal_json r)) rs)
    (c.deref.ensures.value ∙ ap (λ (x : TakenData). x.newer) seen))))
    (array_of_each (λ b. passed_json b) t.passed c.deref-4.result.now
    (c.deref-4.ensures.value ∙ (c.in_ok-passed.ensures
    ∙ ap (λ (bs : List PassedData). flat_map (λ b. after_comma (passed_json b)) bs)
    (c.deref-2.ensures.value ∙ ap (λ (x : TakenData). x.passed) seen))))
    ∙ (ap (λ n. old ++ after_comma (taken_object n ns ps own.place resource version))
    (c.as_str-name.ensures.value ∙ ap (λ (x : TakenData). x.name) seen)
    ∙ (ap (λ k. old ++ after_comma (taken_object t.name ns ps k resource version)) (ap (λ (x : TakenData). x.place) seen)
    ∙ (ap (λ r. old ++ after_comma (taken_object t.name ns ps t.place r version))
    (c.as_str-resource.ensures.value ∙ ap (λ (x : TakenData). x.resource) seen)
    ∙ ap (λ v. old ++ after_comma (taken_object t.name ns ps t.place t.resource v))
    (c.as_ref-version.ensures.value ∙ ap (λ (x : TakenData). x.version) seen))))
