use Rattle.std.proofs.Common.{◌++◌, ◌∷◌, [], ◌∙◌, ap, map, flat_map}
use Rattle.ccr_lines.specs.Json.{after_comma}
use Rattle.ccr_lines.specs.ReleaseJson.{took_json, moved_json, witness_json}
use Rattle.ccr_lines.specs.Releases.{together_data}
use Rattle.ccr_lines.proofs.JsonTexts.{array_of_each, array_of_each_seen}
use Rattle.ccr_lines.proofs.release_json.release_json.Goals as goal

pub returns : goal.returns
returns c =
    let h = c.args.history.now in
    let b = c.args.build.now in
    c.in_ok-line.ensures ∙ ap (λ t. t ++ 10 ∷ [])
    (c.in_ok-text.ensures (map (λ u. took_json h.tables u) b.used) (map (λ q. moved_json h.tables q) b.moved)
    (map (λ t. witness_json t.job t.number) (map together_data c.args.together.now))
    (array_of_each (λ u. took_json h.tables u) b.used c.deref.result.now (c.deref.ensures.value ∙ c.in_ok-inputs.ensures))
    (array_of_each (λ q. moved_json h.tables q) b.moved c.deref-2.result.now
    (c.deref-2.ensures.value ∙ (c.in_ok-moved.ensures
    ∙ ap (λ qs. flat_map (λ q. after_comma (moved_json h.tables q)) qs) c.moved.ensures)))
    (array_of_each_seen (λ t. witness_json t.job t.number) together_data c.args.together.now c.deref-3.result.now
    (c.deref-3.ensures.value ∙ c.in_ok-together.ensures)))
