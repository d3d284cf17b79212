use Rattle.std.proofs.Common.{◌+◌, ◌∙◌, ◌++◌, ◌∷◌, [], ap, sym, map, drop, append_assoc}
use Rattle.std.proofs.lemmas.List.{drop_more}
use Rattle.ccr_pipeline.specs.Inputs.{input_data}
use Rattle.ccr_pipeline.specs.Pipelines.{pipeline_data}
use Rattle.ccr_problem.specs.Follows.{place_taken}
use Rattle.ccr_problem.proofs.coming.places_taken.Goals as goal

pub loop-input-preserved : goal.loop-input-preserved
loop-input-preserved c =
    let F = place_taken (pipeline_data c.args.pipeline.now) c.args.history.now c.args.used.now in
    let xs = c.deref-input-items.result.now in
    let i = c.loop-input.input-index in
    let places = c.loop-input.places.items in
    let rest = map F (map input_data (drop (i + 1) xs)) in
    ap (λ l. l ++ rest) c.in_ok-push.ensures.items
    ∙ append_assoc places (c.place_taken.result ∷ []) rest
    ∙ ap (λ y. places ++ y ∷ rest) (c.place_taken.ensures ∙ ap (λ x. F (input_data x)) c.input-item.is)
    ∙ ap (λ l. places ++ map F (map input_data l)) (sym (drop_more xs i c.input-item.result c.loop-input-test.true))
    ∙ c.loop-input.invariant
