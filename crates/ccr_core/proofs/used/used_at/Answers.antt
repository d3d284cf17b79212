use Rattle.std.proofs.Common.{◌≡◌, ◌∙◌, ◌⊎◌, inl, inr, ℕ, List, [], ◌∷◌, ◌++◌, map, refl, sym, ap}
use Rattle.std.proofs.lemmas.List.{append-nil}
use Rattle.std.proofs.lemmas.Slice.Zip.{either_empty_from_Zip}
use Rattle.ccr_history.specs.History.{HistoryData}
use Rattle.ccr_pipeline.specs.Inputs.{InputData, input_data}
use Rattle.ccr_pipeline.specs.Pipelines.{PipelineData, pipeline_data}
use Rattle.ccr_pipeline.specs.declared.input.Input.{Input}
use Rattle.ccr_core.specs.Choices.{used_at}
use Rattle.ccr_core.proofs.used.used_at.Goals as goal

no_place : (p : PipelineData) (h : HistoryData) (is : List InputData) → used_at p h is [] ≡ []
no_place p h [] = refl
no_place p h (i ∷ is) = refl

none_left : (p : PipelineData) (h : HistoryData) (is : List Input) (ns : List ℕ) → (is ≡ []) ⊎ (ns ≡ []) → used_at p h (map input_data is) ns ≡ []
none_left p h is ns (inl e) = ap (λ ys. used_at p h (map input_data ys) ns) e
none_left p h is ns (inr e) = ap (used_at p h (map input_data is)) e ∙ no_place p h (map input_data is)

pub returns : goal.returns
returns c =
    let p = pipeline_data c.args.pipeline.now in
    let left = none_left p c.args.history.now _ _ (either_empty_from_Zip _ c.next.new.self _ c.in-None.is c.next.ensures.steps) in
    sym (append-nil c.loop-input.used.items) ∙ ap (λ us. c.loop-input.used.items ++ us) (sym left) ∙ c.loop-input.invariant
