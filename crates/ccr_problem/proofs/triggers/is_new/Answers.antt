use Rattle.std.proofs.Common.{◌≡◌, ◌∙◌, ◌⊎◌, inl, inr, false, List, [], ◌∷◌, map, refl, sym, ap}
use Rattle.std.proofs.lemmas.Slice.Zip.{either_empty_from_Zip}
use Rattle.ccr_history.specs.Text.{Text}
use Rattle.ccr_history.specs.Builds.{UsedData, BuildData}
use Rattle.ccr_pipeline.specs.Inputs.{InputData, input_data}
use Rattle.ccr_pipeline.specs.declared.input.Input.{Input}
use Rattle.ccr_problem.specs.Triggers.{is_new}
use Rattle.ccr_problem.proofs.triggers.is_new.Goals as goal

no_place : (job : Text) (bs : List BuildData) (is : List InputData) → is_new job bs is [] ≡ false
no_place job bs [] = refl
no_place job bs (i ∷ is) = refl

none_left : (job : Text) (bs : List BuildData) (is : List Input) (us : List UsedData) → (is ≡ []) ⊎ (us ≡ []) → is_new job bs (map input_data is) us ≡ false
none_left job bs is us (inl e) = ap (λ ys. is_new job bs (map input_data ys) us) e
none_left job bs is us (inr e) = ap (is_new job bs (map input_data is)) e ∙ no_place job bs (map input_data is)

pub returns : goal.returns
returns c =
    sym (none_left c.args.job.now c.args.history.now.builds _ _ (either_empty_from_Zip _ c.next.new.self _ c.in-None.is c.next.ensures.steps))
    ∙ c.loop-input.invariant
