-- Several things shown, one behind the other; and what is said of an input and of a job.
use Rattle.std.proofs.Common.{Result, IfOk, ◌≡◌, ◌+◌, ◌-◌, ◌<◌, ◌∷◌, ◌++◌, [], List, ℕ, length, take, map, get_or, refl, sym, ◌∙◌, ap, subst, append_assoc, append-nil, arith}
use Rattle.std.proofs.lemmas.List.{take_more, map-append, length-map, length-take-le}
use Rattle.std.specs.Prelude.{Some, unwrap_or, IsSome, IsSomeAnd}
use Rattle.ccr_history.specs.Text.{Text}
use Rattle.ccr_history.specs.History.{HistoryData}
use Rattle.ccr_pipeline.specs.Inputs.{InputData}
use Rattle.ccr_pipeline.specs.JobData.{JobData}
use Rattle.ccr_pipeline.specs.Pipelines.{PipelineData}
use Rattle.ccr_problem.specs.ProblemOf.{job_of}
use Rattle.ccr_core.specs.Holding.{CoreData}
use Rattle.ccr_core.specs.State.{no_pipeline}
use Rattle.ccr_core.specs.Commands.{explanation}
use Rattle.ccr_core.specs.declared.form.Form.{Form}
use Rattle.ccr_lines.specs.Each.{AreEach}
use Rattle.ccr_lines.specs.ExplainJson.{explained_shown, status_of, IsExplanationShown}
use Rattle.ccr_lines.specs.Explained.{newest_place, newest_three, IsExplained}
use Rattle.ccr_lines.specs.ExplainedData.{ExplainedData}
use Rattle.ccr_lines.specs.Reasons.{SubjectData}
use Rattle.ccr_lines.specs.Shown.{IsMade}

-- what is shown of one thing more, at the end
each_more : {X Y : Type 0} (May : ℕ → X → List Y → Type 0) (i n : ℕ) (xs : List X) (x : X) (old own : List Y)
    → n ≡ i + length xs → AreEach May i xs old → May n x own → AreEach May i (xs ++ x ∷ []) (old ++ own)
each_more May i n [] x old own at none may =
    (own, [], subst (λ m. May m x own) (omega (arith, at)) may, refl, ap (λ t. t ++ own) none ∙ sym (append-nil own))
each_more May i n (y ∷ ys) x old own at are may = (
  are.0,
  are.1 ++ own,
  are.2,
  each_more May (i + 1) n ys x are.1 own (omega (arith, at)) are.3 may,
  ap (λ t. t ++ own) are.4 ∙ append_assoc are.0 are.1 own,
)

-- what is shown of the next thing comes to what is shown of the first ones
pub each_told : {X Y Z : Type 0} (May : ℕ → X → List Z → Type 0) (of : Y → X) (ys : List Y) (k : ℕ) (y : Y)
    (old own new : List Z) → k < length ys → get_or ys k y ≡ y → AreEach May 0 (map of (take k ys)) old
    → May k (of y) own → new ≡ old ++ own → AreEach May 0 (map of (take (k + 1) ys)) new
each_told May of ys k y old own new within at are may told =
    subst (λ t. AreEach May 0 (map of (take (k + 1) ys)) t) (sym told)
    (subst (λ xs. AreEach May 0 (map of xs) (old ++ own)) (sym more)
    (subst (λ xs. AreEach May 0 xs (old ++ own)) (sym (map-append of (take k ys) (y ∷ [])))
    (each_more May 0 k (map of (take k ys)) (of y) old own long are may))) where
      more : take (k + 1) ys ≡ take k ys ++ y ∷ []
      more = take_more ys k y within ∙ ap (λ x. take k ys ++ x ∷ []) at

      known : length (map of (take k ys)) ≡ k
      known = length-map (take k ys) of ∙ length-take-le k ys (omega (arith, within))

      long : k ≡ 0 + length (map of (take k ys))
      long = omega (arith, known)

-- three things shown
each_three : {X Y : Type 0} (May : ℕ → X → List Y → Type 0) (x y z : X) (a b c whole : List Y) → May 0 x a → May 1 y b
    → May 2 z c → whole ≡ (a ++ b) ++ c → AreEach May 0 (x ∷ y ∷ z ∷ []) whole
each_three May x y z a b c whole first second third is = (
  a,
  b ++ c,
  first,
  (b, c, second, (c, [], third, refl, sym (append-nil c)), refl),
  is ∙ append_assoc a b c,
)

-- ---- an input
-- what is shown of the three newest places, where that doesn't depend on which of them it is
pub newest_so : {Y : Type 0} (P : ℕ → List Y → Type 0) (s : SubjectData) (x : InputData) (n second third : ℕ)
    (a b c whole : List Y) → n ≡ newest_place s x → second ≡ n - 1 → third ≡ n - 2 → P n a → P second b → P third c
    → whole ≡ (a ++ b) ++ c → AreEach (λ k. P) 0 (newest_three s x) whole
newest_so P s x n second third a b c whole newest next last first_is second_is third_is told =
    each_three (λ k. P) (newest_place s x) (newest_place s x - 1) (newest_place s x - 2) a b c whole
    (subst (λ m. P m a) newest first_is) (subst (λ m. P m b) (next ∙ ap (λ m. m - 1) newest) second_is)
    (subst (λ m. P m c) (last ∙ ap (λ m. m - 2) newest) third_is) told

-- ---- a job
-- what is said by a history and a budget is said by those that are the same
pub explained_same : {E : Type 0} (p : PipelineData) (h : HistoryData) (b : ℕ) (j : JobData) (g : HistoryData) (n : ℕ)
    (r : Result ExplainedData E) → g ≡ h → n ≡ b → IfOk r (IsExplained p g n j) → IfOk r (IsExplained p h b j)
explained_same p h b j g n r same budget has =
    subst (λ m. IfOk r (IsExplained p h m j)) budget (subst (λ o. IfOk r (IsExplained p o n j)) same has)

-- what is shown of a job that the pipeline has
pub explained_made : (f : Form) (c : CoreData) (p : PipelineData) (name : Text) (j : JobData) (e : ExplainedData) (status : ℕ)
    (text : Text) → c.pipeline ≡ Some p → job_of name p.jobs ≡ Some j → IsExplained p c.history c.budget j e
    → status ≡ status_of e.outlook → text ≡ explained_shown f e → IsMade (explanation f name) c status text
explained_made f c p name j e status text set there is ends told = (
  subst (λ o. IsSome (job_of name (unwrap_or o no_pipeline).jobs)) (sym set) (subst (λ x. IsSome x) (sym there) refl),
  subst (λ o. IsExplanationShown f (unwrap_or o no_pipeline) c.history c.budget name status text) (sym set)
      (subst (λ x. IsSomeAnd x (λ k. (d : ExplainedData) × IsExplained p c.history c.budget k d
      × (status ≡ status_of d.outlook) × (text ≡ explained_shown f d))) (sym there) (e, is, ends, told)),
)
