-- A step has one change.
use Rattle.std.proofs.Common.{◌≡◌, ◌⊎◌, inl, inr, ℕ, zero, suc, ◌<◌, ◌≤◌, Bool, slice_index, List, [], ◌∷◌, ◌++◌, length, Option, Some, None, IsSomeAnd, Ok, Err, refl, sym, ap, ◌∙◌, subst, arith}
use Rattle.std.proofs.lemmas.Bool.{cases_lt, cases_eq}
use Rattle.std.proofs.lemmas.List.{same_lists, get_or_default}
use Rattle.ccr_history.specs.Text.{Text}
use Rattle.ccr_history.specs.Changes.{EditData, build, ended, changed}
use Rattle.ccr_history.specs.History.{HistoryData}
use Rattle.ccr_pipeline.specs.Inputs.{inputs}
use Rattle.ccr_pipeline.specs.JobData.{JobData}
use Rattle.ccr_pipeline.specs.Pipelines.{PipelineData}
use Rattle.ccr_steps.specs.Asks.{AnswerData}
use Rattle.ccr_steps.specs.Gains.{GainsData}
use Rattle.ccr_steps.specs.Progress.{AnswersDecide}
use Rattle.ccr_steps.specs.declared.outcome.Outcome.{Outcome}
use Rattle.ccr_choice.specs.Optimal.{IsOptimal}
use Rattle.ccr_choice.specs.Preference.{order_of, IsOrder, IsBetter}
use Rattle.ccr_choice.specs.Problem.{ProblemValue}
use Rattle.ccr_choice.proofs.Orders.{is_order}
use Rattle.ccr_problem.specs.ProblemOf.{job_of, problem_with}
use Rattle.ccr_core.specs.declared.reply.Reply.{Reply}
use Rattle.ccr_core.specs.declared.reply.Reply.TheVariants.{Made, Goes, Ends}
use Rattle.ccr_core.specs.Addressed.{AnswerTo, addressed}
use Rattle.ccr_core.specs.Builds.{status_of, begun, history_with, with_answer}
use Rattle.ccr_core.specs.Choices.{best, Finds, used_at}
use Rattle.ccr_core.specs.Edits.{news_in, AreEndEdits, AreBuildEdits, AreMoreEdits, AreNextEdits, AreAnswerEdits, AreSaidEdits, AreMadeEdits, AreEditsBy}
use Rattle.ccr_core.specs.Events.{EventData, set_pipeline, checked, schedule, trigger, pin, unpin, disable, enable, restart}
use Rattle.ccr_core.specs.Kept.{EachChangeIsOne}
use Rattle.ccr_core.specs.Seen.{report_by, pairs_of}
use Rattle.ccr_core.specs.State.{RunningData, State, pipeline_of}
use Rattle.ccr_core.proofs.Answering.{next_one}
use Rattle.ccr_core.proofs.Owning.{job_at}

-- ---- the places of an optimal choice
-- of two lists as long, of which none is better than the other, both are one
module _ (prefers : ℕ → ℕ → ℕ → Bool) (order : IsOrder prefers) (xs ys : List ℕ) (len : length xs ≡ length ys) (one : ¬ IsBetter prefers xs ys) (two : ¬ IsBetter prefers ys xs) where
  agree : (n : ℕ) → n ≤ length xs → (k : ℕ) → k < n → slice_index xs k ≡ slice_index ys k
  agree zero most k less = absurd (omega (arith, less))
  agree (suc n) most k less = by (cases_lt k n) (agree n (omega (arith, most)))
    where
      last : ((m : ℕ) → m < n → slice_index xs m ≡ slice_index ys m) → slice_index xs n ≡ slice_index ys n
      last before = elim (cases_eq (slice_index xs n) (slice_index ys n)) [
        | inl same ↦ same
        | inr differs ↦ elim (order.total n (slice_index xs n) (slice_index ys n) differs) [
          | inl first ↦ absurd (one (record { first = n; within = omega (arith, most); reached = omega (arith, most, len); same_before = before; preferred = first }))
          | inr first ↦ absurd (two (record { first = n; within = omega (arith, most, len); reached = omega (arith, most); same_before = λ m lt. sym (before m lt); preferred = first }))
        ]
      ]

      by : (k < n) ⊎ (n ≤ k) → ((m : ℕ) → m < n → slice_index xs m ≡ slice_index ys m) → slice_index xs k ≡ slice_index ys k
      by (inl lt) before = before k lt
      by (inr le) before = let at : k ≡ n = omega (arith, le, less) in subst (λ m. slice_index xs m ≡ slice_index ys m) (sym at) (last before)

  one_list : xs ≡ ys
  one_list = same_lists xs ys len (λ k d within.
      get_or_default xs k d 0 within ∙ agree (length xs) (omega arith) k within ∙ sym (get_or_default ys k d 0 (omega (arith, within, len))))

one_optimal : (p : ProblemValue) (xs ys builds others : List ℕ) → IsOptimal (order_of p) p xs builds → IsOptimal (order_of p) p ys others → xs ≡ ys
one_optimal p xs ys builds others x y =
    one_list (order_of p) (is_order p) xs ys (x.satisfies.lengths.place_each ∙ sym y.satisfies.lengths.place_each)
    (λ better. y.none_better xs builds x.satisfies better) (λ better. x.none_better ys others y.satisfies better)

one_best : (s : State) (j : JobData) (xs ys : List ℕ) → job_of j.name (pipeline_of s).jobs ≡ Some j → Finds s j.name (best xs) → Finds s j.name (best ys) → xs ≡ ys
one_best s j xs ys at (p, is, (builds, x)) (q, iq, (others, y)) =
    let first : p ≡ problem_with (pipeline_of s) s.history j.name (inputs j.plan) = subst (λ o. IsSomeAnd o (λ i. p ≡ problem_with (pipeline_of s) s.history i.name (inputs i.plan))) at is in
    let second : q ≡ problem_with (pipeline_of s) s.history j.name (inputs j.plan) = subst (λ o. IsSomeAnd o (λ i. q ≡ problem_with (pipeline_of s) s.history i.name (inputs i.plan))) at iq in
    one_optimal p xs ys builds others x (subst (λ z. IsOptimal (order_of z) z ys others) (second ∙ sym first) y)

-- ---- ends
module _ (decide : AnswersDecide) where
  one_end : (p : PipelineData) (h : HistoryData) (b : RunningData) (o u : Option Outcome) (es fs : List EditData) → AreEndEdits p h b o es → AreEndEdits p h b u fs → es ≡ fs
  one_end p h b None None es fs (xs, x, is) (ys, y, iq) = is ∙ sym iq
  one_end p h b None (Some u) es fs (xs, (begins, waits), is) (ys, (g, means, y), iq) = absurd (waits (u, g, means))
  one_end p h b (Some o) None es fs (xs, (g, means, x), is) (ys, (begins, waits), iq) = absurd (waits (o, g, means))
  one_end p h b (Some o) (Some u) es fs (xs, (g, m, x), is) (ys, (k, n, y), iq) =
      let (same, outcomes, gains) = decide b.inputs b.plan b.exchanges b.exchanges o u g k m n refl in
      is ∙ ap (λ v. ended b.job b.number (status_of v) xs ∷ []) outcomes
      ∙ ap (λ l. ended b.job b.number (status_of u) l ∷ []) (x ∙ ap (λ (v : GainsData). pairs_of p h v.moved) gains ∙ sym y) ∙ sym iq

  one_build : (p : PipelineData) (h : HistoryData) (j : JobData) (places : List ℕ) (es fs : List EditData) → AreBuildEdits p h j places es → AreBuildEdits p h j places fs → es ≡ fs
  one_build p h j places es fs (o, end, first, is) (u, last, second, iq) =
      is ∙ ap (λ l. build j.name (used_at p h (inputs j.plan) places) ∷ l) (one_end p (history_with p h j places) (begun p h j places) o u end last first second) ∙ sym iq

  -- ---- answers
  module _ (p : PipelineData) (h : HistoryData) (b : RunningData) (x : AnswerData) (o : Option Outcome) where
    one_more : (reports : List EditData) (c : RunningData) (es fs : List EditData) → AreMoreEdits p h reports c o es → AreMoreEdits p h reports c o fs → es ≡ fs
    one_more reports c es fs (end, first, is) (last, second, iq) =
        is ∙ ap (λ l. news_in h reports ++ l) (one_end p (changed reports h) c o o end last first second) ∙ sym iq

    one_next : (es fs : List EditData) → AreNextEdits p h b x o es → AreNextEdits p h b x o fs → es ≡ fs
    one_next es fs (k, next, first) (l, after, second) =
        one_more (report_by p k x) (with_answer b k x) es fs first
        (subst (λ z. AreMoreEdits p h (report_by p z x) (with_answer b z x) o fs) (sym (next_one b.inputs b.plan b.exchanges k l next after)) second)

  one_answer : (s : State) (a : AnswerTo) (o : Option Outcome) (es fs : List EditData) → AreAnswerEdits s a o es → AreAnswerEdits s a o fs → es ≡ fs
  one_answer s a o es fs (b, at, x) (c, there, y) =
      let both : Some b ≡ Some c = sym at ∙ there in
      let same : b ≡ c = cc both in
      one_next (pipeline_of s) s.history b a.given o es fs x (subst (λ z. AreNextEdits (pipeline_of s) s.history z a.given o fs) (sym same) y)

  -- ---- each event
  one_said : (s : State) (a : AnswerTo) (r : Reply) (es fs : List EditData) → AreSaidEdits s a r es → AreSaidEdits s a r fs → es ≡ fs
  one_said s a Goes es fs x y = one_answer s a None es fs x y
  one_said s a (Ends o) es fs x y = one_answer s a (Some o) es fs x y
  one_said s a r es fs x y = absurd x

  one_made : (s : State) (name : Text) (r : Reply) (es fs : List EditData) → AreMadeEdits s name r es → AreMadeEdits s name r fs → es ≡ fs
  one_made s name (Made m) es fs (j, at, (xs, x, first)) (i, there, (ys, y, second)) =
      let both : Some i ≡ Some j = sym there ∙ at in
      let same : i ≡ j = cc both in
      let its : Finds s j.name (best ys) = subst (λ z. Finds s z.name (best ys)) same y in
      let last : AreBuildEdits (pipeline_of s) s.history j ys fs = subst (λ z. AreBuildEdits (pipeline_of s) s.history z ys fs) same second in
      one_build (pipeline_of s) s.history j xs es fs first
      (subst (λ z. AreBuildEdits (pipeline_of s) s.history j z fs) (sym (one_best s j xs ys (job_at name (pipeline_of s).jobs j at) x its)) last)
  one_made s name r es fs x y = x ∙ sym y

  one_by : (s : State) (o : Option AnswerTo) (e : EventData) (r : Reply) (es fs : List EditData) → AreEditsBy s o e r es → AreEditsBy s o e r fs → es ≡ fs
  one_by s (Some a) e r es fs x y = one_said s a r es fs x y
  one_by s None (set_pipeline p) r es fs x y = x ∙ sym y
  one_by s None (checked resource vs) r es fs x y = x ∙ sym y
  one_by s None (schedule job) r es fs x y = one_made s job r es fs x y
  one_by s None (trigger job) r es fs x y = one_made s job r es fs x y
  one_by s None (pin resource p) r es fs x y = x ∙ sym y
  one_by s None (unpin resource) r es fs x y = x ∙ sym y
  one_by s None (disable resource place) r es fs x y = x ∙ sym y
  one_by s None (enable resource place) r es fs x y = x ∙ sym y
  one_by s None restart r es fs x y = x ∙ sym y
  one_by s None e r es fs x y = absurd x

  pub each_change_is_one : EachChangeIsOne
  each_change_is_one s e (Ok r) es fs x y = one_by s (addressed e) e r es fs x y
  each_change_is_one s e (Err f) es fs x y = x ∙ sym y
