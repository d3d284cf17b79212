-- How one build is made, from the parts that its machine and the history give.
use Rattle.std.proofs.Common.{◌≡◌, ℕ, ◌+◌, List, [], ◌∷◌, length, string_bytes, Option, refl, sym, ap, ◌∙◌, subst, arith}
use Rattle.ccr_history.specs.declared.change.Edit.{Edit}
use Rattle.ccr_history.specs.declared.change.Edit.TheVariants.{Build}
use Rattle.ccr_history.specs.declared.change.Made.{Made}
use Rattle.ccr_history.specs.Edits.{edit_data, row_of, HaveTheirNumbers}
use Rattle.ccr_history.specs.Text.{Text}
use Rattle.ccr_history.specs.TextMap.{TextMap}
use Rattle.ccr_history.specs.Builds.{UsedData, count_of, new_build}
use Rattle.ccr_history.specs.Changes.{EditData, build, edited, changed, AreUsed, IsRunning, AdmitsAll}
use Rattle.ccr_history.specs.History.{HistoryData, IsHistory}
use Rattle.ccr_pipeline.specs.Inputs.{InputData, inputs}
use Rattle.ccr_pipeline.specs.JobData.{JobData}
use Rattle.ccr_pipeline.specs.Limits.{input_names}
use Rattle.ccr_pipeline.specs.Pipelines.{PipelineData}
use Rattle.ccr_steps.specs.Asks.{chosen}
use Rattle.ccr_steps.specs.Runs.{RunData, StandsFor}
use Rattle.ccr_steps.specs.declared.outcome.Outcome.{Outcome}
use Rattle.ccr_core.specs.Builds.{Settles, history_with}
use Rattle.ccr_core.specs.Choices.{used_at, versions_at}
use Rattle.ccr_core.specs.Edits.{AreBuildEdits}
use Rattle.ccr_core.specs.Endings.{IsAtEnding, end_edits, PairsFit}
use Rattle.ccr_core.specs.Going.{named, CanMake, IsMade}
use Rattle.ccr_core.proofs.Answering.{settles_so, pairs_fit, end_taken}
use Rattle.ccr_core.proofs.Keeping.{known_start, new_found}
use Rattle.ccr_core.proofs.Rows.{row_new}

-- each input has a version
pub versions_each : (p : PipelineData) (h : HistoryData) (is : List InputData) (ns : List ℕ) → length ns ≡ length is → length (versions_at p h is ns) ≡ length is
versions_each p h [] ns e = refl
versions_each p h (i ∷ is) [] e = absurd (omega (arith, e))
versions_each p h (i ∷ is) (n ∷ ns) e = let more = versions_each p h is ns (omega (arith, e)) in omega (arith, more)

-- a new build runs
pub new_runs : (h mid : HistoryData) (job : Text) (used : List UsedData) → IsHistory h → mid ≡ edited (build job used) h → IsRunning job (count_of job h.builds + 1) mid.builds
new_runs h mid job used (tables, (few, numbered, each), pins, disabled) is =
    subst (λ y. IsRunning job (count_of job h.builds + 1) y.builds) (sym is)
    (new_build job (count_of job h.builds + 1) used, new_found job used h.builds (known_start h.builds numbered), refl)

-- it has the row behind all others
pub new_row : (h mid : HistoryData) (job : Text) (used : List UsedData) → IsHistory h → mid ≡ edited (build job used) h → length h.builds + 1 ≡ row_of job (count_of job h.builds + 1) mid.builds
new_row h mid job used (tables, (few, numbered, each), pins, disabled) is =
    row_new job used h.builds (known_start h.builds numbered) ∙ sym (ap (λ (y : HistoryData). row_of job (count_of job h.builds + 1) y.builds) is)

-- the edits of a new build, and of its end, carry their numbers
pub made_numbers : (h mid : HistoryData) (all es : List Edit) (b : Made) (nm : Text) (us : List UsedData) → all ≡ Build b ∷ es → string_bytes b.job ≡ nm → b.used.items ≡ us → mid ≡ edited (build nm us) h
    → b.row ≡ length h.builds + 1 → b.number ≡ count_of nm h.builds + 1 → HaveTheirNumbers mid es → HaveTheirNumbers h all
made_numbers h mid all es b nm us is job used to row number more =
    let edit : edit_data (Build b) ≡ build nm us = ap (λ y. build y b.used.items) job ∙ ap (build nm) used in
    subst (HaveTheirNumbers h) (sym is)
    ((row, number ∙ ap (λ y. count_of y h.builds + 1) (sym job)), subst (λ y. HaveTheirNumbers y es) (to ∙ ap (λ e. edited e h) (sym edit)) more)

module _ (p : PipelineData) (h mid after : HistoryData) (j : JobData) (places : List ℕ) (can : CanMake p h j places) (run : RunData) (vs : List TextMap) (us : List UsedData) (nm : Text) (n : ℕ) (o : Option Outcome) (pairs : List (ℕ × ℕ)) (name : nm ≡ j.name) (number : n ≡ count_of nm h.builds + 1) (versions : vs ≡ versions_at p h (inputs j.plan) places) (used : us ≡ used_at p h (inputs j.plan) places) (begins : StandsFor run j.plan (chosen (input_names j.plan) vs) []) (stands : IsAtEnding p h run o pairs) (is : mid ≡ edited (build nm us) h) where
  there : StandsFor run j.plan (chosen (input_names j.plan) (versions_at p h (inputs j.plan) places)) []
  there = subst (λ l. StandsFor run j.plan (chosen (input_names j.plan) l) []) versions begins

  same : mid ≡ history_with p h j places
  same = is ∙ ap (λ y. edited (build y us) h) name ∙ ap (λ l. edited (build j.name l) h) used

  its : n ≡ count_of j.name h.builds + 1
  its = number ∙ ap (λ y. count_of y h.builds + 1) name

  -- the end fits the tables, which a new build leaves
  pub made_fits : PairsFit mid.tables o pairs
  made_fits =
      subst (λ y. PairsFit y.tables o pairs) (sym is)
      (pairs_fit p h run o pairs (j.plan, chosen (input_names j.plan) (versions_at p h (inputs j.plan) places), [], there, can.fits) stands)

  -- the edits of both
  pub made_edits : (all : List EditData) → all ≡ build nm us ∷ end_edits nm n o pairs → AreBuildEdits p h j places all
  made_edits all e = (
    o,
    end_edits j.name (count_of j.name h.builds + 1) o pairs,
    (pairs, stands j.plan (chosen (input_names j.plan) (versions_at p h (inputs j.plan) places)) [] there, refl),
    e ∙ ap (λ y. build y us ∷ end_edits y n o pairs) name ∙ ap (λ l. build j.name l ∷ end_edits j.name n o pairs) used
        ∙ ap (λ m. build j.name (used_at p h (inputs j.plan) places) ∷ end_edits j.name m o pairs) its,
  )

  module _ (to : after ≡ changed (end_edits nm n o pairs) mid) where
    pub made_so : IsMade p h j places n o after run
    made_so =
        let ends : after ≡ changed (end_edits j.name n o pairs) (history_with p h j places) = to ∙ ap (λ y. changed (end_edits y n o pairs) mid) name ∙ ap (changed (end_edits j.name n o pairs)) same in
        let here = settles_so p (history_with p h j places) j.name n j.plan (chosen (input_names j.plan) (versions_at p h (inputs j.plan) places)) [] o pairs after (stands j.plan (chosen (input_names j.plan) (versions_at p h (inputs j.plan) places)) [] there) ends in
        (its, there, subst (λ m. Settles p (history_with p h j places) (named j.name m j.plan (chosen (input_names j.plan) (versions_at p h (inputs j.plan) places)) []) o after) its here)

    pub made_change : (all : List EditData) → all ≡ build nm us ∷ end_edits nm n o pairs → IsRunning nm n mid.builds → AdmitsAll h all × (changed all h ≡ after)
    made_change all e runs =
        let takes : AdmitsAll mid (end_edits nm n o pairs) = end_taken mid nm n o pairs runs made_fits in
        let first : AreUsed h.tables us = subst (AreUsed h.tables) (sym used) can.used in (
          subst (AdmitsAll h) (sym e) ((can.room, first), subst (λ y. AdmitsAll y (end_edits nm n o pairs)) is takes),
          ap (λ l. changed l h) e ∙ ap (changed (end_edits nm n o pairs)) (sym is) ∙ sym to,
        )
