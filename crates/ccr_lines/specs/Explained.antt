-- What the next build of a job would take, and why nothing newer; or why there is none.
use Rattle.std.specs.Prelude.{◌≡◌, ℕ, ◌-◌, List, [], ◌∷◌, ◌++◌, length, map, slice_get, Bool, true, false, nat_lt, Option, Some, None, codes, decimal}
use Rattle.std.specs.Option.{option_map_or}
use Rattle.ccr_history.specs.Text.{Text}
use Rattle.ccr_history.specs.TextMap.{TextMap, key_text}
use Rattle.ccr_history.specs.Tables.{at_place, versions_at}
use Rattle.ccr_history.specs.History.{HistoryData}
use Rattle.ccr_history.specs.declared.build.Status.{Status}
use Rattle.ccr_pipeline.specs.Inputs.{InputData, inputs, named_jobs}
use Rattle.ccr_pipeline.specs.JobData.{JobData}
use Rattle.ccr_pipeline.specs.Pipelines.{PipelineData}
use Rattle.ccr_choice.specs.Problem.{ProblemValue, ChoiceValue, input_at}
use Rattle.ccr_choice.specs.Preference.{order_of}
use Rattle.ccr_problem.specs.ProblemOf.{IsProblemOf}
use Rattle.ccr_resolve.specs.declared.chosen.Chosen.{Chosen}
use Rattle.ccr_resolve.specs.declared.chosen.Chosen.TheVariants as chosen
use Rattle.ccr_resolve.specs.Chosen.{IsChosen}
use Rattle.ccr_explain.specs.declared.explanation.Explanation.{Explanation}
use Rattle.ccr_explain.specs.declared.explanation.Explanation.TheVariants as explanation
use Rattle.ccr_explain.specs.Clash.{IsExplanation}
use Rattle.ccr_explain.specs.ClashValue.{ClashValue}
use Rattle.ccr_lines.specs.declared.outlook.Outlook.{Outlook}
use Rattle.ccr_lines.specs.declared.outlook.Outlook.TheVariants.{Due, NothingNew, ByCommandOnly, NoneSatisfies, OverBudget}
use Rattle.ccr_lines.specs.declared.reason.Reason.{Reason}
use Rattle.ccr_lines.specs.ClashWords.{any, job_name, clash_words}
use Rattle.ccr_lines.specs.Each.{AreEach}
use Rattle.ccr_lines.specs.ExplainedData.{RefusalData, PassedData, TakenData, ExplainedData}
use Rattle.ccr_lines.specs.Newest.{took_places, newest_of, standing_of}
use Rattle.ccr_lines.specs.Outlooks.{outlook_at}
use Rattle.ccr_lines.specs.Reasons.{SubjectData, scope_at, taken, reason_words, IsReason}
use Rattle.ccr_lines.specs.UnmetPins.{pinned_out}

-- ---- one input
-- the version at a place of an input's scope
abbrev pub version_at : SubjectData → InputData → ℕ → Option TextMap
version_at s x place = at_place place (versions_at (scope_at s x) s.history.tables)

-- a place, and this reason why input i doesn't take it
abbrev pub refusal_of : SubjectData → ℕ → InputData → ℕ → Reason → RefusalData
refusal_of s i x place r =
    record { place = place; version = version_at s x place; words = reason_words s i place r }

-- the same of a place that is newer than the one input i takes, with a reason that holds; nothing of any other
abbrev pub IsRefusedIf : Bool → SubjectData → ℕ → InputData → ℕ → List RefusalData → Type 0
IsRefusedIf true s i x place rs = (r : Reason) × IsReason s i x place r × (rs ≡ refusal_of s i x place r ∷ [])
IsRefusedIf false s i x place rs = rs ≡ []

abbrev pub IsNewerRefused : SubjectData → ℕ → InputData → ℕ → List RefusalData → Type 0
IsNewerRefused s i x place rs = IsRefusedIf (nat_lt (taken s i) place) s i x place rs

-- how many versions an input's scope has, the newest of which has this place
abbrev pub newest_place : SubjectData → InputData → ℕ
newest_place s x = length (versions_at (scope_at s x) s.history.tables)

-- the three newest places of an input's scope, the newest first; 0 where there are fewer
abbrev pub newest_three : SubjectData → InputData → List ℕ
newest_three s x = newest_place s x ∷ (newest_place s x - 1) ∷ (newest_place s x - 2) ∷ []

-- the build of a job with which what the inputs take passed that job
abbrev pub passed_of : SubjectData → ℕ → PassedData
passed_of s j = record { job = job_name s.jobs j; build = slice_get s.choice.builds j }

-- what input i takes, with these newer places
abbrev pub taken_of : SubjectData → ℕ → InputData → List RefusalData → TakenData
taken_of s i x newer = record {
  name = x.name;
  resource = x.resource;
  place = taken s i;
  version = version_at s x (taken s i);
  passed = map (passed_of s) (input_at s.problem i).jobs;
  newer = newer;
}

-- WHAT INPUT i TAKES, and why it takes none of the three newest places that is newer
abbrev pub IsTaken : SubjectData → ℕ → InputData → List TakenData → Type 0
IsTaken s i x ts =
    (newer : List RefusalData) × AreEach (λ n. IsNewerRefused s i x) 0 (newest_three s x) newer
    × (ts ≡ taken_of s i x newer ∷ [])

-- ---- a job
-- the next build of a job, with the choice for it
abbrev pub subject_of : PipelineData → HistoryData → ℕ → JobData → ProblemValue → ChoiceValue → SubjectData
subject_of p h budget j q c = record {
  pipeline = p;
  history = h;
  inputs = inputs j.plan;
  jobs = named_jobs [] (inputs j.plan);
  problem = q;
  choice = c;
  budget = budget;
}

-- the newest build of a job that took these places for its inputs, where it has nothing new
abbrev pub last_of : PipelineData → HistoryData → JobData → List ℕ → Outlook → Option (ℕ × Status)
last_of p h j places Due = None
last_of p h j places NothingNew =
    standing_of (newest_of (took_places p h (inputs j.plan) places) j.name h)
last_of p h j places ByCommandOnly = None
last_of p h j places NoneSatisfies = None
last_of p h j places (OverBudget n) = None

-- what is said of a job by the choice for its next build, where its inputs take this
abbrev pub best_of : SubjectData → JobData → List TakenData → ExplainedData
best_of s j each =
    let o = outlook_at s.pipeline s.history j s.choice.places in record {
      job = j.name;
      outlook = o;
      last = last_of s.pipeline s.history j s.choice.places o;
      inputs = each;
      why = None;
    }

-- what is said of a job that has no such choice: what its next build would be, and why there is none
abbrev pub none_of : JobData → Outlook → Option Text → ExplainedData
none_of j o why = record { job = j.name; outlook = o; last = None; inputs = []; why = why }

-- that an input is pinned, and that no version is as its pin says
abbrev pub pinned_to : Text × TextMap → Text
pinned_to pinned = pinned.0 ++ (codes " is pinned to " ++ (key_text pinned.1 ++ codes ", which no version has"))

-- why demands of these inputs and jobs exclude each other: a pin that no version meets; or the demands
abbrev pub none_words : PipelineData → HistoryData → List InputData → List Text → ClashValue → Text
none_words p h is jobs c =
    option_map_or (λ pinned. pinned_to pinned) (pinned_out p h is c.demands) (clash_words any is jobs c)

-- why nothing satisfies: such demands, or that the budget didn't suffice to find them
abbrev pub why_of : PipelineData → HistoryData → JobData → Explanation → Option Text
why_of p h j (explanation.Clash c) = let is = inputs j.plan in Some (none_words p h is (named_jobs [] is) c)
why_of p h j (explanation.Fits c) = None
why_of p h j (explanation.OverBudget n) = Some (codes "over budget " ++ decimal n)

-- what is said of a job by what was chosen: what each input takes; why there is none; or that the search went over the budget
abbrev pub IsExplainedBy : PipelineData → HistoryData → ℕ → JobData → ProblemValue → Chosen → ExplainedData → Type 0
IsExplainedBy p h budget j q (chosen.Best c) e =
    let s = subject_of p h budget j q c in AreEach (IsTaken s) 0 s.inputs e.inputs × (e ≡ best_of s j e.inputs)
IsExplainedBy p h budget j q chosen.Nothing e =
    (x : Explanation) × IsExplanation (order_of q) q budget x × (e ≡ none_of j NoneSatisfies (why_of p h j x))
IsExplainedBy p h budget j q (chosen.OverBudget n) e = e ≡ none_of j (OverBudget n) None

-- THE NEXT BUILD OF A JOB, explained by what may be chosen for its problem
abbrev pub IsExplained : PipelineData → HistoryData → ℕ → JobData → ExplainedData → Type 0
IsExplained p h budget j e =
    (q : ProblemValue) × (c : Chosen) × IsProblemOf p h j.name q × IsChosen (order_of q) q budget c
    × IsExplainedBy p h budget j q c e
