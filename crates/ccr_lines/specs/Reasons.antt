-- Why an input of a job's next build doesn't take a place that is newer than the one it takes.
use Rattle.std.specs.Prelude.{◌≡◌, ℕ, ◌≤◌, List, ◌++◌, length, map, find, slice_index, Bool, true, false, not, ◌==◌, Option, Some, None, option_and_then, codes, decimal, string_bytes, if◌then◌else◌}
use Rattle.std.specs.List.{list_any}
use Rattle.std.specs.Option.{option_map_or}
use Rattle.ccr_history.specs.Text.{Text}
use Rattle.ccr_history.specs.TextMap.{TextMap, meets}
use Rattle.ccr_history.specs.Tables.{at_place, versions_at}
use Rattle.ccr_history.specs.Changes.{pin_of}
use Rattle.ccr_history.specs.History.{HistoryData}
use Rattle.ccr_pipeline.specs.Inputs.{InputData, input_data}
use Rattle.ccr_pipeline.specs.Pipelines.{PipelineData, pipeline_data}
use Rattle.ccr_choice.specs.Problem.{ProblemValue, ChoiceValue, input_at, builds_at}
use Rattle.ccr_choice.specs.Preference.{order_of}
use Rattle.ccr_choice.specs.Optimal.{IsOptimal}
use Rattle.ccr_problem.specs.ProblemOf.{resource_of, history_number, is_disabled_at}
use Rattle.ccr_proof.specs.declared.proof.TheConstants.{MOST_NODES}
use Rattle.ccr_explain.specs.WhyNot.{IsWhyNot}
use Rattle.ccr_explain.specs.declared.explanation.Explanation.TheVariants as explanation
use Rattle.ccr_lines.specs.declared.reason.Reason.{Reason}
use Rattle.ccr_lines.specs.declared.reason.Reason.TheVariants.{Disabled, Pinned, Stopped, Later, Clash, OverBudget}
use Rattle.ccr_lines.specs.declared.reason.PinnedBy.{PinnedBy}
use Rattle.ccr_lines.specs.declared.reason.PinnedBy.TheVariants.{Command, Resource, Get}
use Rattle.ccr_lines.specs.declared.subject.Subject.{Subject}
use Rattle.ccr_lines.specs.ClashWords.{job_name, taking_words}
use Rattle.ccr_lines.specs.Releases.{is_pair}
use Rattle.ccr_lines.specs.Stops.{stop_data, stop_of, stop_words}

-- ---- what is explained
-- the next build of a job in a pipeline with a history: its inputs, the jobs that they name, its problem, the choice for
-- it, and how many nodes a search may take
pub record SubjectData : Type 0 where
  pub pipeline : PipelineData
  pub history : HistoryData
  pub inputs : List InputData
  pub jobs : List Text
  pub problem : ProblemValue
  pub choice : ChoiceValue
  pub budget : ℕ

-- what a value of the program's type stands for
abbrev pub subject_data : Subject → SubjectData
subject_data s = record {
  pipeline = pipeline_data s.pipeline.now;
  history = s.history.now;
  inputs = map input_data s.inputs.now;
  jobs = map string_bytes s.jobs.now;
  problem = s.index.now.problem;
  choice = s.choice.now;
  budget = s.budget;
}

-- it has an input for each of the problem's, the choice is the best, and the budget is one that a search takes
pub record IsSubject (s : Subject) : Type 0 where
  pub input_each : length s.inputs.now ≡ length s.index.now.problem.inputs
  pub best : IsOptimal (order_of s.index.now.problem) s.index.now.problem s.choice.now.places s.choice.now.builds
  pub least : 1 ≤ s.budget
  pub most : s.budget ≤ MOST_NODES

-- the number that the history has for an input's scope
abbrev pub scope_at : SubjectData → InputData → ℕ
scope_at s x = history_number s.pipeline s.history x.resource

-- the place that input i takes
abbrev pub taken : SubjectData → ℕ → ℕ
taken s i = slice_index s.choice.places i

-- ---- the reason
-- the place is one of those that are allowed to input i
abbrev pub is_allowed : ProblemValue → ℕ → ℕ → Bool
is_allowed q i place = list_any (λ x. x == place) (input_at q i).places

-- a successful build of a job moved the place, in the scope of input i
abbrev pub has_moved : ProblemValue → ℕ → ℕ → ℕ → Bool
has_moved q i place j = list_any (λ b. list_any (is_pair ((input_at q i).scope, place)) b.pairs) (builds_at q j)

-- of the jobs that input i names, the first of which no successful build moved the place
abbrev pub first_unmoved : ProblemValue → ℕ → ℕ → Option ℕ
first_unmoved q i place = find (λ j. not (has_moved q i place j)) (input_at q i).jobs

-- the place is preferred to the one that input i takes
abbrev pub is_preferred : SubjectData → ℕ → ℕ → Bool
is_preferred s i place = order_of s.problem i place (taken s i)

-- nothing concerns the place alone: it is allowed, has passed each job that input i names, and is preferred
pub record IsOpen (s : SubjectData) (i place : ℕ) : Type 0 where
  pub allowed : is_allowed s.problem i place ≡ true
  pub moved : first_unmoved s.problem i place ≡ None
  pub preferred : is_preferred s i place ≡ true

-- the version at a place of an input's scope meets a pin
abbrev pub meets_at : SubjectData → InputData → ℕ → TextMap → Bool
meets_at s x place pin =
    option_map_or (λ v. meets v pin) (at_place place (versions_at (scope_at s x) s.history.tables)) false

-- a pin leaves out the version at a place of an input's scope; where there is no pin, none does
abbrev pub is_left_out : SubjectData → InputData → ℕ → Option TextMap → Bool
is_left_out s x place found = option_map_or (λ pin. not (meets_at s x place pin)) found false

-- the pin that an input's resource has in the pipeline
abbrev pub resource_pin : SubjectData → InputData → Option TextMap
resource_pin s x = option_and_then (λ r. r.version) (resource_of x.resource s.pipeline.resources)

-- which pin leaves out a place that isn't allowed: the one by command, if it does; else the resource's, if it does; else the get's
abbrev pub pinned_by : SubjectData → InputData → ℕ → PinnedBy
pinned_by s x place =
    if is_left_out s x place (pin_of x.resource s.history.pins) then Command
    else (if is_left_out s x place (resource_pin s x) then Resource else Get)

-- WHY INPUT i, WHICH IS x, DOESN'T TAKE A PLACE. It is disabled; or a pin leaves it out; or it stopped on the way to a job that the
-- input names, the first of which no successful build moved it; or other places come first, since the input takes every version;
-- or else it can't be taken without an input before it getting worse, as demands show that exclude each other; or the budget
-- didn't suffice to find them
abbrev pub IsReason : SubjectData → ℕ → InputData → ℕ → Reason → Type 0
IsReason s i x place Disabled = is_disabled_at s.history (scope_at s x) place ≡ true
IsReason s i x place (Pinned pin) =
    (is_disabled_at s.history (scope_at s x) place ≡ false) × (is_allowed s.problem i place ≡ false)
    × (pin ≡ pinned_by s x place)
IsReason s i x place (Stopped stop) =
    (is_disabled_at s.history (scope_at s x) place ≡ false) × (is_allowed s.problem i place ≡ true)
    × ((j : ℕ) × (first_unmoved s.problem i place ≡ Some j)
    × (stop_data stop ≡ stop_of s.pipeline s.history (scope_at s x, place) (job_name s.jobs j)))
IsReason s i x place Later =
    (is_disabled_at s.history (scope_at s x) place ≡ false) × (is_allowed s.problem i place ≡ true)
    × (first_unmoved s.problem i place ≡ None) × (is_preferred s i place ≡ false)
IsReason s i x place (Clash c) =
    (is_disabled_at s.history (scope_at s x) place ≡ false) × IsOpen s i place
    × IsWhyNot (order_of s.problem) s.problem s.choice.places i place s.budget (explanation.Clash c)
IsReason s i x place (OverBudget n) =
    (is_disabled_at s.history (scope_at s x) place ≡ false) × IsOpen s i place
    × IsWhyNot (order_of s.problem) s.problem s.choice.places i place s.budget (explanation.OverBudget n)

-- ---- in words
-- which pin it is
abbrev pub pinned_words : PinnedBy → Text
pinned_words Command = codes "pinned by pin-resource"
pinned_words Resource = codes "pinned by the resource"
pinned_words Get = codes "pinned by the get"

-- the reason why input i doesn't take a place, in words
abbrev pub reason_words : SubjectData → ℕ → ℕ → Reason → Text
reason_words s i place Disabled = codes "disabled"
reason_words s i place (Pinned pin) = pinned_words pin
reason_words s i place (Stopped stop) = stop_words (stop_data stop)
reason_words s i place Later = codes "others come first"
reason_words s i place (Clash c) = taking_words i place s.choice.places s.inputs s.jobs c
reason_words s i place (OverBudget n) = codes "over budget " ++ decimal n
