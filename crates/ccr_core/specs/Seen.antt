-- Versions of resources: which were seen, where they stand, and what a report of them changes.
use Rattle.std.specs.Prelude.{◌≡◌, ℕ, ◌-◌, ◌==◌, if◌then◌else◌, Bool, true, List, [], ◌∷◌, map, slice_index_or, Option, Some, None, IsSomeAnd}
use Rattle.std.specs.List.{AllByRecursion, list_any}
use Rattle.std.specs.Option.{option_map_or}
use Rattle.std.specs.Str.{bytes_eq}
use Rattle.ccr_history.specs.Text.{Text}
use Rattle.ccr_history.specs.TextMap.{TextMap}
use Rattle.ccr_history.specs.Builds.{UsedData}
use Rattle.ccr_history.specs.Tables.{TableData, versions_of, place_in, new_count, is_table_full}
use Rattle.ccr_history.specs.History.{HistoryData}
use Rattle.ccr_history.specs.Changes.{EditData, versions}
use Rattle.ccr_pipeline.specs.Pipelines.{PipelineData}
use Rattle.ccr_steps.specs.Asks.{AskData, push, AnswerData, pushed, Chosen, version_of}
use Rattle.ccr_steps.specs.Gains.{MovedData}
use Rattle.ccr_problem.specs.ProblemOf.{resource_of, scope_of, history_number}
use Rattle.ccr_core.specs.State.{State, resources_of}

-- the versions seen of a resource, in its present scope
abbrev pub versions_seen : PipelineData → HistoryData → Text → List TextMap
versions_seen p h resource = option_map_or (λ r. versions_of (scope_of r) h.tables) (resource_of resource p.resources) []

-- the version at a place of a resource; places begin at 1
abbrev pub version_at : PipelineData → HistoryData → Text → ℕ → TextMap
version_at p h resource place = slice_index_or (versions_seen p h resource) (place - 1) []

-- the version at a place of the scope of this number; both begin at 1
abbrev pub version_in : List TableData → ℕ → ℕ → TextMap
version_in [] scope place = []
version_in (t ∷ ts) scope place =
    if scope == 1 then slice_index_or t.versions (place - 1) [] else version_in ts (scope - 1) place

-- a place was used for the input of this name
abbrev pub is_used_for : List UsedData → Text → Bool
is_used_for used name = list_any (λ u. bytes_eq name u.input) used

-- the inputs of a build are the versions at the places that it used, one for each
abbrev pub AreThoseUsed : List TableData → List UsedData → Chosen → Type 0
AreThoseUsed tables used inputs =
    AllByRecursion (λ i. is_used_for used i.0 ≡ true) inputs
    × AllByRecursion (λ u. version_of inputs u.input ≡ version_in tables u.scope u.place) used

-- where a moved version stands: its scope's number, and its place there
abbrev pub pair_of : PipelineData → HistoryData → MovedData → ℕ × ℕ
pair_of p h m = (history_number p h m.resource, place_in m.version (versions_seen p h m.resource))

-- where moved versions stand
abbrev pub pairs_of : PipelineData → HistoryData → List MovedData → List (ℕ × ℕ)
pairs_of p h moved = map (pair_of p h) moved

-- ---- reports
-- what a report of a resource's versions changes: the table of its scope
abbrev pub report : PipelineData → Text → List TextMap → List EditData
report p resource vs = option_map_or (λ r. versions (scope_of r) vs ∷ []) (resource_of resource p.resources) []

-- how many versions of a report are new
abbrev pub news_of : PipelineData → HistoryData → Text → List TextMap → ℕ
news_of p h resource vs = option_map_or (λ r. new_count (scope_of r) vs h.tables) (resource_of resource p.resources) 0

-- the report can't be taken: its table, or the number of scopes, would be too large
abbrev pub Overfills : State → Text → List TextMap → Type 0
Overfills s resource vs =
    IsSomeAnd (resource_of resource (resources_of s)) (λ r. is_table_full (scope_of r) vs s.history.tables ≡ true)

-- the version that an answer brings, with its resource: only an answer to a push does
abbrev pub pushed_by : AskData → AnswerData → Option (Text × TextMap)
pushed_by (push artifact resource params) (pushed v) = Some (resource, v)
pushed_by a x = None

-- what an answer to an ask changes: a pushed version is reported
abbrev pub report_by : PipelineData → AskData → AnswerData → List EditData
report_by p a x = option_map_or (λ m. report p m.0 (m.1 ∷ [])) (pushed_by a x) []
