-- A pin because of which an input has no version at all.
use Rattle.std.specs.Prelude.{ℕ, List, length, slice_get, ◌==◌, Option, Some, None, option_and_then, option_map, if◌then◌else◌}
use Rattle.std.specs.List.{list_any}
use Rattle.std.specs.Option.{option_or}
use Rattle.ccr_history.specs.Text.{Text}
use Rattle.ccr_history.specs.TextMap.{TextMap, meets}
use Rattle.ccr_history.specs.Tables.{versions_of}
use Rattle.ccr_history.specs.History.{HistoryData}
use Rattle.ccr_pipeline.specs.Inputs.{InputData}
use Rattle.ccr_pipeline.specs.JobData.{ResourceData, scope_of}
use Rattle.ccr_pipeline.specs.Pipelines.{PipelineData}
use Rattle.ccr_problem.specs.Allowed.{PinsData}
use Rattle.ccr_problem.specs.ProblemOf.{resource_of, pins_of}
use Rattle.ccr_explain.specs.declared.demand.Demand.{Demand}
use Rattle.ccr_explain.specs.declared.demand.Demand.TheVariants.{Allowed, Passed}

-- a pin, if there is one, that none of these versions meets
abbrev pub unmet_by : List TextMap → Option TextMap → Option TextMap
unmet_by versions None = None
unmet_by versions (Some pin) = if list_any (λ v. meets v pin) versions then None else Some pin

-- the first of an input's pins that none of these versions meets: the one by command, the resource's, or the get's
abbrev pub unmet_of : List TextMap → PinsData → Option TextMap
unmet_of versions pins =
    option_or (unmet_by versions pins.by_command)
    (option_or (unmet_by versions pins.by_resource) (unmet_by versions pins.by_get))

-- the same of an input of this resource, by the versions that its scope has
abbrev pub unmet_at : HistoryData → InputData → ResourceData → Option TextMap
unmet_at h x r = unmet_of (versions_of (scope_of r) h.tables) (pins_of r h x)

-- A PIN OF AN INPUT that no version meets
abbrev pub unmet_pin : PipelineData → HistoryData → InputData → Option TextMap
unmet_pin p h x = option_and_then (unmet_at h x) (resource_of x.resource p.resources)

-- the input whose allowed places a demand speaks of
abbrev pub input_in : Demand → Option ℕ
input_in (Allowed i) = Some i
input_in (Passed i j) = None

-- the input that has no allowed place, where demands say so
abbrev pub lacking : List Demand → Option ℕ
lacking ds = if length ds == 1 then option_and_then input_in (slice_get ds 0) else None

-- the name of that input, of these, and a pin of it that no version meets
abbrev pub pinned_out : PipelineData → HistoryData → List InputData → List Demand → Option (Text × TextMap)
pinned_out p h is ds =
    option_and_then (λ x. option_map (λ pin. (x.name, pin)) (unmet_pin p h x))
    (option_and_then (λ i. slice_get is i) (lacking ds))
