-- The arrows of a page are the edges that `graph` writes.
use Rattle.std.specs.Prelude.{◌≡◌, ℕ, ◌-◌, List, [], ◌∷◌, ◌++◌, length, flat_map, slice_get, nat_lt, if◌then◌else◌, codes, decimal}
use Rattle.std.specs.Option.{option_map_or}
use Rattle.ccr_history.specs.Text.{Text}
use Rattle.ccr_history.specs.History.{HistoryData}
use Rattle.ccr_pipeline.specs.Inputs.{inputs}
use Rattle.ccr_pipeline.specs.JobData.{ResourceData, JobData}
use Rattle.ccr_pipeline.specs.Pipelines.{PipelineData}
use Rattle.ccr_lines.specs.Graphs.{label, numbered, arrow, edges_to, edges_from}
use Rattle.ccr_lines.specs.Lines.{line}
use Rattle.ccr_page.specs.declared.data.Arrow.{Arrow}
use Rattle.ccr_overview.specs.Arrows.{arrows}
use Rattle.ccr_overview.specs.Overviews.{scene_of}
use Rattle.ccr_overview.specs.Scenes.{ToldData, AreTold}

-- the resource of port i of the job at position k; nothing where there is none
abbrev pub port_resource : List JobData → ℕ → ℕ → Text
port_resource js k i = option_map_or (λ j. option_map_or (λ x. x.resource) (slice_get (inputs j.plan) i) []) (slice_get js k) []

-- an arrow as `graph` writes it: from a resource to a job, from a job to a resource, or from a job to a job
abbrev pub arrow_line : List ResourceData → List JobData → Arrow → Text
arrow_line rs js a =
    if nat_lt a.source (length rs)
    then line (codes "    r" ∷ decimal a.source ∷ arrow a.trigger ∷ codes " j" ∷ decimal (a.target - length rs) ∷ [])
    else (if nat_lt a.target (length rs)
    then line (codes "    j" ∷ decimal (a.source - length rs) ∷ codes " --> r" ∷ decimal a.target ∷ [])
    else line (codes "    j" ∷ decimal (a.source - length rs) ∷ arrow a.trigger ∷ codes "|"
    ∷ label (port_resource js (a.target - length rs) a.port) ∷ codes "| j" ∷ decimal (a.target - length rs) ∷ []))

-- THE ARROWS OF A PAGE are the edges of the graph, each once and in its order
abbrev pub AreEdges : Type 0
AreEdges =
    (p : PipelineData) (h : HistoryData) (budget : ℕ) (told : List ToldData) → AreTold p h budget told
    → flat_map (arrow_line p.resources p.jobs) (arrows (scene_of p h told))
    ≡ numbered (edges_to p) 0 p.jobs ++ numbered (edges_from p.resources) 0 p.jobs
