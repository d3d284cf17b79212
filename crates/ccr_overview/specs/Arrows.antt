-- The arrows of a page: the edges of the graph.
use Rattle.std.specs.Prelude.{ℕ, ◌+◌, List, [], ◌∷◌, ◌++◌, length, map, flat_map, slice_get, find, Bool, true, false, not, Option, Some, None, option_map, option_and_then, if◌then◌else◌}
use Rattle.std.specs.Option.{option_map_or}
use Rattle.std.specs.Str.{bytes_eq}
use Rattle.ccr_history.specs.Text.{Text}
use Rattle.ccr_history.specs.Builds.{is_running}
use Rattle.ccr_pipeline.specs.Inputs.{InputData, inputs}
use Rattle.ccr_pipeline.specs.JobData.{ResourceData, JobData}
use Rattle.ccr_pipeline.specs.Names.{has_name}
use Rattle.ccr_pipeline.specs.Tree.{Tree, gathered}
use Rattle.ccr_lines.specs.ExplainedData.{TakenData}
use Rattle.ccr_lines.specs.Graphs.{own_put}
use Rattle.ccr_page.specs.declared.data.Arrow.{Arrow}
use Rattle.ccr_overview.specs.Each.{each_from}
use Rattle.ccr_overview.specs.Scenes.{ToldData, SceneData}
use Rattle.ccr_overview.specs.Stopping.{stopper}

-- ---- what a job takes
-- from a resource at position n to port i of the job at position k, where the resources are so many, if the input is one of its
-- versions
abbrev pub taken_arrow : ℕ → ℕ → ℕ → InputData → ℕ → ResourceData → List Arrow
taken_arrow resources k i x n r =
    if bytes_eq x.resource r.name
    then record { source = n; target = resources + k; port = i; trigger = x.trigger; is_held = false } ∷ []
    else []

-- the job at which the newest version stopped that the input of a port doesn't take, if it stopped at one
abbrev pub stopper_at : SceneData → ToldData → ℕ → Option Text
stopper_at s t i = option_and_then (stopper s) (slice_get t.explained.inputs i)

-- there is a name, and it is this one
abbrev pub is_named : Option Text → Text → Bool
is_named found name = option_map_or (bytes_eq name) found false

-- from the job at position n, if it has this name, which the input's version has to have passed, to port i of the job at
-- position k, where the resources are so many; whether the version stopped there
abbrev pub passed_arrow : ℕ → ℕ → ℕ → InputData → Text → Bool → ℕ → JobData → List Arrow
passed_arrow resources k i x name is_held n j =
    if bytes_eq name j.name
    then record { source = resources + n; target = resources + k; port = i; trigger = x.trigger; is_held = is_held } ∷ []
    else []

-- from the jobs of these names, of which the version stopped at this one
abbrev pub passed_arrows : ℕ → ℕ → ℕ → InputData → Option Text → List JobData → List Text → List Arrow
passed_arrows resources k i x found jobs names =
    flat_map (λ passed. each_from (passed_arrow resources k i x passed (is_named found passed)) 0 jobs) names

-- to port i of the job at position k: from the jobs that the input's version has to have passed, or else from the resource
abbrev pub port_arrows : SceneData → ℕ → ToldData → ℕ → InputData → List Text → List Arrow
port_arrows s k t i x [] = each_from (taken_arrow (length s.pipeline.resources) k i x) 0 s.pipeline.resources
port_arrows s k t i x (name ∷ names) =
    passed_arrows (length s.pipeline.resources) k i x (stopper_at s t i) s.pipeline.jobs (name ∷ names)

-- to the job at position k, for each of its inputs
abbrev pub arrows_to : SceneData → ℕ → ToldData → List Arrow
arrows_to s k t = each_from (λ i x. port_arrows s k t i x x.passed) 0 (inputs t.job.plan)

-- ---- what a job puts
-- from the job at position k, where the resources are so many, to the one at position n, if a put of the plan means it
abbrev pub put_arrow : ℕ → ℕ → Tree → ℕ → ResourceData → List Arrow
put_arrow resources k plan n r =
    if has_name (gathered own_put plan) r.name
    then record { source = resources + k; target = n; port = 0; trigger = true; is_held = false } ∷ []
    else []

-- from the job at position k
abbrev pub arrows_from : List ResourceData → ℕ → ToldData → List Arrow
arrows_from rs k t = each_from (put_arrow (length rs) k t.job.plan) 0 rs

-- ---- all
-- THE ARROWS: those of the graph, in its order; one is held where the newest version that its input doesn't take stopped at its
-- source
abbrev pub arrows : SceneData → List Arrow
arrows s = each_from (arrows_to s) 0 s.told ++ each_from (arrows_from s.pipeline.resources) 0 s.told
