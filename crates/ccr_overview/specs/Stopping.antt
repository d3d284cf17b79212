-- Where the newest version stopped that an input doesn't take, as `explain` says it.
use Rattle.std.specs.Prelude.{ℕ, List, [], ◌∷◌, find, Bool, true, false, not, Option, Some, None, option_map, option_and_then, if◌then◌else◌}
use Rattle.std.specs.Option.{option_map_or}
use Rattle.std.specs.Str.{bytes_eq}
use Rattle.ccr_history.specs.Text.{Text}
use Rattle.ccr_history.specs.Builds.{is_running}
use Rattle.ccr_problem.specs.ProblemOf.{history_number}
use Rattle.ccr_lines.specs.ExplainedData.{RefusalData, TakenData}
use Rattle.ccr_lines.specs.Stops.{StopData, is_unpassed, stop_of, stop_words}
use Rattle.ccr_overview.specs.Scenes.{SceneData}

-- a place, in the scope of what an input takes
abbrev pub pair_of : SceneData → TakenData → ℕ → ℕ × ℕ
pair_of s t place = (history_number s.pipeline s.history t.resource, place)

-- where a place stopped: at the first job that the input names and that hasn't passed it, or before
abbrev pub stop_before : SceneData → TakenData → ℕ → Option StopData
stop_before s t place =
    option_map (λ q. stop_of s.pipeline s.history (pair_of s t place) q.job)
    (find (λ q. is_unpassed s.history (pair_of s t place) q.job) t.passed)

-- the stop, if these are its words
abbrev pub if_said : Text → StopData → Option StopData
if_said words stop = if bytes_eq (stop_words stop) words then Some stop else None

-- WHERE A PLACE STOPPED that an input doesn't take, if this is what `explain` says of it
abbrev pub stop_said : SceneData → TakenData → RefusalData → Option StopData
stop_said s t r = option_and_then (if_said r.words) (stop_before s t r.place)

-- a build has it, and has ended
abbrev pub has_ended : StopData → Bool
has_ended stop = option_map_or (λ b. not (is_running b.1)) stop.build false

-- the job, if a build of it has it and has ended
abbrev pub job_if_ended : StopData → Option Text
job_if_ended stop = if has_ended stop then Some stop.job else None

-- the job at which the newest of these places stopped
abbrev pub stopper_of : SceneData → TakenData → List RefusalData → Option Text
stopper_of s t [] = None
stopper_of s t (r ∷ rs) = option_and_then job_if_ended (stop_said s t r)

-- THE JOB at which the newest version stopped that an input doesn't take, where a build of it has ended
abbrev pub stopper : SceneData → TakenData → Option Text
stopper s t = stopper_of s t t.newer
