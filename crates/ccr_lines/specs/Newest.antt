-- The newest build of a job that passes a test.
use Rattle.std.specs.Prelude.{◌≡◌, ℕ, zero, suc, List, [], ◌∷◌, length, map, Bool, true, false, not, ◌&&◌, ◌||◌, ◌==◌, Option, Some, None, option_map, if◌then◌else◌, ⊤}
use Rattle.std.specs.List.{list_any, list_all}
use Rattle.std.specs.Option.{option_map_or, option_or}
use Rattle.ccr_history.specs.Text.{Text}
use Rattle.ccr_history.specs.Builds.{BuildData, build_of, count_of, passed_pairs, is_running, is_succeeded}
use Rattle.ccr_history.specs.History.{HistoryData}
use Rattle.ccr_history.specs.declared.build.Status.{Status}
use Rattle.ccr_pipeline.specs.Inputs.{InputData, input_data}
use Rattle.ccr_pipeline.specs.Pipelines.{PipelineData, pipeline_data}
use Rattle.ccr_lines.specs.BuildCertificates.{place_for, has_input}
use Rattle.ccr_lines.specs.Releases.{is_pair}
use Rattle.ccr_lines.specs.declared.newest.Sought.{Sought}
use Rattle.ccr_lines.specs.declared.newest.Sought.TheVariants.{Met, Passed, Stands, Succeeded, Took}

-- ---- tests
-- the build took this place of this scope for one of its inputs, or moved it
abbrev pub has_met : ℕ × ℕ → BuildData → Bool
has_met pair b = list_any (λ u. is_pair pair (u.scope, u.place)) b.used || list_any (is_pair pair) b.moved

-- this place of this scope passed the build's job with it
abbrev pub passed_with : ℕ × ℕ → BuildData → Bool
passed_with pair b = list_any (is_pair pair) (passed_pairs b)

-- the build took these places for these inputs, in the scopes that their resources have today
abbrev pub took_each : PipelineData → HistoryData → List InputData → List ℕ → BuildData → Bool
took_each p h [] places b = true
took_each p h (i ∷ is) [] b = false
took_each p h (i ∷ is) (n ∷ ns) b =
    option_map_or (λ m. m == n) (place_for p h b.used i) false && took_each p h is ns b

-- and it took none for any other input
abbrev pub took_places : PipelineData → HistoryData → List InputData → List ℕ → BuildData → Bool
took_places p h is places b = took_each p h is places b && list_all (λ u. has_input is u.input) b.used

-- the build runs, if it is to run; it has ended, if it isn't
abbrev pub stands : Bool → BuildData → Bool
stands true b = is_running b.status
stands false b = not (is_running b.status)

-- what a build is looked for by
abbrev pub is_sought : HistoryData → Sought → BuildData → Bool
is_sought h (Met pair) b = has_met pair b
is_sought h (Passed pair) b = passed_with pair b
is_sought h (Stands runs) b = stands runs b
is_sought h Succeeded b = is_succeeded b.status
is_sought h (Took pipeline inputs places) b =
    took_places (pipeline_data pipeline.now) h (map input_data inputs.now) places.now b

-- there is a place for each of the inputs
abbrev pub IsSearch : Sought → Type 0
IsSearch (Met pair) = ⊤
IsSearch (Passed pair) = ⊤
IsSearch (Stands runs) = ⊤
IsSearch Succeeded = ⊤
IsSearch (Took pipeline inputs places) = length places.now ≡ length inputs.now

-- ---- the newest
-- the build, if it passes the test
abbrev pub if_so : (BuildData → Bool) → Option BuildData → Option BuildData
if_so test None = None
if_so test (Some b) = if test b then Some b else None

-- of a job's builds up to this number, the one with the highest number that passes the test
abbrev pub newest_up_to : (BuildData → Bool) → Text → List BuildData → ℕ → Option BuildData
newest_up_to test job builds zero = None
newest_up_to test job builds (suc n) =
    option_or (if_so test (build_of job (suc n) builds)) (newest_up_to test job builds n)

-- THE NEWEST BUILD of a job that passes the test
abbrev pub newest_of : (BuildData → Bool) → Text → HistoryData → Option BuildData
newest_of test job h = newest_up_to test job h.builds (count_of job h.builds)

-- its number, and how it stands
abbrev pub standing_of : Option BuildData → Option (ℕ × Status)
standing_of found = option_map (λ b. (b.number, b.status)) found
