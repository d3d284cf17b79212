-- The builds of a page: which of them a job's bars and rows show, and how each stands.
use Rattle.std.specs.Prelude.{ℕ, List, [], ◌∷◌, ◌++◌, length, map, flat_map, take, reverse, find, slice_get, option_to_list, Bool, true, false, ◌==◌, ◌&&◌, Option, Some, None, if◌then◌else◌}
use Rattle.std.specs.List.{list_any}
use Rattle.std.specs.Option.{option_map_or}
use Rattle.std.specs.Str.{bytes_eq}
use Rattle.ccr_history.specs.Text.{Text}
use Rattle.ccr_history.specs.Builds.{BuildData, positions_of, is_succeeded}
use Rattle.ccr_history.specs.History.{HistoryData}
use Rattle.ccr_history.specs.declared.build.Status.TheVariants as history
use Rattle.ccr_history.specs.declared.build.Status as history_status
use Rattle.ccr_page.specs.declared.data.Bar.{Bar}
use Rattle.ccr_page.specs.declared.status.Status.{Status}
use Rattle.ccr_page.specs.declared.status.Status.TheVariants.{Failed, Errored, Aborted, Running, Succeeded, Missing}

-- ---- how builds stand
-- how a build stands, as the page has it
abbrev pub status_of : history_status.Status → Status
status_of history.Running = Running
status_of history.Succeeded = Succeeded
status_of history.Failed = Failed
status_of history.Errored = Errored
status_of history.Aborted = Aborted

-- the same of a job's newest build, if it has one
abbrev pub newest_status : Option BuildData → Status
newest_status None = Missing
newest_status (Some b) = status_of b.status

-- its number; 0 where there is none
abbrev pub newest_number : Option BuildData → ℕ
newest_number None = 0
newest_number (Some b) = b.number

-- ---- which builds
-- the positions of a job's builds among all, the newest first
abbrev pub newest_first : Text → HistoryData → List ℕ
newest_first job h = reverse (positions_of job h.builds)

-- the build at a position succeeded
abbrev pub is_good_at : HistoryData → ℕ → Bool
is_good_at h k = option_map_or (λ b. is_succeeded b.status) (slice_get h.builds k) false

-- of these positions the first ones, so many, and the first at which a build succeeded, unless it is one of them
abbrev pub listed_of : HistoryData → ℕ → List ℕ → List ℕ
listed_of h n all =
    if list_any (is_good_at h) (take n all) then take n all else take n all ++ option_to_list (find (is_good_at h) all)

-- THE BUILDS THAT HAVE A ROW, by their positions: the newest of a job, so many, and the newest that succeeded
abbrev pub listed : HistoryData → ℕ → Text → List ℕ
listed h n job = listed_of h n (newest_first job h)

-- the builds at these positions
abbrev pub builds_at : HistoryData → List ℕ → List BuildData
builds_at h ks = flat_map (λ k. option_to_list (slice_get h.builds k)) ks

-- the job's build of this number has a row
abbrev pub has_row : HistoryData → ℕ → Text → ℕ → Bool
has_row h n job number = list_any (λ b. b.number == number) (builds_at h (listed h n job))

-- ---- bars
-- a build, which has a row if one of these has its number
abbrev pub bar_of : List BuildData → BuildData → Bar
bar_of rows b =
    record { number = b.number; status = status_of b.status; has_row = list_any (λ r. r.number == b.number) rows }

-- the last 20 builds of these, which stand newest first, where so many of them have a row
abbrev pub bars_of : HistoryData → ℕ → List ℕ → List Bar
bars_of h n all = map (bar_of (builds_at h (listed_of h n all))) (builds_at h (take 20 all))

-- THE BARS of a job: its last 20 builds, the newest first
abbrev pub bars : HistoryData → ℕ → Text → List Bar
bars h n job = bars_of h n (newest_first job h)
