-- Whose turn it is.
use Rattle.std.specs.Prelude.{◌≡◌, ◌<◌, ◌≤◌, ◌+◌, ℕ, nat_lt, List, [], ◌∷◌, ◌++◌, find, slice_get, Option, if◌then◌else◌}
use Rattle.std.specs.List.{AllByRecursion}
use Rattle.std.specs.Option.{option_or}
use Rattle.ccr_history.specs.Text.{Text}
use Rattle.ccr_history.specs.Builds.{BuildData, is_build_of}
use Rattle.ccr_history.specs.History.{HistoryData}
use Rattle.ccr_core.specs.State.{RunningData}

-- the rank of a job's build of this number in order of making, from 1; one past the last where there is none
abbrev pub rank_of : Text → ℕ → List BuildData → ℕ
rank_of job number [] = 1
rank_of job number (b ∷ bs) = if is_build_of job number b then 1 else 1 + rank_of job number bs

-- the rank of a build that runs
abbrev pub rank_in : HistoryData → RunningData → ℕ
rank_in h b = rank_of b.job b.number h.builds

-- of builds in order of making: the first made after the one of this rank, or else the first of all
abbrev pub next_after : (RunningData → ℕ) → ℕ → List RunningData → Option RunningData
next_after rank last builds = option_or (find (λ b. nat_lt last (rank b)) builds) (slice_get builds 0)

-- TURNS GO ROUND: of the builds that run, those made after the one served last come first, and then the others
abbrev pub TurnsGoRound : Type 0
TurnsGoRound =
    (rank : RunningData → ℕ) (last : ℕ) (before after : List RunningData)
    → AllByRecursion (λ b. rank b ≤ last) before → AllByRecursion (λ b. last < rank b) after
    → next_after rank last (before ++ after) ≡ slice_get (after ++ before) 0
