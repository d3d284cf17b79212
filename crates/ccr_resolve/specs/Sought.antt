-- What the search without a proof gives. No public contract names these.
use Rattle.std.specs.Prelude.{◌≡◌, ◌≢◌, ℕ, ◌+◌, ◌-◌, ◌<◌, ◌≤◌, List, length, Bool, true, false, Option, Some, None, slice_index, slice_index_or, slice_get, IsTrue, All, Contains, if◌then◌else◌}
use Rattle.ccr_choice.specs.Problem.{ProblemValue, BuildValue, ChoiceValue, input_at, builds_at}
use Rattle.ccr_choice.specs.Satisfies.{Satisfies}
use Rattle.ccr_choice.specs.Preference.{Preference, order_of, IsBetter}
use Rattle.ccr_choice.specs.Assignment.{Assignment, Agrees, with_build}
use Rattle.ccr_choice.specs.Possible.{IsPossible}
use Rattle.ccr_choice.specs.Table.{assigned}
use Rattle.ccr_index.specs.Rows.{no_build}
use Rattle.ccr_resolve.specs.declared.spans.Span.{Span}
use Rattle.ccr_resolve.specs.Kinds.{kinds_from}
use Rattle.ccr_resolve.specs.Search.{places_of, FoundSatisfies, free_kinds, IsNoWorse}

-- Each choice that satisfies and agrees with these builds is no better than what was found; there is none where nothing was.
abbrev pub IsRuledOut : Preference → ProblemValue → Option (List ℕ) → Assignment → Type 0
IsRuledOut prefers p None a = (places builds : List ℕ) → Satisfies p places builds → ¬ Agrees a builds
IsRuledOut prefers p (Some best) a =
    (places builds : List ℕ) → Satisfies p places builds → Agrees a builds → ¬ IsBetter prefers places best

-- Whatever agrees with the table is ruled out by what was found in the end, and no more boxes were looked at than the table
-- may need.
pub record IsSought (prefers : Preference) (p : ProblemValue) (table : List ℕ) (before after : Option ChoiceValue)
    (limit left : ℕ) : Type 0 where
  pub ruled_out : IsRuledOut prefers p (places_of after) (assigned p table)
  pub kept : IsNoWorse prefers (places_of before) (places_of after)
  pub satisfies : FoundSatisfies p after
  pub used : ℕ
  pub spent : limit ≡ left + used
  pub few : used ≤ free_kinds (kinds_from p 0 p.jobs) table

-- The search is over only where the limit is less than what the table may need.
abbrev pub Sought : Preference → ProblemValue → List ℕ → Option ChoiceValue → Option ChoiceValue → ℕ → ℕ → Bool → Type 0
Sought prefers p table before after limit left true = limit + 1 ≤ free_kinds (kinds_from p 0 p.jobs) table
Sought prefers p table before after limit left false = IsSought prefers p table before after limit left

-- ---- the builds of a job that are gone into
-- No number stands twice.
abbrev pub AreDistinct : List ℕ → Type 0
AreDistinct list = (a b : ℕ) → a < b → b < length list → slice_index list a ≢ slice_index list b

-- The list has each position of a build with this pair.
abbrev pub HasAll : List BuildValue → ℕ × ℕ → List ℕ → Type 0
HasAll builds pair list =
    (k : ℕ) → k < length builds → Contains (slice_index_or builds k no_build).pairs pair → Contains list k

-- The list has each position of a build with one of these pairs in this scope.
abbrev pub HasAllOf : List BuildValue → ℕ → List (ℕ × ℕ) → List ℕ → Type 0
HasAllOf builds scope pairs list = (place : ℕ) → Contains pairs (scope, place) → HasAll builds (scope, place) list

-- Each place that input i can have is, with its scope, among these pairs.
abbrev pub AreSources : ProblemValue → Assignment → ℕ → List (ℕ × ℕ) → Type 0
AreSources p a i pairs = (place : ℕ) → IsPossible p a i place → Contains pairs ((input_at p i).scope, place)

-- The place is one of a span.
abbrev pub IsInSpan : Span → ℕ → Type 0
IsInSpan span place = (span.from ≤ place) × (place ≤ span.to)

-- The place of a span at this step, from 0.
abbrev pub span_place : Span → ℕ → ℕ
span_place span step = if span.is_rising then span.from + step else span.to - step

-- Positions of builds of a job, with all that have an allowed place of input i to which the one found isn't preferred, and which
-- isn't preferred to the best one.
pub record AreWanted (p : ProblemValue) (job i found best : ℕ) (list : List ℕ) : Type 0 where
  pub few : length list ≤ length (builds_at p job)
  pub within : All (λ k. k < length (builds_at p job)) list
  pub all : (place : ℕ) → Contains (input_at p i).places place → ¬ IsTrue (order_of p i found place) → ¬ IsTrue (order_of p i place best)
      → HasAll (builds_at p job) ((input_at p i).scope, place) list

-- A free job, and positions of its builds: each build that is left out is ruled out.
pub record IsSplit (p : ProblemValue) (table : List ℕ) (best : Option (List ℕ)) (job : ℕ) (list : List ℕ) : Type 0 where
  pub inside : job < length p.jobs
  pub free : slice_index table job ≡ 0
  pub few : length list ≤ length (builds_at p job)
  pub within : All (λ k. k < length (builds_at p job)) list
  pub left_out : (k : ℕ) (b : BuildValue) → k < length (builds_at p job) → slice_get (builds_at p job) k ≡ Some b
      → ¬ Contains list k → IsRuledOut (order_of p) p best (with_build (assigned p table) job b)

-- The same, and no build stands twice.
pub record IsSplitOnce (p : ProblemValue) (table : List ℕ) (best : Option (List ℕ)) (job : ℕ) (list : List ℕ) : Type 0 where
  pub split : IsSplit p table best job list
  pub distinct : AreDistinct list
