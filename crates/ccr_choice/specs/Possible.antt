-- Which places an input can have under a partial assignment, and which of them is the best.
use Rattle.std.specs.Prelude.{◌≡◌, ℕ, ◌<◌, List, length, Bool, Option, MatchOption, IsSomeAnd, unwrap_or, IsTrue, slice_index, Contains, Any, EachIndex}
use Rattle.ccr_choice.specs.Problem.{ProblemValue, input_at, builds_at}
use Rattle.ccr_choice.specs.Preference.{Preference, IsBetter}
use Rattle.ccr_choice.specs.Assignment.{Assignment}

-- A pair of scope and place can have passed job j: it is among the pairs of the job's fixed build, or, where none is
-- fixed, among those of some successful build of the job.
abbrev pub CanHavePassed : ProblemValue → Assignment → ℕ × ℕ → ℕ → Type 0
CanHavePassed p a pair j =
    MatchOption (a j) (Any (λ b. Contains b.pairs pair) (builds_at p j)) (λ b. Contains b.pairs pair)

-- A place is possible for input i: it is allowed, and in the input's scope it can have passed each job that the input
-- names.
pub record IsPossible (p : ProblemValue) (a : Assignment) (i place : ℕ) : Type 0 where
  pub allowed : Contains (input_at p i).places place
  pub passed : EachIndex (input_at p i).jobs
      (λ k. CanHavePassed p a ((input_at p i).scope, place) (slice_index (input_at p i).jobs k))

-- The best possible place of input i: a possible one to which no possible one is preferred, or None where none is
-- possible.
abbrev pub IsBestPossible : Preference → ProblemValue → Assignment → ℕ → Option ℕ → Type 0
IsBestPossible prefers p a i best = MatchOption best
    ((place : ℕ) → ¬ IsPossible p a i place)
    (λ x. IsPossible p a i x × ((place : ℕ) → IsPossible p a i place → ¬ IsTrue (prefers i place x)))

-- There is a best so far, and this place isn't preferred to it.
abbrev pub Reaches : (ℕ → ℕ → Bool) → Option ℕ → ℕ → Type 0
Reaches prefers best place = IsSomeAnd best (λ x. ¬ IsTrue (prefers place x))

-- The best place of input i: the best possible one, or 0 where none is possible.
abbrev pub IsBestPlace : Preference → ProblemValue → Assignment → ℕ → ℕ → Type 0
IsBestPlace prefers p a i place = (best : Option ℕ) × IsBestPossible prefers p a i best × (place ≡ unwrap_or best 0)

-- The best places: for each input its best place.
pub record AreBestPlaces (prefers : Preference) (p : ProblemValue) (a : Assignment) (places : List ℕ) : Type 0 where
  pub place_each : length places ≡ length p.inputs
  pub best : (i : ℕ) → i < length p.inputs → IsBestPlace prefers p a i (slice_index places i)

-- The best places aren't better than these.
abbrev pub AreBoundedBy : Preference → ProblemValue → Assignment → List ℕ → Type 0
AreBoundedBy prefers p a bound = (places : List ℕ) → AreBestPlaces prefers p a places → ¬ IsBetter prefers places bound
