-- When a choice satisfies a problem, and what is said first of one that doesn't.
use Rattle.std.specs.Prelude.{◌≡◌, ℕ, ◌<◌, List, length, slice_index, Contains, Any, EachIndex}
use Rattle.ccr_choice.specs.Problem.{ProblemValue, BuildValue, input_at, builds_at}
use Rattle.ccr_choice.specs.declared.verdict.Verdict.{Verdict}
use Rattle.ccr_choice.specs.declared.verdict.Verdict.TheVariants as verdict

-- There is a place for each input, and a build for each named job.
pub record HasLengths (p : ProblemValue) (places builds : List ℕ) : Type 0 where
  pub place_each : length places ≡ length p.inputs
  pub build_each : length builds ≡ length p.jobs

-- The place of input i is one of its allowed places.
unfoldable pub IsAllowed : ProblemValue → List ℕ → ℕ → Type 0
IsAllowed p places i = Contains (input_at p i).places (slice_index places i)

-- The build of job j is the number of a successful build of job j.
unfoldable pub IsSuccessful : ProblemValue → List ℕ → ℕ → Type 0
IsSuccessful p builds j = Any (λ b. b.number ≡ slice_index builds j) (builds_at p j)

-- Among these builds, the one with this number moved the pair of scope and place.
abbrev pub Moved : List BuildValue → ℕ → ℕ × ℕ → Type 0
Moved builds number pair = Any (λ b. (b.number ≡ number) × Contains b.pairs pair) builds

-- The place of input i, in the scope of input i, is among the pairs of the build of job j.
unfoldable pub HasPassed : ProblemValue → List ℕ → List ℕ → ℕ → ℕ → Type 0
HasPassed p places builds i j =
    Moved (builds_at p j) (slice_index builds j) ((input_at p i).scope, slice_index places i)

-- The place of input i has passed each job that input i names.
unfoldable pub HasPassedAll : ProblemValue → List ℕ → List ℕ → ℕ → Type 0
HasPassedAll p places builds i =
    EachIndex (input_at p i).jobs (λ k. HasPassed p places builds i (slice_index (input_at p i).jobs k))

-- A choice satisfies a problem: the lengths are right, each place is allowed, each build is a successful build of its
-- job, and each input's place has passed each job that the input names, in the one build that the choice has for that
-- job.
pub record Satisfies (p : ProblemValue) (places builds : List ℕ) : Type 0 where
  pub lengths : HasLengths p places builds
  pub allowed : (i : ℕ) → i < length p.inputs → IsAllowed p places i
  pub successful : (j : ℕ) → j < length p.jobs → IsSuccessful p builds j
  pub passed : (i : ℕ) → i < length p.inputs → HasPassedAll p places builds i

-- Of the numbers below n, i is the least at which P fails.
pub record IsFirstFailure (n : ℕ) (P : ℕ → Type 0) (i : ℕ) : Type 0 where
  pub within : i < n
  pub fails : ¬ P i
  pub before : (k : ℕ) → k < i → P k

-- In the order of the list, j is the first at which P fails.
abbrev pub IsFirstFailing : List ℕ → (ℕ → Type 0) → ℕ → Type 0
IsFirstFailing js P j = (k : ℕ) × (slice_index js k ≡ j) × IsFirstFailure (length js) (λ m. P (slice_index js m)) k

-- The first verdict is the first in this order that holds: a wrong length, the least input whose place isn't allowed,
-- the least job whose build isn't successful, the least input that hasn't passed with the first such job in its list;
-- else it satisfies.
abbrev pub IsFirstVerdict : ProblemValue → List ℕ → List ℕ → Verdict → Type 0
IsFirstVerdict p places builds verdict.Satisfies = Satisfies p places builds
IsFirstVerdict p places builds verdict.WrongLength = ¬ HasLengths p places builds
IsFirstVerdict p places builds (verdict.NotAllowed i) =
    HasLengths p places builds × IsFirstFailure (length p.inputs) (IsAllowed p places) i
IsFirstVerdict p places builds (verdict.NotSuccessful j) =
    HasLengths p places builds × ((i : ℕ) → i < length p.inputs → IsAllowed p places i)
    × IsFirstFailure (length p.jobs) (IsSuccessful p builds) j
IsFirstVerdict p places builds (verdict.NotPassed i j) =
    HasLengths p places builds × ((i : ℕ) → i < length p.inputs → IsAllowed p places i)
    × ((j : ℕ) → j < length p.jobs → IsSuccessful p builds j)
    × IsFirstFailure (length p.inputs) (HasPassedAll p places builds) i
    × IsFirstFailing (input_at p i).jobs (HasPassed p places builds i) j
