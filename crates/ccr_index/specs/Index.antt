-- What an index stands for, what it keeps, and the problems with a row added.
use Rattle.std.specs.Prelude.{◌≡◌, ◌≢◌, ℕ, ◌<◌, ◌≤◌, List, [], ◌∷◌, length, map, slice_index, slice_set, nat_le, ◌+◌, ◌-◌, ◌⊎◌, if◌then◌else◌, All, Contains, Any, EachIndex}
use Rattle.ccr_choice.specs.Problem.{ProblemValue, BuildValue, IsProblem, input_at, builds_at}
use Rattle.ccr_choice.specs.Preference.{order_of}
use Rattle.ccr_choice.specs.Assignment.{Assignment, nothing_fixed, with_build}
use Rattle.ccr_choice.specs.Possible.{CanHavePassed, IsPossible, IsBestPlace}
use Rattle.ccr_index.specs.Alike.{AreCounted}
use Rattle.ccr_index.specs.Rows.{InputRowsValue, JobRowsValue, with_place, with_kept, numbered}

-- A problem, with how many further places each input, and how many further pairs and builds each job, has room for.
pub record IndexValue : Type 0 where
  pub problem : ProblemValue
  pub spare_places : ℕ
  pub spare_pairs : ℕ

-- ---- what is kept
abbrev pub problem_in : List InputRowsValue → List JobRowsValue → ProblemValue
problem_in inputs jobs = record { inputs = map (λ x. x.input) inputs; jobs = map (λ r. r.builds) jobs }

-- The problem keeps its rules, and of each input the best place where nothing is fixed is kept.
pub record AreTops (p : ProblemValue) (tops : List ℕ) : Type 0 where
  pub rules : IsProblem p
  pub few : length p.inputs ≤ 32
  pub long : length tops ≡ 32
  pub best : (i : ℕ) → i < length p.inputs → IsBestPlace (order_of p) p nothing_fixed i (slice_index tops i)

-- The best places are kept, of each job the scopes of inputs naming it count, and each input and each job has the room that is
-- promised.
pub record IsIndex (inputs : List InputRowsValue) (jobs : List JobRowsValue) (best : List ℕ) (n m : ℕ) : Type 0 where
  pub tops : AreTops (problem_in inputs jobs) best
  pub counted : AreCounted (map (λ x. x.input) inputs) (map (λ r. r.scopes) jobs)
  pub places : All (λ x. n ≤ x.spare) inputs
  pub pairs : All (λ r. m ≤ r.spare) jobs

-- ---- the problems with a row added, or with a place kept
-- The problem with one more allowed place, the last, of input i.
abbrev pub with_version : ProblemValue → ℕ → ℕ → ProblemValue
with_version p i place = record { inputs = slice_set p.inputs i (with_place (input_at p i) place); jobs = p.jobs }

-- The problem with this place kept for input i, in place of any that was.
abbrev pub with_after : ProblemValue → ℕ → ℕ → ProblemValue
with_after p i place = record { inputs = slice_set p.inputs i (with_kept (input_at p i) place); jobs = p.jobs }

-- The problem with one more build, the newest, of job j.
abbrev pub with_new_build : ProblemValue → ℕ → BuildValue → ProblemValue
with_new_build p j b = record { inputs = p.inputs; jobs = slice_set p.jobs j (b ∷ builds_at p j) }

-- What is left of the room once so many are added: they use it up where there was room for all, and else leave it.
abbrev pub left_after : ℕ → ℕ → ℕ
left_after spare added = if nat_le added spare then spare - added else spare

-- ---- fixed builds
-- The builds with these numbers, a job's each. A job is free where no build of it has its number; none has the number 0.
abbrev pub fixed_by : ProblemValue → List ℕ → Assignment
fixed_by p numbers j = numbered (builds_at p j) (slice_index numbers j)

-- A place of input i can have passed each job that the input names.
abbrev pub HasPassed : ProblemValue → Assignment → ℕ → ℕ → Type 0
HasPassed p a i place = EachIndex (input_at p i).jobs
    (λ k. CanHavePassed p a ((input_at p i).scope, place) (slice_index (input_at p i).jobs k))

-- A place that is possible where nothing is fixed, once this job has a build with it: it is allowed, and each other job that
-- the input names has a build with it.
pub record IsPossibleWith (p : ProblemValue) (job i place : ℕ) : Type 0 where
  pub allowed : Contains (input_at p i).places place
  pub passed : EachIndex (input_at p i).jobs (λ k. slice_index (input_at p i).jobs k ≢ job
      → Any (λ b. Contains b.pairs ((input_at p i).scope, place)) (builds_at p (slice_index (input_at p i).jobs k)))

-- The best place of input i where nothing is fixed, once this job has one more build, with this number and these pairs.
abbrev pub IsTopWith : ProblemValue → ℕ → ℕ → List (ℕ × ℕ) → ℕ → ℕ → Type 0
IsTopWith p job number pairs i place =
    let after : ProblemValue = with_new_build p job (record { number = number; pairs = pairs }) in
    IsBestPlace (order_of after) after nothing_fixed i place

-- ---- viable builds
-- Each input that names this job has a possible place.
abbrev pub LeavesPlaces : ProblemValue → Assignment → ℕ → Type 0
LeavesPlaces p a job =
    (i : ℕ) → i < length p.inputs → Contains (input_at p i).jobs job → (place : ℕ) × IsPossible p a i place

-- So many of these have the property: each that has it is counted, and no other.
abbrev pub IsCount : {X : Type 0} → (X → Type 0) → List X → ℕ → Type 0
IsCount P [] n = n ≡ 0
IsCount P (x ∷ xs) n = (P x × ((m : ℕ) × (n ≡ m + 1) × IsCount P xs m)) ⊎ ((P x → ⊥) × IsCount P xs n)

-- So many builds of this job, each fixed in place of any that is fixed for it, leave each input that names the job a possible
-- place.
abbrev pub IsViableCount : ProblemValue → Assignment → ℕ → ℕ → Type 0
IsViableCount p a job n = IsCount (λ b. LeavesPlaces p (with_build a job b) job) (builds_at p job) n
