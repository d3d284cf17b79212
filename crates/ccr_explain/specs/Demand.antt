-- What a problem demands of a choice, one demand at a time.
use Rattle.std.specs.Prelude.{ℕ, ◌+◌, ◌<◌, List, [], ◌∷◌, ◌++◌, length, map, remove, All, Contains}
use Rattle.ccr_choice.specs.Problem.{ProblemValue, InputValue, input_at}
use Rattle.ccr_choice.specs.Satisfies.{HasLengths, IsAllowed, HasPassed}
use Rattle.ccr_explain.specs.declared.demand.Demand.{Demand}
use Rattle.ccr_explain.specs.declared.demand.Demand.TheVariants.{Allowed, Passed}

-- A problem demands of each input that it takes one of its allowed places, and that its place has passed each job that the
-- input names.
abbrev pub IsDemandOf : ProblemValue → Demand → Type 0
IsDemandOf p (Allowed i) = i < length p.inputs
IsDemandOf p (Passed i j) = (i < length p.inputs) × Contains (input_at p i).jobs j

-- The demands of input i and of the inputs behind it, in plan order: its allowed places first, then the jobs that it names.
abbrev pub demands_from : ℕ → List InputValue → List Demand
demands_from i [] = []
demands_from i (x ∷ xs) = Allowed i ∷ (map (λ j. Passed i j) x.jobs ++ demands_from (i + 1) xs)

-- All demands of a problem.
abbrev pub demands_of : ProblemValue → List Demand
demands_of p = demands_from 0 p.inputs

-- A choice meets a demand.
abbrev pub Meets : ProblemValue → List ℕ → List ℕ → Demand → Type 0
Meets p places builds (Allowed i) = IsAllowed p places i
Meets p places builds (Passed i j) = HasPassed p places builds i j

-- A choice, with a place for each input and a build for each named job, meets each of these demands.
pub record MeetsAll (p : ProblemValue) (ds : List Demand) (places builds : List ℕ) : Type 0 where
  pub lengths : HasLengths p places builds
  pub each : All (Meets p places builds) ds

-- Some choice meets these demands.
pub record CanBeMet (p : ProblemValue) (ds : List Demand) : Type 0 where
  pub places : List ℕ
  pub builds : List ℕ
  pub meets : MeetsAll p ds places builds

-- Demands exclude each other if no choice meets all of them.
abbrev pub ExcludeEachOther : ProblemValue → List Demand → Type 0
ExcludeEachOther p ds = (places builds : List ℕ) → ¬ MeetsAll p ds places builds

-- Demands are irreducible if, with any one of them left out, some choice meets the others.
abbrev pub AreIrreducible : ProblemValue → List Demand → Type 0
AreIrreducible p ds = (k : ℕ) → k < length ds → CanBeMet p (remove ds k)
