-- When one build of a job has all that another has, as far as the inputs that name the job can see.
use Rattle.std.specs.Prelude.{◌≡◌, ℕ, All, Any, Contains}
use Rattle.ccr_choice.specs.Problem.{ProblemValue, BuildValue}

-- Job j is named by an input of this scope.
abbrev pub IsNamedIn : ProblemValue → ℕ → ℕ → Type 0
IsNamedIn p j scope = Any (λ i. (i.scope ≡ scope) × Contains i.jobs j) p.inputs

-- A build of job j is dominated by another: of its pairs, those in the scopes of inputs that name the job are among the
-- pairs of the other.
abbrev pub IsDominated : ProblemValue → ℕ → BuildValue → BuildValue → Type 0
IsDominated p j b other = All (λ q. IsNamedIn p j q.0 → Contains other.pairs q) b.pairs
