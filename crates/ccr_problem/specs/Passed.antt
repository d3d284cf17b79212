-- What passed a job, as a problem has it.
use Rattle.std.specs.Prelude.{ℕ, List, map, filter, reverse, ◌==◌}
use Rattle.std.specs.List.{enumerate_from, flat_map}
use Rattle.ccr_history.specs.Text.{Text}
use Rattle.ccr_history.specs.Builds.{BuildData, is_of, is_succeeded, passed_pairs}
use Rattle.ccr_choice.specs.Problem.{BuildValue}

-- the places that these pairs have in the scope of this number
abbrev pub places_in : List (ℕ × ℕ) → ℕ → List ℕ
places_in pairs scope = map (λ p. p.1) (filter (λ p. p.0 == scope) pairs)

-- the pairs that lie in these scopes, and no others: scope by scope, each under its position among these, with its
-- places
abbrev pub cut_to : List ℕ → List (ℕ × ℕ) → List (ℕ × ℕ)
cut_to scopes pairs = flat_map (λ s. map (λ place. (s.0, place)) (places_in pairs s.1)) (enumerate_from 0 scopes)

-- a build, with what passed its job with it in these scopes
abbrev pub build_value : List ℕ → BuildData → BuildValue
build_value scopes b = record { number = b.number; pairs = cut_to scopes (passed_pairs b) }

-- the successful builds of a job, newest first
abbrev pub successful : Text → List BuildData → List BuildData
successful job builds = reverse (filter (λ b. is_succeeded b.status) (filter (is_of job) builds))

-- the successful builds of a job, newest first, each with what passed the job with it in these scopes
abbrev pub job_value : List BuildData → List ℕ → Text → List BuildValue
job_value builds scopes job = map (build_value scopes) (successful job builds)
