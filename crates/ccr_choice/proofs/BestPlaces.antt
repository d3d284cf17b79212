-- The best places, computed by tests.
use Rattle.std.proofs.Common.{ℕ, ◌+◌, List, [], ◌∷◌, Bool, ◌&&◌, ◌==◌, Option, Some, None, filter, if◌then◌else◌}
use Rattle.std.specs.Prelude.{unwrap_or}
use Rattle.std.specs.List.{list_any, list_all}
use Rattle.ccr_choice.specs.Problem.{ProblemValue, BuildValue, InputValue, input_at, builds_at}
use Rattle.ccr_choice.specs.Preference.{Preference}
use Rattle.ccr_choice.specs.Assignment.{Assignment}

abbrev pub has_pair : ℕ × ℕ → List (ℕ × ℕ) → Bool
has_pair pair pairs = list_any (λ q. q.0 == pair.0 && q.1 == pair.1) pairs

abbrev pub passes : List BuildValue → ℕ × ℕ → Option BuildValue → Bool
passes builds pair None = list_any (λ b. has_pair pair b.pairs) builds
passes builds pair (Some b) = has_pair pair b.pairs

abbrev pub is_possible : ProblemValue → Assignment → ℕ → ℕ → Bool
is_possible p a i place =
    list_any (λ v. v == place) (input_at p i).places
    && list_all (λ j. passes (builds_at p j) ((input_at p i).scope, place) (a j)) (input_at p i).jobs

-- the one that is preferred, if there is another
abbrev pub preferred_of : (ℕ → ℕ → Bool) → ℕ → Option ℕ → Option ℕ
preferred_of prefers x None = Some x
preferred_of prefers x (Some y) = if prefers y x then Some y else Some x

-- the most preferred of these places, or None where there is none
abbrev pub most_preferred : (ℕ → ℕ → Bool) → List ℕ → Option ℕ
most_preferred prefers [] = None
most_preferred prefers (x ∷ xs) = preferred_of prefers x (most_preferred prefers xs)

-- the most preferred possible place of input i
abbrev pub best_possible : Preference → ProblemValue → Assignment → ℕ → Option ℕ
best_possible prefers p a i = most_preferred (prefers i) (filter (is_possible p a i) (input_at p i).places)

-- the best place of input i
abbrev pub best_place : Preference → ProblemValue → Assignment → ℕ → ℕ
best_place prefers p a i = unwrap_or (best_possible prefers p a i) 0

abbrev pub best_places_from : Preference → ProblemValue → Assignment → ℕ → List InputValue → List ℕ
best_places_from prefers p a i [] = []
best_places_from prefers p a i (x ∷ xs) = best_place prefers p a i ∷ best_places_from prefers p a (i + 1) xs

-- the best place of each input
abbrev pub best_places : Preference → ProblemValue → Assignment → List ℕ
best_places prefers p a = best_places_from prefers p a 0 p.inputs
