-- That turns go round.
use Rattle.std.proofs.Common.{◌≡◌, ◌<◌, ◌≤◌, ◌++◌, ℕ, List, [], ◌∷◌, true, false, Some, find, nat_lt, slice_get, cond, refl, ◌∙◌, ap, arith, append-nil}
use Rattle.std.proofs.lemmas.Bool.Decides.{nat_tests}
use Rattle.std.specs.List.{AllByRecursion}
use Rattle.std.specs.Option.{option_or}
use Rattle.ccr_core.specs.State.{RunningData}
use Rattle.ccr_serve.specs.Turns.{TurnsGoRound}

not_lt : (a b : ℕ) → b ≤ a → nat_lt a b ≡ false
not_lt a b h = grind (arith, nat_tests)

is_lt : (a b : ℕ) → a < b → nat_lt a b ≡ true
is_lt a b h = grind (arith, nat_tests)

skipped : (rank : RunningData → ℕ) (last : ℕ) (xs ys : List RunningData) → AllByRecursion (λ b. rank b ≤ last) xs
    → find (λ b. nat_lt last (rank b)) (xs ++ ys) ≡ find (λ b. nat_lt last (rank b)) ys
skipped rank last [] ys h = refl
skipped rank last (x ∷ xs) ys h =
    ap (λ t. cond t (Some x) (find (λ b. nat_lt last (rank b)) (xs ++ ys))) (not_lt last (rank x) h.0)
    ∙ skipped rank last xs ys h.1

first_found : (rank : RunningData → ℕ) (last : ℕ) (ys : List RunningData) → AllByRecursion (λ b. last < rank b) ys
    → find (λ b. nat_lt last (rank b)) ys ≡ slice_get ys 0
first_found rank last [] h = refl
first_found rank last (y ∷ ys) h =
    ap (λ t. cond t (Some y) (find (λ b. nat_lt last (rank b)) ys)) (is_lt last (rank y) h.0)

around : (xs ys : List RunningData) → option_or (slice_get ys 0) (slice_get (xs ++ ys) 0) ≡ slice_get (ys ++ xs) 0
around xs [] = ap (λ zs. slice_get zs 0) (append-nil xs)
around xs (y ∷ ys) = refl

pub turns_go_round : TurnsGoRound
turns_go_round rank last xs ys by after =
    ap (λ o. option_or o (slice_get (xs ++ ys) 0)) (skipped rank last xs ys by ∙ first_found rank last ys after)
    ∙ around xs ys
