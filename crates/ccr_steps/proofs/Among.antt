-- Membership, by cases on the list.
use Rattle.std.proofs.Common.{◌≡◌, ℕ, zero, suc, ◌<◌, List, [], ◌∷◌, ◌++◌, length, ◌⊎◌, inl, inr, arith}
use Rattle.std.specs.Prelude.{Contains}

abbrev pub Among : {X : Type 0} → List X → X → Type 0
Among [] x = ⊥
Among (y ∷ ys) x = (y ≡ x) ⊎ Among ys x

pub among_from : {X : Type 0} → (xs : List X) (x : X) → Contains xs x → Among xs x
among_from [] x (k, within, at) = absurd (omega (arith, within))
among_from (y ∷ ys) x (zero, within, at) = inl at
among_from (y ∷ ys) x (suc k, within, at) = inr (among_from ys x (k, omega (arith, within), at))

pub contains_from : {X : Type 0} → (xs : List X) (x : X) → Among xs x → Contains xs x
contains_from [] x h = absurd h
contains_from (y ∷ ys) x (inl e) = (0, omega arith, e)
contains_from (y ∷ ys) x (inr h) = let (k, within, at) = contains_from ys x h in (suc k, omega (arith, within), at)

pub among_left : {X : Type 0} → (xs ys : List X) (x : X) → Among xs x → Among (xs ++ ys) x
among_left [] ys x h = absurd h
among_left (y ∷ xs) ys x (inl e) = inl e
among_left (y ∷ xs) ys x (inr h) = inr (among_left xs ys x h)

pub among_right : {X : Type 0} → (xs ys : List X) (x : X) → Among ys x → Among (xs ++ ys) x
among_right [] ys x h = h
among_right (y ∷ xs) ys x h = inr (among_right xs ys x h)
