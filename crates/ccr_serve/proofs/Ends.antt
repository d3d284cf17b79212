-- Whether a build runs.
use Rattle.std.proofs.Common.{◌≡◌, ◌≢◌, ◌==◌, List, [], ◌∷◌, length, map, Bool, true, false, sym, ◌∙◌}
use Rattle.std.proofs.lemmas.Bool.{false≢true, eqb-true}

-- what a list is mapped to is empty where the list is
pub maps_none : {A B : Type 0} (f : A → B) (xs : List A) (ys : List B) (none : Bool) → map f xs ≡ ys
    → none ≡ (length xs == 0) → none ≡ true → ys ≡ []
maps_none f [] ys none is told so = sym is
maps_none f (x ∷ xs) ys none is told so = absurd (cc (eqb-true (length (x ∷ xs)) 0 (sym told ∙ so)))

-- and nowhere else
pub maps_some : {A B : Type 0} (f : A → B) (xs : List A) (ys : List B) (none : Bool) → map f xs ≡ ys
    → none ≡ (length xs == 0) → ys ≡ [] → none ≡ true
maps_some f [] ys none is told empty = told
maps_some f (x ∷ xs) ys none is told empty = absurd (cc (is ∙ empty))

pub some_left : {A B : Type 0} (f : A → B) (xs : List A) (ys : List B) (none : Bool) → map f xs ≡ ys
    → none ≡ (length xs == 0) → none ≡ false → ys ≢ []
some_left f xs ys none is told not empty = false≢true (sym not ∙ maps_some f xs ys none is told empty)
