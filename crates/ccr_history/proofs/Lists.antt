-- What holds of each element of a list, and of each two of them.
use Rattle.std.proofs.Common.{◌≡◌, zero, suc, List, [], ◌∷◌, ◌++◌, map, Bool, false, All, AllPairs, Ordering, Less, Equal, Greater, refl, ◌∙◌, arith, zero-lt-suc}
use Rattle.std.specs.List.{AllByRecursion, list_any}
use Rattle.std.specs.Ordering.{match_ordering}
use Rattle.std.proofs.lemmas.Bool.{or_parts}
use Rattle.std.proofs.lemmas.List.Elements.{All-from_recursion, All-nil}
use Rattle.std.proofs.lemmas.List.Kept.{AllPairs-cons}
use Rattle.std.proofs.lemmas.List.Quantifiers.{all_pairs_push}

-- ---- of each
pub each_weaker : {X : Type 0} (P Q : X → Type 0) → ((x : X) → P x → Q x) → (xs : List X) → AllByRecursion P xs → AllByRecursion Q xs
each_weaker P Q weaker [] h = tt
each_weaker P Q weaker (x ∷ xs) h = (weaker x h.0, each_weaker P Q weaker xs h.1)

pub each_map : {X Y : Type 0} (P : X → Type 0) (Q : Y → Type 0) (f : X → Y) → ((x : X) → P x → Q (f x)) → (xs : List X) → AllByRecursion P xs → AllByRecursion Q (map f xs)
each_map P Q f so [] h = tt
each_map P Q f so (x ∷ xs) h = (so x h.0, each_map P Q f so xs h.1)

pub each_from_map : {X Y : Type 0} (P : X → Type 0) (Q : Y → Type 0) (f : X → Y) → ((x : X) → Q (f x) → P x) → (xs : List X) → AllByRecursion Q (map f xs) → AllByRecursion P xs
each_from_map P Q f so [] h = tt
each_from_map P Q f so (x ∷ xs) h = (so x h.0, each_from_map P Q f so xs h.1)

pub each_push : {X : Type 0} (P : X → Type 0) (xs : List X) (y : X) → AllByRecursion P xs → P y → AllByRecursion P (xs ++ y ∷ [])
each_push P [] y h one = (one, tt)
each_push P (x ∷ xs) y h one = (h.0, each_push P xs y h.1 one)

each_none : {X : Type 0} (p : X → Bool) (xs : List X) → list_any p xs ≡ false → AllByRecursion (λ x. p x ≡ false) xs
each_none p [] h = tt
each_none p (x ∷ xs) h = let parts = or_parts (p x) (list_any p xs) h in (parts.0, each_none p xs parts.1)

-- ---- of each two
pub pairs_none : {X : Type 0} (R : X → X → Type 0) → AllPairs R []
pairs_none R = λ i j d before within. absurd (omega arith)

pub pairs_one : {X : Type 0} (R : X → X → Type 0) (x : X) → AllPairs R (x ∷ [])
pairs_one R x = AllPairs-cons R x [] (All-nil (R x)) (pairs_none R)

pub pairs_head : {X : Type 0} (R : X → X → Type 0) (x : X) (xs : List X) → AllPairs R (x ∷ xs) → All (R x) xs
pairs_head R x xs h = λ k d within. h zero (suc k) d (zero-lt-suc k) (omega arith)

pub pairs_tail : {X : Type 0} (R : X → X → Type 0) (x : X) (xs : List X) → AllPairs R (x ∷ xs) → AllPairs R xs
pairs_tail R x xs h = λ i j d before within. h (suc i) (suc j) d (omega arith) (omega arith)

-- elements apart by a test that goes both ways stay so where one comes that no element passes it with
pub apart_push : {X : Type 0} (E : X → X → Bool) → ((x y : X) → E x y ≡ E y x) → (xs : List X) (y : X) → AllPairs (λ v w. E v w ≡ false) xs → list_any (E y) xs ≡ false → AllPairs (λ v w. E v w ≡ false) (xs ++ y ∷ [])
apart_push E flips xs y apart none =
    all_pairs_push (λ v w. E v w ≡ false) xs y apart (λ k d within. flips _ y ∙ All-from_recursion (λ x. E y x ≡ false) xs (each_none (E y) xs none) k d within)

-- ---- by an answer of a comparison
pub match_each : {X : Type 0} (P : X → Type 0) (o : Ordering) (a b c : X) → (o ≡ Less → P a) → (o ≡ Equal → P b) → (o ≡ Greater → P c) → P (match_ordering o a b c)
match_each P Less a b c less equal greater = less refl
match_each P Equal a b c less equal greater = equal refl
match_each P Greater a b c less equal greater = greater refl
