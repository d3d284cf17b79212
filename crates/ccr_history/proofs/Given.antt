-- What the last element gives of which a function gives something.
use Rattle.std.proofs.Common.{◌≡◌, List, [], ◌∷◌, ◌++◌, map, Bool, true, false, cond, Option, Some, None, refl, sym, ap, ap₂, ◌∙◌}
use Rattle.std.specs.List.{AllByRecursion}
use Rattle.std.specs.Option.{option_or}
use Rattle.ccr_history.specs.Newest.{last_given}

option_or-assoc : {X : Type 0} (a b c : Option X) → option_or (option_or a b) c ≡ option_or a (option_or b c)
option_or-assoc None b c = refl
option_or-assoc (Some x) b c = refl

pub option_or-none : {X : Type 0} (a : Option X) → option_or a None ≡ a
option_or-none None = refl
option_or-none (Some x) = refl

-- with one more element
pub last_given-push : {X Y : Type 0} (f : X → Option Y) (xs : List X) (y : X) → last_given f (xs ++ y ∷ []) ≡ option_or (f y) (last_given f xs)
last_given-push f [] y = sym (option_or-none (f y))
last_given-push f (x ∷ xs) y =
    ap (λ o. option_or o (f x)) (last_given-push f xs y) ∙ option_or-assoc (f y) (last_given f xs) (f x)

-- by what is given alone
given_by_answers : {X Y : Type 0} (f : X → Option Y) (xs : List X) → last_given f xs ≡ last_given (λ o. o) (map f xs)
given_by_answers f [] = refl
given_by_answers f (x ∷ xs) = ap (λ o. option_or o (f x)) (given_by_answers f xs)

pub given-agree : {X Y Z : Type 0} (f : X → Option Z) (g : Y → Option Z) (xs : List X) (ys : List Y) → map f xs ≡ map g ys → last_given f xs ≡ last_given g ys
given-agree f g xs ys same = given_by_answers f xs ∙ ap (last_given (λ o. o)) same ∙ sym (given_by_answers g ys)

-- nothing is given
pub given-none : {X Y : Type 0} (f : X → Option Y) (xs : List X) → AllByRecursion (λ x. f x ≡ None) xs → last_given f xs ≡ None
given-none f [] all = refl
given-none f (x ∷ xs) all = ap₂ option_or (given-none f xs all.1) all.0

-- what is given last stands over what was there
pub given_over : {X : Type 0} (b : Bool) (x : X) (given before : Option X) → cond b (Some x) (option_or given before) ≡ option_or (option_or (cond b (Some x) None) given) before
given_over true x given before = refl
given_over false x given before = refl
