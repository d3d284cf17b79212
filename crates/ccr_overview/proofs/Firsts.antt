-- The first of a list of which something is made, one after another.
use Rattle.std.proofs.Common.{◌≡◌, ◌+◌, ◌<◌, ◌∷◌, ℕ, List, length, drop, map, get_or, Option, Some, None, sym, ◌∙◌, ap}
use Rattle.std.proofs.lemmas.List.{drop_more}
use Rattle.std.specs.Option.{option_or}
use Rattle.ccr_overview.specs.Each.{first_of}

module _ {X Y Z : Type 0} (f : Y → Option Z) (of : X → Y) (xs : List X) (k : ℕ) (x : X) (all : Option Z) (within : k < length xs)
    (at : get_or xs k x ≡ x) (before : first_of f (map of (drop k xs)) ≡ all) where
  -- what is made from here on
  from_here : option_or (f (of x)) (first_of f (map of (drop (k + 1) xs))) ≡ all
  from_here =
      sym (ap (λ ys. first_of f (map of ys)) (drop_more xs k x within ∙ ap (λ y. y ∷ drop (k + 1) xs) at)) ∙ before

  -- something is made of this one
  pub first_here : (z : Z) → Some z ≡ f (of x) → Some z ≡ all
  first_here z so = ap (λ o. option_or o (first_of f (map of (drop (k + 1) xs)))) so ∙ from_here

  -- nothing is
  pub first_on : None ≡ f (of x) → first_of f (map of (drop (k + 1) xs)) ≡ all
  first_on so = ap (λ o. option_or o (first_of f (map of (drop (k + 1) xs)))) so ∙ from_here
