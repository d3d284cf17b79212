-- Lists in which no name is repeated.
use Rattle.std.proofs.Common.{◌≡◌, List, [], ◌∷◌, ◌++◌, false, Option, Some, None, refl, sym, append_assoc, ◌∙◌, ◌||◌}
use Rattle.std.proofs.lemmas.Cmp.{nat_list_eq_equiv}
use Rattle.std.proofs.lemmas.List.{append-nil}
use Rattle.std.proofs.lemmas.List.Folds.{list_any-append}
use Rattle.std.specs.List.{AllByRecursion, IsDistinct}
use Rattle.std.specs.Option.{IfSome}
use Rattle.std.specs.Str.{bytes_eq}
use Rattle.ccr_pipeline.specs.Keys.{or_else}
use Rattle.ccr_pipeline.specs.Names.{has_name, with_names}
use Rattle.ccr_pipeline.specs.Tree.{Text}
use Rattle.ccr_pipeline.proofs.Joined.{or_first, or_last}

-- each text is none of these names, nor of the texts before it
abbrev pub NoRepeat : List Text → List Text → Type 0
NoRepeat names [] = Unit {0}
NoRepeat names (x ∷ xs) = (has_name names x ≡ false) × NoRepeat (names ++ x ∷ []) xs

all_map : (P Q : Text → Type 0) → ((x : Text) → P x → Q x) → (xs : List Text) → AllByRecursion P xs → AllByRecursion Q xs
all_map P Q f [] h = tt
all_map P Q f (x ∷ xs) h = (f x h.0, all_map P Q f xs h.1)

none_before : (names xs : List Text) → NoRepeat names xs → AllByRecursion (λ y. has_name names y ≡ false) xs
none_before names [] h = tt
none_before names (x ∷ xs) h = (
  h.0,
  all_map (λ y. has_name (names ++ x ∷ []) y ≡ false) (λ y. has_name names y ≡ false)
      (λ y e. or_first _ _ (sym (list_any-append (bytes_eq y) names (x ∷ [])) ∙ e)) xs
      (none_before (names ++ x ∷ []) xs h.1),
)

other : (names : List Text) (x y : Text) → has_name (names ++ x ∷ []) y ≡ false → bytes_eq x y ≡ false
other names x y e =
    let last : (bytes_eq y x || false) ≡ false = or_last _ _ (sym (list_any-append (bytes_eq y) names (x ∷ [])) ∙ e) in
    nat_list_eq_equiv.symm x y ∙ or_first _ _ last

pub distinct : (names xs : List Text) → NoRepeat names xs → IsDistinct bytes_eq xs
unfolding IsDistinct
distinct names [] h = tt
distinct names (x ∷ xs) h = (
  all_map (λ y. has_name (names ++ x ∷ []) y ≡ false) (λ y. bytes_eq x y ≡ false) (other names x) xs
      (none_before (names ++ x ∷ []) xs h.1),
  distinct (names ++ x ∷ []) xs h.1,
)

pub with_text : (names rest : List Text) (o : Option Text) → IfSome o (λ s. has_name names s ≡ false) → NoRepeat (names ++ or_else o [] (λ s. s ∷ [])) rest → NoRepeat names (or_else o [] (λ s. s ∷ []) ++ rest)
with_text names rest None h g = rw (append-nil names) at g
with_text names rest (Some s) h g = (h, g)

-- names that don't repeat are all added
pub all_added : (names xs : List Text) → NoRepeat names xs → with_names names xs ≡ names ++ xs
all_added names [] h = rw append-nil refl
all_added names (x ∷ xs) h = rw (h.0, all_added (names ++ x ∷ []) xs h.1, append_assoc) refl
