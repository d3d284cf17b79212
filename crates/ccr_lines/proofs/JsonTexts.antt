-- The texts of arrays, item by item.
use Rattle.std.proofs.Common.{◌≡◌, true, List, [], ◌∷◌, ◌++◌, map, flat_map, refl, sym, ◌∙◌, ap, ap₂, append_assoc}
use Rattle.std.proofs.lemmas.Grind.{flat_map-append}
use Rattle.std.proofs.lemmas.List.Folds.{flat_map-map}
use Rattle.serde_json.specs.Data.{Data}
use Rattle.serde_json.specs.View.{items_of}
use Rattle.serde_json.specs.Written.{compact_text, items_text}
use Rattle.ccr_history.specs.Text.{Text}
use Rattle.ccr_lines.specs.Json.{list, json_line, after_comma, array_of}

-- values behind commas, and the bracket
rest_told : (ds : List Data) → flat_map after_comma ds ++ 93 ∷ [] ≡ items_text true (items_of ds)
rest_told [] = refl
rest_told (d ∷ ds) =
    ap (λ t. 44 ∷ t)
    (append_assoc (compact_text d) (flat_map after_comma ds) (93 ∷ []) ∙ ap (λ t. compact_text d ++ t) (rest_told ds))

-- the first comma is left out
array_told : (ds : List Data) → array_of (flat_map after_comma ds) ≡ compact_text (list ds)
array_told [] = refl
array_told (d ∷ ds) =
    ap (λ t. 91 ∷ t)
    (append_assoc (compact_text d) (flat_map after_comma ds) (93 ∷ []) ∙ ap (λ t. compact_text d ++ t) (rest_told ds))

-- the lists that these give, one behind the other
pub lists_told : {X Y Z : Type 0} (g : Y → List Z) (f : X → List Y) (xs : List X)
    → flat_map (λ x. flat_map g (f x)) xs ≡ flat_map g (flat_map f xs)
lists_told g f [] = refl
lists_told g f (x ∷ xs) = ap (λ t. flat_map g (f x) ++ t) (lists_told g f xs) ∙ sym (flat_map-append g (f x) (flat_map f xs))

-- an array of values that were written
pub array_is : (ds : List Data) (items : Text) → items ≡ flat_map after_comma ds → array_of items ≡ compact_text (list ds)
array_is ds items e = ap array_of e ∙ array_told ds

-- an array of one value for each
pub array_of_each : {X : Type 0} (f : X → Data) (xs : List X) (items : Text)
    → items ≡ flat_map (λ x. after_comma (f x)) xs → array_of items ≡ compact_text (list (map f xs))
array_of_each f xs items e = array_is (map f xs) items (e ∙ sym (flat_map-map after_comma f xs))

-- an array of what each gives
pub array_of_all : {X : Type 0} (f : X → List Data) (xs : List X) (items : Text)
    → items ≡ flat_map (λ x. flat_map after_comma (f x)) xs → array_of items ≡ compact_text (list (flat_map f xs))
array_of_all f xs items e = array_is (flat_map f xs) items (e ∙ lists_told after_comma f xs)

-- ---- through what the program's types stand for
pub array_of_each_seen : {X Y : Type 0} (f : Y → Data) (see : X → Y) (xs : List X) (items : Text)
    → items ≡ flat_map (λ x. after_comma (f (see x))) xs → array_of items ≡ compact_text (list (map f (map see xs)))
array_of_each_seen f see xs items e =
    array_of_each f (map see xs) items (e ∙ sym (flat_map-map (λ y. after_comma (f y)) see xs))

pub array_of_all_seen : {X Y : Type 0} (f : Y → List Data) (see : X → Y) (xs : List X) (items : Text)
    → items ≡ flat_map (λ x. flat_map after_comma (f (see x))) xs
    → array_of items ≡ compact_text (list (flat_map f (map see xs)))
array_of_all_seen f see xs items e =
    array_of_all f (map see xs) items (e ∙ sym (flat_map-map (λ y. flat_map after_comma (f y)) see xs))

-- ---- on a line
pub line_is : (d : Data) (items text : Text) → array_of items ≡ compact_text d → text ≡ array_of items ++ 10 ∷ [] → text ≡ json_line d
line_is d items text e t = t ∙ ap (λ s. s ++ 10 ∷ []) e

-- ---- piece by piece
-- a piece, and those behind it
pub and : {x y : Text} {xs ys : List Text} → x ≡ y → xs ≡ ys → x ∷ xs ≡ y ∷ ys
and is are = ap₂ (λ z zs. z ∷ zs) is are

-- the last piece
pub last : {x y : Text} → x ≡ y → x ∷ [] ≡ y ∷ []
last is = ap (λ z. z ∷ []) is
