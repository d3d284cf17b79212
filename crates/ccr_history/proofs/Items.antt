-- Loops over the members of JSON lists.
use Rattle.std.proofs.Common.{◌≡◌, ℕ, ◌+◌, ◌<◌, ◌≤◌, List, [], refl, sym, map, drop, get_or, length, drop-cons, add-one, arith}
use Rattle.std.proofs.lemmas.Grind.{common_steps}
use Rattle.serde_json.specs.declared.value.Value.{Value}
use Rattle.serde_json.specs.Data.{Data, Items, no_items, item}
use Rattle.serde_json.specs.View.{view, items_of}

-- the items that are left of a list, seen as data
abbrev pub left_of : {V : Type 0} → (V → Data) → ℕ → List V → Items
left_of see i xs = items_of (map see (drop i xs))

pub left_of-cons : {V : Type 0} (see : V → Data) (xs : List V) (i : ℕ) (x : V) → i < length xs → x ≡ get_or xs i x → left_of see i xs ≡ item (see x) (left_of see (i + 1) xs)
left_of-cons see xs i x h e = rw (drop-cons xs i x h, sym e, add-one) refl

pub left_of-end : {V : Type 0} (see : V → Data) (xs : List V) (i : ℕ) → length xs ≤ i → left_of see i xs ≡ no_items
left_of-end see xs i h = let none : drop i xs ≡ [] = grind (arith, common_steps) in rw none refl

abbrev pub left : ℕ → List Value → Items
left = left_of view
