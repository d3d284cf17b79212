-- Texts that differ in the order of their objects' members alone.
use Rattle.std.specs.Prelude.{◌≡◌, ℕ, List, Option, Some, option_and_then}
use Rattle.json.specs.Json as tree
use Rattle.json.specs.Lex.{tokens}
use Rattle.serde_json.specs.Read.{max_depth}

-- what a text spells, with each object's members as they stand
abbrev pub spelled : List ℕ → Option tree.Json
spelled bytes = option_and_then (λ p. tree.if_last p.0 p.1) (tree.value max_depth (tokens bytes))

-- the second is the first after any number of swaps, each of two members that stand side by side in an object and have
-- different keys
mutual
  pub data Reordered : tree.Json → tree.Json → Type 0 where
    same : {j : tree.Json} → Reordered j j
    chain : {i j k : tree.Json} → Reordered i j → Reordered j k → Reordered i k
    in_array : {is js : tree.Items} → ReorderedItem is js → Reordered (tree.array is) (tree.array js)
    in_object : {ms ns : tree.Members} → ReorderedMember ms ns → Reordered (tree.object ms) (tree.object ns)

  -- it is so of one item of a list
  pub data ReorderedItem : tree.Items → tree.Items → Type 0 where
    here : {i j : tree.Json} {is : tree.Items} → Reordered i j → ReorderedItem (tree.item i is) (tree.item j is)
    later : {i : tree.Json} {is js : tree.Items} → ReorderedItem is js → ReorderedItem (tree.item i is) (tree.item i js)

  -- it is so of the value of one member, or two members are swapped
  pub data ReorderedMember : tree.Members → tree.Members → Type 0 where
    inside : {k : List ℕ} {i j : tree.Json} {ms : tree.Members} → Reordered i j
        → ReorderedMember (tree.member k i ms) (tree.member k j ms)
    after : {k : List ℕ} {i : tree.Json} {ms ns : tree.Members} → ReorderedMember ms ns
        → ReorderedMember (tree.member k i ms) (tree.member k i ns)
    swapped : {k l : List ℕ} {i j : tree.Json} {ms : tree.Members} → (k ≡ l → ⊥)
        → ReorderedMember (tree.member k i (tree.member l j ms)) (tree.member l j (tree.member k i ms))

-- the second text has the members of the first in another order, but for those of equal keys, and is else the same
pub record IsReordering (bytes others : List ℕ) : Type 0 where
  pub first : tree.Json
  pub second : tree.Json
  pub spells : spelled bytes ≡ Some first
  pub respells : spelled others ≡ Some second
  pub reordered : Reordered first second
