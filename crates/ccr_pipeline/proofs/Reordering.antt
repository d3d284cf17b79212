-- The order of an object's members doesn't matter: those of different keys can be put in either order.
use Rattle.std.proofs.Common.{◌≡◌, ℕ, List, Option, Some, None, refl, sym, subst, ap, ◌∙◌, option_map, option_and_then, Ordering, Less, Equal, Greater, nat_cmp}
use Rattle.std.proofs.lemmas.Cmp.{nat_list_cmp_total}
use Rattle.std.proofs.lemmas.Map.Lookups.{exact_bytes}
use Rattle.std.specs.Cmp.Lexicographic.{slice_cmp}
use Rattle.std.specs.Ordering.{ordering_reverse}
use Rattle.json.specs.Json as tree
use Rattle.serde_json.specs.Data.{Data, array, object, Members, no_members, member, put}
use Rattle.serde_json.specs.Read.{of_json, of_items, of_members, read as json}
use Rattle.ccr_pipeline.specs.Reordered.{Reordered, same, chain, in_array, in_object, ReorderedItem, here, later, ReorderedMember, inside, after, swapped, IsReordering}

-- a key that is less than another, put before it or after it

module _ (k l : List ℕ) (d e : Data) (less : slice_cmp nat_cmp k l ≡ Less) (greater : slice_cmp nat_cmp l k ≡ Greater) where
  put_case : (m : List ℕ) (x : Data) (ms : Members) (o p : Ordering) → slice_cmp nat_cmp l m ≡ o → slice_cmp nat_cmp k m ≡ p → put k d (put l e ms) ≡ put l e (put k d ms) → put k d (put l e (member m x ms)) ≡ put l e (put k d (member m x ms))
  put_case m x ms Less p f g h = rw (f, nat_list_cmp_total.trans k l m less f, less, greater, f) refl
  put_case m x ms Equal p f g h =
      let same : l ≡ m = exact_bytes l m f in
      let before : slice_cmp nat_cmp k m ≡ Less = subst (λ n. slice_cmp nat_cmp k n ≡ Less) same less in
      rw (f, before, greater, f) refl
  put_case m x ms Greater Less f g h = rw (f, g, greater, f) refl
  put_case m x ms Greater Equal f g h = rw (f, g, f) refl
  put_case m x ms Greater Greater f g h = rw (f, g, f) (ap (member m x) h)

  put_less : (ms : Members) → put k d (put l e ms) ≡ put l e (put k d ms)
  put_less no_members = rw (less, greater) refl
  put_less (member m x ms) = put_case m x ms _ _ refl refl (put_less ms)

reversed : (k l : List ℕ) (o : Ordering) → slice_cmp nat_cmp k l ≡ o → slice_cmp nat_cmp l k ≡ ordering_reverse o
reversed k l o e = nat_list_cmp_total.antisymm l k ∙ ap ordering_reverse e

put_either : (k l : List ℕ) (d e : Data) (ms : Members) (o : Ordering) → slice_cmp nat_cmp k l ≡ o → (k ≡ l → ⊥) → put k d (put l e ms) ≡ put l e (put k d ms)
put_either k l d e ms Less o different = put_less k l d e o (reversed k l Less o) ms
put_either k l d e ms Equal o different = absurd (different (exact_bytes k l o))
put_either k l d e ms Greater o different = sym (put_less l k e d (reversed k l Greater o) o ms)

both : {A B C : Type 0} (o : Option A) (p : Option B) (f g : A → B → Option C) → ((a : A) (b : B) → f a b ≡ g a b) → option_and_then (λ a. option_and_then (f a) p) o ≡ option_and_then (λ b. option_and_then (λ a. g a b) o) p
both None None f g h = refl
both None (Some b) f g h = refl
both (Some a) None f g h = refl
both (Some a) (Some b) f g h = h a b

each : {A B : Type 0} (o : Option A) (f g : A → Option B) → ((a : A) → f a ≡ g a) → option_and_then f o ≡ option_and_then g o
each None f g h = refl
each (Some a) f g h = h a

mutual
  value_same : {i j : tree.Json} → Reordered i j → of_json i ≡ of_json j
  value_same same = refl
  value_same (chain r s) = value_same r ∙ value_same s
  value_same (in_array r) = ap (option_map array) (item_same r)
  value_same (in_object r) = ap (option_map object) (member_same r _)

  item_same : {is js : tree.Items} → ReorderedItem is js → of_items is ≡ of_items js
  item_same (here r) = rw (value_same r) refl
  item_same (later r) = rw (item_same r) refl

  member_same : {ms ns : tree.Members} → ReorderedMember ms ns → (found : Members) → of_members ms found ≡ of_members ns found
  member_same (inside r) found = rw (value_same r) refl
  member_same (after r) found = each _ _ _ (λ d. member_same r _)
  member_same (swapped {k = k} {l = l} {i = i} {j = j} {ms = ms} different) found =
      both (of_json i) (of_json j) (λ d e. of_members ms (put l e (put k d found))) (λ d e. of_members ms (put k d (put l e found)))
      (λ d e. ap (of_members ms) (sym (put_either k l d e found _ refl different)))

pub reordered_same : (bytes others : List ℕ) → IsReordering bytes others → json bytes ≡ json others
reordered_same bytes others r = rw (r.spells, r.respells) (value_same r.reordered)
