-- The rows of pins that are set and cleared.
use Rattle.std.proofs.Common.{◌≡◌, List, [], ◌∷◌, map, not, Bool, true, cond, is_eq, bytes_eq, nat_cmp, Less, Equal, Greater, sym, ap, ◌∙◌, subst, IsPermutation}
use Rattle.std.specs.List.{AllByRecursion}
use Rattle.std.specs.List.Sorted.{IsStrictlySortedBy}
use Rattle.std.specs.Cmp.Lexicographic.{slice_cmp, nat_list_eq_equiv}
use Rattle.std.proofs.lemmas.Cmp.{nat_list_cmp_total}
use Rattle.std.proofs.lemmas.List.Sorted.{IsPermutation-refl, IsPermutation-trans, IsPermutation-cons, IsPermutation-map}
use Rattle.std.proofs.lemmas.Map.Text.{is_eq-slice_cmp}
use Rattle.std.proofs.lemmas.Slice.Eq.{bytes_eq-Decides}
use Rattle.sqlite.specs.declared.types.Value.TheVariants.{Text as Words}
use Rattle.sqlite.specs.Order.{value_cmp}
use Rattle.sqlite_value.proofs.OrderLemmas.{value_cmp-Text}
use Rattle.sqlite_keyed.proofs.ListLemmas.{IsPermutation-same, filter-map, filter_same, filter_all}
use Rattle.ccr_history.specs.Text.{Text}
use Rattle.ccr_history.specs.TextMap.{TextMap}
use Rattle.ccr_history.specs.Changes.{with_pin, without_pin}
use Rattle.ccr_history.proofs.Lists.{each_weaker, each_from_map, match_each}
use Rattle.ccr_history.proofs.PinLaws.{Entry, Ascend}
use Rattle.ccr_tables.specs.Written.{begins_with, without}
use Rattle.ccr_store.specs.Rows.{pin_row}
use Rattle.ccr_store.proofs.SameRows.{swapped}

-- the pin is one of another resource
abbrev is_other : Text → Entry → Bool
is_other resource p = not (bytes_eq resource p.0)

flipped : (a b : Text) → is_eq (value_cmp (Words a) (Words b)) ≡ bytes_eq b a
flipped a b = ap is_eq (value_cmp-Text a b) ∙ is_eq-slice_cmp a b ∙ bytes_flip a b
  where
    bytes_flip : (xs ys : Text) → bytes_eq xs ys ≡ bytes_eq ys xs
    bytes_flip = nat_list_eq_equiv.symm

pub without_rows : (resource : Text) (pins : List Entry) → without (Words resource) (map pin_row pins) ≡ map pin_row (without_pin resource pins)
without_rows resource pins =
    filter-map (λ r. not (begins_with (Words resource) r)) pin_row pins
    ∙ ap (map pin_row) (filter_same (λ p. not (begins_with (Words resource) (pin_row p))) (is_other resource) (λ p. ap not (flipped p.0 resource)) pins)

-- ---- a pin that is set
other_than : (resource : Text) (p : Entry) → slice_cmp nat_cmp resource p.0 ≡ Less → is_other resource p ≡ true
other_than resource p less = ap not (sym (is_eq-slice_cmp resource p.0) ∙ ap is_eq less)

all_others : (resource : Text) (pins : List Entry) → AllByRecursion (λ k. slice_cmp nat_cmp resource k ≡ Less) (map (λ p. p.0) pins) → without_pin resource pins ≡ pins
all_others resource pins below =
    filter_all (is_other resource) pins
    (each_from_map (λ p. is_other resource p ≡ true) (λ k. slice_cmp nat_cmp resource k ≡ Less) (λ p. p.0) (other_than resource) pins below)

set_pin : (resource : Text) (pin : TextMap) (pins : List Entry) → Ascend pins → IsPermutation (with_pin resource pin pins) ((resource, pin) ∷ without_pin resource pins)
unfolding IsStrictlySortedBy
set_pin resource pin [] h = IsPermutation-refl ((resource, pin) ∷ [])
set_pin resource pin (p ∷ ps) h =
    match_each (λ l. IsPermutation l ((resource, pin) ∷ without_pin resource (p ∷ ps))) (slice_cmp nat_cmp resource p.0) ((resource, pin) ∷ p ∷ ps) ((p.0, pin) ∷ ps) (p ∷ with_pin resource pin ps)
    (λ less. IsPermutation-same _ _ (ap (λ l. (resource, pin) ∷ l) (sym (all_others resource (p ∷ ps) (less, through less)))))
    (λ equal. let same = is_same equal in
    IsPermutation-same _ _ (ap (λ k. (k, pin) ∷ ps) (sym same)
    ∙ ap (λ l. (resource, pin) ∷ l) (sym (dropped equal ∙ all_others resource ps (subst (λ k. AllByRecursion (λ l. slice_cmp nat_cmp k l ≡ Less) (map (λ q. q.0) ps)) (sym same) h.0)))))
    (λ greater. IsPermutation-trans (p ∷ with_pin resource pin ps) (p ∷ (resource, pin) ∷ without_pin resource ps) ((resource, pin) ∷ without_pin resource (p ∷ ps))
    (IsPermutation-cons p _ _ (set_pin resource pin ps h.1))
    (IsPermutation-trans (p ∷ (resource, pin) ∷ without_pin resource ps) ((resource, pin) ∷ p ∷ without_pin resource ps) ((resource, pin) ∷ without_pin resource (p ∷ ps))
    (swapped (p ∷ []) ((resource, pin) ∷ []) (without_pin resource ps))
    (IsPermutation-same _ _ (ap (λ l. (resource, pin) ∷ l) (sym (stays greater))))))
  where
    through : slice_cmp nat_cmp resource p.0 ≡ Less → AllByRecursion (λ k. slice_cmp nat_cmp resource k ≡ Less) (map (λ q. q.0) ps)
    through less = each_weaker (λ k. slice_cmp nat_cmp p.0 k ≡ Less) (λ k. slice_cmp nat_cmp resource k ≡ Less) (λ k more. nat_list_cmp_total.trans resource p.0 k less more) (map (λ q. q.0) ps) h.0

    is_same : slice_cmp nat_cmp resource p.0 ≡ Equal → resource ≡ p.0
    is_same equal = (bytes_eq-Decides resource p.0).0 (sym (is_eq-slice_cmp resource p.0) ∙ ap is_eq equal)

    dropped : slice_cmp nat_cmp resource p.0 ≡ Equal → without_pin resource (p ∷ ps) ≡ without_pin resource ps
    dropped equal = ap (λ b. cond (not b) (p ∷ without_pin resource ps) (without_pin resource ps)) (sym (is_eq-slice_cmp resource p.0) ∙ ap is_eq equal)

    stays : slice_cmp nat_cmp resource p.0 ≡ Greater → without_pin resource (p ∷ ps) ≡ p ∷ without_pin resource ps
    stays greater = ap (λ b. cond (not b) (p ∷ without_pin resource ps) (without_pin resource ps)) (sym (is_eq-slice_cmp resource p.0) ∙ ap is_eq greater)

pub set_rows : (resource : Text) (pin : TextMap) (pins : List Entry) → Ascend pins → IsPermutation (map pin_row (with_pin resource pin pins)) (pin_row (resource, pin) ∷ without (Words resource) (map pin_row pins))
set_rows resource pin pins h =
    IsPermutation-trans (map pin_row (with_pin resource pin pins)) (pin_row (resource, pin) ∷ map pin_row (without_pin resource pins)) (pin_row (resource, pin) ∷ without (Words resource) (map pin_row pins))
    (IsPermutation-map pin_row (with_pin resource pin pins) ((resource, pin) ∷ without_pin resource pins) (set_pin resource pin pins h))
    (IsPermutation-same _ _ (ap (λ rows. pin_row (resource, pin) ∷ rows) (sym (without_rows resource pins))))
