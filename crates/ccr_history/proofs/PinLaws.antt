-- A pin that is set and one that is cleared keep the rules of pins.
use Rattle.std.proofs.Common.{◌≡◌, List, [], ◌∷◌, map, not, bytes_eq, nat_cmp, Less, Equal, ap, ◌∙◌}
use Rattle.std.specs.List.{AllByRecursion}
use Rattle.std.specs.List.Sorted.{IsStrictlySortedBy}
use Rattle.std.specs.Ordering.{ordering_reverse}
use Rattle.std.specs.Cmp.Lexicographic.{slice_cmp}
use Rattle.std.proofs.lemmas.Bool.{cond_both}
use Rattle.std.proofs.lemmas.Cmp.{nat_list_cmp_total}
use Rattle.ccr_history.specs.Text.{Text}
use Rattle.ccr_history.specs.TextMap.{TextMap, IsAscending}
use Rattle.ccr_history.specs.History.{ArePins}
use Rattle.ccr_history.specs.Changes.{with_pin, without_pin}
use Rattle.ccr_history.proofs.Lists.{each_weaker, each_map, each_from_map, match_each}

abbrev pub Entry : Type 0
Entry = Text × TextMap

abbrev pub Ascend : List Entry → Type 0
Ascend pins = IsStrictlySortedBy (slice_cmp nat_cmp) (map (λ p. p.0) pins)

pub no_pins : ArePins []
unfolding IsStrictlySortedBy
no_pins = (tt, tt)

-- ---- a pin that is set
with_pin-each : (P : Entry → Type 0) (resource : Text) (pin : TextMap) (pins : List Entry) → ((p : Entry) → P p → slice_cmp nat_cmp resource p.0 ≡ Equal → P (p.0, pin)) → P (resource, pin) → AllByRecursion P pins → AllByRecursion P (with_pin resource pin pins)
with_pin-each P resource pin [] at one h = (one, tt)
with_pin-each P resource pin (p ∷ ps) at one h =
    match_each (AllByRecursion P) (slice_cmp nat_cmp resource p.0) ((resource, pin) ∷ p ∷ ps) ((p.0, pin) ∷ ps) (p ∷ with_pin resource pin ps)
    (λ _. (one, h)) (λ equal. (at p h.0 equal, h.1)) (λ _. (h.0, with_pin-each P resource pin ps at one h.1))

with_pin-ascends : (resource : Text) (pin : TextMap) (pins : List Entry) → Ascend pins → Ascend (with_pin resource pin pins)
unfolding IsStrictlySortedBy
with_pin-ascends resource pin [] h = (tt, tt)
with_pin-ascends resource pin (p ∷ ps) h =
    match_each Ascend (slice_cmp nat_cmp resource p.0) ((resource, pin) ∷ p ∷ ps) ((p.0, pin) ∷ ps) (p ∷ with_pin resource pin ps)
    (λ less. ((less, each_weaker (λ k. slice_cmp nat_cmp p.0 k ≡ Less) (λ k. slice_cmp nat_cmp resource k ≡ Less) (λ k more. nat_list_cmp_total.trans resource p.0 k less more) (map (λ q. q.0) ps) h.0), h))
    (λ _. h)
    (λ greater. (
      each_map (λ q. slice_cmp nat_cmp p.0 q.0 ≡ Less) (λ k. slice_cmp nat_cmp p.0 k ≡ Less) (λ q. q.0) (λ q e. e) (with_pin resource pin ps)
          (with_pin-each (λ q. slice_cmp nat_cmp p.0 q.0 ≡ Less) resource pin ps (λ q e _. e) (nat_list_cmp_total.antisymm p.0 resource ∙ ap ordering_reverse greater)
          (each_from_map (λ q. slice_cmp nat_cmp p.0 q.0 ≡ Less) (λ k. slice_cmp nat_cmp p.0 k ≡ Less) (λ q. q.0) (λ q e. e) ps h.0)),
      with_pin-ascends resource pin ps h.1,
    ))

pub pin_kept : (resource : Text) (pin : TextMap) (pins : List Entry) → ArePins pins → IsAscending pin → ArePins (with_pin resource pin pins)
pin_kept resource pin pins h up =
    (with_pin-ascends resource pin pins h.0, with_pin-each (λ p. IsAscending p.1) resource pin pins (λ _ _ _. up) up h.1)

-- ---- a pin that is cleared
without_pin-each : (P : Entry → Type 0) (resource : Text) (pins : List Entry) → AllByRecursion P pins → AllByRecursion P (without_pin resource pins)
without_pin-each P resource [] h = tt
without_pin-each P resource (p ∷ ps) h =
    cond_both (not (bytes_eq resource p.0)) (p ∷ without_pin resource ps) (without_pin resource ps) (AllByRecursion P)
    (λ _. (h.0, without_pin-each P resource ps h.1)) (λ _. without_pin-each P resource ps h.1)

without_pin-ascends : (resource : Text) (pins : List Entry) → Ascend pins → Ascend (without_pin resource pins)
unfolding IsStrictlySortedBy
without_pin-ascends resource [] h = tt
without_pin-ascends resource (p ∷ ps) h =
    cond_both (not (bytes_eq resource p.0)) (p ∷ without_pin resource ps) (without_pin resource ps) Ascend
    (λ _. (
      each_map (λ q. slice_cmp nat_cmp p.0 q.0 ≡ Less) (λ k. slice_cmp nat_cmp p.0 k ≡ Less) (λ q. q.0) (λ q e. e) (without_pin resource ps)
          (without_pin-each (λ q. slice_cmp nat_cmp p.0 q.0 ≡ Less) resource ps
          (each_from_map (λ q. slice_cmp nat_cmp p.0 q.0 ≡ Less) (λ k. slice_cmp nat_cmp p.0 k ≡ Less) (λ q. q.0) (λ q e. e) ps h.0)),
      without_pin-ascends resource ps h.1,
    ))
    (λ _. without_pin-ascends resource ps h.1)

pub cleared_kept : (resource : Text) (pins : List Entry) → ArePins pins → ArePins (without_pin resource pins)
cleared_kept resource pins h = (without_pin-ascends resource pins h.0, without_pin-each (λ p. IsAscending p.1) resource pins h.1)
