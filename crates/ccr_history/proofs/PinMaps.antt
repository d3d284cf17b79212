-- What a map of pins holds after a call.
use Rattle.std.proofs.Common.{◌≡◌, List, [], ◌∷◌, ◌++◌, map, Bool, true, false, not, cond, bytes_eq, nat_cmp, is_eq, Ordering, Less, Equal, Greater, String, Global, string_bytes, string_cmp, Option, Some, refl, sym, ap, ◌∙◌, subst, append_assoc}
use Rattle.std.specs.BTreeMap.{insert_entry, is_at}
use Rattle.std.specs.Map.{lookup, remove_entry}
use Rattle.std.specs.List.{AllByRecursion}
use Rattle.std.specs.List.Sorted.{IsStrictlySortedBy}
use Rattle.std.specs.Ordering.{match_ordering, ordering_reverse}
use Rattle.std.specs.Cmp.Lexicographic.{slice_cmp}
use Rattle.std.proofs.lemmas.Bool.{cond-true}
use Rattle.std.proofs.lemmas.Cmp.{nat_list_cmp_total}
use Rattle.std.proofs.lemmas.Map.Text.{is_eq-slice_cmp}
use Rattle.std.proofs.lemmas.Slice.Eq.{bytes_eq-Decides}
use Rattle.ccr_history.specs.Text.{Text}
use Rattle.ccr_history.specs.TextMap.{TextMap, IsAscending}
use Rattle.ccr_history.specs.History.{ArePins}
use Rattle.ccr_history.specs.Changes.{with_pin, without_pin, pin_of}
use Rattle.ccr_history.specs.Pins.{pins_of}
use Rattle.ccr_history.proofs.PinLaws.{Ascend, pin_kept}

abbrev Entries : Type 0
Entries = List (String Global × TextMap)

-- the bytes of a text stand at this key
abbrev at_text : Text → String Global → Bool
at_text bytes = is_at (λ k. slice_cmp nat_cmp bytes (string_bytes k))

-- ---- a pin that is set
pins_of-insert_entry : (k : String Global) (pin : TextMap) (es : Entries) → pins_of (insert_entry string_cmp es k pin) ≡ with_pin (string_bytes k) pin (pins_of es)
pins_of-insert_entry k pin [] = refl
pins_of-insert_entry k pin (e ∷ es) = at (string_cmp k e.0) (insert_entry string_cmp es k pin) (with_pin (string_bytes k) pin (pins_of es)) (pins_of-insert_entry k pin es)
  where
    at : (o : Ordering) (more : Entries) (rest : List (Text × TextMap)) → pins_of more ≡ rest
        → pins_of (match_ordering o ((k, pin) ∷ e ∷ es) ((e.0, pin) ∷ es) (e ∷ more)) ≡ match_ordering o ((string_bytes k, pin) ∷ pins_of (e ∷ es)) ((string_bytes e.0, pin) ∷ pins_of es) ((string_bytes e.0, e.1) ∷ rest)
    at Less more rest same = refl
    at Equal more rest same = refl
    at Greater more rest same = ap (λ l. (string_bytes e.0, e.1) ∷ l) same

-- the entries after a pin is put at a key hold the pins with it, which keep their rules
pub pinned : (k : String Global) (resource : Text) (pin : TextMap) (es fs : Entries) → fs ≡ insert_entry string_cmp es k pin → string_bytes k ≡ resource → ArePins (pins_of es) → IsAscending pin
    → (pins_of fs ≡ with_pin resource pin (pins_of es)) × ArePins (pins_of fs)
pinned k resource pin es fs entries name rules up =
    let is : pins_of fs ≡ with_pin resource pin (pins_of es) =
    ap pins_of entries ∙ pins_of-insert_entry k pin es ∙ ap (λ (t : Text). with_pin t pin (pins_of es)) name in
    (is, rw is (pin_kept resource pin (pins_of es) rules up))

-- ---- a pin that is found
pub lookup-pin_of : (bytes : Text) (es : Entries) → lookup (at_text bytes) es ≡ pin_of bytes (pins_of es)
lookup-pin_of bytes [] = refl
lookup-pin_of bytes (e ∷ es) =
    ap (λ (b : Bool). cond b (Some e.1) (lookup (at_text bytes) es)) (is_eq-slice_cmp bytes (string_bytes e.0))
    ∙ ap (λ (o : Option TextMap). cond (bytes_eq bytes (string_bytes e.0)) (Some e.1) o) (lookup-pin_of bytes es)

-- ---- a pin that is cleared
kept_all : (bytes : Text) (pins : List (Text × TextMap)) → AllByRecursion (λ k. slice_cmp nat_cmp bytes k ≡ Less) (map (λ p. p.0) pins) → without_pin bytes pins ≡ pins
kept_all bytes [] h = refl
kept_all bytes (p ∷ ps) h =
    let other : bytes_eq bytes p.0 ≡ false = sym (is_eq-slice_cmp bytes p.0) ∙ ap is_eq h.0 in
    cond-true (not (bytes_eq bytes p.0)) (p ∷ without_pin bytes ps) (without_pin bytes ps) (ap not other) ∙ ap (λ l. p ∷ l) (kept_all bytes ps h.1)

cleared_if : (here : Bool) (e : String Global × TextMap) (es left : Entries) (pins : List (Text × TextMap)) → (here ≡ true → pins ≡ pins_of es) → pins_of left ≡ pins
    → pins_of (cond here es (e ∷ left)) ≡ cond (not here) ((string_bytes e.0, e.1) ∷ pins) pins
cleared_if true e es left pins first same = sym (first refl)
cleared_if false e es left pins first same = ap (λ l. (string_bytes e.0, e.1) ∷ l) same

pub pins_of-remove_entry : (bytes : Text) (es : Entries) → Ascend (pins_of es) → pins_of (remove_entry (at_text bytes) es) ≡ without_pin bytes (pins_of es)
unfolding IsStrictlySortedBy
pins_of-remove_entry bytes [] h = refl
pins_of-remove_entry bytes (e ∷ es) h =
    let above : bytes_eq bytes (string_bytes e.0) ≡ true → AllByRecursion (λ k. slice_cmp nat_cmp bytes k ≡ Less) (map (λ p. p.0) (pins_of es)) =
    λ here. subst (λ (t : Text). AllByRecursion (λ k. slice_cmp nat_cmp t k ≡ Less) (map (λ p. p.0) (pins_of es))) (sym ((bytes_eq-Decides bytes (string_bytes e.0)).0 here)) h.0 in
    ap (λ (b : Bool). pins_of (cond b es (e ∷ remove_entry (at_text bytes) es))) (is_eq-slice_cmp bytes (string_bytes e.0))
    ∙ cleared_if (bytes_eq bytes (string_bytes e.0)) e es (remove_entry (at_text bytes) es) (without_pin bytes (pins_of es)) (λ here. kept_all bytes (pins_of es) (above here)) (pins_of-remove_entry bytes es h.1)

-- ---- pins that are copied in order
last_of : (P : Text → Type 0) (pins : List (Text × TextMap)) (k : Text) (pin : TextMap) (more : List (Text × TextMap)) → AllByRecursion P (map (λ p. p.0) (pins ++ (k, pin) ∷ more)) → P k
last_of P [] k pin more h = h.0
last_of P (p ∷ ps) k pin more h = last_of P ps k pin more h.1

-- a pin that comes behind all others comes to their end
pub with_pin-last : (k : Text) (pin : TextMap) (pins more : List (Text × TextMap)) → Ascend (pins ++ (k, pin) ∷ more) → with_pin k pin pins ≡ pins ++ (k, pin) ∷ []
unfolding IsStrictlySortedBy
with_pin-last k pin [] more h = refl
with_pin-last k pin (p ∷ ps) more h =
    let less : slice_cmp nat_cmp p.0 k ≡ Less = last_of (λ t. slice_cmp nat_cmp p.0 t ≡ Less) ps k pin more h.0 in
    let greater : slice_cmp nat_cmp k p.0 ≡ Greater = nat_list_cmp_total.antisymm k p.0 ∙ ap ordering_reverse less in
    ap (λ (o : Ordering). match_ordering o ((k, pin) ∷ p ∷ ps) ((p.0, pin) ∷ ps) (p ∷ with_pin k pin ps)) greater
    ∙ ap (λ l. p ∷ l) (with_pin-last k pin ps more h.1)

-- what was copied, with the next pin and those that are left, are the pins still
pub with_pin-next : (pins rest all : List (Text × TextMap)) (k : Text) (pin : TextMap) → Ascend all → pins ++ (k, pin) ∷ rest ≡ all → with_pin k pin pins ++ rest ≡ all
with_pin-next pins rest all k pin up is =
    let last : with_pin k pin pins ≡ pins ++ (k, pin) ∷ [] = with_pin-last k pin pins rest (subst Ascend (sym is) up) in
    ap (λ l. l ++ rest) last ∙ append_assoc pins ((k, pin) ∷ []) rest ∙ is
