-- What is read from the rows of a history.
use Rattle.std.proofs.Common.{◌≡◌, ℕ, pos, ◌+◌, ◌<◌, ◌≤◌, List, [], ◌∷◌, ◌++◌, length, take, drop, get_or, map, Some, option_map, Result, Ok, Err, refl, sym, ap, ap₂, ◌∙◌, subst, arith, append_assoc}
use Rattle.std.specs.Prelude.{IsErrAnd}
use Rattle.std.specs.List.{AllByRecursion, slice_get}
use Rattle.std.proofs.lemmas.List.{take_all, take_at, drop_at}
use Rattle.serde_json.specs.Data.{Data, object}
use Rattle.sqlite.specs.declared.types.Value.{Value}
use Rattle.sqlite.specs.declared.types.Value.TheVariants.{Int, Text as Words}
use Rattle.sqlite.specs.Order.{Row, column}
use Rattle.ccr_history.specs.TextMap.{TextMap, texts_of, text_map_of, members_of, key_text}
use Rattle.ccr_history.specs.Builds.{UsedData}
use Rattle.ccr_history.specs.History.{HistoryData, ArePins}
use Rattle.ccr_history.specs.Changes.{pin_set, edited, with_pin}
use Rattle.ccr_history.proofs.Links.{all-at}
use Rattle.ccr_history.proofs.PinMaps.{with_pin-last}
use Rattle.ccr_history.specs.declared.store_fault.StoreFault.{StoreFault}
use Rattle.ccr_history.specs.declared.store_fault.StoreFault.TheVariants.{NoMemory}
use Rattle.ccr_tables.specs.NamedRows.{named_row}
use Rattle.ccr_store.specs.Rows.{version_row, version_rows, used_row, moved_row, pin_row}
use Rattle.ccr_store.specs.Texts.{IsSpelled, IsTextPin, OrNoMemory}
use Rattle.ccr_store.proofs.FrontRows.{rows_length, row_there, next_item}
use Rattle.ccr_store.proofs.ListedRows as listed

pub weaker : {X : Type 0} (P Q : X → Type 0) (r : Result X StoreFault) → ((x : X) → P x → Q x) → OrNoMemory P r → OrNoMemory Q r
weaker P Q (Ok x) then h = then x h
weaker P Q (Err fault) then h = h

-- what a call that was out of memory hands on
pub handed_on : {X : Type 0} (P : X → Type 0) (r : Result X StoreFault) (fault : StoreFault) → IsErrAnd r (λ e. e ≡ fault) → fault ≡ NoMemory → OrNoMemory P r
handed_on P (Ok x) fault h is = absurd h
handed_on P (Err e) fault h is = h ∙ is

-- rows in two parts
pub split : (n : ℕ) (rest a b here more : List Row) → rest ≡ a ++ b → n ≡ length a → here ≡ take n rest → more ≡ drop n rest → (here ≡ a) × (more ≡ b)
split n rest a b here more both many front back =
    (front ∙ ap (take n) both ∙ take_at a b n (sym many), back ∙ ap (drop n) both ∙ drop_at a b n (sym many))

-- ---- versions and pins
again : (v : TextMap) → texts_of (members_of v) ≡ Some v
again [] = refl
again (field ∷ v) = ap (option_map (λ (fields : TextMap). field ∷ fields)) (again v)

-- the object with the fields of a map is that map
pub map_again : (d : Data) (v : TextMap) → d ≡ object (members_of v) → text_map_of d ≡ Some v
map_again d v is = ap text_map_of is ∙ again v

-- the version of a row
pub version_read : (scope : ℕ) (vs : List TextMap) (rows : List Row) (i : ℕ) (r : Row) → AllByRecursion IsSpelled vs → rows ≡ version_rows scope 1 vs → i < length rows → r ≡ get_or rows i r
    → (v : TextMap) × IsSpelled v × (2 < length r) × (column r 2 ≡ Words (key_text v)) × (take (i + 1) vs ≡ take i vs ++ v ∷ [])
version_read scope vs rows i r spelled same within is =
    let it = row_there (version_rows scope) (version_row scope) (λ k. refl) (λ k x xs. refl) 1 vs rows i r same within is in
    let long : 2 < length r = omega (arith, ap (λ (s : Row). length s) it.2) in
    (it.0, all-at IsSpelled vs i it.0 spelled it.1, long, ap (λ (s : Row). column s 2) it.2, next_item vs i it.0 it.1)

pub versions_whole : (scope : ℕ) (vs : List TextMap) (rows : List Row) (i : ℕ) → rows ≡ version_rows scope 1 vs → length rows ≤ i → take i vs ≡ vs
versions_whole scope vs rows i same past =
    take_all i vs (omega (arith, ap (λ (l : List Row). length l) same, rows_length (version_rows scope) (version_row scope) (λ k. refl) (λ k x xs. refl) 1 vs, past))

-- ---- pairs
abbrev words_of : Value → List ℕ
words_of (Words s) = s
words_of _ = []

abbrev number_of : Value → ℕ
number_of (Int (pos n)) = n
number_of _ = 0

pub same_words : (s t : List ℕ) → Words s ≡ Words t → s ≡ t
same_words s t e = ap words_of e

pub same_number : (m n : ℕ) → Int (pos m) ≡ Int (pos n) → m ≡ n
same_number m n e = ap number_of e

pub used_is : (id : ℕ) (u : UsedData) (r : Row) (build : ℕ) (input : List ℕ) (scope place : ℕ) → r ≡ used_row id u → r ≡ named_row build input scope place → record { input = input; scope = scope; place = place } ≡ u
used_is id u r build input scope place is known =
    let both : named_row build input scope place ≡ used_row id u = sym known ∙ is in
    let one : input ≡ u.input = same_words input u.input (ap (λ (s : Row). column s 1) both) in
    let two : scope ≡ u.scope = same_number scope u.scope (ap (λ (s : Row). column s 2) both) in
    let three : place ≡ u.place = same_number place u.place (ap (λ (s : Row). column s 3) both) in
    rw (one, two, three) refl

pub used_read : (id : ℕ) (us : List UsedData) (rows : List Row) (i : ℕ) (r : Row) → rows ≡ map (used_row id) us → i < length rows → r ≡ get_or rows i r → (u : UsedData) × (r ≡ used_row id u) × (take (i + 1) us ≡ take i us ++ u ∷ [])
used_read id us rows i r same within is =
    let it = row_there (λ k (xs : List UsedData). map (used_row id) xs) (λ k. used_row id) (λ k. refl) (λ k x xs. refl) 1 us rows i r same within is in
    (it.0, it.2, next_item us i it.0 it.1)

pub moved_is : (id : ℕ) (p : ℕ × ℕ) (r : Row) (build : ℕ) (input : List ℕ) (scope place : ℕ) → r ≡ moved_row id p → r ≡ named_row build input scope place → (scope, place) ≡ p
moved_is id p r build input scope place is known =
    let both : named_row build input scope place ≡ moved_row id p = sym known ∙ is in
    let two : scope ≡ p.0 = same_number scope p.0 (ap (λ (s : Row). column s 2) both) in
    let three : place ≡ p.1 = same_number place p.1 (ap (λ (s : Row). column s 3) both) in
    ap₂ (λ (m n : ℕ). (m, n)) two three

pub moved_read : (id : ℕ) (ps : List (ℕ × ℕ)) (rows : List Row) (i : ℕ) (r : Row) → rows ≡ map (moved_row id) ps → i < length rows → r ≡ get_or rows i r → (p : ℕ × ℕ) × (r ≡ moved_row id p) × (take (i + 1) ps ≡ take i ps ++ p ∷ [])
moved_read id ps rows i r same within is =
    let it = row_there (λ k (xs : List (ℕ × ℕ)). map (moved_row id) xs) (λ k. moved_row id) (λ k. refl) (λ k x xs. refl) 1 ps rows i r same within is in
    (it.0, it.2, next_item ps i it.0 it.1)

-- ---- pins
pub pin_read : (ps : List (List ℕ × TextMap)) (rows : List Row) (i : ℕ) (r : Row) → ArePins ps → AllByRecursion IsTextPin ps → rows ≡ map pin_row ps → i < length rows → r ≡ get_or rows i r
    → (p : List ℕ × TextMap) × IsTextPin p × (r ≡ pin_row p) × (with_pin p.0 p.1 (take i ps) ≡ take (i + 1) ps)
pin_read ps rows i r rules texts same within is =
    let it = row_there (λ k (xs : List (List ℕ × TextMap)). map pin_row xs) (λ k. pin_row) (λ k. refl) (λ k x xs. refl) 1 ps rows i r same within is in
    let whole : take i ps ++ it.0 ∷ drop (i + 1) ps ≡ ps = ap (λ (l : List (List ℕ × TextMap)). take i ps ++ l) (sym (listed.drop_at ps i it.0 it.1)) ∙ Rattle.std.proofs.lemmas.List.take-append-drop i ps in (
      it.0,
      all-at IsTextPin ps i it.0 texts it.1,
      it.2,
      with_pin-last it.0.0 it.0.1 (take i ps) (drop (i + 1) ps) (subst (λ (l : List (List ℕ × TextMap)). Rattle.std.specs.List.Sorted.IsStrictlySortedBy (Rattle.std.specs.Cmp.Lexicographic.slice_cmp Rattle.std.specs.Ordering.nat_cmp) (map (λ p. p.0) l)) (sym whole) rules.0)
          ∙ sym (next_item ps i it.0 it.1),
    )

pub pins_set : (h new : HistoryData) (at : HistoryData) (p : List ℕ × TextMap) (before after : List (List ℕ × TextMap)) → at ≡ record h { pins = before } → new ≡ edited (pin_set p.0 p.1) at → with_pin p.0 p.1 before ≡ after → new ≡ record h { pins = after }
pins_set h new at p before after was now is =
    now ∙ ap (edited (pin_set p.0 p.1)) was ∙ ap (λ (l : List (List ℕ × TextMap)). record h { pins = l }) is

-- two parts of a list, and the rest
pub in_parts : (rows first rest second more a b m : List Row) (n k : ℕ) → rows ≡ (a ++ b) ++ m → first ≡ take n rows → rest ≡ drop n rows → n ≡ length a → second ≡ take k rest → more ≡ drop k rest → k ≡ length b → (first ≡ a) × (second ≡ b) × (more ≡ m)
in_parts rows first rest second more a b m n k both front back many front' back' many' =
    let one = split n rows a (b ++ m) first rest (both ∙ append_assoc a b m) many front back in
    let two = split k rest b m second more one.1 many' front' back' in
    (one.0, two.0, two.1)
