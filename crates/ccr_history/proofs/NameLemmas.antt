-- Names, by the bytes of a set's keys.
use Rattle.std.proofs.Common.{◌≡◌, ℕ, zero, suc, ◌+◌, ◌<◌, List, [], ◌∷◌, ◌++◌, map, length, take, get_or, slice_get, Bool, true, false, cond, ◌||◌, Option, Some, None, position, refl, sym, ap, ◌∙◌, subst, arith, append-nil, append_assoc, String, Global, string_bytes, string_eq, bytes_eq}
use Rattle.std.specs.List.{AllByRecursion, IsDistinct, list_any}
use Rattle.std.proofs.lemmas.List.{length-map, map_push, take_more, get_or-take, length-take-le}
use Rattle.std.proofs.lemmas.List.Quantifiers.{position-Some}
use Rattle.std.proofs.lemmas.List.Folds.{list_any_none}
use Rattle.std.proofs.lemmas.Map.Keys.{apart_from_distinct, any_passes_from_place}
use Rattle.std.proofs.lemmas.Cmp.{nat_list_eq_equiv}
use Rattle.std.proofs.lemmas.Option.{slice_get-map, slice_get-get_or}
use Rattle.std.proofs.lemmas.Slice.Eq.{bytes_eq-Decides}
use Rattle.indexmap.specs.IndexSet.{insert_key}
use Rattle.ccr_history.specs.Text.{Text}
use Rattle.ccr_history.specs.Names.{texts_of, has_name, with_name, AreApart, HasMore}

pub has_name-by_text : (name : Text) (keys : List (String Global)) → list_any (λ k. bytes_eq name (string_bytes k)) keys ≡ has_name (texts_of keys) name
has_name-by_text name [] = refl
has_name-by_text name (k ∷ ks) = ap (λ b. bytes_eq name (string_bytes k) || b) (has_name-by_text name ks)

by_case : (b : Bool) (keys : List (String Global)) (k : String Global) → texts_of (cond b keys (keys ++ k ∷ [])) ≡ cond b (texts_of keys) (texts_of keys ++ string_bytes k ∷ [])
by_case true keys k = refl
by_case false keys k = map_push string_bytes keys k

pub texts_of-insert_key : (keys : List (String Global)) (k : String Global) → texts_of (insert_key string_eq keys k) ≡ with_name (texts_of keys) (string_bytes k)
texts_of-insert_key keys k =
    by_case (list_any (string_eq k) keys) keys k
    ∙ ap (λ b. cond b (texts_of keys) (texts_of keys ++ string_bytes k ∷ [])) (has_name-by_text (string_bytes k) keys)

all-texts : (P : Text → Type 0) (keys : List (String Global)) → AllByRecursion (λ k. P (string_bytes k)) keys → AllByRecursion P (texts_of keys)
all-texts P [] all = tt
all-texts P (k ∷ ks) all = (all.0, all-texts P ks all.1)

distinct_texts : (keys : List (String Global)) → IsDistinct string_eq keys → IsDistinct bytes_eq (texts_of keys)
unfolding IsDistinct
distinct_texts [] apart = tt
distinct_texts (k ∷ ks) apart = (all-texts (λ t. bytes_eq (string_bytes k) t ≡ false) ks apart.0, distinct_texts ks apart.1)

pub apart_texts : (keys : List (String Global)) → IsDistinct string_eq keys → AreApart (texts_of keys)
apart_texts keys apart i j d lt h = apart_from_distinct bytes_eq (texts_of keys) i j d (distinct_texts keys apart) lt h

-- the text that a look-up found
pub text_at_position : (name : Text) (keys : List (String Global)) (i : ℕ) → position (λ k. bytes_eq name (string_bytes k)) keys ≡ Some i → slice_get (texts_of keys) i ≡ Some name
text_at_position name [] i e = absurd (cc)
text_at_position name (k ∷ ks) i e =
    let found = position-Some (λ k. bytes_eq name (string_bytes k)) (k ∷ ks) i k e in
    slice_get-map string_bytes (k ∷ ks) i
    ∙ ap (Rattle.std.proofs.Common.option_map string_bytes) (slice_get-get_or (k ∷ ks) i k found.0)
    ∙ ap (λ t. Some t) (sym ((bytes_eq-Decides name (string_bytes (get_or (k ∷ ks) i k))).0 found.1))

-- a name that is there isn't added again
pub with_name-there : (names : List Text) (n : ℕ) (name : Text) → slice_get names n ≡ Some name → with_name names name ≡ names
with_name-there names n name at =
    ap (λ b. cond b names (names ++ name ∷ [])) (any_passes_from_place (bytes_eq name) names n name at ((bytes_eq-Decides name name).1 refl))

pub with_name-new : (names : List Text) (name : Text) → has_name names name ≡ false → with_name names name ≡ names ++ name ∷ []
with_name-new names name new = ap (λ b. cond b names (names ++ name ∷ [])) new

pub slice_get_last : {X : Type 0} (xs : List X) (y : X) → slice_get (xs ++ y ∷ []) (length xs) ≡ Some y
slice_get_last [] y = refl
slice_get_last (x ∷ xs) y = slice_get_last xs y

-- one more of texts that differ
pub with_name-more : (keys : List (String Global)) (i : ℕ) (k : String Global) → IsDistinct string_eq keys → i < length keys → k ≡ get_or keys i k
    → with_name (texts_of (take i keys)) (string_bytes k) ≡ texts_of (take (i + 1) keys)
with_name-more keys i k apart lt e =
    let few = length-take-le i keys (omega arith) in
    let new : list_any (λ j. bytes_eq (string_bytes k) (string_bytes j)) (take i keys) ≡ false =
    list_any_none (λ j. bytes_eq (string_bytes k) (string_bytes j)) (take i keys)
    (λ n d h.
    let below : n < i = omega arith in
    ap (λ j. bytes_eq (string_bytes k) (string_bytes j)) (get_or-take i keys n d below)
    ∙ nat_list_eq_equiv.symm (string_bytes k) (string_bytes (get_or keys n d))
    ∙ ap (λ j. bytes_eq (string_bytes (get_or keys n d)) (string_bytes j)) (e ∙ Rattle.std.proofs.lemmas.List.get_or_default keys i k d lt)
    ∙ apart_from_distinct string_eq keys n i d apart below lt) in
    with_name-new (texts_of (take i keys)) (string_bytes k) (sym (has_name-by_text (string_bytes k) (take i keys)) ∙ new)
    ∙ sym (ap texts_of (take_more keys i k lt) ∙ map_push string_bytes (take i keys) (get_or keys i k) ∙ ap (λ j. texts_of (take i keys) ++ string_bytes j ∷ []) (sym e))

-- ---- more names
pub HasMore-same : (names more : List Text) → more ≡ names → HasMore names more
HasMore-same names more e = ([], e ∙ sym (append-nil names))

pub HasMore-trans : (a b c : List Text) → HasMore a b → HasMore b c → HasMore a c
HasMore-trans a b c p q = (p.0 ++ q.0, q.1 ∙ ap (λ l. l ++ q.0) p.1 ∙ append_assoc a p.0 q.0)

pub HasMore-with_name : (names : List Text) (name : Text) → HasMore names (with_name names name)
HasMore-with_name names name = by (has_name names name)
  where
    by : (b : Bool) → HasMore names (cond b names (names ++ name ∷ []))
    by true = ([], sym (append-nil names))
    by false = (name ∷ [], refl)
