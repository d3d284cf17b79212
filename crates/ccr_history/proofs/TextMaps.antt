-- Maps from texts to texts, as JSON objects.
use Rattle.std.proofs.Common.{◌≡◌, ℕ, suc, ◌≤◌, List, [], ◌∷◌, true, false, ◌&&◌, Option, Some, None, refl, ap, ◌∙◌, map, is_some, option_map, option_and_then, unwrap_or, string_bytes, String, Global, Ok, Err, Result, IsErrOf, sym, arith}
use Rattle.std.specs.Prelude.{IsErrAnd}
use Rattle.std.specs.List.{list_all, AllByRecursion}
use Rattle.std.specs.Map.{keys_of, values_of}
use Rattle.std.specs.String.{string_cmp}
use Rattle.std.specs.declared.cmp.Ordering.TheVariants.{Less}
use Rattle.std.specs.Ordering.{nat_cmp}
use Rattle.std.specs.Cmp.Lexicographic.{slice_cmp}
use Rattle.std.specs.List.Sorted.{IsStrictlySortedBy}
use Rattle.serde_json.specs.declared.value.Value.{Value}
use Rattle.serde_json.specs.Data.{Data, null, boolean, number, string, array, object, Members, no_members, member, depth, members_depth}
use Rattle.serde_json.specs.Find.{as_object, as_str}
use Rattle.serde_json.specs.Read.{read, max_depth}
use Rattle.serde_json.specs.View.{view, members_view}
use Rattle.serde_json.specs.Written.{compact_text, has_float, members_have_float}
use Rattle.ccr_history.specs.TextMap.{TextMap, texts_of, text_map_of, members_of, key_text, fields_in, IsKey, IsAscending}
use Rattle.ccr_history.specs.declared.fault.HistoryFault.{HistoryFault}
use Rattle.ccr_history.specs.declared.fault.HistoryFault.TheVariants.{VersionNotText, NoMemory}
use Rattle.ccr_history.specs.Members.{is_text}

-- the members of a JSON object as the code holds them
abbrev pub Entries : Type 0
Entries = List (String Global × Value)

-- with one more text in front there are fields exactly where there were
some_more : (k : List ℕ) (o : Option (List ℕ)) (rest : Option TextMap) → is_some (option_and_then (λ text. option_map (λ fields. (k, text) ∷ fields) rest) o) ≡ (is_some o && is_some rest)
some_more k None rest = refl
some_more k (Some t) None = refl
some_more k (Some t) (Some fs) = refl

pub is_some-texts_of : (es : Entries) → is_some (texts_of (members_view es)) ≡ list_all (λ member. is_text (view member)) (values_of es)
is_some-texts_of [] = refl
is_some-texts_of (e ∷ es) = some_more (string_bytes e.0) (as_str (view e.1)) (texts_of (members_view es)) ∙ ap (λ b. is_text (view e.1) && b) (is_some-texts_of es)

none_of : (o : Option TextMap) → is_some o ≡ false → o ≡ None
none_of None e = refl
none_of (Some fs) e = cc

some_of : (o : Option TextMap) → is_some o ≡ true → (fs : TextMap) × (o ≡ Some fs)
some_of None e = cc
some_of (Some fs) e = (fs, refl)

-- an object with a field that isn't a text is no map of texts
pub text_map_of-none : (d : Data) (es : Entries) → Some (members_view es) ≡ as_object d → list_all (λ member. is_text (view member)) (values_of es) ≡ false → text_map_of d ≡ None
text_map_of-none d es e not = rw (← e) (none_of (texts_of (members_view es)) (is_some-texts_of es ∙ not))

-- an object whose fields are all texts is one
pub texts_of-some : (es : Entries) → list_all (λ member. is_text (view member)) (values_of es) ≡ true → (fs : TextMap) × (texts_of (members_view es) ≡ Some fs)
texts_of-some es all = some_of (texts_of (members_view es)) (is_some-texts_of es ∙ all)

pub text_map_of-some : (d : Data) (es : Entries) (fs : TextMap) → Some (members_view es) ≡ as_object d → texts_of (members_view es) ≡ Some fs → text_map_of d ≡ Some fs
text_map_of-some d es fs e is = rw (← e) is

-- the object with the fields of a map of texts
text_of : (d : Data) (t : List ℕ) → as_str d ≡ Some t → d ≡ string t
text_of null t e = cc
text_of (boolean b) t e = cc
text_of (number n) t e = cc
text_of (string s) t e = cc
text_of (array ds) t e = cc
text_of (object ms) t e = cc

-- taking a first field apart
first_field : (k : List ℕ) (o : Option (List ℕ)) (rest : Option TextMap) (fs : TextMap) → option_and_then (λ text. option_map (λ fields. (k, text) ∷ fields) rest) o ≡ Some fs → (t : List ℕ) × (more : TextMap) × (o ≡ Some t) × (rest ≡ Some more) × (fs ≡ (k, t) ∷ more)
first_field k None rest fs e = cc
first_field k (Some t) None fs e = cc
first_field k (Some t) (Some more) fs e = (t, more, refl, refl, cc)

member_again : (k : List ℕ) (d : Data) (ms : Members) (fs : TextMap) (t : List ℕ) (more : TextMap) → as_str d ≡ Some t → fs ≡ (k, t) ∷ more → ms ≡ members_of more → member k d ms ≡ members_of fs
member_again k d ms fs t more is at rest = rw (at, text_of d t is, ← rest) refl

-- members that are all texts are those of their fields
pub members_of-texts_of : (ms : Members) (fs : TextMap) → texts_of ms ≡ Some fs → ms ≡ members_of fs
members_of-texts_of no_members fs e = let h : fs ≡ [] = cc in rw h refl
members_of-texts_of (member k d ms) fs e =
    let f = first_field k (as_str d) (texts_of ms) fs e in
    member_again k d ms fs f.0 f.1 f.2 f.4 (members_of-texts_of ms f.1 f.3)

no_float : (fs : TextMap) → members_have_float (members_of fs) ≡ false
no_float [] = refl
no_float (f ∷ fs) = no_float fs

flat : (fs : TextMap) → members_depth (members_of fs) ≡ 0
flat [] = refl
flat (f ∷ fs) = rw (flat fs) refl

-- a map of texts is an object, that of its fields
pub object-members_of : (d : Data) (fs : TextMap) → text_map_of d ≡ Some fs → d ≡ object (members_of fs)
object-members_of null fs e = cc
object-members_of (boolean b) fs e = cc
object-members_of (number n) fs e = cc
object-members_of (string s) fs e = cc
object-members_of (array ds) fs e = cc
object-members_of (object ms) fs e = ap object (members_of-texts_of ms fs e)

-- ---- the order of the keys

same_less : (k : String Global) (ks : List (String Global)) → AllByRecursion (λ l. string_cmp k l ≡ Less) ks → AllByRecursion (λ t. slice_cmp nat_cmp (string_bytes k) t ≡ Less) (map string_bytes ks)
same_less k [] h = h
same_less k (l ∷ ks) h = (h.0, same_less k ks h.1)

sorted_texts : (ks : List (String Global)) → IsStrictlySortedBy string_cmp ks → IsStrictlySortedBy (slice_cmp nat_cmp) (map string_bytes ks)
unfolding IsStrictlySortedBy
sorted_texts [] h = h
sorted_texts (k ∷ ks) h = (same_less k ks h.0, sorted_texts ks h.1)

keys_again : (e : String Global × Value) (es : Entries) (fs : TextMap) (t : List ℕ) (more : TextMap) → fs ≡ (string_bytes e.0, t) ∷ more → map string_bytes (keys_of es) ≡ map (λ field. field.0) more → map string_bytes (keys_of (e ∷ es)) ≡ map (λ field. field.0) fs
keys_again e es fs t more at rest = rw (at, rest) refl

keys_of-texts_of : (es : Entries) (fs : TextMap) → texts_of (members_view es) ≡ Some fs → map string_bytes (keys_of es) ≡ map (λ field. field.0) fs
keys_of-texts_of [] fs e = let h : fs ≡ [] = cc in rw h refl
keys_of-texts_of (m ∷ es) fs e =
    let f = first_field (string_bytes m.0) (as_str (view m.1)) (texts_of (members_view es)) fs e in
    keys_again m es fs f.0 f.1 f.4 (keys_of-texts_of es f.1 f.3)

pub ascending : (es : Entries) (fs : TextMap) → IsStrictlySortedBy string_cmp (keys_of es) → texts_of (members_view es) ≡ Some fs → IsAscending fs
ascending es fs sorted is = rw (← keys_of-texts_of es fs is) (sorted_texts (keys_of es) sorted)

-- ---- the text of such an object, which reads as it

pub key_is : (d : Data) (fs : TextMap) (text : List ℕ) → text_map_of d ≡ Some fs → (has_float d ≡ false → text ≡ compact_text d) → text ≡ key_text fs
key_is d fs text is writes =
    let same = object-members_of d fs is in
    let float : has_float d ≡ false = ap has_float same ∙ no_float fs in
    writes float ∙ ap compact_text same

pub fields_again : (d : Data) (fs : TextMap) (text : List ℕ) → text_map_of d ≡ Some fs → (depth d ≤ max_depth → read text ≡ Some d) → fields_in text ≡ fs
unfolding fields_in
fields_again d fs text is reads =
    let same = object-members_of d fs is in
    let deep : depth d ≡ 1 = ap depth same ∙ ap suc (flat fs) in
    let within : depth d ≤ max_depth = omega (arith, deep) in
    let found : option_and_then text_map_of (read text) ≡ Some fs = ap (option_and_then text_map_of) (reads within) ∙ is in
    ap (λ o. unwrap_or o []) found

pub is_key : (fs : TextMap) (text : List ℕ) → text ≡ key_text fs → fields_in text ≡ fs → IsAscending fs → IsKey text
is_key fs text is again ascends = (is ∙ ap key_text (sym again), rw again ascends)

-- out of memory is no other fault
pub memory_alone : {T : Type 0} (r : Result T HistoryFault) → IsErrAnd r (λ fault. fault ≡ NoMemory) → IsErrOf r VersionNotText → ⊥
memory_alone (Ok v) h e = cc
memory_alone (Err f) h e = cc
