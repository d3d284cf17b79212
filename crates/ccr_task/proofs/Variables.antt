-- Variables in a list and in a map.
use Rattle.std.proofs.Common.{◌≡◌, ℕ, List, [], ◌∷◌, ◌++◌, Bool, true, false, not, cond, is_some, Less, Option, Some, None, refl, sym, ◌∙◌, ap, option_map, String, string_bytes}
use Rattle.std.proofs.lemmas.Map.Text.{is_eq-slice_cmp, btree_map_updates_text}
use Rattle.std.proofs.lemmas.Slice.Eq.{bytes_eq-Decides}
use Rattle.std.specs.BTreeMap.{get_by_text, UpdatesBy}
use Rattle.std.specs.Cmp.Lexicographic.{slice_cmp}
use Rattle.std.specs.List.{AllByRecursion}
use Rattle.std.specs.List.Sorted.{IsStrictlySortedBy}
use Rattle.std.specs.Map.{keys_of, lookup}
use Rattle.std.specs.Ordering.{nat_cmp, is_eq}
use Rattle.std.specs.Str.{bytes_eq}
use Rattle.std.specs.declared.alloc.Global.{Global}
use Rattle.ccr_pipeline.specs.Tree.{Text}
use Rattle.ccr_process.specs.Launches.{variables_of}
use Rattle.ccr_task.specs.Environment.{Variables, value_of, or_value, VariableMap, value_at, GainsNew, IsAscending, IsEnvironment}

same_way : (a b : Bool) → (a ≡ true → b ≡ true) → (b ≡ true → a ≡ true) → a ≡ b
same_way true b f g = sym (f refl)
same_way false true f g = g refl
same_way false false f g = refl

bytes_eq-swap : (xs ys : List ℕ) → bytes_eq xs ys ≡ bytes_eq ys xs
bytes_eq-swap xs ys = same_way _ _ (λ e. (bytes_eq-Decides ys xs).1 (sym ((bytes_eq-Decides xs ys).0 e))) (λ e. (bytes_eq-Decides xs ys).1 (sym ((bytes_eq-Decides ys xs).0 e)))

or_first : (b : Bool) (value : Text) (rest whole other : Option Text) → whole ≡ or_value rest other → cond b (Some value) whole ≡ or_value (cond b (Some value) rest) other
or_first true value rest whole other e = refl
or_first false value rest whole other e = e

-- what a list has, of which the first part is known
pub value_of-append : (name : Text) (vs ws : Variables) → value_of name (vs ++ ws) ≡ or_value (value_of name vs) (value_of name ws)
value_of-append name [] ws = refl
value_of-append name (v ∷ vs) ws = or_first (bytes_eq name v.0) v.1 (value_of name vs) (value_of name (vs ++ ws)) (value_of name ws) (value_of-append name vs ws)

seen : (a b : Bool) (v : String Global) (rest : Option Text) (found : Option (String Global)) → b ≡ a → rest ≡ option_map string_bytes found → cond a (Some (string_bytes v)) rest ≡ option_map string_bytes (cond b (Some v) found)
seen true b v rest found h e = rw h refl
seen false b v rest found h e = rw h e

-- a map's entries have at a name what the map has
pub value_of-entries : (name : Text) (es : List (String Global × String Global)) → value_of name (variables_of es) ≡ option_map string_bytes (lookup (λ k. is_eq (slice_cmp nat_cmp name (string_bytes k))) es)
value_of-entries name [] = refl
value_of-entries name (e ∷ es) = seen (bytes_eq name (string_bytes e.0)) (is_eq (slice_cmp nat_cmp name (string_bytes e.0))) e.1 _ _ (is_eq-slice_cmp name (string_bytes e.0)) (value_of-entries name es)

below : (x : String Global) (es : List (String Global × String Global)) → AllByRecursion (λ y. slice_cmp nat_cmp (string_bytes x) (string_bytes y) ≡ Less) (keys_of es) → AllByRecursion (λ y. slice_cmp nat_cmp (string_bytes x) y ≡ Less) (keys_of (variables_of es))
below x [] h = tt
below x (e ∷ es) h = (h.0, below x es h.1)

-- a map's entries ascend by their names
pub entries-ascend : (es : List (String Global × String Global)) → IsStrictlySortedBy (λ x y. slice_cmp nat_cmp (string_bytes x) (string_bytes y)) (keys_of es) → IsAscending (variables_of es)
unfolding IsStrictlySortedBy
entries-ascend [] h = tt
entries-ascend (e ∷ es) h = (below e.0 es h.0, entries-ascend es h.1)

one_value : (eq : Bool) (o : Option (String Global)) (v : String Global) → option_map string_bytes (cond eq (Some v) o) ≡ cond eq (Some (string_bytes v)) (option_map string_bytes o)
one_value true o v = refl
one_value false o v = refl

absent_or : (a b : Bool) (o : Option Text) (value : Text) → b ≡ a → (a ≡ true → o ≡ None) → cond a (Some value) o ≡ or_value o (cond b (Some value) None)
absent_or true b o value e h = rw (e, h refl) refl
absent_or false b None value e h = rw e refl
absent_or false b (Some w) value e h = refl

pub none_there : (o : Option (String Global)) (b : Bool) → b ≡ is_some o → not b ≡ true → o ≡ None
none_there None b e h = refl
none_there (Some s) b e h = cc

-- a map that takes a variable, whose name it hasn't
pub gains-one : (old new : VariableMap) (k v : String Global) (name value : Text) → string_bytes k ≡ name → string_bytes v ≡ value → get_by_text old name ≡ None → UpdatesBy (λ x y. slice_cmp nat_cmp (string_bytes x) (string_bytes y)) (λ q. slice_cmp nat_cmp (string_bytes k) (string_bytes q)) old new (Some v) → GainsNew old ((name, value) ∷ []) new
gains-one old new k v name value ek ev absent up cs =
    let found : value_at new cs ≡ cond (bytes_eq (string_bytes k) cs) (Some (string_bytes v)) (value_at old cs) = ap (option_map string_bytes) (btree_map_updates_text (string_bytes k) old new (Some v) up cs) ∙ one_value (bytes_eq (string_bytes k) cs) (get_by_text old cs) v in
    let none : bytes_eq name cs ≡ true → value_at old cs ≡ None = λ e. ap (λ n. value_at old n) (sym ((bytes_eq-Decides name cs).0 e)) ∙ ap (option_map string_bytes) absent in
    let told : value_at new cs ≡ cond (bytes_eq name cs) (Some value) (value_at old cs) = rw (← ek, ← ev) found in
    told ∙ absent_or (bytes_eq name cs) (bytes_eq cs name) (value_at old cs) value (bytes_eq-swap cs name) none

-- a map that has the name already keeps what it has
pub gains-none : (old : VariableMap) (v : String Global) (name value : Text) → get_by_text old name ≡ Some v → GainsNew old ((name, value) ∷ []) old
gains-none old v name value present cs = kept (bytes_eq cs name) (value_at old cs) (λ e. ap (λ n. value_at old n) ((bytes_eq-Decides cs name).0 e) ∙ ap (option_map string_bytes) present)
  where
    kept : (b : Bool) (o : Option Text) → (b ≡ true → o ≡ Some (string_bytes v)) → o ≡ or_value o (cond b (Some value) None)
    kept true o h = rw (h refl) refl
    kept false None h = refl
    kept false (Some w) h = refl

-- a map that has gained a step's variables, and then those of its config
pub environment_of : (config step : Variables) (none some all : VariableMap) → none.entries ≡ [] → GainsNew none step some → GainsNew some config all → IsStrictlySortedBy (λ x y. slice_cmp nat_cmp (string_bytes x) (string_bytes y)) (keys_of all.entries) → (es : List (String Global × String Global)) → es ≡ all.entries → IsEnvironment config step (variables_of es)
environment_of config step none some all empty first second ordered es e = rw e (record {
  ascending = entries-ascend all.entries ordered;
  values = λ name.
      let nothing : value_at none name ≡ None = rw empty refl in
      let begun : value_at some name ≡ value_of name step = first name ∙ rw nothing refl in
      value_of-entries name all.entries ∙ second name ∙ ap (λ o. or_value o (value_of name config)) begun ∙ sym (value_of-append name step config);
})
