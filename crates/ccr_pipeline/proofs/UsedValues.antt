-- What is broken in an object is broken in it without its unused keys.
use Rattle.std.proofs.Common.{◌≡◌, ℕ, zero, suc, ◌+◌, List, [], ◌∷◌, ◌++◌, Bool, true, false, not, ◌&&◌, Option, Some, None, refl, ap, ap₂, ◌∙◌, append_assoc, option_and_then, option_map, is_some, codes, if◌then◌else◌}
use Rattle.std.proofs.lemmas.Slice.Eq.{bytes_eq-Decides}
use Rattle.std.specs.Str.{bytes_eq}
use Rattle.serde_json.specs.Data.{Data, array, object, Items, no_items, item}
use Rattle.serde_json.specs.Find.{as_str, as_array}
use Rattle.ccr_pipeline.specs.declared.schema.Kind.{Kind}
use Rattle.ccr_pipeline.specs.declared.schema.Kind.TheVariants as kind
use Rattle.ccr_pipeline.specs.declared.schema.Need.{Need}
use Rattle.ccr_pipeline.specs.declared.schema.Need.TheVariants.{New}
use Rattle.ccr_pipeline.specs.declared.schema.Schema.{Schema}
use Rattle.ccr_pipeline.specs.declared.schema.Schema.TheVariants as schema
use Rattle.ccr_pipeline.specs.Faults.{Path}
use Rattle.ccr_pipeline.specs.Keys.{at_key, or_else, items_in, path_below, path_at}
use Rattle.ccr_pipeline.specs.Names.{text_at}
use Rattle.ccr_pipeline.specs.Objects.{Test, broken, absent, once, once_names, row_names, new_names, row_faults, key_faults, object_faults, each_object, inside, value_faults}
use Rattle.ccr_pipeline.specs.Schema.{Row, opening, closing, has_row}
use Rattle.ccr_pipeline.specs.Used.{kept, kind_in, kind_at, used, used_items}
use Rattle.ccr_pipeline.proofs.Joined.{and_first, and_last, or_first, or_last}
use Rattle.ccr_pipeline.proofs.UsedKeys.{used_like, at_used, plain, at_same}

-- two objects have the same name, where a value of the kind asks for it
abbrev SameOwner : Kind → Data → Data → Type 0
SameOwner kind.OwnName e d = text_at (codes "name") e ≡ text_at (codes "name") d
SameOwner _ e d = Unit {0}

-- the keys of the rows are none of those before them, and no two are one
abbrev are_new : List Row → List Row → Bool
are_new before [] = true
are_new before (r ∷ rs) = not (has_row before r.2) && are_new (before ++ r ∷ []) rs

abbrev is_name : Option Kind → Bool
is_name (Some kind.Name) = true
is_name _ = false

kind_there : (before after : List Row) (r : Row) → has_row before r.2 ≡ false → kind_in (before ++ r ∷ after) r.2 ≡ Some r.1
kind_there [] after r e = rw ((bytes_eq-Decides r.2 r.2).1 refl) refl
kind_there (b ∷ before) after r e =
    rw (or_first (bytes_eq b.2 r.2) _ e) (kind_there before after r (or_last (bytes_eq b.2 r.2) _ e))

is_named : (o : Option Kind) → is_name o ≡ true → o ≡ Some kind.Name
is_named (Some kind.Name) e = refl
is_named (Some _) e = absurd (cc (e))
is_named None e = absurd (cc (e))

is_not : (b : Bool) → not b ≡ true → b ≡ false
is_not true e = absurd (cc (e))
is_not false e = refl

module _ (timed : Bool) where
  -- objects of the schema have a name, where a value of the kind asks for it
  abbrev Owns : Schema → Kind → Type 0
  Owns s kind.OwnName = kind_at timed s (codes "name") ≡ Some kind.Name
  Owns s _ = Unit {0}

  -- the rows are those of a schema
  abbrev pub Fits : Schema → List Row → Type 0
  Fits s [] = Unit {0}
  Fits s (r ∷ rs) = (kind_at timed s r.2 ≡ Some r.1) × Owns s r.1 × Fits s rs

  -- a test tells the same of a value without its unused keys
  abbrev Same : Test → Type 0
  Same test = (k : Kind) (p : Path) (e d found : Data) → SameOwner k e d → test k p e (used timed k found) ≡ test k p d found

  same_owner : (s : Schema) (k : Kind) (d : Data) → Owns s k → SameOwner k (used timed (kind.Object s) d) d
  same_owner s kind.OwnName d h = ap (option_and_then as_str) (at_same timed s (codes "name") d (rw h refl))
  same_owner s _ d h = tt

  once_same : (k : Kind) (need : Need) (names : List (List ℕ)) (p : Path) (found : Data) → once need names p (used timed k found) ≡ once need names p found
  once_same k New names p found = rw (used_like timed k found).text refl
  once_same k _ names p found = refl

  once_names_same : (k : Kind) (need : Need) (found : Data) → once_names need (used timed k found) ≡ once_names need found
  once_names_same k New found = rw (used_like timed k found).text refl
  once_names_same k _ found = refl

  names_found : (k : Kind) (need : Need) (o : Option Data) → or_else (option_map (used timed k) o) [] (once_names need) ≡ or_else o [] (once_names need)
  names_found k need None = refl
  names_found k need (Some found) = once_names_same k need found

  row_names_same : (s : Schema) (r : Row) (d : Data) → kind_at timed s r.2 ≡ Some r.1 → row_names r (used timed (kind.Object s) d) ≡ row_names r d
  row_names_same s r d is = rw (at_used timed s r.2 r.1 is d) (names_found r.1 r.0 (at_key r.2 d))

  new_names_same : (s : Schema) (d : Data) (rs : List Row) → Fits s rs → new_names rs (used timed (kind.Object s) d) ≡ new_names rs d
  new_names_same s d [] h = refl
  new_names_same s d (r ∷ rs) h = ap₂ (λ xs ys. xs ++ ys) (row_names_same s r d h.0) (new_names_same s d rs h.2)

  -- objects of the schema have a name, where a row asks for it
  abbrev are_owned : Schema → List Row → Bool
  are_owned s [] = true
  are_owned s ((need, kind.OwnName, key) ∷ rs) = is_name (kind_at timed s (codes "name")) && are_owned s rs
  are_owned s (r ∷ rs) = are_owned s rs

  owns : (s : Schema) (r : Row) (rs : List Row) → are_owned s (r ∷ rs) ≡ true → Owns s r.1 × (are_owned s rs ≡ true)
  owns s (need, kind.OwnName, key) rs e = (is_named _ (and_first _ _ e), and_last (is_name (kind_at timed s (codes "name"))) _ e)
  owns s (need, _, key) rs e = (tt, e)

  -- the rows of a part of a schema's table are those of the schema
  pub fits_part : (s : Schema) (before rs after : List Row) → ((k : List ℕ) → kind_at timed s k ≡ kind_in (before ++ (rs ++ after)) k) → are_new before rs ≡ true → are_owned s rs ≡ true → Fits s rs
  fits_part s before [] after is new owned = tt
  fits_part s before (r ∷ rs) after is new owned =
      let o = owns s r rs owned in (
        is r.2 ∙ kind_there before (rs ++ after) r (is_not _ (and_first _ _ new)),
        o.0,
        fits_part s (before ++ r ∷ []) rs after (λ k. rw append_assoc (is k)) (and_last (not (has_row before r.2)) _ new) o.1,
      )

  in_opening : (s : Schema) → are_new [] (opening s) ≡ true → are_owned s (opening s) ≡ true → Fits s (opening s)
  unfolding kind_at
  in_opening s = fits_part s [] (opening s) (closing s ++ kept timed s) (λ k. refl)

  pub fits_opening : (s : Schema) → Fits s (opening s)
  unfolding kind_at
  fits_opening schema.Pipeline = in_opening schema.Pipeline refl refl
  fits_opening schema.Resource = in_opening schema.Resource refl refl
  fits_opening schema.Job = in_opening schema.Job refl refl
  fits_opening schema.Undone = in_opening schema.Undone refl refl
  fits_opening schema.Get = in_opening schema.Get refl refl
  fits_opening schema.Put = in_opening schema.Put refl refl
  fits_opening schema.Task = in_opening schema.Task refl refl
  fits_opening schema.FileTask = in_opening schema.FileTask refl refl
  fits_opening schema.Holder = in_opening schema.Holder refl refl
  fits_opening schema.Parallel = in_opening schema.Parallel refl refl
  fits_opening schema.Config = in_opening schema.Config refl refl
  fits_opening schema.Run = in_opening schema.Run refl refl
  fits_opening schema.Input = in_opening schema.Input refl refl
  fits_opening schema.Output = in_opening schema.Output refl refl

  module _ (test : Test) (same : Same test) where
    row_found : (k : Kind) (need : Need) (names : List (List ℕ)) (p : Path) (e d : Data) → SameOwner k e d → (o : Option Data) → or_else (option_map (used timed k) o) (absent need p) (λ found. test k p e found ++ once need names p found) ≡ or_else o (absent need p) (λ found. test k p d found ++ once need names p found)
    row_found k need names p e d h None = refl
    row_found k need names p e d h (Some found) =
        ap₂ (λ xs ys. xs ++ ys) (same k p e d found h) (once_same k need names p found)

    row_same : (s : Schema) (names : List (List ℕ)) (r : Row) (p : Path) (d : Data) → kind_at timed s r.2 ≡ Some r.1 → Owns s r.1 → row_faults test names r p (used timed (kind.Object s) d) ≡ row_faults test names r p d
    row_same s names r p d is owns =
        rw (at_used timed s r.2 r.1 is d)
        (row_found r.1 r.0 names (path_below p r.2) (used timed (kind.Object s) d) d (same_owner s r.1 d owns) (at_key r.2 d))

    keys_same_by : (s : Schema) (names : List (List ℕ)) (rs : List Row) (p : Path) (d : Data) → Fits s rs → key_faults test names rs p (used timed (kind.Object s) d) ≡ key_faults test names rs p d
    keys_same_by s names [] p d h = refl
    keys_same_by s names (r ∷ rs) p d h =
        ap₂ (λ xs ys. xs ++ ys) (row_same s names r p d h.0 h.1)
        (ap (λ ns. key_faults test (names ++ ns) rs p (used timed (kind.Object s) d)) (row_names_same s r d h.0)
        ∙ keys_same_by s (names ++ row_names r d) rs p d h.2)

    object_same_by : (s : Schema) (names : List (List ℕ)) (p : Path) (d : Data) → object_faults test names s p (used timed (kind.Object s) d) ≡ object_faults test names s p d
    unfolding object_faults
    object_same_by s names p d =
        rw ((used_like timed (kind.Object s) d).is_object, keys_same_by s names (opening s) p d (fits_opening s)) refl

    object_names_same : (s : Schema) (d : Data) → new_names (opening s) (used timed (kind.Object s) d) ≡ new_names (opening s) d
    object_names_same s d = new_names_same s d (opening s) (fits_opening s)

    each_same : (s : Schema) (names : List (List ℕ)) (p : Path) (i : ℕ) (ds : Items) → each_object test names s p i (used_items timed (kind.Object s) ds) ≡ each_object test names s p i ds
    each_same s names p i no_items = refl
    each_same s names p i (item d ds) =
        ap₂ (λ xs ys. xs ++ ys) (object_same_by s names (path_at p i) d)
        (ap (λ ns. each_object test (names ++ ns) s p (i + 1) (used_items timed (kind.Object s) ds)) (object_names_same s d)
        ∙ each_same s (names ++ new_names (opening s) d) p (i + 1) ds)

    objects_same : (s : Schema) (p : Path) (d : Data) → each_object test [] s p 0 (items_in (used timed (kind.Objects s) d)) ≡ each_object test [] s p 0 (items_in d)
    objects_same s p (array ds) = each_same s [] p 0 ds
    objects_same s p _ = refl

    parallel_same : (p : Path) (d : Data) → (if is_some (as_array (used timed kind.Parallel d)) then [] else object_faults test [] schema.Parallel p (used timed kind.Parallel d)) ≡ (if is_some (as_array d) then [] else object_faults test [] schema.Parallel p d)
    parallel_same p (array ds) = refl
    parallel_same p (object ms) = object_same_by schema.Parallel [] p (object ms)
    parallel_same p _ = refl

    inside_same : Same (inside test)
    inside_same (kind.Object s) p e d found h = object_same_by s [] p found
    inside_same (kind.Objects s) p e d found h = objects_same s p found
    inside_same kind.Parallel p e d found h = parallel_same p found
    inside_same kind.OwnName p e d found h = rw (plain timed kind.OwnName refl found, h) refl
    inside_same _ p e d found h = refl

  broken_same : (k : Kind) (p : Path) (found : Data) → broken k p (used timed k found) ≡ broken k p found
  unfolding broken
  broken_same (kind.Object s) p found = refl
  broken_same (kind.Objects s) p found = rw (used_like timed (kind.Objects s) found).is_list refl
  broken_same kind.Steps p found = rw (used_like timed kind.Steps found).is_list refl
  broken_same kind.Parallel p found = refl
  broken_same kind.Step p found = refl
  broken_same k p found = ap (broken k p) (plain timed k refl found)

  value_same : (m : ℕ) → Same (value_faults m)
  unfolding value_faults
  value_same zero k p e d found h = broken_same k p found
  value_same (suc m) k p e d found h =
      ap₂ (λ xs ys. xs ++ ys) (broken_same k p found) (inside_same (value_faults m) (value_same m) k p e d found h)

  pub keys_same : (m : ℕ) (s : Schema) (names : List (List ℕ)) (rs : List Row) (p : Path) (d : Data) → Fits s rs → key_faults (value_faults m) names rs p (used timed (kind.Object s) d) ≡ key_faults (value_faults m) names rs p d
  keys_same m = keys_same_by (value_faults m) (value_same m)

  pub object_same : (m : ℕ) (s : Schema) (names : List (List ℕ)) (p : Path) (d : Data) → object_faults (value_faults m) names s p (used timed (kind.Object s) d) ≡ object_faults (value_faults m) names s p d
  object_same m = object_same_by (value_faults m) (value_same m)
