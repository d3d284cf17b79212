-- Which rules the first of some faults can tell of: those of limits are told by the visits of steps alone.
use Rattle.std.proofs.Common.{◌≡◌, ◌⊎◌, inl, inr, ℕ, zero, suc, ◌+◌, List, [], ◌∷◌, ◌++◌, Bool, true, false, not, ◌||◌, refl, Option, Some, None, nat_le, nat_lt, option_and_then, is_some, codes, if◌then◌else◌}
use Rattle.std.specs.Str.{bytes_eq}
use Rattle.serde_json.specs.Data.{Data, Items, no_items, item, Members, no_members, member}
use Rattle.serde_json.specs.Events.{items_len}
use Rattle.serde_json.specs.Find.{as_str, as_bool, as_number, as_u64, as_array, as_object}
use Rattle.serde_json.specs.Written.{has_float}
use Rattle.ccr_pipeline.specs.declared.fault.Rule.{Rule}
use Rattle.ccr_pipeline.specs.declared.fault.Rule.TheVariants as rule
use Rattle.ccr_pipeline.specs.declared.schema.Kind.{Kind}
use Rattle.ccr_pipeline.specs.declared.schema.Kind.TheVariants as kind
use Rattle.ccr_pipeline.specs.declared.schema.Need.{Need}
use Rattle.ccr_pipeline.specs.declared.schema.Need.TheVariants.{New, Must, May}
use Rattle.ccr_pipeline.specs.declared.schema.Schema.{Schema}
use Rattle.ccr_pipeline.specs.declared.schema.Schema.TheVariants as schema
use Rattle.ccr_pipeline.specs.Faults.{Path, Faults, unless}
use Rattle.ccr_pipeline.specs.JobRules.{resource_faults, members, list_rule}
use Rattle.ccr_pipeline.specs.Keys.{at_key, or_else, items_in, list_at, path_below, path_at}
use Rattle.ccr_pipeline.specs.Kinds.{is_text, is_name, broken_texts, broken_fields, broken_pin, is_empty}
use Rattle.ccr_pipeline.specs.Names.{text_at, has_name, names_at}
use Rattle.ccr_pipeline.specs.Objects.{broken, absent, once, row_names, new_names, Test, row_faults, key_faults, object_faults, each_object, inside, value_faults}
use Rattle.ccr_pipeline.specs.Places.{Part, Opening, Closing, Spot}
use Rattle.ccr_pipeline.specs.Schema.{Row, opening, closing, schema_of}
use Rattle.ccr_pipeline.specs.StepRules.{kinds, depth_faults, shape_faults, kind_faults, opening_faults, attempts_faults, parallel_rest, closing_faults}
use Rattle.ccr_pipeline.specs.Unknown.{name_key, unknown_resource, unknown_texts, unknown_passed, unknown_by, unknown_spots}

-- the first of the faults breaks this rule
abbrev pub Tells : Rule → Faults → Type 0
Tells r [] = ⊥
Tells r (f ∷ fs) = f.0 ≡ r

-- it doesn't
abbrev pub Silent : Rule → Faults → Type 0
Silent r fs = Tells r fs → ⊥

-- of a whole, the one part tells or the other
pub tells_parts : {A B : Type 0} (r : Rule) (fs gs : Faults) → (Tells r fs → A) → (Tells r gs → B) → Tells r (fs ++ gs) → A ⊎ B
tells_parts r [] gs f g h = inr (g h)
tells_parts r (x ∷ fs) gs f g h = inl (f h)

-- it suffices if the later faults are silent where there are no earlier ones
pub silent_then : (r : Rule) (fs gs : Faults) → Silent r fs → (fs ≡ [] → Silent r gs) → Silent r (fs ++ gs)
silent_then r [] gs h g = g refl
silent_then r (f ∷ fs) gs h g = h

pub silent_append : (r : Rule) (fs gs : Faults) → Silent r fs → Silent r gs → Silent r (fs ++ gs)
silent_append r fs gs h g = silent_then r fs gs h (λ none. g)

pub silent_else : {A : Type 0} (r : Rule) (o : Option A) (fs : Faults) (f : A → Faults) → Silent r fs → ((a : A) → Silent r (f a)) → Silent r (or_else o fs f)
silent_else r None fs f h g = h
silent_else r (Some a) fs f h g = g a

pub silent_if : (r : Rule) (b : Bool) (fs gs : Faults) → Silent r fs → Silent r gs → Silent r (if b then fs else gs)
silent_if r true fs gs h g = h
silent_if r false fs gs h g = g

pub silent_unless : (r : Rule) (b : Bool) (s : Rule) (p : Path) → (s ≡ r → ⊥) → Silent r (unless b s p)
silent_unless r true s p h = λ t. t
silent_unless r false s p h = h

-- a rule of limits
abbrev pub IsLimit : Rule → Type 0
IsLimit rule.Depth = Unit {0}
IsLimit rule.Attempts = Unit {0}
IsLimit _ = ⊥

module _ (r : Rule) (l : IsLimit r) where
  -- no other rule is this one
  pub other : (s : Rule) → (IsLimit s → ⊥) → s ≡ r → ⊥
  other s none e = none (rw e l)

  -- a test of another rule tells of this one never
  pub test : (b : Bool) (s : Rule) (p : Path) → (IsLimit s → ⊥) → Silent r (unless b s p)
  test b s p none = silent_unless r b s p (other s none)

  each_text : (p : Path) (i : ℕ) (ds : Items) → Silent r (broken_texts p i ds)
  each_text p i no_items = λ t. t
  each_text p i (item d ds) = silent_append r _ _ (test (is_text d) rule.Kind (path_at p i) (λ x. x)) (each_text p (i + 1) ds)

  each_field : (p : Path) (ms : Members) → Silent r (broken_fields p ms)
  each_field p no_members = λ t. t
  each_field p (member k d ms) = silent_append r _ _ (test (is_text d) rule.Kind (path_below p k) (λ x. x)) (each_field p ms)

  of_pin : (p : Path) (d : Data) → Silent r (broken_pin p d)
  of_pin p d = silent_else r (as_object d) _ _ (test false rule.Kind p (λ x. x)) (each_field p)

  of_value : (k : Kind) (p : Path) (d : Data) → Silent r (broken k p d)
  unfolding broken
  of_value kind.Text p d = test (is_text d) rule.Kind p (λ x. x)
  of_value kind.Name p d = silent_else r (as_str d) _ _ (test false rule.Kind p (λ x. x)) (λ s. test (is_name s) rule.Name p (λ x. x))
  of_value kind.OwnName p d = test (is_text d) rule.Kind p (λ x. x)
  of_value kind.Texts p d = silent_else r (as_array d) _ _ (test false rule.Kind p (λ x. x)) (λ ds. each_text p 0 ds)
  of_value kind.Truth p d = test (is_some (as_bool d)) rule.Kind p (λ x. x)
  of_value kind.Whole p d = test (is_some (option_and_then as_u64 (as_number d))) rule.Kind p (λ x. x)
  of_value kind.Params p d = silent_else r (as_object d) _ _ (test false rule.Kind p (λ x. x)) (λ ms. test (not (has_float d)) rule.Whole p (λ x. x))
  of_value kind.Fields p d = of_pin p d
  of_value kind.Nothing p d = silent_else r (as_object d) _ _ (test false rule.Kind p (λ x. x)) (λ ms. test (is_empty ms) rule.Supported p (λ x. x))
  of_value kind.Wanted p d = silent_else r (as_str d) _ _ (of_pin p d) (λ s. test (bytes_eq s (codes "latest") || bytes_eq s (codes "every")) rule.Kind p (λ x. x))
  of_value (kind.Object s) p d = λ t. t
  of_value (kind.Objects s) p d = test (is_some (as_array d)) rule.Kind p (λ x. x)
  of_value kind.Steps p d = test (is_some (as_array d)) rule.Kind p (λ x. x)
  of_value kind.Parallel p d = λ t. t
  of_value kind.Step p d = λ t. t
  of_value kind.Attempts p d = λ t. t
  of_value kind.Any p d = λ t. t
  of_value kind.Undone p d = test false rule.Supported p (λ x. x)

  of_absent : (n : Need) (p : Path) → Silent r (absent n p)
  of_absent New p = test false rule.Presence p (λ x. x)
  of_absent Must p = test false rule.Presence p (λ x. x)
  of_absent May p = λ t. t

  of_once : (n : Need) (names : List (List ℕ)) (p : Path) (d : Data) → Silent r (once n names p d)
  of_once New names p d = silent_else r (as_str d) _ _ (λ t. t) (λ name. test (not (has_name names name)) rule.Once p (λ x. x))
  of_once Must names p d = λ t. t
  of_once May names p d = λ t. t

  module _ (by : Test) (quiet : (k : Kind) (p : Path) (whole d : Data) → Silent r (by k p whole d)) where
    of_row : (names : List (List ℕ)) (row : Row) (p : Path) (d : Data) → Silent r (row_faults by names row p d)
    of_row names row p d =
        silent_else r (at_key row.2 d) _ _ (of_absent row.0 (path_below p row.2))
        (λ found. silent_append r _ _ (quiet row.1 (path_below p row.2) d found) (of_once row.0 names (path_below p row.2) found))

    of_rows : (names : List (List ℕ)) (rs : List Row) (p : Path) (d : Data) → Silent r (key_faults by names rs p d)
    of_rows names [] p d = λ t. t
    of_rows names (row ∷ rs) p d = silent_append r _ _ (of_row names row p d) (of_rows (names ++ row_names row d) rs p d)

    of_object : (names : List (List ℕ)) (s : Schema) (p : Path) (d : Data) → Silent r (object_faults by names s p d)
    unfolding object_faults
    of_object names s p d = silent_append r _ _ (test (is_some (as_object d)) rule.Kind p (λ x. x)) (of_rows names (opening s) p d)

    of_objects : (names : List (List ℕ)) (s : Schema) (p : Path) (i : ℕ) (ds : Items) → Silent r (each_object by names s p i ds)
    of_objects names s p i no_items = λ t. t
    of_objects names s p i (item d ds) = silent_append r _ _ (of_object names s (path_at p i) d) (of_objects (names ++ new_names (opening s) d) s p (i + 1) ds)

    of_inside : (k : Kind) (p : Path) (whole d : Data) → Silent r (inside by k p whole d)
    of_inside (kind.Object s) p whole d = of_object [] s p d
    of_inside (kind.Objects s) p whole d = of_objects [] s p 0 (items_in d)
    of_inside kind.Parallel p whole d = silent_if r (is_some (as_array d)) _ _ (λ t. t) (of_object [] schema.Parallel p d)
    of_inside kind.OwnName p whole d =
        silent_else r (as_str d) _ _ (λ t. t)
        (λ s. silent_else r (text_at (codes "name") whole) _ _ (λ t. t) (λ name. test (bytes_eq s name) rule.Supported p (λ x. x)))
    of_inside _ p whole d = λ t. t

  of_values : (n : ℕ) (k : Kind) (p : Path) (whole d : Data) → Silent r (value_faults n k p whole d)
  unfolding value_faults
  of_values zero k p whole d = of_value k p d
  of_values (suc n) k p whole d = silent_append r _ _ (of_value k p d) (of_inside (value_faults n) (of_values n) k p whole d)

  -- nothing at the keys of a table tells of limits
  pub keys_silent : (names : List (List ℕ)) (rs : List Row) (p : Path) (d : Data) → Silent r (key_faults (value_faults 3) names rs p d)
  keys_silent names rs p d = of_rows (value_faults 3) (of_values 3) names rs p d

  pub object_silent : (names : List (List ℕ)) (s : Schema) (p : Path) (d : Data) → Silent r (object_faults (value_faults 3) names s p d)
  object_silent names s p d = of_object (value_faults 3) (of_values 3) names s p d

  -- before the steps in a step, only its depth does
  pub opening_silent : (names : List (List ℕ)) (p : Path) (n : ℕ) (d : Data) → Silent r (depth_faults p n) → Silent r (opening_faults names p n d)
  unfolding opening_faults shape_faults kind_faults
  opening_silent names p n d h =
      silent_append r (shape_faults p n d) _
      (silent_append r _ _ (test (is_some (as_object d)) rule.Kind p (λ x. x)) (silent_append r _ _ h (keys_silent [] (opening schema.Undone) p d)))
      (silent_append r (kind_faults p d) _
      (silent_append r _ _ (test (nat_lt 0 (kinds d)) rule.OneStep p (λ x. x)) (test (nat_lt (kinds d) 2) rule.OnlyOneStep p (λ x. x)))
      (keys_silent names (opening (schema_of d)) p d))

  -- after them, only its attempts do
  pub closing_silent : (p : Path) (t : ℕ) (d : Data) → Silent r (attempts_faults p t d) → Silent r (closing_faults p t d)
  unfolding closing_faults
  closing_silent p t d h =
      silent_append r (parallel_rest p d) _
      (silent_else r (at_key (codes "in_parallel") d) _ _ (λ t. t) (λ found. keys_silent [] (closing schema.Parallel) (path_below p (codes "in_parallel")) found)) h

  pub list_silent : (k : List ℕ) (d : Data) → Silent r (list_rule k d)
  unfolding list_rule
  list_silent k d =
      silent_else r (at_key k d) _ _ (λ t. t)
      (λ found. silent_else r (as_array found) _ _ (test false rule.Kind k (λ x. x)) (λ ds. test (nat_le (items_len ds) 200) rule.Number k (λ x. x)))

  pub resources_silent : (names : List (List ℕ)) (p : Path) (i : ℕ) (ds : Items) → Silent r (members resource_faults names p i ds)
  resources_silent names p i no_items = λ t. t
  resources_silent names p i (item d ds) =
      silent_append r _ _ (object_silent names schema.Resource (path_at p i) d) (resources_silent (names ++ names_at (codes "name") d) p (i + 1) ds)

  of_texts : (jobs : List (List ℕ)) (p : Path) (i : ℕ) (ds : Items) → Silent r (unknown_texts jobs p i ds)
  of_texts jobs p i no_items = λ t. t
  of_texts jobs p i (item d ds) =
      silent_append r _ _ (silent_else r (as_str d) _ _ (λ t. t) (λ name. test (has_name jobs name) rule.KnownJob (path_at p i) (λ x. x)))
      (of_texts jobs p (i + 1) ds)

  of_unknown : (x : Part) (resources jobs : List (List ℕ)) (p : Path) (d : Data) → Silent r (unknown_by x resources jobs p d)
  unfolding unknown_resource unknown_passed
  of_unknown Opening resources jobs p d =
      silent_append r (unknown_resource resources p d) _
      (silent_if r (is_some (at_key (codes "get") d) || is_some (at_key (codes "put") d)) _ _
      (silent_else r (text_at (name_key d) d) _ _ (λ t. t) (λ name. test (has_name resources name) rule.KnownResource (path_below p (name_key d)) (λ x. x)))
      (λ t. t))
      (silent_if r (is_some (at_key (codes "get") d)) _ _ (of_texts jobs (path_below p (codes "passed")) 0 (list_at (codes "passed") d)) (λ t. t))
  of_unknown Closing resources jobs p d = λ t. t

  -- nor does a name that isn't there
  pub unknown_silent : (resources jobs : List (List ℕ)) (xs : List Spot) → Silent r (unknown_spots resources jobs xs)
  unknown_silent resources jobs [] = λ t. t
  unknown_silent resources jobs (x ∷ xs) = silent_append r _ _ (of_unknown x.part resources jobs x.path x.step) (unknown_silent resources jobs xs)
