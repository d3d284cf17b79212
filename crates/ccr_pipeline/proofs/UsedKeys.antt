-- What stands at the keys of an object without its unused keys.
use Rattle.std.proofs.Common.{◌≡◌, ℕ, List, Bool, true, false, Option, Some, None, refl, ap, ◌∙◌, option_and_then, option_map, is_some, if◌then◌else◌, Ordering, Less, Equal, Greater, nat_cmp}
use Rattle.std.proofs.lemmas.Map.Lookups.{exact_bytes}
use Rattle.std.specs.Cmp.Lexicographic.{slice_cmp}
use Rattle.std.specs.Ordering.{match_ordering}
use Rattle.serde_json.specs.Data.{Data, array, object, no_items, Members, no_members, member}
use Rattle.serde_json.specs.Find.{as_null, as_str, as_array, as_object, get_member}
use Rattle.ccr_pipeline.specs.declared.schema.Kind.{Kind}
use Rattle.ccr_pipeline.specs.declared.schema.Kind.TheVariants as kind
use Rattle.ccr_pipeline.specs.declared.schema.Schema.{Schema}
use Rattle.ccr_pipeline.specs.Keys.{at_key, or_else, unless_null, items_in}
use Rattle.ccr_pipeline.specs.Schema.{schema_of}
use Rattle.ccr_pipeline.specs.Used.{kind_at, used, used_members, used_items}

-- both values are null or neither is, and so for lists and objects, and a text is the same text
pub record Like (e d : Data) : Type 0 where
  pub is_null : is_some (as_null e) ≡ is_some (as_null d)
  pub text : as_str e ≡ as_str d
  pub is_list : is_some (as_array e) ≡ is_some (as_array d)
  pub is_object : is_some (as_object e) ≡ is_some (as_object d)

by_null : (f : Data → Data) (d : Data) (b c : Bool) → b ≡ c → (if b then None else Some (f d)) ≡ option_map f (if c then None else Some d)
by_null f d b true e = rw e refl
by_null f d b false e = rw e refl

-- values of the kind hold no objects whose keys are known
abbrev pub is_plain : Option Kind → Bool
is_plain None = false
is_plain (Some (kind.Object s)) = false
is_plain (Some (kind.Objects s)) = false
is_plain (Some kind.Steps) = false
is_plain (Some kind.Parallel) = false
is_plain (Some kind.Step) = false
is_plain (Some _) = true

module _ (timed : Bool) where
  pub used_like : (k : Kind) (d : Data) → Like (used timed k d) d
  used_like (kind.Object s) (object ms) = record { is_null = refl; text = refl; is_list = refl; is_object = refl }
  used_like (kind.Objects s) (array ds) = record { is_null = refl; text = refl; is_list = refl; is_object = refl }
  used_like kind.Steps (array ds) = record { is_null = refl; text = refl; is_list = refl; is_object = refl }
  used_like kind.Parallel (array ds) = record { is_null = refl; text = refl; is_list = refl; is_object = refl }
  used_like kind.Parallel (object ms) = record { is_null = refl; text = refl; is_list = refl; is_object = refl }
  used_like kind.Step (object ms) = record { is_null = refl; text = refl; is_list = refl; is_object = refl }
  used_like _ d = record { is_null = refl; text = refl; is_list = refl; is_object = refl }

  module _ (s : Schema) (k : List ℕ) where
    at_member : (found : Kind) → kind_at timed s k ≡ Some found → (l : List ℕ) (d : Data) (ms : Members) (q : Option Kind) → kind_at timed s l ≡ q → (o : Ordering) → slice_cmp nat_cmp k l ≡ o → get_member k (used_members timed s ms) ≡ option_map (used timed found) (get_member k ms) → get_member k (or_else q (used_members timed s ms) (λ j. member l (used timed j d) (used_members timed s ms))) ≡ option_map (used timed found) (match_ordering o (get_member k ms) (Some d) (get_member k ms))
    at_member found is l d ms None there Less e h = h
    at_member found is l d ms None there Equal e h =
        let same : kind_at timed s k ≡ kind_at timed s l = ap (kind_at timed s) (exact_bytes k l e) in
        absurd (cc (same, is, there))
    at_member found is l d ms None there Greater e h = h
    at_member found is l d ms (Some j) there Less e h = rw e h
    at_member found is l d ms (Some j) there Equal e h =
        let same : kind_at timed s k ≡ kind_at timed s l = ap (kind_at timed s) (exact_bytes k l e) in
        let one : j ≡ found = cc (same, is, there) in
        rw (e, one) refl
    at_member found is l d ms (Some j) there Greater e h = rw e h

    get_used : (found : Kind) → kind_at timed s k ≡ Some found → (ms : Members) → get_member k (used_members timed s ms) ≡ option_map (used timed found) (get_member k ms)
    get_used found is no_members = refl
    get_used found is (member l d ms) =
        at_member found is l d ms (kind_at timed s l) refl (slice_cmp nat_cmp k l) refl (get_used found is ms)

    at_no_member : kind_at timed s k ≡ None → (l : List ℕ) (d : Data) (ms : Members) (q : Option Kind) → kind_at timed s l ≡ q → (o : Ordering) → slice_cmp nat_cmp k l ≡ o → get_member k (used_members timed s ms) ≡ None → get_member k (or_else q (used_members timed s ms) (λ j. member l (used timed j d) (used_members timed s ms))) ≡ None
    at_no_member is l d ms None there o e h = h
    at_no_member is l d ms (Some j) there Less e h = rw e h
    at_no_member is l d ms (Some j) there Equal e h =
        let same : kind_at timed s k ≡ kind_at timed s l = ap (kind_at timed s) (exact_bytes k l e) in
        absurd (cc (same, is, there))
    at_no_member is l d ms (Some j) there Greater e h = rw e h

    get_unused : kind_at timed s k ≡ None → (ms : Members) → get_member k (used_members timed s ms) ≡ None
    get_unused is no_members = refl
    get_unused is (member l d ms) =
        at_no_member is l d ms (kind_at timed s l) refl (slice_cmp nat_cmp k l) refl (get_unused is ms)

    -- at a key that objects of the schema can't have, nothing stands
    pub at_unused : kind_at timed s k ≡ None → (d : Data) → at_key k (used timed (kind.Object s) d) ≡ None
    at_unused is (object ms) = ap (option_and_then unless_null) (get_unused is ms)
    at_unused is _ = refl

  not_null : (k : Kind) (o : Option Data) → option_and_then unless_null (option_map (used timed k) o) ≡ option_map (used timed k) (option_and_then unless_null o)
  not_null k None = refl
  not_null k (Some d) = by_null (used timed k) d (is_some (as_null (used timed k d))) (is_some (as_null d)) (used_like k d).is_null

  -- at another key stands what is used of the value there
  pub at_used : (s : Schema) (k : List ℕ) (found : Kind) → kind_at timed s k ≡ Some found → (d : Data) → at_key k (used timed (kind.Object s) d) ≡ option_map (used timed found) (at_key k d)
  at_used s k found is (object ms) = ap (option_and_then unless_null) (get_used s k found is ms) ∙ not_null found (get_member k ms)
  at_used s k found is _ = refl

  pub plain : (k : Kind) → is_plain (Some k) ≡ true → (d : Data) → used timed k d ≡ d
  plain (kind.Object s) e d = absurd (cc (e))
  plain (kind.Objects s) e d = absurd (cc (e))
  plain kind.Steps e d = absurd (cc (e))
  plain kind.Parallel e d = absurd (cc (e))
  plain kind.Step e d = absurd (cc (e))
  plain _ e d = refl

  option_same : (k : Kind) → is_plain (Some k) ≡ true → (o : Option Data) → option_map (used timed k) o ≡ o
  option_same k e None = refl
  option_same k e (Some d) = ap Some (plain k e d)

  by_kind : (s : Schema) (k : List ℕ) (d : Data) (q : Option Kind) → kind_at timed s k ≡ q → is_plain q ≡ true → at_key k (used timed (kind.Object s) d) ≡ at_key k d
  by_kind s k d None is e = absurd (cc (e))
  by_kind s k d (Some found) is e = at_used s k found is d ∙ option_same found e (at_key k d)

  -- the value itself, where it holds no objects whose keys are known
  pub at_same : (s : Schema) (k : List ℕ) (d : Data) → is_plain (kind_at timed s k) ≡ true → at_key k (used timed (kind.Object s) d) ≡ at_key k d
  at_same s k d e = by_kind s k d (kind_at timed s k) refl e

  -- a step is an object of its schema, and the object of an in_parallel one of its own
  pub step_object : (d : Data) → used timed kind.Step d ≡ used timed (kind.Object (schema_of d)) d
  step_object (object ms) = refl
  step_object _ = refl

  -- the members of a list are those without their unused keys
  pub items_used : (s : Schema) (d : Data) → items_in (used timed (kind.Objects s) d) ≡ used_items timed (kind.Object s) (items_in d)
  items_used s (array ds) = refl
  items_used s _ = refl

  pub steps_used : (d : Data) → items_in (used timed kind.Steps d) ≡ used_items timed kind.Step (items_in d)
  steps_used (array ds) = refl
  steps_used _ = refl

  pub parallel_used : (d : Data) → items_in (used timed kind.Parallel d) ≡ used_items timed kind.Step (items_in d)
  parallel_used (array ds) = refl
  parallel_used _ = refl

  -- those of the list at a key
  pub list_used : (k inner : Kind) → ((d : Data) → items_in (used timed k d) ≡ used_items timed inner (items_in d)) → (o : Option Data) → or_else (option_map (used timed k) o) no_items items_in ≡ used_items timed inner (or_else o no_items items_in)
  list_used k inner each None = refl
  list_used k inner each (Some d) = each d
