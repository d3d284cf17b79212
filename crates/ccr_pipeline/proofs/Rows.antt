-- What the rows of a table say of an object in which nothing is broken.
use Rattle.std.proofs.Common.{◌≡◌, ℕ, suc, List, [], ◌∷◌, ◌++◌, Bool, true, false, not, refl, Option, Some, None, option_and_then, unwrap_or, is_some, codes}
use Rattle.std.specs.Option.{IfSome}
use Rattle.serde_json.specs.Data.{Data}
use Rattle.serde_json.specs.Find.{as_str, as_object}
use Rattle.ccr_pipeline.specs.declared.fault.Rule.{Rule}
use Rattle.ccr_pipeline.specs.declared.fault.Rule.TheVariants as rule
use Rattle.ccr_pipeline.specs.declared.schema.Kind.TheVariants as kind
use Rattle.ccr_pipeline.specs.declared.schema.Need.{Need}
use Rattle.ccr_pipeline.specs.declared.schema.Need.TheVariants.{New, Must, May}
use Rattle.ccr_pipeline.specs.declared.schema.Schema.TheVariants as schema
use Rattle.ccr_pipeline.specs.Faults.{Path, Faults, unless}
use Rattle.ccr_pipeline.specs.Keys.{at_key, or_else, path_below}
use Rattle.ccr_pipeline.specs.Kinds.{is_name, is_text}
use Rattle.ccr_pipeline.specs.Meaning.{text_or}
use Rattle.ccr_pipeline.specs.Names.{has_name, text_at, names_at}
use Rattle.ccr_pipeline.specs.Objects.{absent, once, row_faults, object_faults, broken, value_faults}

pub nil_left : (xs ys : Faults) → xs ++ ys ≡ [] → xs ≡ []
nil_left [] ys e = refl
nil_left (x ∷ xs) ys e = cc

pub nil_right : (xs ys : Faults) → xs ++ ys ≡ [] → ys ≡ []
nil_right [] ys e = e
nil_right (x ∷ xs) ys e = cc

pub passes : (b : Bool) (r : Rule) (p : Path) → unless b r p ≡ [] → b ≡ true
passes true r p e = refl
passes false r p e = cc

-- a text that no earlier object has there, these being theirs, and that may be a name
pub record IsNamed (names : List (List ℕ)) (k : List ℕ) (d : Data) : Type 0 where
  pub name : is_name (text_or [] k d) ≡ true
  pub new : IfSome (text_at k d) (λ s. has_name names s ≡ false)
  pub one : names_at k d ≡ text_or [] k d ∷ []
  pub there : is_some (text_at k d) ≡ true

module _ (p : Path) where
  name_of : (o : Option (List ℕ)) → or_else o (unless false rule.Kind p) (λ s. unless (is_name s) rule.Name p) ≡ [] → is_name (unwrap_or o []) ≡ true
  name_of None e = absurd (cc (e))
  name_of (Some s) e = passes (is_name s) rule.Name p e

  text_there : (o : Option (List ℕ)) → or_else o (unless false rule.Kind p) (λ s. unless (is_name s) rule.Name p) ≡ [] → is_some o ≡ true
  text_there None e = absurd (cc (e))
  text_there (Some s) e = refl

  one_of : (o : Option (List ℕ)) → is_some o ≡ true → or_else o [] (λ s. s ∷ []) ≡ unwrap_or o [] ∷ []
  one_of None e = absurd (cc (e))
  one_of (Some s) e = refl

  is_new : (b : Bool) → unless (not b) rule.Once p ≡ [] → b ≡ false
  is_new true e = absurd (cc (e))
  is_new false e = refl

  new_of : (names : List (List ℕ)) (o : Option (List ℕ)) → or_else o [] (λ name. unless (not (has_name names name)) rule.Once p) ≡ [] → IfSome o (λ s. has_name names s ≡ false)
  new_of names None e = tt
  new_of names (Some s) e = is_new (has_name names s) e

  module _ (n : ℕ) (whole : Data) (names : List (List ℕ)) where
    -- what is broken at a key that holds a name
    abbrev Row : Need → Option Data → Faults
    Row need o = or_else o (absent need p) (λ found. value_faults (suc n) kind.Name p whole found ++ once need names p found)

    value_named : (need : Need) (d : Data) → Row need (Some d) ≡ [] → or_else (as_str d) (unless false rule.Kind p) (λ s. unless (is_name s) rule.Name p) ≡ []
    unfolding value_faults broken
    value_named need d e = nil_left (broken kind.Name p d) [] (nil_left (value_faults (suc n) kind.Name p whole d) (once need names p d) e)

    named_must : (o : Option Data) → Row Must o ≡ [] → is_name (unwrap_or (option_and_then as_str o) []) ≡ true
    named_must None e = absurd (cc (e))
    named_must (Some d) e = name_of (as_str d) (value_named Must d e)

    there_must : (o : Option Data) → Row Must o ≡ [] → is_some (option_and_then as_str o) ≡ true
    there_must None e = absurd (cc (e))
    there_must (Some d) e = text_there (as_str d) (value_named Must d e)

    as_must : (o : Option Data) → Row New o ≡ [] → Row Must o ≡ []
    as_must None e = e
    as_must (Some d) e = rw (nil_left (value_faults (suc n) kind.Name p whole d) (once New names p d) e) refl

    new_there : (o : Option Data) → Row New o ≡ [] → IfSome (option_and_then as_str o) (λ s. has_name names s ≡ false)
    new_there None e = tt
    new_there (Some d) e = new_of names (as_str d) (nil_right (value_faults (suc n) kind.Name p whole d) (once New names p d) e)

pub must_name : (n : ℕ) (names : List (List ℕ)) (p : Path) (k : List ℕ) (d : Data) → row_faults (value_faults (suc n)) names (Must, kind.Name, k) p d ≡ [] → is_name (text_or [] k d) ≡ true
must_name n names p k d e = named_must (path_below p k) n d names (at_key k d) e

pub must_text : (n : ℕ) (names : List (List ℕ)) (p : Path) (k : List ℕ) (d : Data) → row_faults (value_faults (suc n)) names (Must, kind.Name, k) p d ≡ [] → is_some (text_at k d) ≡ true
must_text n names p k d e = there_must (path_below p k) n d names (at_key k d) e

pub new_name : (n : ℕ) (names : List (List ℕ)) (p : Path) (k : List ℕ) (d : Data) → row_faults (value_faults (suc n)) names (New, kind.Name, k) p d ≡ [] → IsNamed names k d
new_name n names p k d e =
    let must = as_must (path_below p k) n d names (at_key k d) e in
    let there : is_some (text_at k d) ≡ true = there_must (path_below p k) n d names (at_key k d) must in
    record {
      name = named_must (path_below p k) n d names (at_key k d) must;
      new = new_there (path_below p k) n d names (at_key k d) e;
      one = one_of (path_below p k) (text_at k d) there;
      there = there;
    }

may_at : (n : ℕ) (p : Path) (whole : Data) (names : List (List ℕ)) (o : Option Data) → or_else o [] (λ found. value_faults (suc n) kind.Text p whole found ++ once May names p found) ≡ [] → is_some o ≡ true → is_some (option_and_then as_str o) ≡ true
unfolding value_faults broken
may_at n p whole names None e there = absurd (cc (there))
may_at n p whole names (Some d) e there = passes (is_text d) rule.Kind p (nil_left (broken kind.Text p d) [] (nil_left (value_faults (suc n) kind.Text p whole d) [] e))

-- a text is there, if anything is
pub may_text : (n : ℕ) (names : List (List ℕ)) (p : Path) (k : List ℕ) (d : Data) → row_faults (value_faults (suc n)) names (May, kind.Text, k) p d ≡ [] → is_some (at_key k d) ≡ true → is_some (text_at k d) ≡ true
may_text n names p k d e there = may_at n (path_below p k) d names (at_key k d) e there

-- an object whose first key is a new name has one
named_object : (n : ℕ) (names : List (List ℕ)) (p : Path) (d : Data) (rest : Faults) → unless (is_some (as_object d)) rule.Kind p ++ (row_faults (value_faults (suc n)) names (New, kind.Name, codes "name") p d ++ rest) ≡ [] → IsNamed names (codes "name") d
named_object n names p d rest e = new_name n names p (codes "name") d (nil_left _ rest (nil_right (unless (is_some (as_object d)) rule.Kind p) _ e))

pub input_named : (names : List (List ℕ)) (p : Path) (d : Data) → object_faults (value_faults 1) names schema.Input p d ≡ [] → IsNamed names (codes "name") d
unfolding object_faults
input_named names p d e = named_object 0 names p d _ e

pub output_named : (names : List (List ℕ)) (p : Path) (d : Data) → object_faults (value_faults 1) names schema.Output p d ≡ [] → IsNamed names (codes "name") d
unfolding object_faults
output_named names p d e = named_object 0 names p d _ e

pub resource_named : (names : List (List ℕ)) (p : Path) (d : Data) → object_faults (value_faults 3) names schema.Resource p d ≡ [] → IsNamed names (codes "name") d
unfolding object_faults
resource_named names p d e = named_object 2 names p d _ e

pub job_named : (names : List (List ℕ)) (p : Path) (d : Data) → object_faults (value_faults 3) names schema.Job p d ≡ [] → IsNamed names (codes "name") d
unfolding object_faults
job_named names p d e = named_object 2 names p d _ e
