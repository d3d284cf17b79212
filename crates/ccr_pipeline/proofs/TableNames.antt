-- The names that the keys of a table hold.
use Rattle.std.proofs.Common.{◌≡◌, ℕ, List, [], ◌∷◌, drop, Bool, true, false, not, ◌&&◌, Option, Some, None, refl, option_and_then, is_some, codes, if◌then◌else◌}
use Rattle.std.proofs.lemmas.List.{append-nil}
use Rattle.serde_json.specs.Data.{Data}
use Rattle.serde_json.specs.Find.{as_str}
use Rattle.ccr_pipeline.specs.declared.schema.Kind.{Kind}
use Rattle.ccr_pipeline.specs.declared.schema.Kind.TheVariants as kind
use Rattle.ccr_pipeline.specs.declared.schema.Need.TheVariants.{New, Must, May}
use Rattle.ccr_pipeline.specs.declared.schema.Schema.TheVariants as schema
use Rattle.ccr_pipeline.specs.Keys.{at_key, or_else}
use Rattle.ccr_pipeline.specs.Names.{names_at}
use Rattle.ccr_pipeline.specs.Objects.{once_names, new_names}
use Rattle.ccr_pipeline.specs.Schema.{Row, opening, schema_of}

-- no row has a text that no later object may have
abbrev are_old : List Row → Bool
are_old [] = true
are_old ((New, k, key) ∷ rs) = false
are_old ((Must, k, key) ∷ rs) = are_old rs
are_old ((May, k, key) ∷ rs) = are_old rs

none_at : (o : Option Data) → or_else {B = List (List ℕ)} o [] (λ d. []) ≡ []
none_at None = refl
none_at (Some d) = refl

no_names : (rs : List Row) (d : Data) → are_old rs ≡ true → new_names rs d ≡ []
no_names [] d e = refl
no_names ((New, k, key) ∷ rs) d e = absurd (cc (e))
no_names ((Must, k, key) ∷ rs) d e = rw (none_at (at_key key d), no_names rs d e) refl
no_names ((May, k, key) ∷ rs) d e = rw (none_at (at_key key d), no_names rs d e) refl

named : (o : Option Data) → or_else o [] (once_names New) ≡ or_else (option_and_then as_str o) [] (λ name. name ∷ [])
named None = refl
named (Some d) = refl

-- only the first row has such a text
first_named : (k : Kind) (key : List ℕ) (rs : List Row) (d : Data) → are_old rs ≡ true → new_names ((New, k, key) ∷ rs) d ≡ names_at key d
first_named k key rs d e = rw (named (at_key key d), no_names rs d e, append-nil) refl

pub resource_names_are : (d : Data) → new_names (opening schema.Resource) d ≡ names_at (codes "name") d
resource_names_are d = first_named kind.Name (codes "name") (drop 1 (opening schema.Resource)) d refl

pub job_names_are : (d : Data) → new_names (opening schema.Job) d ≡ names_at (codes "name") d
job_names_are d = first_named kind.Name (codes "name") (drop 1 (opening schema.Job)) d refl

pub input_names_are : (d : Data) → new_names (opening schema.Input) d ≡ names_at (codes "name") d
input_names_are d = first_named kind.Name (codes "name") (drop 1 (opening schema.Input)) d refl

pub output_names_are : (d : Data) → new_names (opening schema.Output) d ≡ names_at (codes "name") d
output_names_are d = first_named kind.Name (codes "name") (drop 1 (opening schema.Output)) d refl

get_names : (d : Data) → new_names (opening schema.Get) d ≡ names_at (codes "get") d
get_names d = first_named kind.Name (codes "get") (drop 1 (opening schema.Get)) d refl

-- a step other than a get
other : (d : Data) (put task config file : Bool) → new_names (opening (if put then schema.Put else (if not task then schema.Holder else (if not config && file then schema.FileTask else schema.Task)))) d ≡ []
other d true task config file = no_names (opening schema.Put) d refl
other d false false config file = no_names (opening schema.Holder) d refl
other d false true true file = no_names (opening schema.Task) d refl
other d false true false true = no_names (opening schema.FileTask) d refl
other d false true false false = no_names (opening schema.Task) d refl

no_text : (o : Option Data) → is_some o ≡ false → or_else (option_and_then as_str o) [] (λ name. name ∷ []) ≡ []
no_text None e = refl
no_text (Some d) e = absurd (cc (e))

by_case : (d : Data) (b : Bool) → is_some (at_key (codes "get") d) ≡ b → new_names (opening (schema_of d)) d ≡ names_at (codes "get") d
by_case d true e = rw e (get_names d)
by_case d false e =
    rw (e, no_text (at_key (codes "get") d) e)
    (other d (is_some (at_key (codes "put") d)) (is_some (at_key (codes "task") d)) (is_some (at_key (codes "config") d)) (is_some (at_key (codes "file") d)))

-- only a get has a name that no other step of its job may have
pub step_names_are : (d : Data) → new_names (opening (schema_of d)) d ≡ names_at (codes "get") d
step_names_are d = by_case d (is_some (at_key (codes "get") d)) refl
