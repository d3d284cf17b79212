-- From no tables to six, and the row of the format.
use Rattle.std.proofs.Common.{◌≡◌, ◌≢◌, ℕ, zero, suc, ◌+◌, ◌<◌, IfOk, List, [], ◌∷◌, ◌++◌, length, take, get_or, slice_get, unwrap_or, map, Some, Ok, Err, Result, refl, sym, ap, subst, ◌∙◌, IsPermutation}
use Rattle.std.specs.List.{AllByRecursion}
use Rattle.std.proofs.lemmas.List.{take_more}
use Rattle.std.proofs.lemmas.List.Sorted.{IsPermutation-refl}
use Rattle.std.proofs.lemmas.Option.{get_or_from_slice_get}
use Rattle.sqlite.specs.Order.{Row}
use Rattle.sqlite.specs.Schema.{Schema}
use Rattle.sqlite.specs.declared.error.Error.{Error}
use Rattle.sqlite.specs.Effect.{Database}
use Rattle.sqlite.specs.State.{State}
use Rattle.sqlite_trees.specs.declared.store.Shape.TheVariants.{Table as Shaped}
use Rattle.sqlite_trees.specs.View.{IsShaped}
use Rattle.ccr_tables.specs.Schema.{meta_schema, our_schema}
use Rattle.ccr_tables.specs.Contents.{Holds, IsBuild, no_contents, meta_row, scope_row, version_row, build_row, pair_row, pin_row}
use Rattle.ccr_tables.specs.Step.{Alters, IsBare, Creates, Founds}
use Rattle.ccr_tables.specs.Tables.{schema_before, schema_with, schema_of_all, AreNext}
use Rattle.ccr_tables.specs.Written.{with_meta}
use Rattle.ccr_tables.specs.declared.creation.Creation.{Creation}
use Rattle.ccr_tables.specs.declared.table.Table.{Table}
use Rattle.ccr_tables.specs.declared.creation.Creation.TheVariants.{Made}
use Rattle.ccr_tables.proofs.Inserts.{same_value}
use Rattle.ccr_tables.proofs.InTurn.{keeps_then}

pub creates_then : {X Y : Type 0} (a b c : Schema) (s t u : State) (x : X) (r : Result Y Error) → Creates a b s t (Ok x) → Creates b c t u r → Creates a c s u r
creates_then a b c s t u x (Ok y) first next = record { kept = keeps_then s t u first.kept next.kept; made = (next.made.0, λ bare. next.made.1 (first.made.1 bare)) }
creates_then a b c s t u x (Err e) first next = record { kept = keeps_then s t u first.kept next.kept; made = tt }

-- ---- tables, one after the other
same_some : {X : Type 0} {x y : X} → Some x ≡ Some y → x ≡ y
same_some {X} {x} {y} is = ap (λ o. unwrap_or o x) is

-- the tables that are made before one of these are those that it is the next behind
next_before : (made : Schema) (ts : List Table) (i : ℕ) (t : Table) → AreNext made ts → slice_get ts i ≡ Some t → schema_before t ≡ schema_of_all made (take i ts)
next_before made [] i t next is = absurd (let none = is in cc)
next_before made (u ∷ ts) zero t next is = ap schema_before (sym (same_some is)) ∙ next.0
next_before made (u ∷ ts) (suc i) t next is = next_before (schema_with u) ts i t next.1 is

all_with : (made : Schema) (ts : List Table) (t : Table) → schema_of_all made (ts ++ t ∷ []) ≡ schema_with t
all_with made [] t = refl
all_with made (u ∷ ts) t = all_with (schema_with u) ts t

pub creates_next : (ts : List Table) (i : ℕ) (t : Table) → i < length ts → slice_get ts i ≡ Some t → AreNext meta_schema ts → (a b c : State)
    → Creates {X = Unit {0}} meta_schema (schema_of_all meta_schema (take i ts)) a b (Ok (tt {0})) → Creates {X = Unit {0}} (schema_before t) (schema_with t) b c (Ok (tt {0}))
    → Creates {X = Unit {0}} meta_schema (schema_of_all meta_schema (take (i + 1) ts)) a c (Ok (tt {0}))
creates_next ts i t low is next a b c first then =
    let more = take_more ts i t low ∙ ap (λ x. take i ts ++ x ∷ []) (get_or_from_slice_get ts i t t is) in
    let all : schema_of_all meta_schema (take (i + 1) ts) ≡ schema_with t = ap (schema_of_all meta_schema) more ∙ all_with meta_schema (take i ts) t in
    let before : schema_before t ≡ schema_of_all meta_schema (take i ts) = next_before meta_schema ts i t next is in
    subst (λ s. Creates {X = Unit {0}} meta_schema s a c (Ok (tt {0}))) (sym all)
    (creates_then meta_schema (schema_before t) (schema_with t) a b c (tt {0}) (Ok (tt {0})) (subst (λ s. Creates {X = Unit {0}} meta_schema s a b (Ok (tt {0}))) (sym before) first) then)

-- a table that isn't made is a failure of all
pub creates_stops : {made last : Schema} (t : Table) (a b c : State) (e f : Error) (r : Result (Unit {0}) Error) → r ≡ Err f → Creates {X = Unit {0}} meta_schema made a b (Ok (tt {0}))
    → Creates {X = Unit {0}} (schema_before t) (schema_with t) b c (Err e) → Creates {X = Unit {0}} meta_schema last a c r
creates_stops {made} {last} t a b c e f r is first then = subst (Creates {X = Unit {0}} meta_schema last a c) (sym is) (record { kept = keeps_then a b c first.kept then.kept; made = tt })

none_shown : (shown : Row → Row) (rows : List Row) → rows ≡ [] → IsPermutation [] (map shown rows)
none_shown shown rows e = subst (λ l. IsPermutation [] (map shown l)) (sym e) (IsPermutation-refl [])

none_shaped : (rows : List Row) → rows ≡ [] → IsShaped Shaped rows
none_shaped rows e = subst (IsShaped Shaped) (sym e) (tt, tt)

bare_holds : (db : Database) → IsBare our_schema db → Holds no_contents db
bare_holds db bare = record {
  schema = bare.0;
  rows = record {
    meta = none_shown meta_row (db.trees 0) bare.1.0;
    scopes = none_shown scope_row (db.trees 1) bare.1.1.0;
    versions = none_shown version_row (db.trees 3) bare.1.1.1.0;
    builds = none_shown build_row (db.trees 6) bare.1.1.1.1.0;
    pairs = none_shown pair_row (db.trees 8) bare.1.1.1.1.1.0;
    pins = none_shown pin_row (db.trees 10) bare.1.1.1.1.1.1.0;
    numbered_meta = none_shaped (db.trees 0) bare.1.0;
    numbered_builds = none_shaped (db.trees 6) bare.1.1.1.1.0;
    numbered_pairs = none_shaped (db.trees 8) bare.1.1.1.1.1.0;
    numbered_pins = none_shaped (db.trees 10) bare.1.1.1.1.1.1.0;
    typed_builds = subst (AllByRecursion IsBuild) (sym bare.1.1.1.1.0) tt;
  };
}

pub founds_then : {X Y : Type 0} (a : Schema) (s t u : State) (x : X) (r : Result Y Error) → Creates a our_schema s t (Ok x) → Alters t u (with_meta 1 (50 ∷ [])) r → Founds a s u r
founds_then a s t u x (Ok y) first next =
    record {
      kept = keeps_then s t u first.kept next.kept;
      made = (next.made.0, λ bare. next.made.1 no_contents (bare_holds t.now (first.made.1 bare)));
      sound = λ bare. next.sound no_contents (bare_holds t.now (first.made.1 bare));
    }
founds_then a s t u x (Err e) first next = record { kept = keeps_then s t u first.kept next.kept; made = tt; sound = tt }

-- a step that failed is a failure of the whole
pub creates_fails : {X Y : Type 0} (a b c : Schema) (s t : State) (e f : Error) (r : Result Y Error) → r ≡ Err f → Creates {X = X} a b s t (Err e) → Creates {X = Y} a c s t r
creates_fails {X} {Y} a b c s t e f r is it = subst (Creates {X = Y} a c s t) (sym is) (record { kept = it.kept; made = tt })

-- a step that is made, without how many rows it changed
pub creates_made : (a b : Schema) (s t : State) (n : ℕ) (r : Result ℕ Error) → r ≡ Ok n → Creates a b s t r → Creates {X = Unit {0}} a b s t (Ok (tt {0}))
creates_made a b s t n r is it = let made = subst (Creates a b s t) is it in record { kept = made.kept; made = made.made }

pub founds_fails : {X Y : Type 0} (a b : Schema) (s t : State) (e f : Error) (r : Result Y Error) → r ≡ Err f → Creates {X = X} a b s t (Err e) → Founds {X = Y} a s t r
founds_fails {X} {Y} a b s t e f r is it = subst (Founds {X = Y} a s t) (sym is) (record { kept = it.kept; made = tt; sound = tt })

pub founds_stops : {X Y : Type 0} (a : Schema) (s t : State) (e f : Error) (r : Result Y Error) → r ≡ Err f → Founds {X = X} a s t (Err e) → Founds {X = Y} a s t r
founds_stops {X} {Y} a s t e f r is it = subst (Founds {X = Y} a s t) (sym is) (record { kept = it.kept; made = tt; sound = tt })

pub founds_all : {X Y : Type 0} (a b : Schema) (s t u : State) (x : X) (r : Result Y Error) → Creates a b s t (Ok x) → Founds b t u r → Founds a s u r
founds_all a b s t u x (Ok y) first next = record {
  kept = keeps_then s t u first.kept next.kept;
  made = (next.made.0, λ bare. next.made.1 (first.made.1 bare));
  sound = λ bare. next.sound (first.made.1 bare);
}
founds_all a b s t u x (Err e) first next = record { kept = keeps_then s t u first.kept next.kept; made = tt; sound = tt }

-- an answer that is never `Made` isn't
pub not_made : (r : Result Creation Error) → IfOk r (λ it. it ≢ Made) → r ≡ Ok Made → ⊥
not_made (Ok it) h e = h (same_value e)
not_made (Err x) h e = absurd (let bad = e in cc)
