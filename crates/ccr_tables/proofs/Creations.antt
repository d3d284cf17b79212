-- What the CREATE TABLEs do.
use Rattle.std.proofs.Common.{◌≡◌, ℕ, List, [], IfOk, false, None, Ok, Err, Result, inl, inr, refl, sym, ap, subst, ◌∙◌}
use Rattle.std.specs.List.{AllByRecursion}
use Rattle.sqlite.specs.Table.{Table}
use Rattle.sqlite.specs.Schema.{Schema}
use Rattle.sqlite.specs.Command.TheVariants.{CreateTable}
use Rattle.sqlite.specs.Compile.{table_defined_by}
use Rattle.sqlite.specs.Change.{created, next_tree, KeepsRows}
use Rattle.sqlite.specs.Does.{Tally, lacks_sequence}
use Rattle.sqlite_tied.specs.Compute.{everything}
use Rattle.sqlite.specs.Listing.{understood}
use Rattle.sqlite.specs.declared.error.Error.{Error}
use Rattle.sqlite.specs.Effect.{Database}
use Rattle.sqlite.specs.State.{State, Writes, Executes, ExecutesIn, ExecutesInside}
use Rattle.sqlite.proofs.Callers.{IsPlain, command_of, statement_of, runs_as}
use Rattle.ccr_tables.specs.Schema.{no_schema, meta_schema, scopes_schema, versions_schema, builds_schema, pairs_schema, our_schema, meta, scopes, versions, builds, pairs, pins}
use Rattle.ccr_tables.specs.Tables.{creation_text, schema_before, schema_with}
use Rattle.ccr_tables.specs.declared.table.Table.{Table as OurTable}
use Rattle.ccr_tables.specs.declared.table.Table.TheVariants.{Meta, Scopes, Versions, Builds, Pairs, Pins}
use Rattle.ccr_tables.specs.Step.{IsBare, Creates}
use Rattle.ccr_tables.proofs.Inserts.{went, same_value, unchanged_keeps, back_keeps}

-- the statements that make the tables
abbrev meta_text : List ℕ
meta_text = creation_text Meta

abbrev scopes_text : List ℕ
scopes_text = creation_text Scopes

abbrev versions_text : List ℕ
versions_text = creation_text Versions

abbrev builds_text : List ℕ
builds_text = creation_text Builds

abbrev pairs_text : List ℕ
pairs_text = creation_text Pairs

abbrev pins_text : List ℕ
pins_text = creation_text Pins

module _ (text : List ℕ) (schema : Schema) (table : Table) (is : command_of (understood schema text) ≡ CreateTable) (same : statement_of text (understood schema text) ≡ text)
    (plain : IsPlain (understood schema text)) (defines : table_defined_by text ≡ Ok table) (uncounted : lacks_sequence (created schema table) ≡ false) where
  creates : (old new : State) (count : ℕ) → old.now.schema ≡ schema → Executes text [] old new (Ok count)
      → (new.now.schema ≡ created schema table) × (new.now.trees (next_tree schema) ≡ []) × KeepsRows schema.tables old.now.trees new.now.trees
  creates old new count has h =
      let w = subst (λ t. Writes old new None CreateTable t [] count) same (runs_as text [] old new schema has CreateTable is plain count h) in
      let all = went w.changed in
      let first = went all.1 in
      let made = first.1 in
      let both : Ok made.table ≡ Ok table = sym made.defined ∙ defines in
      let one : made.table ≡ table = cc in
      let after : first.0.schema ≡ created schema table = made.is ∙ ap (λ s. created s made.table) has ∙ ap (created schema) one in
      let bare : lacks_sequence first.0.schema ≡ false = ap lacks_sequence after ∙ uncounted in
      let now : new.now ≡ first.0 = ap (λ (p : Tally × Database). p.1) (same_value all.2) ∙ same_value (rw bare at first.2) in (
        ap (λ (d : Database). d.schema) now ∙ after,
        ap (λ (d : Database). d.trees (next_tree schema)) now ∙ subst (λ s. first.0.trees (next_tree s) ≡ []) has made.empty,
        subst (λ (d : Database). KeepsRows schema.tables old.now.trees d.trees) (sym now) (subst (λ s. KeepsRows s.tables old.now.trees first.0.trees) has made.others),
      )

  pub bares : (adds : (old new : Database) → IsBare schema old → (new.trees (next_tree schema) ≡ []) → KeepsRows schema.tables old.trees new.trees → AllByRecursion (λ t. new.trees t.tree ≡ []) (created schema table).tables)
      → (old new : State) (r : Result ℕ Error) → ExecutesInside 0 text [] old new r → Creates schema (created schema table) old new r
  bares adds old new (Ok count) h = record {
    kept = record { was_open = λ _. h.1.was_open; committed = λ _. h.1.committed_is };
    made = (h.1.mode, λ bare. let did = creates old new count bare.0 h.0 in (did.0, adds old.now new.now bare did.1 did.2));
  }
  bares adds old new (Err e) (inl h) = record { kept = elim h.1 [ inl same ↦ unchanged_keeps old new same | inr back ↦ back_keeps old new back ]; made = tt }
  bares adds old new (Err e) (inr h) = record { kept = unchanged_keeps old new h.2; made = tt }

meta_meaning : (command_of (understood no_schema meta_text) ≡ CreateTable) × (statement_of meta_text (understood no_schema meta_text) ≡ meta_text) × (table_defined_by meta_text ≡ Ok meta) × (lacks_sequence meta_schema ≡ false)
unfolding understood everything
meta_meaning = (refl, refl, refl, refl)

meta_plain : IsPlain (understood no_schema meta_text)
unfolding understood everything
meta_plain = (refl, refl)

create_meta : (old new : State) (r : Result ℕ Error) → ExecutesInside 0 meta_text [] old new r → Creates no_schema meta_schema old new r
create_meta = bares meta_text no_schema meta meta_meaning.0 meta_meaning.1 meta_plain meta_meaning.2 meta_meaning.3 (λ old new bare empty keeps. (empty, tt))

meta_taken : IfOk (understood our_schema meta_text) (λ _. ⊥)
unfolding understood everything
meta_taken = tt

-- where the six tables are there, the first of them can't be made
pub no_second_meta : (old new : State) (r : Result ℕ Error) → old.now.schema ≡ our_schema → ExecutesInside 0 meta_text [] old new r → IfOk r (λ _. ⊥)
unfolding ExecutesIn
no_second_meta old new (Ok count) has h = subst (λ x. IfOk x (λ _. ⊥)) (ap (λ s. understood s meta_text) (sym has) ∙ h.0.1.is) meta_taken
no_second_meta old new (Err e) has h = tt

scopes_meaning : (command_of (understood meta_schema scopes_text) ≡ CreateTable) × (statement_of scopes_text (understood meta_schema scopes_text) ≡ scopes_text) × (table_defined_by scopes_text ≡ Ok scopes) × (lacks_sequence scopes_schema ≡ false)
unfolding understood everything
scopes_meaning = (refl, refl, refl, refl)

scopes_plain : IsPlain (understood meta_schema scopes_text)
unfolding understood everything
scopes_plain = (refl, refl)

create_scopes : (old new : State) (r : Result ℕ Error) → ExecutesInside 0 scopes_text [] old new r → Creates meta_schema scopes_schema old new r
create_scopes = bares scopes_text meta_schema scopes scopes_meaning.0 scopes_meaning.1 scopes_plain scopes_meaning.2 scopes_meaning.3 (λ old new bare empty keeps. (keeps.0 ∙ bare.1.0, (empty, tt)))

versions_meaning : (command_of (understood scopes_schema versions_text) ≡ CreateTable) × (statement_of versions_text (understood scopes_schema versions_text) ≡ versions_text) × (table_defined_by versions_text ≡ Ok versions) × (lacks_sequence versions_schema ≡ false)
unfolding understood everything
versions_meaning = (refl, refl, refl, refl)

versions_plain : IsPlain (understood scopes_schema versions_text)
unfolding understood everything
versions_plain = (refl, refl)

create_versions : (old new : State) (r : Result ℕ Error) → ExecutesInside 0 versions_text [] old new r → Creates scopes_schema versions_schema old new r
create_versions = bares versions_text scopes_schema versions versions_meaning.0 versions_meaning.1 versions_plain versions_meaning.2 versions_meaning.3 (λ old new bare empty keeps. (keeps.0 ∙ bare.1.0, (keeps.1.0 ∙ bare.1.1.0, (empty, tt))))

builds_meaning : (command_of (understood versions_schema builds_text) ≡ CreateTable) × (statement_of builds_text (understood versions_schema builds_text) ≡ builds_text) × (table_defined_by builds_text ≡ Ok builds) × (lacks_sequence builds_schema ≡ false)
unfolding understood everything
builds_meaning = (refl, refl, refl, refl)

builds_plain : IsPlain (understood versions_schema builds_text)
unfolding understood everything
builds_plain = (refl, refl)

create_builds : (old new : State) (r : Result ℕ Error) → ExecutesInside 0 builds_text [] old new r → Creates versions_schema builds_schema old new r
create_builds = bares builds_text versions_schema builds builds_meaning.0 builds_meaning.1 builds_plain builds_meaning.2 builds_meaning.3 (λ old new bare empty keeps. (keeps.0 ∙ bare.1.0, (keeps.1.0 ∙ bare.1.1.0, (keeps.1.1.0 ∙ bare.1.1.1.0, (empty, tt)))))

pairs_meaning : (command_of (understood builds_schema pairs_text) ≡ CreateTable) × (statement_of pairs_text (understood builds_schema pairs_text) ≡ pairs_text) × (table_defined_by pairs_text ≡ Ok pairs) × (lacks_sequence pairs_schema ≡ false)
unfolding understood everything
pairs_meaning = (refl, refl, refl, refl)

pairs_plain : IsPlain (understood builds_schema pairs_text)
unfolding understood everything
pairs_plain = (refl, refl)

create_pairs : (old new : State) (r : Result ℕ Error) → ExecutesInside 0 pairs_text [] old new r → Creates builds_schema pairs_schema old new r
create_pairs = bares pairs_text builds_schema pairs pairs_meaning.0 pairs_meaning.1 pairs_plain pairs_meaning.2 pairs_meaning.3 (λ old new bare empty keeps. (keeps.0 ∙ bare.1.0, (keeps.1.0 ∙ bare.1.1.0, (keeps.1.1.0 ∙ bare.1.1.1.0, (keeps.1.1.1.0 ∙ bare.1.1.1.1.0, (empty, tt))))))

pins_meaning : (command_of (understood pairs_schema pins_text) ≡ CreateTable) × (statement_of pins_text (understood pairs_schema pins_text) ≡ pins_text) × (table_defined_by pins_text ≡ Ok pins) × (lacks_sequence our_schema ≡ false)
unfolding understood everything
pins_meaning = (refl, refl, refl, refl)

pins_plain : IsPlain (understood pairs_schema pins_text)
unfolding understood everything
pins_plain = (refl, refl)

create_pins : (old new : State) (r : Result ℕ Error) → ExecutesInside 0 pins_text [] old new r → Creates pairs_schema our_schema old new r
create_pins = bares pins_text pairs_schema pins pins_meaning.0 pins_meaning.1 pins_plain pins_meaning.2 pins_meaning.3 (λ old new bare empty keeps. (keeps.0 ∙ bare.1.0, (keeps.1.0 ∙ bare.1.1.0, (keeps.1.1.0 ∙ bare.1.1.1.0, (keeps.1.1.1.0 ∙ bare.1.1.1.1.0, (keeps.1.1.1.1.0 ∙ bare.1.1.1.1.1.0, (empty, tt)))))))

pub creates_table : (t : OurTable) (old new : State) (r : Result ℕ Error) → ExecutesInside 0 (creation_text t) [] old new r → Creates (schema_before t) (schema_with t) old new r
creates_table Meta = create_meta
creates_table Scopes = create_scopes
creates_table Versions = create_versions
creates_table Builds = create_builds
creates_table Pairs = create_pairs
creates_table Pins = create_pins
