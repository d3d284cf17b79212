-- The SELECTs are refused by nothing but memory, disk and interruption.
use Rattle.std.proofs.Common.{◌≡◌, ◌≢◌, ℕ, List, [], ◌∷◌, length, true, false, Ok, Err, Result, IfErr, refl, sym, ap, subst, ◌∙◌, ◌≤◌, ◌⊎◌, inl, inr, Option, true≢false}
use Rattle.std.specs.Prelude.{nat_le}
use Rattle.std.proofs.lemmas.Bool.{leb-true}
use Rattle.sqlite_tied.specs.Compute.{everything}
use Rattle.sqlite.specs.declared.error.Error.{Error}
use Rattle.sqlite.specs.declared.error.Error.TheVariants.{SqliteFailure, MultipleStatement, InvalidParameterCount}
use Rattle.sqlite.specs.declared.error.ErrorCode.TheVariants as code
use Rattle.sqlite.specs.Term.{Term, col}
use Rattle.sqlite.specs.Effect.{Database, RefusesToRead, RefusesQuery}
use Rattle.sqlite.specs.Command.TheVariants.{Select}
use Rattle.sqlite.specs.Listing.{understood, reads_listing, IsSourceOf}
use Rattle.sqlite.specs.State.{State, IsNotRun, IsNoStatement, Fails, FailsToQuery, store_error}
use Rattle.sqlite_resolve.specs.declared.compiled.Compiled.{Compiled}
use Rattle.sqlite_resolve.specs.declared.error.CompileError.{CompileError}
use Rattle.sqlite_trees.specs.declared.error.StoreError.{StoreError}
use Rattle.sqlite_trees.specs.declared.error.StoreError.TheVariants.{OutOfMemory, Io, Corrupt, Full, Broken, Unstorable}
use Rattle.sqlite_typing.specs.Types.{accepts_program}
use Rattle.sqlite.proofs.Callers.{IsPlain, command_of}
use Rattle.ccr_tables.specs.Cause.{cause_of}
use Rattle.ccr_tables.specs.declared.cause.Cause.TheVariants.{Refused}
use Rattle.ccr_tables.specs.Schema.{our_schema}
use Rattle.ccr_tables.specs.Tables.{listing_text}
use Rattle.ccr_tables.specs.declared.table.Table.{Table}
use Rattle.ccr_tables.specs.declared.table.Table.TheVariants.{Meta, Scopes, Versions, Builds, Pairs, Pins}
use Rattle.ccr_tables.proofs.Texts.{query}
use Rattle.ccr_tables.proofs.Texts as texts

-- the text is one statement, without parameters
abbrev pub IsWhole : List ℕ → Result Compiled CompileError → Type 0
IsWhole text (Ok c) = (nat_le (length text) c.tail ≡ true) × (c.names ≡ [])
IsWhole text (Err e) = ⊥

-- what the store answers isn't a refusal, but for what is too big
of_store : (cause : StoreError) (e : Error) → e ≡ store_error cause → (cause ≡ Unstorable → ⊥) → cause_of e ≢ Refused
of_store OutOfMemory e is small = λ refused. absurd (let both = ap cause_of (sym is) ∙ refused in cc)
of_store Io e is small = λ refused. absurd (let both = ap cause_of (sym is) ∙ refused in cc)
of_store Corrupt e is small = λ refused. absurd (let both = ap cause_of (sym is) ∙ refused in cc)
of_store Full e is small = λ refused. absurd (let both = ap cause_of (sym is) ∙ refused in cc)
of_store Broken e is small = λ refused. absurd (let both = ap cause_of (sym is) ∙ refused in cc)
of_store Unstorable e is small = absurd (small refl)

failed : (old new : State) (e : Error) → Fails old new ⊥ e → cause_of e ≢ Refused
failed old new e (OutOfMemory, is, cause, back, tells) = of_store OutOfMemory e is (λ same. absurd cc)
failed old new e (Io, is, cause, back, tells) = of_store Io e is (λ same. absurd cc)
failed old new e (Corrupt, is, cause, back, tells) = of_store Corrupt e is (λ same. absurd cc)
failed old new e (Full, is, cause, back, tells) = of_store Full e is (λ same. absurd cc)
failed old new e (Broken, is, cause, back, tells) = of_store Broken e is (λ same. absurd cc)
failed old new e (Unstorable, is, cause, back, tells) = absurd cause

module _ (tree : ℕ) (keys project : List Term) (text : List ℕ) (names : List (List ℕ)) (is : command_of (understood our_schema text) ≡ Select (record { lets = []; body = query tree [] keys project }) names)
    (plain : IsPlain (understood our_schema text)) (unlisted : reads_listing our_schema text ≡ false) (whole : IsWhole text (understood our_schema text))
    (typed : accepts_program our_schema [] (query tree [] keys project) [] ≡ true) where
  no_statement : (s : State) (e : Error) → s.now.schema ≡ our_schema → IsNoStatement s text [] e → ⊥
  no_statement s e has (inl unread) = subst IsPlain (ap (λ k. understood k text) (sym has) ∙ unread.1) plain
  no_statement s e has (inr (c, read, why)) = by why
    where
      known : understood our_schema text ≡ Ok c
      known = ap (λ k. understood k text) (sym has) ∙ read

      by : ((¬ (length text ≤ c.tail)) × (e ≡ MultipleStatement)) ⊎ (((0 ≢ length c.names) × (e ≡ InvalidParameterCount 0 (length c.names))) ⊎ ((c.formats ≢ []) × (e ≡ SqliteFailure code.NoClock))) → ⊥
      by (inl more) = more.0 (leb-true (length text) c.tail (subst (IsWhole text) known whole).0)
      by (inr (inl many)) = many.0 (ap (λ (names : List (List ℕ)). length names) (sym (subst (IsWhole text) known whole).1))
      by (inr (inr clock)) = clock.0 (subst IsPlain known plain).1

  no_reading : (limit : Option ℕ) (db : Database) (e : Error) → db.schema ≡ our_schema → RefusesQuery limit db (record { lets = []; body = query tree [] keys project }) [] e → cause_of e ≢ Refused
  no_reading limit db e has (inl wrong) = absurd (true≢false (sym typed ∙ ap (λ s. accepts_program s [] (query tree [] keys project) []) (sym has) ∙ wrong.1))
  no_reading limit db e has (inr (inl (at, inl over))) = absurd over
  no_reading limit db e has (inr (inl (at, inr over))) = absurd over.4
  no_reading limit db e has (inr (inr (at, some))) = λ refused. absurd (let both = ap cause_of (sym at) ∙ refused in cc)

  pub unrefused : {X : Type 0} (old new : State) (r : Result X Error) → old.now.schema ≡ our_schema → IfErr r (FailsToQuery text [] old new) → IfErr r (λ e. cause_of e ≢ Refused)
  unfolding FailsToQuery IsNotRun
  unrefused old new (Ok x) has h = tt
  unrefused old new (Err e) has (inl (inl wrong)) = absurd (no_statement old e has wrong.0)
  unrefused old new (Err e) has (inl (inr fails)) = failed old new e fails
  unrefused old new (Err e) has (inr h) =
      let known = sym h.1.is ∙ ap (λ s. understood s text) has in
      let bare = subst IsPlain (sym known) plain in
      let it = rw (bare.0, bare.1) at h.2 in
      let db : it.0 ≡ old.now = subst (λ b. IsSourceOf b old.now it.0) (ap (λ s. reads_listing s text) has ∙ unlisted) it.1 in
      no_reading old.step_limit it.0 e (ap (λ (d : Database). d.schema) db ∙ has) (subst (λ k. RefusesToRead old.step_limit k it.0 [] e) (ap command_of known ∙ is) it.2)

meta_whole : IsWhole texts.meta_text (understood our_schema texts.meta_text)
unfolding understood everything
meta_whole = (refl, refl)

meta_typed : accepts_program our_schema [] (query 0 [] (col 1 0 ∷ []) (col 1 0 ∷ col 1 2 ∷ [])) [] ≡ true
unfolding everything
meta_typed = refl

unrefused_meta : {X : Type 0} (old new : State) (r : Result X Error) → old.now.schema ≡ our_schema → IfErr r (FailsToQuery texts.meta_text [] old new) → IfErr r (λ e. cause_of e ≢ Refused)
unrefused_meta = unrefused 0 (col 1 0 ∷ []) (col 1 0 ∷ col 1 2 ∷ []) texts.meta_text texts.meta_names texts.meta_command texts.meta_plain texts.meta_unlisted meta_whole meta_typed

scopes_whole : IsWhole texts.scopes_text (understood our_schema texts.scopes_text)
unfolding understood everything
scopes_whole = (refl, refl)

scopes_typed : accepts_program our_schema [] (query 1 [] (col 1 0 ∷ []) (col 1 0 ∷ col 1 2 ∷ col 1 3 ∷ col 1 4 ∷ [])) [] ≡ true
unfolding everything
scopes_typed = refl

unrefused_scopes : {X : Type 0} (old new : State) (r : Result X Error) → old.now.schema ≡ our_schema → IfErr r (FailsToQuery texts.scopes_text [] old new) → IfErr r (λ e. cause_of e ≢ Refused)
unrefused_scopes = unrefused 1 (col 1 0 ∷ []) (col 1 0 ∷ col 1 2 ∷ col 1 3 ∷ col 1 4 ∷ []) texts.scopes_text texts.scopes_names texts.scopes_command texts.scopes_plain texts.scopes_unlisted scopes_whole scopes_typed

versions_whole : IsWhole texts.versions_text (understood our_schema texts.versions_text)
unfolding understood everything
versions_whole = (refl, refl)

versions_typed : accepts_program our_schema [] (query 3 [] (col 1 1 ∷ col 1 2 ∷ []) (col 1 1 ∷ col 1 2 ∷ col 1 3 ∷ [])) [] ≡ true
unfolding everything
versions_typed = refl

unrefused_versions : {X : Type 0} (old new : State) (r : Result X Error) → old.now.schema ≡ our_schema → IfErr r (FailsToQuery texts.versions_text [] old new) → IfErr r (λ e. cause_of e ≢ Refused)
unrefused_versions = unrefused 3 (col 1 1 ∷ col 1 2 ∷ []) (col 1 1 ∷ col 1 2 ∷ col 1 3 ∷ []) texts.versions_text texts.versions_names texts.versions_command texts.versions_plain texts.versions_unlisted versions_whole versions_typed

builds_whole : IsWhole texts.builds_text (understood our_schema texts.builds_text)
unfolding understood everything
builds_whole = (refl, refl)

builds_typed : accepts_program our_schema [] (query 6 [] (col 1 0 ∷ []) (col 1 0 ∷ col 1 2 ∷ col 1 3 ∷ col 1 4 ∷ [])) [] ≡ true
unfolding everything
builds_typed = refl

unrefused_builds : {X : Type 0} (old new : State) (r : Result X Error) → old.now.schema ≡ our_schema → IfErr r (FailsToQuery texts.builds_text [] old new) → IfErr r (λ e. cause_of e ≢ Refused)
unrefused_builds = unrefused 6 (col 1 0 ∷ []) (col 1 0 ∷ col 1 2 ∷ col 1 3 ∷ col 1 4 ∷ []) texts.builds_text texts.builds_names texts.builds_command texts.builds_plain texts.builds_unlisted builds_whole builds_typed

pairs_whole : IsWhole texts.pairs_text (understood our_schema texts.pairs_text)
unfolding understood everything
pairs_whole = (refl, refl)

pairs_typed : accepts_program our_schema [] (query 8 [] (col 1 1 ∷ col 1 2 ∷ col 1 3 ∷ col 1 4 ∷ []) (col 1 1 ∷ col 1 2 ∷ col 1 3 ∷ col 1 4 ∷ [])) [] ≡ true
unfolding everything
pairs_typed = refl

unrefused_pairs : {X : Type 0} (old new : State) (r : Result X Error) → old.now.schema ≡ our_schema → IfErr r (FailsToQuery texts.pairs_text [] old new) → IfErr r (λ e. cause_of e ≢ Refused)
unrefused_pairs = unrefused 8 (col 1 1 ∷ col 1 2 ∷ col 1 3 ∷ col 1 4 ∷ []) (col 1 1 ∷ col 1 2 ∷ col 1 3 ∷ col 1 4 ∷ []) texts.pairs_text texts.pairs_names texts.pairs_command texts.pairs_plain texts.pairs_unlisted pairs_whole pairs_typed

pins_whole : IsWhole texts.pins_text (understood our_schema texts.pins_text)
unfolding understood everything
pins_whole = (refl, refl)

pins_typed : accepts_program our_schema [] (query 10 [] (col 1 1 ∷ []) (col 1 1 ∷ col 1 2 ∷ [])) [] ≡ true
unfolding everything
pins_typed = refl

unrefused_pins : {X : Type 0} (old new : State) (r : Result X Error) → old.now.schema ≡ our_schema → IfErr r (FailsToQuery texts.pins_text [] old new) → IfErr r (λ e. cause_of e ≢ Refused)
unrefused_pins = unrefused 10 (col 1 1 ∷ []) (col 1 1 ∷ col 1 2 ∷ []) texts.pins_text texts.pins_names texts.pins_command texts.pins_plain texts.pins_unlisted pins_whole pins_typed

pub unrefused_rows : {X : Type 0} (t : Table) (old new : State) (r : Result X Error) → old.now.schema ≡ our_schema → IfErr r (FailsToQuery (listing_text t) [] old new) → IfErr r (λ e. cause_of e ≢ Refused)
unrefused_rows Meta = unrefused_meta
unrefused_rows Scopes = unrefused_scopes
unrefused_rows Versions = unrefused_versions
unrefused_rows Builds = unrefused_builds
unrefused_rows Pairs = unrefused_pairs
unrefused_rows Pins = unrefused_pins
