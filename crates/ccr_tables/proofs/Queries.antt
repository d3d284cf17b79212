-- A SELECT writes nothing, whatever tables the database has.
use Rattle.std.proofs.Common.{◌≡◌, List, ℕ, [], true, false, None, Some, Ok, Err, Result, IfOk, IfErr, Vec, Global, Option, refl, subst, ◌∙◌, inl, inr, ◌⊎◌, arith}
use Rattle.std.specs.Prelude.{IsSome, IsErrAnd, if◌then◌else◌}
use Rattle.std.proofs.lemmas.Result.{on_ok_weaker}
use Rattle.sqlite_tied.specs.Compute.{everything}
use Rattle.sqlite_ast.specs.declared.Statement.{Statement}
use Rattle.sqlite_ast.specs.declared.Statement.TheVariants as written
use Rattle.sqlite_syntax.specs.declared.statement.Parsed.{Parsed}
use Rattle.sqlite_trees.specs.declared.store.Store.{Ghosts}
use Rattle.sqlite_schema.specs.declared.schema.Schema.{Schema}
use Rattle.sqlite_schema.specs.declared.command.Command.{Command}
use Rattle.sqlite_schema.specs.declared.command.Returning.{Returning}
use Rattle.sqlite_resolve.specs.Compile.{first, meaning, planned, compiled, command, returning, timed, with_command, read}
use Rattle.sqlite_resolve.specs.Lowering.{Checked, and_then}
use Rattle.sqlite_resolve.specs.declared.compiled.Compiled.{Compiled}
use Rattle.sqlite_resolve.specs.declared.error.CompileError.TheVariants.{NoSuchTable}
use Rattle.sqlite.specs.declared.error.Error.{Error}
use Rattle.sqlite.specs.Order.{Row}
use Rattle.sqlite.specs.Tree.{Trees}
use Rattle.sqlite.specs.Listing.{understood, reads_listing, listing_schema, if_select, is_select}
use Rattle.sqlite.specs.State.{State, HasCleanDisk, Shown, ShowsRows, IsUnchanged, IsRolledBack, Survives, CommitsShowing, FailsToQuery, FailsToShow, IsNotRun}
use Rattle.sqlite.specs.Clock as clock
use Rattle.sqlite.specs.Held.{Held, state}
use Rattle.sqlite.specs.Given.{HasGiven, HasBegun, Returns}
use Rattle.sqlite.proofs.Callers.{unchanged_then}
use Rattle.sqlite.proofs.StateLemmas.{survives_weaker}
use Rattle.ccr_tables.specs.Left.{WritesNothing, OnlyReads}
use Rattle.ccr_tables.specs.Tables.{listing_text}
use Rattle.ccr_tables.specs.declared.table.Table.{Table}
use Rattle.ccr_tables.specs.declared.table.Table.TheVariants.{Meta, Scopes, Versions, Builds, Pairs, Pins}
use Rattle.ccr_tables.proofs.InTurn.{survives_both}
use Rattle.ccr_tables.proofs.Texts as texts

-- ---- what the text means
-- a statement is a SELECT
abbrev IsQuery : Statement → Type 0
IsQuery (written.Select s) = Unit {0}
IsQuery _ = ⊥

-- the text is read as a SELECT that doesn't read the time
abbrev StartsPlain : Checked Parsed → Type 0
StartsPlain (Ok p) = IsQuery p.statement × (p.formats ≡ [])
StartsPlain (Err e) = ⊥

-- if it means something, it has no RETURNING and doesn't read the time
abbrev pub IsPlainIf : Checked Compiled → Type 0
IsPlainIf r = IfOk r (λ c. (c.returning ≡ None) × (c.formats ≡ []))

ends : (r : Checked Command) (p : Parsed) (formats : List (List ℕ)) → formats ≡ [] → IsPlainIf (and_then (and_then (and_then r (λ c. Ok (c, None))) (λ found. Ok (formats, found))) (λ plan. Ok (with_command p plan)))
ends (Ok c) p formats none = (refl, none)
ends (Err e) p formats none = tt

by_statement : (schema : Schema) (p : Parsed) (s : Statement) (base : ℕ) → IsQuery s → p.formats ≡ []
    → IsPlainIf (and_then (and_then (and_then (returning schema base s) (λ shown. and_then (command schema p.formats base s) (λ c. Ok (c, shown)))) (λ found. Ok (timed schema p.formats s, found))) (λ plan. Ok (with_command p plan)))
unfolding command returning timed
by_statement schema p (written.Select s) base is none = ends (read schema s) p p.formats none
by_statement schema p _ base is none = absurd is

by_first : (schema : Schema) (r : Checked Parsed) → StartsPlain r → IsPlainIf (and_then r (λ p. and_then (planned schema p) (λ plan. Ok (with_command p plan))))
unfolding planned meaning
by_first schema (Ok p) is = by_statement schema p p.statement _ is.0 is.1
by_first schema (Err e) is = absurd is

compiled_plain : (text : List ℕ) → StartsPlain (first text) → (schema : Schema) → IsPlainIf (compiled schema text)
unfolding compiled
compiled_plain text is schema = by_first schema (first text) is

select_plain : (r : Checked Compiled) → IsPlainIf r → IsPlainIf (if_select r)
select_plain (Ok c) h = elim (is_select c.command) as (λ b. IsPlainIf (if b then Ok c else Err NoSuchTable)) [ true ↦ h | false ↦ tt ]
select_plain (Err e) h = tt

plain_anywhere : (text : List ℕ) → StartsPlain (first text) → (schema : Schema) → IsPlainIf (understood schema text)
unfolding understood
plain_anywhere text is schema =
    elim (reads_listing schema text) as (λ b. IsPlainIf (if b then if_select (compiled listing_schema text) else compiled schema text))
    [ true ↦ select_plain (compiled listing_schema text) (compiled_plain text is listing_schema) | false ↦ compiled_plain text is schema ]

meta_starts : StartsPlain (first texts.meta_text)
unfolding first everything
meta_starts = (tt, refl)

meta_plain : (schema : Schema) → IsPlainIf (understood schema texts.meta_text)
meta_plain = plain_anywhere texts.meta_text meta_starts

scopes_starts : StartsPlain (first texts.scopes_text)
unfolding first everything
scopes_starts = (tt, refl)

scopes_plain : (schema : Schema) → IsPlainIf (understood schema texts.scopes_text)
scopes_plain = plain_anywhere texts.scopes_text scopes_starts

versions_starts : StartsPlain (first texts.versions_text)
unfolding first everything
versions_starts = (tt, refl)

versions_plain : (schema : Schema) → IsPlainIf (understood schema texts.versions_text)
versions_plain = plain_anywhere texts.versions_text versions_starts

builds_starts : StartsPlain (first texts.builds_text)
unfolding first everything
builds_starts = (tt, refl)

builds_plain : (schema : Schema) → IsPlainIf (understood schema texts.builds_text)
builds_plain = plain_anywhere texts.builds_text builds_starts

pairs_starts : StartsPlain (first texts.pairs_text)
unfolding first everything
pairs_starts = (tt, refl)

pairs_plain : (schema : Schema) → IsPlainIf (understood schema texts.pairs_text)
pairs_plain = plain_anywhere texts.pairs_text pairs_starts

pins_starts : StartsPlain (first texts.pins_text)
unfolding first everything
pins_starts = (tt, refl)

pins_plain : (schema : Schema) → IsPlainIf (understood schema texts.pins_text)
pins_plain = plain_anywhere texts.pins_text pins_starts

pub plain_listing : (t : Table) (schema : Schema) → IsPlainIf (understood schema (listing_text t))
plain_listing Meta = meta_plain
plain_listing Scopes = scopes_plain
plain_listing Versions = versions_plain
plain_listing Builds = builds_plain
plain_listing Pairs = pairs_plain
plain_listing Pins = pins_plain

-- ---- what it leaves
pub shown_unchanged : (text : List ℕ) (old new : State) (rows : List Row) → IsPlainIf (understood old.now.schema text) → Shown text [] old new rows → IsUnchanged old new
unfolding Shown
shown_unchanged text old new rows plain h =
    let none = (subst IsPlainIf h.1.is plain).0 in
    (subst (λ r. ShowsRows old new text h.0 (clock.timed [] h.0.formats h.1.now) rows r) none h.2).3

never_commits : (text : List ℕ) (old : State) (db : Trees) → IsPlainIf (understood old.now.schema text) → CommitsShowing text [] old db → ⊥
unfolding CommitsShowing
never_commits text old db plain h = never h.0.returning (subst IsPlainIf h.1.is plain).0 h.2
  where
    never : (what : Option Returning) → what ≡ None → IsSome what → ⊥
    never what none some = absurd (let both = rw none at some in cc)

pub survives : (text : List ℕ) (old new : State) → IsPlainIf (understood old.now.schema text) → Survives old new (CommitsShowing text [] old) → Survives old new (λ _. ⊥)
survives text old new plain h = survives_weaker old new _ _ (λ _ db. never_commits text old db plain) h

pub unchanged_nothing : (old new : State) → IsUnchanged old new → WritesNothing old new
unchanged_nothing old new h = record { was_open = λ _. h.0.was_open; now = λ _. inl h.0.now_is; committed = λ _. h.0.committed_is }

pub back_nothing : (old new : State) → IsRolledBack old new → WritesNothing old new
back_nothing old new h = record { was_open = h.was_open; now = λ o. inr (h.undone o).0; committed = λ o. (h.undone o).1 }

pub fails_nothing : (text : List ℕ) (old new : State) (e : Error) → FailsToQuery text [] old new e → WritesNothing old new
unfolding FailsToQuery IsNotRun
fails_nothing text old new e (inl (inl h)) = unchanged_nothing old new h.1
fails_nothing text old new e (inl (inr h)) = back_nothing old new h.3
fails_nothing text old new e (inr h) = by h.0.returning h.2
  where
    by : (what : Option Returning) → FailsToShow old new text h.0 (clock.timed [] h.0.formats h.1.now) e what → WritesNothing old new
    by None fails = unchanged_nothing old new fails.3
    by (Some what) (inl fails) = unchanged_nothing old new fails.1
    by (Some what) (inr fails) = back_nothing old new fails.3

pub fails_left : {X : Type 0} (text : List ℕ) (old new : State) (r : Result X Error) (e : Error) → r ≡ Err e → IfErr r (FailsToQuery text [] old new) → WritesNothing old new
fails_left text old new (Ok x) e was fails = absurd (cc)
fails_left text old new (Err x) e was fails = fails_nothing text old new x fails

-- a query only reads
pub only_reads : (text : List ℕ) (old new : State) (r : Result (Vec Row Global) Error) → IsPlainIf (understood old.now.schema text) → Survives old new (CommitsShowing text [] old)
    → (HasCleanDisk new → IfOk r (λ rows. Shown text [] old new rows.items)) → (HasCleanDisk new → IfErr r (FailsToQuery text [] old new)) → OnlyReads old new r
only_reads text old new (Ok rows) plain crash shown fails = record {
  crash = survives text old new plain crash;
  left = λ clean. unchanged_nothing old new (shown_unchanged text old new rows.items plain (shown clean));
  same = λ clean. shown_unchanged text old new rows.items plain (shown clean);
}
only_reads text old new (Err e) plain crash shown fails =
    record { crash = survives text old new plain crash; left = λ clean. fails_nothing text old new e (fails clean); same = λ clean. tt }

pub nothing_then : (a b c : State) → WritesNothing a b → WritesNothing b c → WritesNothing a c
nothing_then a b c p q = record {
  was_open = λ o. p.was_open (q.was_open o);
  now = λ o. by (q.now o) (p.now (q.was_open o)) (p.committed (q.was_open o));
  committed = λ o. q.committed o ∙ p.committed (q.was_open o);
}
  where
    by : (c.now ≡ b.now) ⊎ (c.now ≡ b.committed) → (b.now ≡ a.now) ⊎ (b.now ≡ a.committed) → b.committed ≡ a.committed → (c.now ≡ a.now) ⊎ (c.now ≡ a.committed)
    by (inl same) (inl was) kept = inl (same ∙ was)
    by (inl same) (inr was) kept = inr (same ∙ was)
    by (inr back) was kept = inr (back ∙ kept)

-- ---- one read after another
pub reads_then : {X Y E F : Type 0} (a b c : State) (x : X) (r : Result Y F) → OnlyReads {X = X} {E = E} a b (Ok x) → OnlyReads b c r → OnlyReads a c r
reads_then {X} {Y} {E} {F} a b c x r p q = record {
  crash = survives_both a b c p.crash q.crash;
  left = λ clean. nothing_then a b c (p.left (early clean)) (q.left clean);
  same = λ clean. on_ok_weaker r (λ two. unchanged_then a b c (p.same (early clean)) two) (q.same clean);
}
  where
    early : HasCleanDisk c → HasCleanDisk b
    early clean = omega (arith, q.crash.clean)

-- a read that gave what it read did so, whatever is made of it
pub reads_on : {X Y E F : Type 0} (a b : State) (x : X) (r : Result Y F) → OnlyReads {X = X} {E = E} a b (Ok x) → OnlyReads a b r
reads_on a b x (Ok y) it = record { crash = it.crash; left = it.left; same = it.same }
reads_on a b x (Err f) it = record { crash = it.crash; left = it.left; same = λ clean. tt }

pub reads_same : {Y F : Type 0} (a b : State) (r : Result Y F) → Survives a b (λ _. ⊥) → (HasCleanDisk b → IsUnchanged a b) → OnlyReads a b r
reads_same a b (Ok y) crash same = record { crash = crash; left = λ clean. unchanged_nothing a b (same clean); same = same }
reads_same a b (Err f) crash same = record { crash = crash; left = λ clean. unchanged_nothing a b (same clean); same = λ clean. tt }

pub reads_failing : {Y F : Type 0} (a b : State) (r : Result Y F) → IfOk r (λ _. ⊥) → Survives a b (λ _. ⊥) → (HasCleanDisk b → WritesNothing a b) → OnlyReads a b r
reads_failing a b (Ok y) none crash left = absurd none
reads_failing a b (Err f) none crash left = record { crash = crash; left = left; same = λ clean. tt }

-- a failure is handed on as another
pub reads_failed : {X Y E F : Type 0} (a b : State) (s : Result X E) (r : Result Y F) → IfOk r (λ _. ⊥) → OnlyReads a b s → OnlyReads a b r
reads_failed a b s (Ok y) none it = absurd none
reads_failed a b s (Err f) none it = record { crash = it.crash; left = it.left; same = λ clean. tt }

pub only_error : {Y F : Type 0} (r : Result Y F) (P : F → Type 0) → IsErrAnd r P → IfOk r (λ _. ⊥)
only_error (Ok y) P h = h
only_error (Err f) P h = tt

-- ---- row by row
never_returns : (r : Checked Compiled) → IsPlainIf r → Returns r → ⊥
never_returns (Ok c) plain some = absurd (let both = rw plain.0 at some in cc)
never_returns (Err e) plain some = some

pub begun_anywhere : {S : Type 0} (g : Ghosts S) (sql : List ℕ) (params : Row) (old new : Held S) → IsPlainIf (understood old.schema sql) → HasBegun g sql params old new → HasGiven g sql params new [] × IsUnchanged (state g old) (state g new)
begun_anywhere g sql params old new plain (inl h) = h
begun_anywhere g sql params old new plain (inr h) = absurd (never_returns _ plain h.0)
