-- A database is taken, step by step.
use Rattle.std.proofs.Common.{◌≡◌, ◌≢◌, ◌⊎◌, inl, inr, [], ◌∷◌, Result, Ok, Err, IfErr, sym, subst, ◌∙◌, arith, IsTrue}
use Rattle.sqlite_trees.specs.declared.store.Store.{Ghosts}
use Rattle.sqlite.specs.declared.error.Error.{Error}
use Rattle.sqlite.specs.Effect.{Database}
use Rattle.sqlite.specs.Held.{state}
use Rattle.sqlite.specs.State.{State, HasCleanDisk, Survives}
use Rattle.sqlite.specs.Tree.{Trees}
use Rattle.sqlite.proofs.StateLemmas.{survives_weaker, survives_then}
use Rattle.ccr_history.specs.declared.store_fault.StoreFault.{StoreFault}
use Rattle.ccr_history.specs.declared.store_fault.StoreFault.TheVariants as of
use Rattle.ccr_tables.specs.Answered.{IsAnswered}
use Rattle.ccr_tables.specs.Cause.{cause_of}
use Rattle.ccr_tables.specs.declared.cause.Cause.{Cause}
use Rattle.ccr_tables.specs.declared.cause.Cause.TheVariants as cause
use Rattle.ccr_tables.specs.Contents.{Contents, Holds, Keeps, ListOurs}
use Rattle.ccr_tables.specs.Schema.{no_schema}
use Rattle.ccr_tables.specs.Step.{Turns, IsLeftBy}
use Rattle.ccr_tables.specs.Written.{all_written}
use Rattle.ccr_tables.specs.declared.write.Write.TheVariants as write
use Rattle.ccr_tables.proofs.InTurn.{survives_both}
use Rattle.ccr_store.specs.Causes.{IsBegun, IsRaised, IsUnraised}
use Rattle.ccr_store.specs.Faults.{fault_of}
use Rattle.ccr_store.specs.Left.{IsAsItWas}
use Rattle.ccr_store.specs.Rows.{raised}
use Rattle.ccr_store.specs.Shown.{ShowsFormat}
use Rattle.ccr_store.specs.declared.format.Format.TheVariants.{One}
use Rattle.ccr_store.proofs.ReadFaults.{fault_after}

-- ---- what a crash leaves
-- nothing new is nothing that is begun
pub nothing_begun : (a b : State) → Survives a b (λ _. ⊥) → Survives a b (IsBegun a)
nothing_begun a b it = survives_weaker a b (λ _. ⊥) (IsBegun a) (λ _ db none. absurd none) it

-- the number of the format is written behind a read
pub raise_begun : (a b c : State) → (HasCleanDisk a → ShowsFormat One a.now) → (HasCleanDisk b → b.now ≡ a.now) → Survives a b (λ _. ⊥) → Survives b c (IsLeftBy (write.Format ∷ []) b) → Survives a c (IsRaised a)
raise_begun a b c shows same one two =
    survives_then a b c (λ _. ⊥) (IsLeftBy (write.Format ∷ []) b) (IsRaised a) (λ _ db none. absurd none)
    (λ clean db left.
    let clean_b : HasCleanDisk b = omega (arith, two.clean) in
    let clean_a : HasCleanDisk a = omega (arith, one.clean, clean_b) in
    (shows clean_a, λ these has. let here = subst (Holds these) (sym (same clean_b)) has in (left.made these here, left.listed (λ none. absurd (let some = none in cc)) these here)))
    one two

abbrev Raised : Trees → Database → Type 0
Raised trees db = ShowsFormat One db × ((these : Contents) → Holds these db → Keeps (raised these) trees × ListOurs trees)

-- what is written over behind a read is begun before it, where there are tables
pub begun_behind : (a b c : State) → a.now.schema ≢ no_schema → (HasCleanDisk b → b.now ≡ a.now) → Survives a b (λ _. ⊥) → Survives b c (IsRaised b) → Survives a c (IsBegun a)
begun_behind a b c other same one two =
    survives_then a b c (λ _. ⊥) (IsRaised b) (IsBegun a) (λ _ db none. absurd none)
    (λ clean db over.
    let clean_b : HasCleanDisk b = omega (arith, two.clean) in
    inr (other, subst (Raised db) (same clean_b) over)) one two

-- ---- why it fails
-- the write failed behind a read
answered_behind : {S : Type 0} (g : Ghosts S) (a b : State) (e : Error) → b.now ≡ a.now → Survives a b (λ _. ⊥) → IsAnswered g (write.Format ∷ []) b e → IsAnswered g (write.Format ∷ []) a e
answered_behind g a b e same kept (inl it) = inl (record {
  done = it.done;
  write = it.write;
  rest = it.rest;
  before = it.before;
  after = it.after;
  parts = it.parts;
  made = subst (λ (d : Database). Turns (all_written it.done) d (state g it.before).now) same it.made;
  kept = survives_both a b (state g it.before) kept it.kept;
  answered = it.answered;
})
answered_behind g a b e same kept (inr it) = inr (record {
  before = it.before;
  after = it.after;
  made = subst (λ (d : Database). Turns (all_written (write.Format ∷ [])) d (state g it.before).now) same it.made;
  kept = survives_both a b (state g it.before) kept it.kept;
  answered = it.answered;
})

pub unraised_write : {S : Type 0} (g : Ghosts S) (a b : State) (e : Error) (fault : StoreFault) → fault ≡ fault_of (cause_of e) → b.now ≡ a.now → Survives a b (λ _. ⊥) → IsAnswered g (write.Format ∷ []) b e → IsUnraised g a fault
unraised_write g a b e fault is same kept it = inr (e, is, answered_behind g a b e same kept it)

pub unraised_behind : {S X : Type 0} (g : Ghosts S) (a b : State) (r : Result X StoreFault) → b.now ≡ a.now → Survives a b (λ _. ⊥) → IfErr r (IsUnraised g b) → IfErr r (IsUnraised g a)
unraised_behind g a b (Ok x) same kept h = tt
unraised_behind g a b (Err fault) same kept (inl unloaded) = inl (fault_after {X = Unit {0}} g a b One (Err fault) same kept unloaded)
unraised_behind g a b (Err fault) same kept (inr (e, is, it)) = inr (e, is, answered_behind g a b e same kept it)

-- no failure of a write says that the tables aren't ours
no_blame : (c : Cause) → fault_of c ≢ of.NotOurs
no_blame cause.Refused e = absurd (let bad = e in cc)
no_blame cause.NoMemory e = absurd (let bad = e in cc)
no_blame cause.Disk e = absurd (let bad = e in cc)
no_blame cause.Interrupted e = absurd (let bad = e in cc)

pub not_blamed : (fault : StoreFault) (e : Error) → fault ≡ fault_of (cause_of e) → fault ≢ of.NotOurs
not_blamed fault e is ours = no_blame (cause_of e) (sym is ∙ ours)

-- ---- what is left
pub as_it_was_both : (a b c : State) → (IsTrue b.is_open → b.now ≡ a.now) → (IsTrue b.is_open → b.committed ≡ a.committed) → (IsTrue b.is_open → IsTrue a.is_open) → IsAsItWas b c → IsAsItWas a c
as_it_was_both a b c now committed was it = record {
  was_open = λ up. was (it.was_open up);
  now = λ up. it.now up ∙ now (it.was_open up);
  committed = λ up. it.committed up ∙ committed (it.was_open up);
}
