-- Why a creation failed.
use Rattle.std.proofs.Common.{◌≡◌, true, ℕ, List, [], Ok, Err, Result, IfOk, IfErr, OnOk, ◌≢◌, refl, sym, subst, inl, inr, arith}
use Rattle.std.specs.Prelude.{IsErrAnd}
use Rattle.sqlite_trees.specs.declared.store.Store.{Ghosts}
use Rattle.sqlite.specs.declared.error.Error.{Error}
use Rattle.sqlite.specs.Order.{Row}
use Rattle.sqlite.specs.State.{State, HasCleanDisk, Survives, ExecutesInside}
use Rattle.sqlite.specs.Steps.{FailsToCommit}
use Rattle.sqlite.specs.Held.{Held, state}
use Rattle.sqlite.specs.Effect.{IsDatabase}
use Rattle.sqlite.proofs.Callers.{survives_begin}
use Rattle.sqlite.proofs.StateLemmas.{survives_then}
use Rattle.ccr_tables.specs.Contents.{Holds, Keeps, ListOurs, new_contents}
use Rattle.ccr_tables.specs.Cause.{cause_of}
use Rattle.ccr_tables.specs.declared.cause.Cause.TheVariants.{Refused}
use Rattle.ccr_tables.specs.declared.creation.Creation.{Creation}
use Rattle.ccr_tables.specs.declared.creation.Creation.TheVariants.{Made}
use Rattle.ccr_tables.specs.Created.{IsFirst, FailedAtFirst, WasRefused, IsUnmade}
use Rattle.ccr_tables.specs.Schema.{no_schema}
use Rattle.ccr_tables.specs.Tables.{creation_text}
use Rattle.ccr_tables.specs.declared.table.Table.{Table}
use Rattle.ccr_tables.proofs.InTurn.{survives_both, on_failed}
use Rattle.ccr_tables.proofs.Ours.{left_listed}

pub first_failed : {S : Type 0} (g : Ghosts S) (old : State) (before after : Held S) (text : List ℕ) (params : Row) (e : Error) → IsFirst text params → Survives old (state g before) (λ _. ⊥)
    → ExecutesInside 0 text params (state g before) (state g after) (Err e) → FailedAtFirst g old e
first_failed g old before after text params e is kept answered = record { text = text; params = params; first = is; before = before; after = after; kept = kept; answered = answered }

-- a table wasn't made
pub table_failed : {S : Type 0} (g : Ghosts S) (old : State) (before after : Held S) (t : Table) (e : Error) → Survives old (state g before) (λ _. ⊥)
    → ExecutesInside 0 (creation_text t) [] (state g before) (state g after) (Err e) → FailedAtFirst g old e
table_failed g old before after t e kept answered = first_failed g old before after (creation_text t) [] e (inl (t, refl, refl)) kept answered

-- a statement failed, and its error is handed on
pub failed_first : {S X : Type 0} (g : Ghosts S) (old : State) (before after : Held S) (text : List ℕ) (params : Row) (e : Error) (r : Result X Error) → IsFirst text params → Survives old (state g before) (λ _. ⊥)
    → ExecutesInside 0 text params (state g before) (state g after) (Err e) → IsErrAnd r (λ f. f ≡ e) → IfErr r (FailedAtFirst g old)
failed_first g old before after text params e r is kept answered on =
    on_failed r e (FailedAtFirst g old) on (first_failed g old before after text params e is kept answered)

-- it failed after others
failed_more : {S : Type 0} (g : Ghosts S) (a b : State) (e : Error) → Survives a b (λ _. ⊥) → FailedAtFirst g b e → FailedAtFirst g a e
failed_more g a b e kept it = record {
  text = it.text;
  params = it.params;
  first = it.first;
  before = it.before;
  after = it.after;
  kept = survives_both a b (state g it.before) kept it.kept;
  answered = it.answered;
}

pub first_after : {S X : Type 0} (g : Ghosts S) (a b : State) (r : Result X Error) → Survives a b (λ _. ⊥) → IfErr r (FailedAtFirst g b) → IfErr r (FailedAtFirst g a)
first_after g a b (Ok x) kept h = tt
first_after g a b (Err e) kept h = failed_more g a b e kept h

-- the error is handed on, unless the statement was refused
pub failed_otherwise : {S X : Type 0} (g : Ghosts S) (old : State) (e : Error) (r : Result X Error) → IfErr r (λ f. f ≡ e) → FailedAtFirst g old e → IfErr r (FailedAtFirst g old)
failed_otherwise g old e (Ok x) same it = tt
failed_otherwise g old e (Err f) same it = subst (FailedAtFirst g old) (sym same) it

pub refusal_on : {S : Type 0} (g : Ghosts S) (old : State) (e : Error) (r : Result Creation Error) → OnOk r (cause_of e ≡ Refused) → FailedAtFirst g old e → IfOk r (λ it. it ≢ Made → WasRefused g old)
refusal_on g old e (Ok it) refused failed = λ other. (e, refused, failed)
refusal_on g old e (Err f) refused failed = tt

pub refusal_after : {S : Type 0} (g : Ghosts S) (a b : State) (r : Result Creation Error) → Survives a b (λ _. ⊥) → IfOk r (λ it. it ≢ Made → WasRefused g b) → IfOk r (λ it. it ≢ Made → WasRefused g a)
refusal_after g a b (Ok it) kept h = λ other. let was = h other in (was.0, was.1, failed_more g a b was.0 kept was.2)
refusal_after g a b (Err e) kept h = tt

-- what failed in a transaction failed in the call that began it
pub first_begun : {S : Type 0} (g : Ghosts S) (old : Held S) (e : Error) → FailedAtFirst g (state g (record old { in_transaction = true })) e → FailedAtFirst g (state g old) e
first_begun g old e it = record {
  text = it.text;
  params = it.params;
  first = it.first;
  before = it.before;
  after = it.after;
  kept = survives_begin g old (state g it.before) (λ _. ⊥) it.kept;
  answered = it.answered;
}

pub failed_last : {S X : Type 0} (g : Ghosts S) (old mid new : Held S) (r : Result (Unit {0}) Error) (s : Result X Error) (e : Error) → r ≡ Err e → IsErrAnd s (λ f. f ≡ e) → ((state g old).now.schema ≡ no_schema → Holds new_contents (state g mid).now)
    → Survives (state g (record old { in_transaction = true })) (state g mid) (λ _. ⊥) → IfErr r (FailsToCommit (state g mid) (state g new)) → IfErr s (IsUnmade g (state g old))
failed_last g old mid new r s e was on made kept fails =
    on_failed s e (IsUnmade g (state g old)) on
    (inr (record { before = mid; after = new; made = made; kept = survives_begin g old (state g mid) (λ _. ⊥) kept; answered = subst (λ q. IfErr q (FailsToCommit (state g mid) (state g new))) was fails }))

-- ---- what a crash leaves of a creation
-- the commit of a transaction that made the six tables leaves what could be left before, or the tables, of which its list of
-- objects tells
pub founded_left : {S : Type 0} (g : Ghosts S) (old mid new : Held S) → Survives (state g (record old { in_transaction = true })) (state g mid) (λ _. ⊥)
    → (HasCleanDisk (state g mid) → (state g old).now.schema ≡ no_schema → IsDatabase (state g mid).now × Holds new_contents (state g mid).now)
    → Survives (state g mid) (state g new) (λ db. db ≡ (state g mid).now.trees)
    → Survives (state g old) (state g new) (λ trees. (state g old).now.schema ≡ no_schema → Keeps new_contents trees × ListOurs trees)
founded_left g old mid new one made two =
    survives_then (state g old) (state g mid) (state g new) (λ _. ⊥) (λ db. db ≡ (state g mid).now.trees) _ (λ _ db none. absurd none)
    (λ clean db is bare.
    let early : HasCleanDisk (state g mid) = omega (arith, two.clean) in
    let it = made early bare in
    (subst (Keeps new_contents) (sym is) it.1.rows, left_listed (state g mid).now it.0 it.1.schema db is))
    (survives_begin g old (state g mid) (λ _. ⊥) one) two
