-- Reads that failed.
use Rattle.std.proofs.Common.{◌≡◌, ℕ, List, [], Result, Ok, Err, IfErr, refl, sym, subst, ◌∙◌, arith, inl, inr, ◌⊎◌}
use Rattle.std.specs.Prelude.{IsErrAnd}
use Rattle.sqlite_trees.specs.declared.store.Store.{Ghosts}
use Rattle.sqlite.specs.declared.error.Error.{Error}
use Rattle.sqlite.specs.State.{State, Survives, FailsToQuery}
use Rattle.sqlite.specs.Held.{Held, state}
use Rattle.ccr_tables.specs.Cause.{cause_of}
use Rattle.ccr_tables.specs.declared.cause.Cause.TheVariants.{NoMemory}
use Rattle.ccr_tables.specs.Read.{FailedToRead}
use Rattle.ccr_tables.specs.Tables.{listing_text}
use Rattle.ccr_tables.specs.declared.table.Table.{Table}
use Rattle.ccr_tables.proofs.InTurn.{survives_both}

pub survives_itself : (s : State) → Survives s s (λ _. ⊥)
survives_itself s = record {
  clean = omega arith;
  shield = λ it. it;
  counts = omega arith;
  limit = refl;
  closes = λ _ up. inl up;
  crash = λ _ db may. inl may;
}

-- the first read failed
pub failed_read : {S X : Type 0} (g : Ghosts S) (old new : Held S) (t : Table) (r : Result X Error)
    → IfErr r (FailsToQuery (listing_text t) [] (state g old) (state g new)) → IfErr r (FailedToRead g (state g old))
failed_read g old new t (Ok x) fails = tt
failed_read g old new t (Err e) fails = record {
  table = t;
  before = old;
  after = new;
  same = refl;
  kept = survives_itself (state g old);
  answered = fails;
}

-- a read failed after others
pub failed_after : {S : Type 0} (g : Ghosts S) (a b : State) (e : Error) → b.now ≡ a.now → Survives a b (λ _. ⊥) → FailedToRead g b e
    → FailedToRead g a e
failed_after g a b e same kept fails = record {
  table = fails.table;
  before = fails.before;
  after = fails.after;
  same = fails.same ∙ same;
  kept = survives_both a b (state g fails.before) kept fails.kept;
  answered = fails.answered;
}

pub failed_later : {S X : Type 0} (g : Ghosts S) (a b : State) (r : Result X Error) → b.now ≡ a.now → Survives a b (λ _. ⊥)
    → IfErr r (FailedToRead g b) → IfErr r (FailedToRead g a)
failed_later g a b (Ok x) same kept fails = tt
failed_later g a b (Err e) same kept fails = failed_after g a b e same kept fails

-- the failure is handed on
pub failed_on : {S X Y : Type 0} (g : Ghosts S) (old : State) (r : Result X Error) (s : Result Y Error) (e : Error) → r ≡ Err e
    → IsErrAnd s (λ x. x ≡ e) → IfErr r (FailedToRead g old)
    → IfErr s (λ x. (cause_of x ≡ NoMemory) ⊎ FailedToRead g old x)
failed_on g old r (Ok y) e was same h = tt
failed_on g old r (Err x) e was same h =
    inr (subst (FailedToRead g old) (sym same) (subst (λ q. IfErr q (FailedToRead g old)) was h))
