-- A query, row by row.
use Rattle.std.proofs.Common.{◌≡◌, ◌≢◌, ℕ, List, [], Result, Ok, Err, IfErr, sym, subst}
use Rattle.std.specs.Prelude.{IsErrAnd, OnErr}
use Rattle.sqlite.specs.Order.{Row}
use Rattle.sqlite.specs.declared.error.Error.{Error}
use Rattle.sqlite_trees.specs.declared.store.Store.{Ghosts}
use Rattle.sqlite.specs.State.{State, Survives, CommitsShowing, FailsToQuery}
use Rattle.sqlite.specs.Held.{Held, state}
use Rattle.sqlite.specs.Given.{HasGiven, FailsToAdvance, IsRefused}
use Rattle.sqlite.proofs.StateLemmas.{survives_then}
use Rattle.ccr_tables.specs.Cause.{cause_of}
use Rattle.ccr_tables.specs.declared.cause.Cause.TheVariants.{Refused}
use Rattle.sqlite.specs.Listing.{understood}
use Rattle.ccr_tables.proofs.Queries.{IsPlainIf, survives}

-- ---- rows as a query gives them
-- a query that fails on its way fails
pub fails_given : {S X : Type 0} (g : Ghosts S) (text : List ℕ) (old new : Held S) (r : Result X Error) (given : List Row) → HasGiven g text [] old given → IfErr r (FailsToAdvance g old new) → IfErr r (FailsToQuery text [] (state g old) (state g new))
fails_given g text old new (Ok x) given h fails = tt
fails_given g text old new (Err e) given h fails = fails text [] given h

-- what is handed on is no refusal
pub refused_on : {X Y : Type 0} (r : Result X Error) (s : Result Y Error) (e : Error) → r ≡ Err e → IsErrAnd s (λ x. x ≡ e) → IfErr r (λ x. cause_of x ≢ Refused) → IfErr s (λ x. cause_of x ≢ Refused)
refused_on r (Ok y) e was same h = tt
refused_on r (Err x) e was same h = subst (λ y. cause_of y ≢ Refused) (sym same) (subst (λ q. IfErr q (λ y. cause_of y ≢ Refused)) was h)

pub survives_on : (text : List ℕ) (a b c : State) → IsPlainIf (understood a.now.schema text) → Survives a b (CommitsShowing text [] a) → Survives b c (λ _. ⊥) → Survives a c (λ _. ⊥)
survives_on text a b c plain one two = survives_then a b c (λ _. ⊥) (λ _. ⊥) (λ _. ⊥) (λ _ db none. none) (λ _ db none. none) (survives text a b plain one) two

pub shows_on : (text : List ℕ) (a b c : State) → Survives a b (CommitsShowing text [] a) → Survives b c (λ _. ⊥) → Survives a c (CommitsShowing text [] a)
shows_on text a b c one two = survives_then a b c (CommitsShowing text [] a) (λ _. ⊥) (CommitsShowing text [] a) (λ _ db h. h) (λ _ db none. absurd none) one two

-- a query that doesn't begin is refused
pub refused_now : {S X : Type 0} (g : Ghosts S) (text : List ℕ) (old new : Held S) (r : Result X Error) (e : Error) → r ≡ Err e → OnErr r (IsRefused g text [] old r new) → IsRefused g text [] old r new
refused_now g text old new (Ok x) e was h = absurd (cc)
refused_now g text old new (Err x) e was h = h
