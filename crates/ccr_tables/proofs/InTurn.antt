-- Writes in turn.
use Rattle.std.proofs.Common.{◌≡◌, ◌≢◌, IsTrue, true, false, Ok, Err, Result, OnOk, ℕ, ◌+◌, ◌<◌, List, [], ◌∷◌, ◌++◌, length, take, drop, IfErr, inr, get_or, refl, sym, ap, subst, arith, ◌∙◌}
use Rattle.std.specs.Prelude.{IsErrAnd}
use Rattle.std.proofs.lemmas.List.{take_more, take-append-drop}
use Rattle.sqlite.specs.declared.error.Error.{Error}
use Rattle.sqlite.specs.State.{State, HasCleanDisk, Survives, KeepsCommit, Shows, KeepsCounts}
use Rattle.sqlite_trees.specs.declared.store.Store.{Ghosts}
use Rattle.sqlite.specs.Effect.{IsDatabase}
use Rattle.sqlite.specs.Held.{Held, state}
use Rattle.sqlite.specs.Steps.{FailsToCommit}
use Rattle.sqlite.proofs.Callers.{survives_begin}
use Rattle.sqlite.proofs.StateLemmas.{survives_then}
use Rattle.ccr_tables.specs.Answered.{FailedAtWrite, IsAnswered}
use Rattle.ccr_tables.specs.declared.write.Write.{Write}
use Rattle.ccr_tables.specs.Contents.{Contents, Holds, Keeps}
use Rattle.ccr_tables.specs.Step.{Turns, IsLeftBy}
use Rattle.ccr_tables.proofs.Ours.{left_listed}
use Rattle.ccr_tables.specs.Written.{written, all_written}

written_last : (ws : List Write) (w : Write) (these : Contents) → all_written (ws ++ w ∷ []) these ≡ written w (all_written ws these)
written_last [] w these = refl
written_last (v ∷ ws) w these = written_last ws w (written v these)

pub written_more : (ws : List Write) (i : ℕ) (w : Write) (these : Contents) → i < length ws → w ≡ get_or ws i w → all_written (take (i + 1) ws) these ≡ written w (all_written (take i ws) these)
written_more ws i w these low is =
    ap (λ l. all_written l these) (take_more ws i w low ∙ ap (λ x. take i ws ++ x ∷ []) (sym is)) ∙ written_last (take i ws) w these

pub keeps_then : (a b c : State) → KeepsCommit a b → KeepsCommit b c → KeepsCommit a c
keeps_then a b c p q = record { was_open = λ h. p.was_open (q.was_open h); committed = λ h. q.committed h ∙ p.committed (q.was_open h) }

pub survives_both : (a b c : State) → Survives a b (λ _. ⊥) → Survives b c (λ _. ⊥) → Survives a c (λ _. ⊥)
survives_both a b c one two = survives_then a b c _ _ (λ _. ⊥) (λ _ db none. none) (λ _ db none. none) one two

-- a commit leaves what could be left before, or what the whole transaction makes
pub left_committed : (old mid new : State) (ws : List Write) → Survives old mid (λ _. ⊥) → (HasCleanDisk mid → Turns (all_written ws) old.now mid.now) → (HasCleanDisk mid → ws ≢ [] → IsTrue old.is_open)
    → (HasCleanDisk mid → ws ≢ [] → (these : Contents) → Holds these old.now → IsDatabase mid.now) → Survives mid new (λ db. db ≡ mid.now.trees) → Survives old new (IsLeftBy ws old)
left_committed old mid new ws one turned opened sound two =
    survives_then old mid new (λ _. ⊥) (λ db. db ≡ mid.now.trees) (IsLeftBy ws old) (λ _ db none. absurd none)
    (λ clean db is. let early : HasCleanDisk mid = omega (arith, two.clean) in
    record {
      opened = opened early;
      made = λ these has. subst (Keeps (all_written ws these)) (sym is) (turned early these has).rows;
      listed = λ some these has. left_listed mid.now (sound early some these has) (turned early these has).schema db is;
    }) one two

-- what was turned and then committed is turned and committed
pub committed_turns : (old mid new : State) (change : Contents → Contents) (r : Result (Unit {0}) Error) → (HasCleanDisk mid → Turns change old.now mid.now) → Survives mid new (λ db. db ≡ mid.now.trees)
    → (HasCleanDisk new → OnOk r (IsTrue mid.in_transaction × Shows mid new mid.now mid.now false × KeepsCounts mid new × (new.marks ≡ []))) → HasCleanDisk new → OnOk r (Turns change old.now new.now × (new.committed ≡ new.now))
committed_turns old mid new change (Ok u) turned two did clean =
    let early : HasCleanDisk mid = omega (arith, two.clean) in
    let shown = (did clean).1 in (subst (Turns change old.now) (sym shown.now_is) (turned early), shown.committed_is ∙ sym shown.now_is)
committed_turns old mid new change (Err e) turned two did clean = tt

-- ---- why a commit fails
joined : (xs : List Write) (w : Write) (zs : List Write) → (xs ++ w ∷ []) ++ zs ≡ xs ++ w ∷ zs
joined [] w zs = refl
joined (x ∷ xs) w zs = ap (λ l. x ∷ l) (joined xs w zs)

pub parted : (ws : List Write) (i : ℕ) (w : Write) → i < length ws → w ≡ get_or ws i w → ws ≡ take i ws ++ w ∷ drop (i + 1) ws
parted ws i w low is =
    sym (take-append-drop (i + 1) ws) ∙ ap (λ l. l ++ drop (i + 1) ws) (take_more ws i w low ∙ ap (λ x. take i ws ++ x ∷ []) (sym is)) ∙ joined (take i ws) w (drop (i + 1) ws)

pub on_failed : {X E : Type 0} (r : Result X E) (e : E) (P : E → Type 0) → IsErrAnd r (λ f. f ≡ e) → P e → IfErr r P
on_failed (Ok x) e P is p = absurd is
on_failed (Err f) e P is p = subst P (sym is) p

-- what failed in a transaction failed in the commit that began it
pub failed_at_write : {S : Type 0} (g : Ghosts S) (ws : List Write) (old : Held S) (e : Error) → FailedAtWrite g ws (state g (record old { in_transaction = true })) e → FailedAtWrite g ws (state g old) e
failed_at_write g ws old e it = record {
  done = it.done;
  write = it.write;
  rest = it.rest;
  before = it.before;
  after = it.after;
  parts = it.parts;
  made = it.made;
  kept = survives_begin g old (state g it.before) (λ _. ⊥) it.kept;
  answered = it.answered;
}

pub failed_at_end : {S : Type 0} (g : Ghosts S) (ws : List Write) (old mid new : Held S) (r : Result (Unit {0}) Error) → Turns (all_written ws) (state g old).now (state g mid).now
    → Survives (state g (record old { in_transaction = true })) (state g mid) (λ _. ⊥) → IfErr r (FailsToCommit (state g mid) (state g new)) → IfErr r (IsAnswered g ws (state g old))
failed_at_end g ws old mid new (Ok u) made kept fails = tt
failed_at_end g ws old mid new (Err e) made kept fails =
    inr (record { before = mid; after = new; made = made; kept = survives_begin g old (state g mid) (λ _. ⊥) kept; answered = fails })
