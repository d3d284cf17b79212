use Rattle.std.proofs.Common.{rules, true, ◌≡◌, ◌≢◌, OnOk, [], sym, subst, IsTrue, refl, inl, arith}
use Rattle.sqlite.specs.State.{HasCleanDisk, Survives}
use Rattle.sqlite.specs.Effect.{IsDatabase}
use Rattle.sqlite.specs.Held.{state}
use Rattle.sqlite.proofs.Callers.{survives_begin}
use Rattle.sqlite.proofs.StateLemmas.{survives_weaker}
use Rattle.ccr_tables.specs.Answered.{FailedAtWrite, IsAnswered}
use Rattle.ccr_tables.specs.Contents.{Contents, Holds}
use Rattle.ccr_tables.specs.Step.{Turns, IsLeftBy}
use Rattle.ccr_tables.specs.Written.{all_written}
use Rattle.ccr_tables.proofs.InTurn.{left_committed, committed_turns, failed_at_write, failed_at_end, on_failed}
use Rattle.ccr_tables.proofs.transaction.commit.Goals as goal

pub returns-clause-crash : goal.returns-clause-crash
returns-clause-crash g c =
    let old = c.args.conn.now in
    let begun = record old { in_transaction = true } in
    let mid = state g.S.Store c.write_all.new.tx.conn.now in
    let ws = c.args.writes.now in
    let is = c.transaction-tx.ensures.begun in
    let one : Survives (state g.S.Store begun) mid (λ _. ⊥) = subst (λ h. Survives (state g.S.Store h) mid (λ _. ⊥)) is c.write_all.ensures.survives in
    let inside = subst (λ h. IsTrue (state g.S.Store h).in_transaction) (sym is) refl in
    let turned : HasCleanDisk mid → Turns (all_written ws) (state g.S.Store begun).now mid.now =
    subst (λ h. HasCleanDisk mid → Turns (all_written ws) (state g.S.Store h).now mid.now) is (λ clean. (c.in_ok-write_all.ensures.step clean inside).made.1) in
    let opened : HasCleanDisk mid → ws ≢ [] → IsTrue (state g.S.Store begun).is_open =
    subst (λ h. HasCleanDisk mid → ws ≢ [] → IsTrue (state g.S.Store h).is_open) is (λ clean. c.in_ok-write_all.ensures.opened clean inside) in
    let sound : HasCleanDisk mid → ws ≢ [] → (these : Contents) → Holds these (state g.S.Store begun).now → IsDatabase mid.now =
    subst (λ h. HasCleanDisk mid → ws ≢ [] → (these : Contents) → Holds these (state g.S.Store h).now → IsDatabase mid.now) is (λ clean. c.in_ok-write_all.ensures.sound clean inside) in
    let left : Survives (state g.S.Store begun) _ (IsLeftBy ws (state g.S.Store begun)) =
    left_committed (state g.S.Store begun) mid _ ws one turned opened sound c.commit.ensures.survives in
    let weaker = survives_weaker (state g.S.Store begun) _ _ (IsLeftBy ws (state g.S.Store old)) (λ _ trees by. record { opened = by.opened; made = by.made; listed = by.listed }) left in
    let it = survives_begin g.S.Store old _ _ weaker in
    search (rules, it)

pub returns-clause-done : goal.returns-clause-done
returns-clause-done g c =
    let old = state g.S.Store c.args.conn.now in
    let mid = state g.S.Store c.write_all.new.tx.conn.now in
    let ws = c.args.writes.now in
    let is = c.transaction-tx.ensures.begun in
    let inside = subst (λ h. IsTrue (state g.S.Store h).in_transaction) (sym is) refl in
    let turned : HasCleanDisk mid → Turns (all_written ws) old.now mid.now =
    subst (λ h. HasCleanDisk mid → Turns (all_written ws) (state g.S.Store h).now mid.now) is (λ clean. (c.in_ok-write_all.ensures.step clean inside).made.1) in
    let done = committed_turns old mid _ (all_written ws) c.commit.result turned c.commit.ensures.survives c.commit.ensures.ok in
    let same : c.commit.new.self.0 ≡ c.conn-2-1.given.0 = search rules in
    subst (λ h. HasCleanDisk (state g.S.Store h) → OnOk c.commit.result (Turns (all_written ws) old.now (state g.S.Store h).now × ((state g.S.Store h).committed ≡ (state g.S.Store h).now))) same done

pub returns-in_err-write_all-clause-answered : goal.returns-in_err-write_all-clause-answered
returns-in_err-write_all-clause-answered g c clean =
    let old = c.args.conn.now in
    let ws = c.args.writes.now in
    let is = c.transaction-tx.ensures.begun in
    let inside = subst (λ h. IsTrue (state g.S.Store h).in_transaction) (sym is) refl in
    let early : HasCleanDisk (state g.S.Store c.write_all.new.tx.conn.now) = search rules in
    let failed = failed_at_write g.S.Store ws old c.in_err-write_all.field-0.0 (subst (λ h. FailedAtWrite g.S.Store ws (state g.S.Store h) c.in_err-write_all.field-0.0) is (c.in_err-write_all.ensures.answered early inside)) in
    on_failed c.from_residual.result _ (IsAnswered g.S.Store ws (state g.S.Store old)) c.from_residual.ensures.1 (inl failed)

pub returns-clause-answered : goal.returns-clause-answered
returns-clause-answered g c clean =
    let old = c.args.conn.now in
    let mid = state g.S.Store c.write_all.new.tx.conn.now in
    let ws = c.args.writes.now in
    let is = c.transaction-tx.ensures.begun in
    let inside = subst (λ h. IsTrue (state g.S.Store h).in_transaction) (sym is) refl in
    let late : HasCleanDisk (state g.S.Store c.commit.new.self.0) = search rules in
    let early : HasCleanDisk mid = omega (arith, c.commit.ensures.survives.clean) in
    let made = subst (λ h. Turns (all_written ws) (state g.S.Store h).now mid.now) is (c.in_ok-write_all.ensures.step early inside).made.1 in
    let kept = subst (λ h. Survives (state g.S.Store h) mid (λ _. ⊥)) is c.write_all.ensures.survives in
    failed_at_end g.S.Store ws old c.write_all.new.tx.conn.now c.commit.new.self.0 c.commit.result made kept (c.commit.ensures.err late)
