use Rattle.std.proofs.Common.{◌≡◌, Ok, sym, ap, subst, refl, inl, rules, IsTrue, arith}
use Rattle.sqlite.specs.State.{HasCleanDisk, Survives}
use Rattle.sqlite.specs.Effect.{IsDatabase}
use Rattle.sqlite.specs.Held.{state}
use Rattle.ccr_tables.specs.Contents.{Holds, Keeps, ListOurs, new_contents}
use Rattle.ccr_tables.specs.Created.{FailedAtFirst, WasRefused, IsUnmade}
use Rattle.ccr_tables.specs.Schema.{no_schema}
use Rattle.ccr_tables.proofs.Created.{first_begun, failed_last, founded_left}
use Rattle.ccr_tables.proofs.InTurn.{on_failed}
use Rattle.ccr_tables.proofs.creation.create.Goals as goal

pub returns-in_err-refused-clause-answered : goal.returns-in_err-refused-clause-answered
returns-in_err-refused-clause-answered g c clean =
    let old = c.args.conn.now in
    let is = c.transaction-tx.ensures.begun in
    let inside = subst (λ h. IsTrue (state g.S.Store h).in_transaction) (sym is) refl in
    let early : HasCleanDisk (state g.S.Store c.create_in.new.tx.conn.now) = search rules in
    let failed = first_begun g.S.Store old c.in_err-refused.field-0.0 (subst (λ h. FailedAtFirst g.S.Store (state g.S.Store h) c.in_err-refused.field-0.0) is (c.in_err-refused.ensures.answered early inside)) in
    on_failed c.from_residual.result _ (IsUnmade g.S.Store (state g.S.Store old)) c.from_residual.ensures.1 (inl failed)

pub returns-in_err-commit-in-Made-clause-answered : goal.returns-in_err-commit-in-Made-clause-answered
returns-in_err-commit-in-Made-clause-answered g c clean =
    let old = c.args.conn.now in
    let mid = state g.S.Store c.create_in.new.tx.conn.now in
    let is = c.transaction-tx.ensures.begun in
    let inside = subst (λ h. IsTrue (state g.S.Store h).in_transaction) (sym is) refl in
    let late : HasCleanDisk (state g.S.Store c.commit.new.self.0) = search rules in
    let early : HasCleanDisk mid = omega (arith, c.commit.ensures.survives.clean) in
    let made = subst (λ h. (state g.S.Store h).now.schema ≡ no_schema → Holds new_contents mid.now) is (c.in_ok-refused.ensures.made early inside (ap Ok c.in-Made.is)).1 in
    let kept = subst (λ h. Survives (state g.S.Store h) mid (λ _. ⊥)) is c.create_in.ensures.survives in
    failed_last g.S.Store old c.create_in.new.tx.conn.now c.commit.new.self.0 c.commit.result c.from_residual-in_err-commit-in-Made.result _ c.in_err-commit-in-Made.was
    c.from_residual-in_err-commit-in-Made.ensures.1 made kept (c.commit.ensures.err late)

pub returns-in_default-clause-refusal : goal.returns-in_default-clause-refusal
returns-in_default-clause-refusal g c clean other =
    let old = c.args.conn.now in
    let is = c.transaction-tx.ensures.begun in
    let inside = subst (λ h. IsTrue (state g.S.Store h).in_transaction) (sym is) refl in
    let early : HasCleanDisk (state g.S.Store c.create_in.new.tx.conn.now) = search rules in
    let it = subst (λ h. WasRefused g.S.Store (state g.S.Store h)) is (c.in_ok-refused.ensures.refusal early inside other) in
    (it.0, it.1, first_begun g.S.Store old it.0 it.2)

pub returns-in_err-commit-in-Made-clause-crash : goal.returns-in_err-commit-in-Made-clause-crash
returns-in_err-commit-in-Made-clause-crash g c =
    let mid = c.create_in.new.tx.conn.now in
    let is = c.transaction-tx.ensures.begun in
    let inside = subst (λ h. IsTrue (state g.S.Store h).in_transaction) (sym is) refl in
    let made : HasCleanDisk (state g.S.Store mid) → (state g.S.Store c.args.conn.now).now.schema ≡ no_schema
    → IsDatabase (state g.S.Store mid).now × Holds new_contents (state g.S.Store mid).now =
    λ early bare. (
      subst (λ h. (state g.S.Store h).now.schema ≡ no_schema → IsDatabase (state g.S.Store mid).now) is (c.in_ok-refused.ensures.sound early inside (ap Ok c.in-Made.is)) bare,
      subst (λ h. (state g.S.Store h).now.schema ≡ no_schema → Holds new_contents (state g.S.Store mid).now) is (c.in_ok-refused.ensures.made early inside (ap Ok c.in-Made.is)).1 bare,
    ) in
    let left : Survives (state g.S.Store c.args.conn.now) (state g.S.Store c.commit.new.self.0) (λ trees. (state g.S.Store c.args.conn.now).now.schema ≡ no_schema → Keeps new_contents trees × ListOurs trees) =
    founded_left g.S.Store c.args.conn.now mid c.commit.new.self.0 (subst (λ h. Survives (state g.S.Store h) (state g.S.Store mid) (λ _. ⊥)) is c.create_in.ensures.survives) made c.commit.ensures.survives in
    let same : c.commit.new.self.0 ≡ c.conn-in-Made-1.given.0 = search rules in
    subst (λ h. Survives (state g.S.Store c.args.conn.now) (state g.S.Store h) (λ trees. (state g.S.Store c.args.conn.now).now.schema ≡ no_schema → Keeps new_contents trees × ListOurs trees)) same left

pub returns-in_ok-commit-in-Made-clause-crash : goal.returns-in_ok-commit-in-Made-clause-crash
returns-in_ok-commit-in-Made-clause-crash g c =
    let mid = c.create_in.new.tx.conn.now in
    let is = c.transaction-tx.ensures.begun in
    let inside = subst (λ h. IsTrue (state g.S.Store h).in_transaction) (sym is) refl in
    let made : HasCleanDisk (state g.S.Store mid) → (state g.S.Store c.args.conn.now).now.schema ≡ no_schema
    → IsDatabase (state g.S.Store mid).now × Holds new_contents (state g.S.Store mid).now =
    λ early bare. (
      subst (λ h. (state g.S.Store h).now.schema ≡ no_schema → IsDatabase (state g.S.Store mid).now) is (c.in_ok-refused.ensures.sound early inside (ap Ok c.in-Made.is)) bare,
      subst (λ h. (state g.S.Store h).now.schema ≡ no_schema → Holds new_contents (state g.S.Store mid).now) is (c.in_ok-refused.ensures.made early inside (ap Ok c.in-Made.is)).1 bare,
    ) in
    let left : Survives (state g.S.Store c.args.conn.now) (state g.S.Store c.commit.new.self.0) (λ trees. (state g.S.Store c.args.conn.now).now.schema ≡ no_schema → Keeps new_contents trees × ListOurs trees) =
    founded_left g.S.Store c.args.conn.now mid c.commit.new.self.0 (subst (λ h. Survives (state g.S.Store h) (state g.S.Store mid) (λ _. ⊥)) is c.create_in.ensures.survives) made c.commit.ensures.survives in
    let same : c.commit.new.self.0 ≡ c.conn-in-Made-1.given.0 = search rules in
    subst (λ h. Survives (state g.S.Store c.args.conn.now) (state g.S.Store h) (λ trees. (state g.S.Store c.args.conn.now).now.schema ≡ no_schema → Keeps new_contents trees × ListOurs trees)) same left
