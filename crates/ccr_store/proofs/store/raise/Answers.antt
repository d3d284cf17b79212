use Rattle.std.proofs.Common.{inl, sym, subst, arith}
use Rattle.sqlite.specs.Held.{state}
use Rattle.sqlite.specs.State.{HasCleanDisk}
use Rattle.ccr_tables.specs.Contents.{Holds}
use Rattle.ccr_store.specs.Causes.{IsUnraised}
use Rattle.ccr_store.proofs.ReadFaults.{err_so}
use Rattle.ccr_store.proofs.Taking.{raise_begun, unraised_write}
use Rattle.ccr_store.proofs.store.raise.Goals as goal

pub returns-in_err-load-clause-answered : goal.returns-in_err-load-clause-answered
returns-in_err-load-clause-answered g c clean =
    err_so c.from_residual.result (IsUnraised g.S.Store (state g.S.Store c.args.conn.now)) _ c.from_residual.ensures.1 (inl (c.in_err-load.ensures.answered clean))

pub returns-in-Ok-clause-raised : goal.returns-in-Ok-clause-raised
returns-in-Ok-clause-raised g c these clean holds =
    let mid = state g.S.Store c.load.new.conn in
    let clean_mid : HasCleanDisk mid = omega (arith, c.commit.ensures.crash.clean) in
    let same = (c.in_ok-load.ensures.reads.same clean_mid).0.now_is in
    let done = c.in-Ok.ensures.done clean in
    (done.0 these (subst (Holds these) (sym same) holds), done.1)

pub returns-in-Ok-clause-crash : goal.returns-in-Ok-clause-crash
returns-in-Ok-clause-crash g c =
    raise_begun (state g.S.Store c.args.conn.now) (state g.S.Store c.load.new.conn) (state g.S.Store c.commit.new.conn) c.requires.first
    (λ clean. (c.in_ok-load.ensures.reads.same clean).0.now_is) c.in_ok-load.ensures.reads.crash c.commit.ensures.crash

pub returns-in-Err-clause-answered : goal.returns-in-Err-clause-answered
returns-in-Err-clause-answered g c clean =
    let mid = state g.S.Store c.load.new.conn in
    let clean_mid : HasCleanDisk mid = omega (arith, c.commit.ensures.crash.clean) in
    unraised_write g.S.Store (state g.S.Store c.args.conn.now) mid c.in-Err.error c.fault_of.result c.fault_of.ensures (c.in_ok-load.ensures.reads.same clean_mid).0.now_is
    c.in_ok-load.ensures.reads.crash (c.in-Err.ensures.answered clean)

pub returns-in-Err-clause-crash : goal.returns-in-Err-clause-crash
returns-in-Err-clause-crash g c =
    raise_begun (state g.S.Store c.args.conn.now) (state g.S.Store c.load.new.conn) (state g.S.Store c.commit.new.conn) c.requires.first
    (λ clean. (c.in_ok-load.ensures.reads.same clean).0.now_is) c.in_ok-load.ensures.reads.crash c.commit.ensures.crash
