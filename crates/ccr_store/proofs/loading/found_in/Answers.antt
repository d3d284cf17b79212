use Rattle.std.proofs.Common.{inl, inr, refl}
use Rattle.ccr_store.specs.Rows.{rows_in}
use Rattle.ccr_store.proofs.ShownRows.{no_other}
use Rattle.sqlite.specs.Held.{state}
use Rattle.ccr_tables.proofs.Queries.{reads_on, reads_failed}
use Rattle.ccr_store.proofs.ReadFaults.{fault_of_read, others_of_none}
use Rattle.ccr_store.proofs.loading.found_in.Goals as goal

pub returns-in-None-clause-only : goal.returns-in-None-clause-only
returns-in-None-clause-only g c clean format h rules texts holds =
    let other = rw c.in-None.is at (c.in-Ok.ensures.none clean) in
    λ ours. no_other format h rules texts (other (rows_in format h) holds)

pub returns-in-Err-clause-only : goal.returns-in-Err-clause-only
returns-in-Err-clause-only g c clean format h rules texts holds = λ ours. c.in-Err.ensures.unrefused clean holds.schema (c.read_fault_of.ensures.refused ours)

pub returns-in-Some-clause-rows : goal.returns-in-Some-clause-rows
returns-in-Some-clause-rows g c clean = rw c.in-Some.is at (c.in-Ok.ensures.rows clean)

pub returns-in-Some-clause-reads : goal.returns-in-Some-clause-reads
returns-in-Some-clause-reads g c = reads_on (state g.S.Store c.args.conn.now) (state g.S.Store c.read_built.new.conn) _ _ c.in-Ok.ensures.reads

pub returns-in-None-clause-reads : goal.returns-in-None-clause-reads
returns-in-None-clause-reads g c = reads_on (state g.S.Store c.args.conn.now) (state g.S.Store c.read_built.new.conn) _ _ c.in-Ok.ensures.reads

pub returns-in-Err-clause-reads : goal.returns-in-Err-clause-reads
returns-in-Err-clause-reads g c = reads_failed (state g.S.Store c.args.conn.now) (state g.S.Store c.read_built.new.conn) _ _ tt c.in-Err.ensures.reads

pub returns-in-Err-clause-answered : goal.returns-in-Err-clause-answered
returns-in-Err-clause-answered g c clean format =
    fault_of_read g.S.Store (state g.S.Store c.args.conn.now) format c.in-Err.error c.read_fault_of.result c.read_fault_of.ensures.exact
    (c.in-Err.ensures.answered clean)

pub returns-in-Some-clause-shown : goal.returns-in-Some-clause-shown
returns-in-Some-clause-shown g c clean = rw c.in-Some.is at (c.in-Ok.ensures.shown clean)

pub returns-in-None-clause-answered : goal.returns-in-None-clause-answered
returns-in-None-clause-answered g c clean format =
    inr (inl (refl, others_of_none format (state g.S.Store c.args.conn.now).now (rw c.in-None.is at (c.in-Ok.ensures.other clean))))
