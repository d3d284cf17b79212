use Rattle.std.proofs.Common.{◌∙◌, ap, sym, subst, refl, not, inr}
use Rattle.sqlite.specs.Held.{state}
use Rattle.ccr_store.proofs.EditWrites.{all_have_places}
use Rattle.ccr_store.proofs.StoreLemmas.{stored_now, crash_now, on_err, on_ok_none, was_itself, undone_kept, out_of_memory, no_memory_no_answer, leaves_changed, leaves_made}
use Rattle.ccr_tables.specs.Answered.{IsAnswered}
use Rattle.ccr_tables.proofs.Queries.{only_error}
use Rattle.ccr_store.specs.StoreData.{StoreData, IsKept}
use Rattle.ccr_store.proofs.store.Store.commit.Goals as goal

pub writes_of-requires : goal.writes_of-requires
writes_of-requires g c = all_have_places c.args.change.now c.requires.0 c.requires.1

pub returns-in-Ok-clause-done : goal.returns-in-Ok-clause-done
returns-in-Ok-clause-done g c h it accepts clean =
    let done = c.in-Ok.ensures.done clean in (
      stored_now g.S.Store (record { conn = c.self.inside.conn; tally = c.self.inside.tally }) c.args.self.now (state g.S.Store c.commit.new.conn).now c.args.change.now c.deref.result.now h
          c.self.view_is (rw c.deref.ensures.value c.in_ok-writes.ensures.written) done.0 it accepts,
      done.1,
    )

pub returns-in-Ok-clause-crash : goal.returns-in-Ok-clause-crash
returns-in-Ok-clause-crash g c =
    crash_now g.S.Store (record { conn = c.self.inside.conn; tally = c.self.inside.tally }) c.args.self.now (state g.S.Store c.commit.new.conn) c.args.change.now c.deref.result.now
    c.self.view_is (rw c.deref.ensures.value c.in_ok-writes.ensures.written) c.commit.ensures.crash

pub returns-clause-crash : goal.returns-clause-crash
returns-clause-crash g c =
    crash_now g.S.Store (record { conn = c.self.inside.conn; tally = c.self.inside.tally }) c.args.self.now (state g.S.Store c.commit.new.conn) c.args.change.now c.deref.result.now
    c.self.view_is (rw c.deref.ensures.value c.in_ok-writes.ensures.written) c.commit.ensures.crash

pub returns-in_err-writes-clause-refused : goal.returns-in_err-writes-clause-refused
returns-in_err-writes-clause-refused g c clean =
    on_err _ c.from_residual.result (was_itself (state g.S.Store c.args.self.now.conn))

pub returns-clause-refused : goal.returns-clause-refused
returns-clause-refused g c clean =
    undone_kept g.S.Store (record { conn = c.self.inside.conn; tally = c.self.inside.tally }) c.args.self.now (state g.S.Store c.commit.new.conn) c.self.view_is
    (λ up. c.is_autocommit.ensures.settled (c.is_autocommit.ensures.value ∙ ap not c.self.invariant) up)
    (λ up. (c.commit.ensures.was_open clean up).1) (λ up. c.in-Err.ensures.refused clean up)

pub returns-in_err-writes-clause-leaves : goal.returns-in_err-writes-clause-leaves
returns-in_err-writes-clause-leaves g c hs h before kept accepts some clean trees may =
    let it = before clean trees may in (inr it.0, it.1)

pub returns-in_err-writes-clause-acknowledged : goal.returns-in_err-writes-clause-acknowledged
returns-in_err-writes-clause-acknowledged g c h kept accepts = on_ok_none _ c.from_residual.result (only_error c.from_residual.result _ c.from_residual.ensures.1)

pub returns-in-Ok-clause-acknowledged : goal.returns-in-Ok-clause-acknowledged
returns-in-Ok-clause-acknowledged g c h kept accepts =
    let was : StoreData _ = record { conn = c.self.inside.conn; tally = c.self.inside.tally } in
    let end : StoreData _ = record { conn = c.commit.new.conn; tally = c.self.inside.tally } in
    let old : IsKept g.S.Store was h = subst (λ (k : StoreData _). IsKept g.S.Store k h) (sym c.self.view_is) kept in
    leaves_made g.S.Store was end c.args.change.now h old accepts c.commit.ensures.was_open
    (λ it clean. let done = c.in-Ok.ensures.done clean in (
      stored_now g.S.Store was was (state g.S.Store c.commit.new.conn).now c.args.change.now c.deref.result.now h refl
          (rw c.deref.ensures.value c.in_ok-writes.ensures.written) done.0 it accepts,
      done.1,
    ))
    c.in-Ok.ensures.open c.commit.ensures.durable c.schema.ensures.live

pub returns-in-Ok-clause-leaves : goal.returns-in-Ok-clause-leaves
returns-in-Ok-clause-leaves g c hs h before kept accepts some =
    leaves_changed g.S.Store c.args.self.now (record { conn = c.commit.new.conn; tally = c.self.inside.tally }) c.args.change.now h hs some kept accepts before
    (crash_now g.S.Store (record { conn = c.self.inside.conn; tally = c.self.inside.tally }) c.args.self.now (state g.S.Store c.commit.new.conn) c.args.change.now c.deref.result.now
    c.self.view_is (rw c.deref.ensures.value c.in_ok-writes.ensures.written) c.commit.ensures.crash)

pub returns-clause-leaves : goal.returns-clause-leaves
returns-clause-leaves g c hs h before kept accepts some =
    leaves_changed g.S.Store c.args.self.now (record { conn = c.commit.new.conn; tally = c.self.inside.tally }) c.args.change.now h hs some kept accepts before
    (crash_now g.S.Store (record { conn = c.self.inside.conn; tally = c.self.inside.tally }) c.args.self.now (state g.S.Store c.commit.new.conn) c.args.change.now c.deref.result.now
    c.self.view_is (rw c.deref.ensures.value c.in_ok-writes.ensures.written) c.commit.ensures.crash)

pub returns-in_err-writes-clause-answered : goal.returns-in_err-writes-clause-answered
returns-in_err-writes-clause-answered g c clean = no_memory_no_answer c.from_residual.result _ (out_of_memory c.from_residual.result c.in_err-writes.field-0.0 c.from_residual.ensures.1 c.in_err-writes.ensures.only)

pub returns-clause-answered : goal.returns-clause-answered
returns-clause-answered g c clean = λ other. record {
  writes = c.deref.result.now;
  error = c.in-Err.error;
  writes_are = rw c.deref.ensures.value c.in_ok-writes.ensures.written;
  fault_is = c.fault_of.ensures;
  answered = subst (λ (k : StoreData _). IsAnswered g.S.Store c.deref.result.now (state g.S.Store k.conn) c.in-Err.error) c.self.view_is (c.in-Err.ensures.answered clean);
}
