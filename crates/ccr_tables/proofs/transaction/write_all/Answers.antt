use Rattle.std.proofs.Common.{◌∙◌, sym, subst, arith}
use Rattle.std.proofs.lemmas.List.{take_all}
use Rattle.sqlite.specs.State.{HasCleanDisk}
use Rattle.sqlite.specs.Held.{state}
use Rattle.ccr_tables.specs.Contents.{Contents, Holds}
use Rattle.ccr_tables.specs.Written.{all_written}
use Rattle.std.proofs.Common.{take, drop, ◌+◌}
use Rattle.ccr_tables.specs.Answered.{FailedAtWrite}
use Rattle.ccr_tables.proofs.InTurn.{written_more, keeps_then, survives_both, parted, on_failed}
use Rattle.ccr_tables.proofs.transaction.write_all.Goals as goal

pub loop-write-preserved : goal.loop-write-preserved
loop-write-preserved g c =
    let old = state g.S.Store c.args.tx.now.conn.now in
    let mid = state g.S.Store c.loop-write.tx.conn.now in
    let new = state g.S.Store c.write_one.new.tx.conn.now in
    let so_far = c.loop-write.invariant in
    record {
      same_reference = c.write_one.ensures.same_reference ∙ so_far.same_reference;
      survives = survives_both old mid new so_far.survives c.write_one.ensures.survives;
      steps = λ clean inside.
          let early : HasCleanDisk mid = omega (arith, c.write_one.ensures.survives.clean) in
          let before = so_far.steps early inside in
          let step = c.in_ok-write_one.ensures.step clean before.made.0 in
          record {
            kept = keeps_then old mid new before.kept step.kept;
            made = (
              step.made.0,
              λ these has.
                  subst (λ (all : Contents). Holds all new.now) (sym (written_more c.args.writes.now c.loop-write.write-index c.write-item.result these c.loop-write-test.true c.write-item.is))
                  (step.made.1 (all_written (take c.loop-write.write-index c.args.writes.now) these) (before.made.1 these has)),
            );
          };
      sound = λ clean inside some these has.
          let early : HasCleanDisk mid = omega (arith, c.write_one.ensures.survives.clean) in
          let before = so_far.steps early inside in
          (c.in_ok-write_one.ensures.step clean before.made.0).sound (all_written (take c.loop-write.write-index c.args.writes.now) these) (before.made.1 these has);
      opened = λ clean inside some.
          let early : HasCleanDisk mid = omega (arith, c.write_one.ensures.survives.clean) in
          let before = so_far.steps early inside in
          before.kept.was_open (c.in_ok-write_one.ensures.step clean before.made.0).opened;
    }

pub returns-clause-sound : goal.returns-clause-sound
returns-clause-sound g c clean inside some these has =
    let all = take_all c.loop-write.write-index c.args.writes.now (omega (arith, c.loop-write-test.false)) in
    c.loop-write.invariant.sound clean inside (λ none. some (sym all ∙ none)) these has

pub returns-in_err-write_one-clause-answered : goal.returns-in_err-write_one-clause-answered
returns-in_err-write_one-clause-answered g c clean inside =
    let old = state g.S.Store c.args.tx.now.conn.now in
    let so_far = c.loop-write.invariant in
    let early : HasCleanDisk (state g.S.Store c.loop-write.tx.conn.now) = omega (arith, c.write_one.ensures.survives.clean) in
    let before = so_far.steps early inside in
    on_failed c.from_residual.result _ (FailedAtWrite g.S.Store c.args.writes.now old) c.from_residual.ensures.1 (record {
      done = take c.loop-write.write-index c.args.writes.now;
      write = c.write-item.result;
      rest = drop (c.loop-write.write-index + 1) c.args.writes.now;
      before = c.loop-write.tx.conn.now;
      after = c.write_one.new.tx.conn.now;
      parts = parted c.args.writes.now c.loop-write.write-index c.write-item.result c.loop-write-test.true c.write-item.is;
      made = before.made.1;
      kept = so_far.survives;
      answered = c.in_err-write_one.ensures.answered clean before.made.0;
    })
