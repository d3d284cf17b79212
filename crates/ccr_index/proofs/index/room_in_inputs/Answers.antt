use Rattle.std.proofs.Common.{◌∙◌, arith}
use Rattle.ccr_index.specs.Rows.{InputRowsValue}
use Rattle.ccr_index.proofs.IndexLaws.{same_map, still_all, more_front}
use Rattle.ccr_index.proofs.index.room_in_inputs.Goals as goal

pub returns-in_err-make_room-clause-inputs : goal.returns-in_err-make_room-clause-inputs
returns-in_err-make_room-clause-inputs c = same_map (λ (z : InputRowsValue). z.input) (λ z. z.spare) c.loop-i.inputs c.loop-i.i c.index-inputs-i.result c.make_room.new.self (omega arith) c.make_room.ensures.input c.make_room.ensures.kept ∙ c.loop-i.invariant.0

pub returns-in_err-make_room-clause-kept : goal.returns-in_err-make_room-clause-kept
returns-in_err-make_room-clause-kept c = λ n all. still_all (λ (z : InputRowsValue). z.input) (λ z. z.spare) c.loop-i.inputs c.loop-i.i c.index-inputs-i.result c.make_room.new.self (omega arith) c.make_room.ensures.input c.make_room.ensures.kept n (c.loop-i.invariant.1 n all)

pub loop-i-preserved : goal.loop-i-preserved
loop-i-preserved c = (
  same_map (λ (z : InputRowsValue). z.input) (λ z. z.spare) c.loop-i.inputs c.loop-i.i c.index-inputs-i.result c.make_room.new.self (omega arith) c.make_room.ensures.input c.make_room.ensures.kept ∙ c.loop-i.invariant.0,
  λ n all. still_all (λ (z : InputRowsValue). z.input) (λ z. z.spare) c.loop-i.inputs c.loop-i.i c.index-inputs-i.result c.make_room.new.self (omega arith) c.make_room.ensures.input c.make_room.ensures.kept n (c.loop-i.invariant.1 n all),
  λ k d below. more_front (λ (z : InputRowsValue). z.input) (λ z. z.spare) c.loop-i.inputs c.loop-i.i c.index-inputs-i.result c.make_room.new.self (omega arith) c.make_room.ensures.input c.make_room.ensures.kept c.args.places c.in_ok-make_room.ensures.room c.loop-i.invariant.2 k d below,
)
