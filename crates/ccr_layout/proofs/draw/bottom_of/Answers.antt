use Rattle.std.proofs.Common.{◌+◌, ◌≤◌, List, take, subst, arith}
use Rattle.std.specs.Prelude.{All}
use Rattle.std.proofs.lemmas.List.{take_all}
use Rattle.std.proofs.lemmas.List.Elements.{All-more, All-weaker}
use Rattle.ccr_layout.specs.declared.picture.NodeBox.{NodeBox}
use Rattle.ccr_layout.specs.declared.picture.Slot.{Slot}
use Rattle.ccr_layout.proofs.draw.bottom_of.Goals as goal

abbrev no_box : NodeBox
no_box = record { column = 0; left = 0; top = 0; width = 0; height = 0 }

abbrev no_slot : Slot
no_slot = record { node = 0; column = 0; from = record { x = 0; y = 0 }; left = 0; right = 0; top = 0 }

pub loop-frame-preserved : goal.loop-frame-preserved
loop-frame-preserved c =
    let boxes = c.args.boxes.now in
    let i = c.loop-frame.frame-index in
    let old = c.loop-frame.bottom in
    let new = c.max-bottom.result in
    let is = c.loop-frame.invariant in
    let here = c.requires.boxes i no_box c.loop-frame-test.true in
    record {
      low = omega (arith, c.max-bottom.ensures, is.low, here);
      boxes = All-more (λ b. b.top + b.height ≤ new) boxes i no_box c.loop-frame-test.true
          (All-weaker (λ b. b.top + b.height ≤ old) (λ b. b.top + b.height ≤ new) (λ b h. omega (arith, h, c.max-bottom.ensures)) (take i boxes) is.boxes) (omega (arith, c.max-bottom.ensures));
    }

pub loop-slot-init : goal.loop-slot-init
loop-slot-init c =
    let P : List NodeBox → Type 0 = λ bs. All (λ b. b.top + b.height ≤ c.loop-frame.bottom) bs in
    record {
      low = c.loop-frame.invariant.low;
      boxes = subst P (take_all c.loop-frame.frame-index c.args.boxes.now (omega (arith, c.loop-frame-test.false))) c.loop-frame.invariant.boxes;
      slots = λ k d less. absurd (omega (arith, less));
    }

pub loop-slot-preserved : goal.loop-slot-preserved
loop-slot-preserved c =
    let slots = c.args.slots.now in
    let i = c.loop-slot.slot-index in
    let old = c.loop-slot.bottom in
    let new = c.max-bottom-in-loop-slot.result in
    let is = c.loop-slot.invariant in
    let here = c.requires.slots i no_slot c.loop-slot-test.true in
    record {
      low = omega (arith, c.max-bottom-in-loop-slot.ensures, is.low, here);
      boxes = All-weaker (λ b. b.top + b.height ≤ old) (λ b. b.top + b.height ≤ new) (λ b h. omega (arith, h, c.max-bottom-in-loop-slot.ensures)) c.args.boxes.now is.boxes;
      slots = All-more (λ s. s.top ≤ new) slots i no_slot c.loop-slot-test.true
          (All-weaker (λ s. s.top ≤ old) (λ s. s.top ≤ new) (λ s h. omega (arith, h, c.max-bottom-in-loop-slot.ensures)) (take i slots) is.slots) (omega (arith, c.max-bottom-in-loop-slot.ensures));
    }

pub returns-clause-slots : goal.returns-clause-slots
returns-clause-slots c =
    let P : List Slot → Type 0 = λ ss. All (λ s. s.top ≤ c.loop-slot.bottom) ss in
    subst P (take_all c.loop-slot.slot-index c.args.slots.now (omega (arith, c.loop-slot-test.false))) c.loop-slot.invariant.slots
