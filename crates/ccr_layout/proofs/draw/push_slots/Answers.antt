use Rattle.std.proofs.Common.{◌+◌, List, [], ◌∷◌, ◌++◌, sym, ap, ◌∙◌, subst, arith}
use Rattle.ccr_layout.specs.declared.picture.Slot.{Slot}
use Rattle.ccr_layout.specs.declared.span.Span.{Span}
use Rattle.ccr_layout.specs.Spans.{Passes}
use Rattle.ccr_layout.specs.Drawing.{HasSlots}
use Rattle.ccr_layout.proofs.StepLaws.{slots_more, slots_first, slots_next}
use Rattle.ccr_layout.proofs.draw.push_slots.Goals as goal

pub loop-before-init : goal.loop-before-init
loop-before-init c =
    slots_first c.args.spans.now c.args.bands.now c.args.tops.now c.args.node 0 c.args.slots.now.items c.requires.earlier (c.span_at-span.result.column + 1) (omega arith) (omega (arith, ap (λ s. s.column) c.span_at-span.ensures))

pub loop-before-preserved : goal.loop-before-preserved
loop-before-preserved c =
    let n = c.loop-before.before in
    let P : List Slot → Type 0 = λ xs. HasSlots c.args.spans.now c.args.bands.now c.args.tops.now c.args.node (n + 1 + 1) xs in
    let Q : Span → Type 0 = λ s. Passes s (n + 1) in
    subst P (sym (c.in_ok-push.ensures.items ∙ ap (λ s. c.loop-before.slots.items ++ s ∷ []) c.slot_of.ensures))
    (slots_more c.args.spans.now c.args.bands.now c.args.tops.now c.args.node (n + 1) c.loop-before.slots.items c.loop-before.invariant c.requires.within
    (subst Q c.span_at-span.ensures (omega (arith, c.loop-before.auto), omega (arith, c.loop-before-test.true))))

pub returns : goal.returns
returns c =
    slots_next c.args.spans.now c.args.bands.now c.args.tops.now c.args.node (c.loop-before.before + 1) c.loop-before.slots.items c.loop-before.invariant
    (omega (arith, ap (λ s. s.reach) c.span_at-span.ensures, c.loop-before-test.false))
