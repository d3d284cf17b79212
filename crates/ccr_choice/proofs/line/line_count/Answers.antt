use Rattle.std.proofs.Common.{length, ap, ◌∙◌, sym, arith, eqb-true}
use Rattle.ccr_choice.proofs.Cuts.{lines_step, lines_none, lines_unended, some_bytes}
use Rattle.ccr_choice.proofs.line.line_count.Goals as goal

pub loop-others-preserved : goal.loop-others-preserved
loop-others-preserved c =
    let step = ap length (lines_step c.loop-others.rest.now c.in-Some.field-0-0.now c.in-Some.others.now c.in-Some.ensures.cut) in
    record { counted = omega (arith, step, c.loop-others.invariant.counted); within = omega (arith, c.loop-others.invariant.within, c.in-Some.ensures.shorter) }

pub returns-then-is_empty-clause-value : goal.returns-then-is_empty-clause-value
returns-then-is_empty-clause-value c =
    let none = ap length (lines_none c.loop-others.rest.now (eqb-true _ 0 (sym c.is_empty.ensures ∙ c.if-is_empty.true))) in
    omega (arith, none, c.loop-others.invariant.counted)

pub returns-else-is_empty-clause-value : goal.returns-else-is_empty-clause-value
returns-else-is_empty-clause-value c =
    let last = ap length (lines_unended c.loop-others.rest.now (some_bytes _ (sym c.is_empty.ensures ∙ c.if-is_empty.false)) c.in_default.ensures.cut) in
    omega (arith, last, c.loop-others.invariant.counted)
