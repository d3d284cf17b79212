use Rattle.std.proofs.Common.{◌∷◌, [], sym}
use Rattle.ccr_pipeline.specs.Inputs.{input_data}
use Rattle.ccr_lines.specs.Explained.{IsTaken}
use Rattle.ccr_lines.specs.Reasons.{subject_data}
use Rattle.ccr_lines.proofs.Explaining.{each_told}
use Rattle.ccr_lines.proofs.explain.each_taken.Goals as goal

pub loop-number-preserved : goal.loop-number-preserved
loop-number-preserved c =
    each_told (IsTaken (subject_data c.args.subject.now)) input_data c.args.subject.now.inputs.now c.loop-number.number
    c.input-item.result c.loop-number.each.items (c.in_ok-own.own ∷ []) c.push.new.self.items c.loop-number-test.true
    (sym c.input-item.is) c.loop-number.invariant c.in_ok-own.ensures c.in_ok-push.ensures.items
