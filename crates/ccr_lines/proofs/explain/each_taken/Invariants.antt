use Rattle.std.proofs.Common.{map, take}
use Rattle.ccr_pipeline.specs.Inputs.{input_data}
use Rattle.ccr_lines.specs.Each.{AreEach}
use Rattle.ccr_lines.specs.Explained.{IsTaken}
use Rattle.ccr_lines.specs.Reasons.{subject_data}
use Rattle.ccr_lines.proofs.explain.each_taken.Given as goal

abbrev pub invariant-loop-number : goal.invariant-loop-number
invariant-loop-number l =
    AreEach (IsTaken (subject_data l.subject)) 0 (map input_data (take l.number l.input-items)) l.each.items
