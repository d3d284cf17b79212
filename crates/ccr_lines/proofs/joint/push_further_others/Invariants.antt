use Rattle.std.proofs.Common.{◌≡◌, ◌++◌, drop, map, string_bytes}
use Rattle.ccr_pipeline.specs.Inputs.{input_data}
use Rattle.ccr_lines.specs.ClashWords.{further_others}
use Rattle.ccr_lines.proofs.joint.push_further_others.Given as goal

abbrev pub invariant-loop-other : goal.invariant-loop-other
invariant-loop-other l =
    string_bytes l.text
    ++ further_others l.own l.places (map input_data l.inputs) l.demands (drop l.other-index l.others)
    ≡ string_bytes l.fn.text ++ further_others l.own l.places (map input_data l.inputs) l.demands l.others
