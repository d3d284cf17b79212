use Rattle.std.proofs.Common.{◌≡◌, ◌++◌, map, drop}
use Rattle.ccr_pipeline.specs.Inputs.{input_data}
use Rattle.ccr_lines.specs.Releases.{pairs_naming}
use Rattle.ccr_lines.proofs.release.pairs_naming.Given as goal

abbrev pub invariant-loop-input : goal.invariant-loop-input
invariant-loop-input l =
    l.pairs.items ++ pairs_naming l.job (map input_data (drop l.input-index l.inputs)) l.build.used
    ≡ pairs_naming l.job (map input_data l.inputs) l.build.used
