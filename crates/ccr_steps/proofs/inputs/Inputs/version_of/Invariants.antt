use Rattle.std.proofs.Common.{◌≡◌, true, map, drop}
use Rattle.ccr_pipeline.specs.Names.{has_name}
use Rattle.ccr_steps.specs.Asks.{version_of}
use Rattle.ccr_steps.specs.Inputs.{chosen_data, chosen_names}
use Rattle.ccr_steps.proofs.inputs.Inputs.version_of.Given as goal

abbrev pub invariant-loop-input : goal.invariant-loop-input
invariant-loop-input l =
    (version_of (map chosen_data (drop l.input-index l.input-items)) l.name ≡ version_of (map chosen_data l.input-items) l.name)
    × (has_name (chosen_names (map chosen_data (drop l.input-index l.input-items))) l.name ≡ true)
