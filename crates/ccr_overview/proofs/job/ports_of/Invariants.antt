use Rattle.std.proofs.Common.{◌≡◌, map, take}
use Rattle.ccr_overview.specs.Overviews.{port_of}
use Rattle.ccr_overview.specs.PageData.{port_data}
use Rattle.ccr_pipeline.specs.Inputs.{input_data}
use Rattle.ccr_overview.proofs.job.ports_of.Given as goal

abbrev pub invariant-loop-input : goal.invariant-loop-input
invariant-loop-input l =
    map port_data l.ports.items ≡ map port_of (map input_data (take l.input-index l.inputs))
