use Rattle.std.proofs.Common.{◌≡◌, ◌++◌, drop, map}
use Rattle.ccr_overview.specs.Arrows.{port_arrows}
use Rattle.ccr_overview.specs.Each.{each_from}
use Rattle.ccr_overview.specs.Scenes.{scene_data, told_data}
use Rattle.ccr_pipeline.specs.Inputs.{input_data}
use Rattle.ccr_overview.proofs.arrow.push_ports.Given as goal

abbrev pub invariant-loop-port : goal.invariant-loop-port
invariant-loop-port l =
    l.out.items ++ each_from (λ i x. port_arrows (scene_data l.scene) l.k (told_data l.told) i x x.passed) l.port (map input_data (drop l.port l.inputs)) ≡ l.fn.out.items ++ each_from (λ i x. port_arrows (scene_data l.scene) l.k (told_data l.told) i x x.passed) 0 (map input_data l.inputs)
