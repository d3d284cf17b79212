use Rattle.std.proofs.Common.{◌≡◌, map, drop, string_bytes}
use Rattle.ccr_steps.specs.Gains.{gains_data, Grew, register_all}
use Rattle.ccr_steps.proofs.gains.Gains.register_all.Given as goal

abbrev pub invariant-loop-name : goal.invariant-loop-name
invariant-loop-name l = (register_all (map string_bytes (drop l.name-index l.names)) (gains_data l.self) ≡ register_all (map string_bytes l.names) (gains_data l.fn.self)) × Grew (gains_data l.fn.self) (gains_data l.self)
