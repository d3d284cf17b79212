use Rattle.std.proofs.Common.{◌≡◌, ◌++◌, map, drop, string_bytes}
use Rattle.ccr_problem.specs.Numbering.{number_of}
use Rattle.ccr_problem.proofs.inputs.numbers_of.Given as goal

abbrev pub invariant-loop-name : goal.invariant-loop-name
invariant-loop-name l =
    l.numbers.items ++ map (number_of l.numbering) (map string_bytes (drop l.name-index l.names)) ≡ map (number_of l.numbering) (map string_bytes l.names)
