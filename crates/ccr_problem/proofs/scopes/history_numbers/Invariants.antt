use Rattle.std.proofs.Common.{◌≡◌, ◌++◌, map, drop, string_bytes}
use Rattle.ccr_pipeline.specs.Pipelines.{pipeline_data}
use Rattle.ccr_problem.specs.ProblemOf.{history_number}
use Rattle.ccr_problem.proofs.scopes.history_numbers.Given as goal

abbrev pub invariant-loop-name : goal.invariant-loop-name
invariant-loop-name l =
    l.numbers.items ++ map (history_number (pipeline_data l.pipeline) l.history) (map string_bytes (drop l.name-index l.names))
    ≡ map (history_number (pipeline_data l.pipeline) l.history) (map string_bytes l.names)
