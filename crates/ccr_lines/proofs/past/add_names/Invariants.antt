use Rattle.std.proofs.Common.{◌≡◌, drop, map, string_bytes}
use Rattle.ccr_pipeline.specs.Names.{with_names}
use Rattle.ccr_lines.proofs.past.add_names.Given as goal

abbrev pub invariant-loop-name : goal.invariant-loop-name
invariant-loop-name l =
    with_names (map string_bytes l.names.items) (map string_bytes (drop l.name-index l.more))
    ≡ with_names (map string_bytes l.fn.names.items) (map string_bytes l.more)
