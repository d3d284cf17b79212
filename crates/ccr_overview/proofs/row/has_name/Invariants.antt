use Rattle.std.proofs.Common.{◌≡◌, drop, map, string_bytes}
use Rattle.ccr_pipeline.specs.Names.{has_name}
use Rattle.ccr_overview.proofs.row.has_name.Given as goal

abbrev pub invariant-loop-other : goal.invariant-loop-other
invariant-loop-other l =
    has_name (map string_bytes (drop l.other-index l.names)) l.name ≡ has_name (map string_bytes l.names) l.name
