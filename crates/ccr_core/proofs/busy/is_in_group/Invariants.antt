use Rattle.std.proofs.Common.{◌≡◌, drop, map, string_bytes}
use Rattle.ccr_pipeline.specs.Names.{has_name}
use Rattle.ccr_core.proofs.busy.is_in_group.Given as goal

abbrev pub invariant-loop-own : goal.invariant-loop-own
invariant-loop-own l =
    has_name (map string_bytes (drop l.own-index l.job.serial_groups.items)) l.group ≡ has_name (map string_bytes l.job.serial_groups.items) l.group
