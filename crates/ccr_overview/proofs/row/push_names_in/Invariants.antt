use Rattle.std.proofs.Common.{◌≡◌, ◌++◌, drop, map, string_bytes}
use Rattle.ccr_overview.specs.PageRows.{names_in}
use Rattle.ccr_overview.proofs.row.push_names_in.Given as goal

abbrev pub invariant-loop-name : goal.invariant-loop-name
invariant-loop-name l =
    map string_bytes l.out.items ++ names_in (map string_bytes l.others) (map string_bytes (drop l.name-index l.names)) ≡ map string_bytes l.fn.out.items ++ names_in (map string_bytes l.others) (map string_bytes l.names)
