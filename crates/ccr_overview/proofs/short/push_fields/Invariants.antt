use Rattle.std.proofs.Common.{◌≡◌, ◌++◌, drop, map, string_bytes}
use Rattle.ccr_overview.specs.Each.{each_from}
use Rattle.ccr_overview.specs.Shorts.{field_data, short_field}
use Rattle.ccr_overview.proofs.short.push_fields.Given as goal

abbrev pub invariant-loop-position : goal.invariant-loop-position
invariant-loop-position l =
    string_bytes l.text ++ each_from short_field l.position (map field_data (drop l.position l.fields)) ≡ string_bytes l.fn.text ++ each_from short_field 0 (map field_data l.fields)
