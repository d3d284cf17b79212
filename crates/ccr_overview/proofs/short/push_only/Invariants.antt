use Rattle.std.proofs.Common.{◌≡◌, ◌++◌, drop, flat_map, map, string_bytes}
use Rattle.ccr_overview.specs.Shorts.{field_data, short_text}
use Rattle.ccr_overview.proofs.short.push_only.Given as goal

abbrev pub invariant-loop-field : goal.invariant-loop-field
invariant-loop-field l =
    string_bytes l.text ++ flat_map (λ f. short_text f.1) (map field_data (drop l.field-index l.fields)) ≡ string_bytes l.fn.text ++ flat_map (λ f. short_text f.1) (map field_data l.fields)
