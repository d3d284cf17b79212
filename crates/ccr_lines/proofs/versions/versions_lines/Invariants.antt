use Rattle.std.proofs.Common.{◌≡◌, take, flat_map, string_bytes}
use Rattle.ccr_lines.specs.Listed.{listed_data, version_line}
use Rattle.ccr_lines.proofs.versions.versions_lines.Given as goal

abbrev pub invariant-loop-it : goal.invariant-loop-it
invariant-loop-it l =
    string_bytes l.text ≡ flat_map (λ v. version_line (listed_data v)) (take l.it-index l.listed)
