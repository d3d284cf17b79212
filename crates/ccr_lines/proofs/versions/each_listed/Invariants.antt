use Rattle.std.proofs.Common.{◌≡◌, take, flat_map}
use Rattle.ccr_lines.specs.Json.{after_comma}
use Rattle.ccr_lines.specs.Listed.{listed_data, listed_json}
use Rattle.ccr_lines.proofs.versions.each_listed.Given as goal

abbrev pub invariant-loop-it : goal.invariant-loop-it
invariant-loop-it l =
    l.out.items ≡ flat_map (λ v. after_comma (listed_json (listed_data v))) (take l.it-index l.listed)
