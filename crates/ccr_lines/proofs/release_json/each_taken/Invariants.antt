use Rattle.std.proofs.Common.{◌≡◌, take, flat_map}
use Rattle.ccr_lines.specs.Json.{after_comma}
use Rattle.ccr_lines.specs.ReleaseJson.{took_json}
use Rattle.ccr_lines.proofs.release_json.each_taken.Given as goal

abbrev pub invariant-loop-k : goal.invariant-loop-k
invariant-loop-k l =
    l.out.items ≡ flat_map (λ u. after_comma (took_json l.history.tables u)) (take l.k l.build.used)
