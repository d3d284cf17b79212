use Rattle.std.proofs.Common.{◌≡◌, take, flat_map}
use Rattle.ccr_lines.specs.Json.{after_comma}
use Rattle.ccr_lines.specs.ReleaseJson.{witness_json}
use Rattle.ccr_lines.specs.Releases.{together_data}
use Rattle.ccr_lines.proofs.release_json.each_together.Given as goal

abbrev pub invariant-loop-it : goal.invariant-loop-it
invariant-loop-it l =
    l.out.items
    ≡ flat_map (λ t. after_comma (witness_json (together_data t).job (together_data t).number)) (take l.it-index l.together)
