use Rattle.std.proofs.Common.{◌≡◌, take, flat_map}
use Rattle.ccr_lines.specs.Json.{after_comma}
use Rattle.ccr_lines.specs.ReleaseJson.{moved_json}
use Rattle.ccr_lines.proofs.release_json.each_moved.Given as goal

abbrev pub invariant-loop-pair : goal.invariant-loop-pair
invariant-loop-pair l =
    l.out.items ≡ flat_map (λ q. after_comma (moved_json l.history.tables q)) (take l.pair-index l.moved)
