use Rattle.std.proofs.Common.{◌≡◌, drop}
use Rattle.std.specs.List.{list_any}
use Rattle.ccr_lines.specs.Releases.{is_pair}
use Rattle.ccr_overview.specs.Scenes.{scene_data}
use Rattle.ccr_overview.specs.Stopping.{pair_of}
use Rattle.ccr_overview.proofs.hold.is_among.Given as goal

abbrev pub invariant-loop-refusal : goal.invariant-loop-refusal
invariant-loop-refusal l =
    list_any (λ r. is_pair l.pair (pair_of (scene_data l.scene) l.taken r.place)) (drop l.refusal-index l.newer)
    ≡ list_any (λ r. is_pair l.pair (pair_of (scene_data l.scene) l.taken r.place)) l.newer
