use Rattle.std.proofs.Common.{◌≡◌, ◌++◌, drop, map, option_copied}
use Rattle.ccr_overview.specs.Each.{each_from}
use Rattle.ccr_overview.specs.Holds.{hold_data}
use Rattle.ccr_overview.specs.PageData.{word_data}
use Rattle.ccr_overview.specs.Scenes.{scene_data}
use Rattle.ccr_overview.specs.Sentences.{told_hold}
use Rattle.ccr_overview.proofs.sentence.push_each.Given as goal

abbrev pub invariant-loop-position : goal.invariant-loop-position
invariant-loop-position l =
    map word_data l.out.items ++ each_from (told_hold (scene_data l.scene) (option_copied l.live) l.several l.by_itself) l.position (map hold_data (drop l.position l.holds)) ≡ map word_data l.fn.out.items ++ each_from (told_hold (scene_data l.scene) (option_copied l.live) l.several l.by_itself) 0 (map hold_data l.holds)
