use Rattle.std.proofs.Common.{◌≡◌, ◌++◌, drop, map, string_bytes}
use Rattle.ccr_overview.specs.Abouts.{passed_words}
use Rattle.ccr_overview.specs.Each.{each_from}
use Rattle.ccr_overview.specs.PageData.{word_data}
use Rattle.ccr_overview.specs.Scenes.{scene_data}
use Rattle.ccr_overview.proofs.about.push_each_passed.Given as goal

abbrev pub invariant-loop-k : goal.invariant-loop-k
invariant-loop-k l =
    map word_data l.out.items ++ each_from (passed_words (scene_data l.scene)) l.k (map string_bytes (drop l.k l.names)) ≡ map word_data l.fn.out.items ++ each_from (passed_words (scene_data l.scene)) 0 (map string_bytes l.names)
