use Rattle.std.proofs.Common.{◌≡◌, ◌++◌, drop, map}
use Rattle.ccr_lines.specs.Releases.{together_data}
use Rattle.ccr_overview.specs.Each.{each_from}
use Rattle.ccr_overview.specs.PageData.{word_data}
use Rattle.ccr_overview.specs.PageRows.{together_words}
use Rattle.ccr_overview.specs.Scenes.{scene_data}
use Rattle.ccr_overview.proofs.row.all_together_words.Given as goal

abbrev pub invariant-loop-k : goal.invariant-loop-k
invariant-loop-k l =
    map word_data l.words.items ++ each_from (together_words (scene_data l.scene)) l.k (map together_data (drop l.k l.together)) ≡ each_from (together_words (scene_data l.scene)) 0 (map together_data l.together)
