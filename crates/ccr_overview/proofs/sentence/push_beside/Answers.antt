use Rattle.std.proofs.Common.{rules, ◌≡◌, ◌++◌, List, map, length, false, subst}
use Rattle.std.specs.Prelude.{◌==◌, OnOk}
use Rattle.std.specs.Option.{option_copied}
use Rattle.ccr_overview.specs.Holds.{hold_data, holds, worst}
use Rattle.ccr_overview.specs.PageData.{WordData, word_data}
use Rattle.ccr_overview.specs.Scenes.{scene_data}
use Rattle.ccr_overview.proofs.Beside.{beside_held, some_of}
use Rattle.ccr_overview.proofs.sentence.push_beside.Goals as goal

pub returns : goal.returns
returns c =
    let held : map hold_data c.in_ok-all.all.items ≡ holds (scene_data c.args.scene.now) c.args.inputs.now =
    c.in_ok-all.ensures in
    let some : (length c.in_ok-all.all.items == 0) ≡ false = search rules in
    let is : c.worst.result ≡ worst (holds (scene_data c.args.scene.now) c.args.inputs.now) = search rules in
    subst (λ (ws : List WordData). OnOk c.push_further.result
    (map word_data c.push_further.new.out.items ≡ map word_data c.args.out.now.items ++ ws))
    (beside_held (scene_data c.args.scene.now) (option_copied c.args.live) c.args.by_itself c.args.inputs.now
    (holds (scene_data c.args.scene.now) c.args.inputs.now) c.worst.result (some_of hold_data _ _ held some) is)
    c.push_further.ensures
