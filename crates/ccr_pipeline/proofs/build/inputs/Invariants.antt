use Rattle.std.proofs.Common.{◌≡◌, ◌++◌, map}
use Rattle.serde_json.specs.View.{items_view}
use Rattle.ccr_pipeline.specs.Tree.{input_data}
use Rattle.ccr_pipeline.specs.Meaning.{inputs_in}
use Rattle.ccr_history.proofs.Items.{left}
use Rattle.ccr_pipeline.proofs.build.inputs.Given as goal

abbrev pub invariant-loop-member : goal.invariant-loop-member
invariant-loop-member l = map input_data l.inputs.items ++ inputs_in (left l.member-index l.list) ≡ inputs_in (items_view l.list)
