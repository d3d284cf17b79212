use Rattle.std.proofs.Common.{◌≡◌, ◌++◌, map, string_bytes}
use Rattle.serde_json.specs.View.{items_view}
use Rattle.ccr_pipeline.specs.Meaning.{outputs_in}
use Rattle.ccr_history.proofs.Items.{left}
use Rattle.ccr_pipeline.proofs.build.outputs.Given as goal

abbrev pub invariant-loop-member : goal.invariant-loop-member
invariant-loop-member l = map string_bytes l.outputs.items ++ outputs_in (left l.member-index l.list) ≡ outputs_in (items_view l.list)
