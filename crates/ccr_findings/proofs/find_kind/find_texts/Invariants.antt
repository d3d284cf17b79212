use Rattle.std.proofs.Common.{◌≡◌, ◌++◌}
use Rattle.serde_json.specs.View.{items_view}
use Rattle.ccr_history.proofs.Items.{left}
use Rattle.ccr_pipeline.specs.Keys.{path_of}
use Rattle.ccr_pipeline.specs.Kinds.{broken_texts}
use Rattle.ccr_findings.proofs.find_kind.find_texts.Given as goal

abbrev pub invariant-loop-i : goal.invariant-loop-i
invariant-loop-i l = l.out ++ broken_texts (path_of l.place) l.i (left l.i l.list) ≡ l.initial.out ++ broken_texts (path_of l.place) 0 (items_view l.list)
