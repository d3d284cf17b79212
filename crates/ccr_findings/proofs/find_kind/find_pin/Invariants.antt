use Rattle.std.proofs.Common.{◌≡◌, ◌++◌}
use Rattle.serde_json.specs.View.{members_view}
use Rattle.ccr_pipeline.specs.Keys.{data_of, path_to}
use Rattle.ccr_pipeline.specs.Kinds.{broken_fields, broken_pin}
use Rattle.ccr_findings.proofs.find_kind.find_pin.Given as goal

abbrev pub invariant-loop-field : goal.invariant-loop-field
invariant-loop-field l = l.out ++ broken_fields (path_to l.found) (members_view l.field-iterator) ≡ l.initial.out ++ broken_pin (path_to l.found) (data_of l.found)
