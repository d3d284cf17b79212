use Rattle.std.proofs.Common.{◌≡◌, ◌++◌, map}
use Rattle.serde_json.specs.View.{members_view}
use Rattle.ccr_pipeline.specs.Tree.{variable_data}
use Rattle.ccr_pipeline.specs.Meaning.{variables_in}
use Rattle.ccr_pipeline.proofs.build.variables_of.Given as goal

abbrev pub invariant-loop-key : goal.invariant-loop-key
invariant-loop-key l = map variable_data l.variables.items ++ variables_in (members_view l.key-iterator) ≡ variables_in (members_view l.members.entries)
