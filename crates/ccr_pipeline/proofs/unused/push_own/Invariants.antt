use Rattle.std.proofs.Common.{◌≡◌, ◌++◌}
use Rattle.serde_json.specs.View.{members_view}
use Rattle.ccr_pipeline.specs.Keys.{data_of, path_to}
use Rattle.ccr_pipeline.specs.Names.{names_of}
use Rattle.ccr_pipeline.specs.Unused.{unused_members, unused_own}
use Rattle.ccr_pipeline.proofs.unused.push_own.Given as goal

abbrev pub invariant-loop-key : goal.invariant-loop-key
invariant-loop-key l = names_of l.out.items ++ unused_members l.schema (path_to l.object) (members_view l.key-iterator) ≡ names_of l.initial.out.items ++ unused_own l.schema (path_to l.object) (data_of l.object)
