use Rattle.std.proofs.Common.{arith}
use Rattle.ccr_pipeline.specs.Pipelines.{pipeline_data}
use Rattle.ccr_core.proofs.Editing.{no_length, is_zero}
use Rattle.ccr_core.proofs.Indexing.{none_reported}
use Rattle.ccr_core.proofs.reported.follow_report.Goals as goal

pub returns-then-is_empty-clause-ok : goal.returns-then-is_empty-clause-ok
returns-then-is_empty-clause-ok c =
    let zero = is_zero _ _ c.is_empty.ensures c.if-is_empty.true in
    let none = no_length c.args.reported.now.versions.items (omega (arith, zero, c.args.reported.now.versions.ok)) in
    none_reported (pipeline_data c.args.pipeline.now) c.args.history.now c.args.reported.now c.args.indexes.now none c.requires
