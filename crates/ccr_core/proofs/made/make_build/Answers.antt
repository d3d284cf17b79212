use Rattle.std.proofs.Common.{[], ◌∷◌, map, length, refl, sym, ap, ◌∙◌, subst}
use Rattle.ccr_history.specs.Changes.{build, edited, IsRunning}
use Rattle.ccr_history.specs.History.{HistoryData}
use Rattle.ccr_problem.specs.Follows.{has_newer}
use Rattle.ccr_core.specs.Endings.{PairsFit}
use Rattle.ccr_core.proofs.Indexing.{newest_so, brought_so}
use Rattle.ccr_history.specs.Edits.{edit_data, row_of}
use Rattle.ccr_pipeline.specs.Inputs.{inputs, input_data}
use Rattle.ccr_pipeline.specs.JobData.{job_data}
use Rattle.ccr_pipeline.specs.Limits.{input_names}
use Rattle.ccr_pipeline.specs.Pipelines.{pipeline_data}
use Rattle.ccr_pipeline.specs.Tree.{tree_of}
use Rattle.ccr_steps.specs.Asks.{chosen}
use Rattle.ccr_steps.specs.Runs.{run_data, StandsFor}
use Rattle.ccr_core.specs.Choices.{used_at, versions_at}
use Rattle.ccr_core.proofs.Making.{versions_each, made_fits, made_edits, made_so, made_change, made_numbers}
use Rattle.ccr_core.proofs.Rows.{changes_so}
use Rattle.ccr_core.proofs.made.make_build.Goals as goal

pub start-requires : goal.start-requires
start-requires c =
    let is = ap (map input_data) c.deref-2.ensures.value ∙ c.in_ok-inputs.ensures.inputs in
    let vs = c.in_ok-versions.ensures ∙ ap (λ l. versions_at (pipeline_data c.args.pipeline.now) c.args.history.now l c.args.places.now) is in
    ap length (c.deref-3.ensures.value ∙ vs) ∙ versions_each (pipeline_data c.args.pipeline.now) c.args.history.now (inputs (tree_of c.args.job.now.plan.value)) c.args.places.now c.requires.can.each

pub brought_by-requires : goal.brought_by-requires
brought_by-requires c =
    let p = pipeline_data c.args.pipeline.now in
    let h : HistoryData = c.args.history.now in
    let is = ap (map input_data) c.deref.ensures.value ∙ c.in_ok-inputs.ensures.inputs in
    let is2 = ap (map input_data) c.deref-2.ensures.value ∙ c.in_ok-inputs.ensures.inputs in
    let mid : HistoryData = edited (build c.as_str-name.result.now c.in_ok-used.used.items) h in
    subst (PairsFit h.tables c.in_ok-outcome.field-0.outcome) (sym c.deref-4.ensures.value)
    (made_fits p h mid mid (job_data c.args.job.now) c.args.places.now c.requires.can (run_data c.in_ok-run.run') c.in_ok-versions.versions.items c.in_ok-used.used.items c.as_str-name.result.now c.next_number-number.result c.in_ok-outcome.field-0.outcome c.in_ok-outcome.field-0.pairs.items
    c.as_str-name.ensures.value c.next_number-number.ensures
    (c.in_ok-versions.ensures ∙ ap (λ l. versions_at p h l c.args.places.now) is2)
    (c.in_ok-used.ensures ∙ ap (λ l. used_at p h l c.args.places.now) is)
    (subst (λ l. StandsFor (run_data c.in_ok-run.run') (tree_of c.args.job.now.plan.value) (chosen (input_names (tree_of c.args.job.now.plan.value)) l) []) c.deref-3.ensures.value c.in_ok-run.ensures)
    c.in_ok-outcome.ensures.stands refl)

pub finish-requires-clause-newest : goal.finish-requires-clause-newest
finish-requires-clause-newest c =
    newest_so c.in_ok-outcome.field-0.outcome (has_newer c.as_str-name.result.now c.next_number-number.result c.add.new.history.builds)
    (ap (λ n. has_newer c.as_str-name.result.now n c.add.new.history.builds) c.next_number-number.ensures ∙ c.in_ok-add.ensures.newest)

pub finish-requires-clause-brought : goal.finish-requires-clause-brought
finish-requires-clause-brought c =
    brought_so (pipeline_data c.args.pipeline.now) c.args.history.now c.add.new.history c.as_str-name.result.now c.next_number-number.result c.deref-5.result.now c.in_ok-outcome.field-0.pairs.items c.deref-4.result.now c.in_ok-outcome.field-0.outcome c.in_ok-brought.brought
    c.in_ok-add.ensures.ok c.deref-4.ensures.value c.in_ok-brought.ensures

pub finish-requires-clause-fits : goal.finish-requires-clause-fits
finish-requires-clause-fits c =
    let is = ap (map input_data) c.deref.ensures.value ∙ c.in_ok-inputs.ensures.inputs in
    let is2 = ap (map input_data) c.deref-2.ensures.value ∙ c.in_ok-inputs.ensures.inputs in
    made_fits (pipeline_data c.args.pipeline.now) c.args.history.now c.add.new.history c.add.new.history (job_data c.args.job.now) c.args.places.now c.requires.can (run_data c.in_ok-run.run') c.in_ok-versions.versions.items c.deref-5.result.now c.as_str-name.result.now c.next_number-number.result c.in_ok-outcome.field-0.outcome c.in_ok-outcome.field-0.pairs.items
    c.as_str-name.ensures.value c.next_number-number.ensures
    (c.in_ok-versions.ensures ∙ ap (λ l. versions_at (pipeline_data c.args.pipeline.now) c.args.history.now l c.args.places.now) is2)
    (c.deref-5.ensures.value ∙ c.in_ok-used.ensures ∙ ap (λ l. used_at (pipeline_data c.args.pipeline.now) c.args.history.now l c.args.places.now) is)
    (subst (λ l. StandsFor (run_data c.in_ok-run.run') (tree_of c.args.job.now.plan.value) (chosen (input_names (tree_of c.args.job.now.plan.value)) l) []) c.deref-3.ensures.value c.in_ok-run.ensures)
    c.in_ok-outcome.ensures.stands c.in_ok-add.ensures.ok

pub returns-clause-made : goal.returns-clause-made
returns-clause-made c =
    let is = ap (map input_data) c.deref.ensures.value ∙ c.in_ok-inputs.ensures.inputs in
    let is2 = ap (map input_data) c.deref-2.ensures.value ∙ c.in_ok-inputs.ensures.inputs in
    made_so (pipeline_data c.args.pipeline.now) c.args.history.now c.add.new.history c.finish.new.history (job_data c.args.job.now) c.args.places.now c.requires.can (run_data c.in_ok-run.run') c.in_ok-versions.versions.items c.deref-5.result.now c.as_str-name.result.now c.next_number-number.result c.in_ok-outcome.field-0.outcome c.in_ok-outcome.field-0.pairs.items
    c.as_str-name.ensures.value c.next_number-number.ensures
    (c.in_ok-versions.ensures ∙ ap (λ l. versions_at (pipeline_data c.args.pipeline.now) c.args.history.now l c.args.places.now) is2)
    (c.deref-5.ensures.value ∙ c.in_ok-used.ensures ∙ ap (λ l. used_at (pipeline_data c.args.pipeline.now) c.args.history.now l c.args.places.now) is)
    (subst (λ l. StandsFor (run_data c.in_ok-run.run') (tree_of c.args.job.now.plan.value) (chosen (input_names (tree_of c.args.job.now.plan.value)) l) []) c.deref-3.ensures.value c.in_ok-run.ensures)
    c.in_ok-outcome.ensures.stands c.in_ok-add.ensures.ok c.finish.ensures.history

pub returns-clause-change : goal.returns-clause-change
returns-clause-change c =
    let is = ap (map input_data) c.deref.ensures.value ∙ c.in_ok-inputs.ensures.inputs in
    let is2 = ap (map input_data) c.deref-2.ensures.value ∙ c.in_ok-inputs.ensures.inputs in
    let items = rw c.unwrap.ensures at c.insert.ensures.items in
    let numbers = made_numbers c.args.history.now c.add.new.history c.insert.new.self.items c.in_ok-outcome.field-0.edits.items _ c.as_str-name.result.now c.deref-5.result.now
    items c.in_ok-copy.ensures.ok (sym c.deref-5.ensures.value) c.in_ok-add.ensures.ok c.next_row-row.ensures c.next_number-number.ensures
    (c.in_ok-outcome.ensures.numbered c.add.new.history (c.next_row-row.ensures ∙ c.in_ok-add.ensures.row
    ∙ ap (λ n. row_of c.as_str-name.result.now n c.add.new.history.builds) (sym c.next_number-number.ensures))) in
    changes_so c.insert.new.self.items c.args.history.now c.finish.new.history
    (made_change (pipeline_data c.args.pipeline.now) c.args.history.now c.add.new.history c.finish.new.history (job_data c.args.job.now) c.args.places.now c.requires.can (run_data c.in_ok-run.run') c.in_ok-versions.versions.items c.deref-5.result.now c.as_str-name.result.now c.next_number-number.result c.in_ok-outcome.field-0.outcome c.in_ok-outcome.field-0.pairs.items
    c.as_str-name.ensures.value c.next_number-number.ensures
    (c.in_ok-versions.ensures ∙ ap (λ l. versions_at (pipeline_data c.args.pipeline.now) c.args.history.now l c.args.places.now) is2)
    (c.deref-5.ensures.value ∙ c.in_ok-used.ensures ∙ ap (λ l. used_at (pipeline_data c.args.pipeline.now) c.args.history.now l c.args.places.now) is)
    (subst (λ l. StandsFor (run_data c.in_ok-run.run') (tree_of c.args.job.now.plan.value) (chosen (input_names (tree_of c.args.job.now.plan.value)) l) []) c.deref-3.ensures.value c.in_ok-run.ensures)
    c.in_ok-outcome.ensures.stands c.in_ok-add.ensures.ok c.finish.ensures.history
    (map edit_data c.insert.new.self.items)
    (ap (map edit_data) items
    ∙ ap (λ y. build y c.in_ok-used.used.items ∷ map edit_data c.in_ok-outcome.field-0.edits.items) c.in_ok-copy.ensures.ok
    ∙ ap (λ l. build c.as_str-name.result.now l ∷ map edit_data c.in_ok-outcome.field-0.edits.items) (sym c.deref-5.ensures.value)
    ∙ ap (λ l. build c.as_str-name.result.now c.deref-5.result.now ∷ l) c.in_ok-outcome.ensures.edits)
    (subst (λ n. IsRunning c.as_str-name.result.now n c.add.new.history.builds) (sym c.next_number-number.ensures) c.in_ok-add.ensures.running))
    numbers

pub returns-clause-edits : goal.returns-clause-edits
returns-clause-edits c =
    let is = ap (map input_data) c.deref.ensures.value ∙ c.in_ok-inputs.ensures.inputs in
    let is2 = ap (map input_data) c.deref-2.ensures.value ∙ c.in_ok-inputs.ensures.inputs in
    let items = rw c.unwrap.ensures at c.insert.ensures.items in
    made_edits (pipeline_data c.args.pipeline.now) c.args.history.now c.add.new.history c.finish.new.history (job_data c.args.job.now) c.args.places.now c.requires.can (run_data c.in_ok-run.run') c.in_ok-versions.versions.items c.deref-5.result.now c.as_str-name.result.now c.next_number-number.result c.in_ok-outcome.field-0.outcome c.in_ok-outcome.field-0.pairs.items
    c.as_str-name.ensures.value c.next_number-number.ensures
    (c.in_ok-versions.ensures ∙ ap (λ l. versions_at (pipeline_data c.args.pipeline.now) c.args.history.now l c.args.places.now) is2)
    (c.deref-5.ensures.value ∙ c.in_ok-used.ensures ∙ ap (λ l. used_at (pipeline_data c.args.pipeline.now) c.args.history.now l c.args.places.now) is)
    (subst (λ l. StandsFor (run_data c.in_ok-run.run') (tree_of c.args.job.now.plan.value) (chosen (input_names (tree_of c.args.job.now.plan.value)) l) []) c.deref-3.ensures.value c.in_ok-run.ensures)
    c.in_ok-outcome.ensures.stands c.in_ok-add.ensures.ok
    (map edit_data c.insert.new.self.items)
    (ap (map edit_data) items
    ∙ ap (λ y. build y c.in_ok-used.used.items ∷ map edit_data c.in_ok-outcome.field-0.edits.items) c.in_ok-copy.ensures.ok
    ∙ ap (λ l. build c.as_str-name.result.now l ∷ map edit_data c.in_ok-outcome.field-0.edits.items) (sym c.deref-5.ensures.value)
    ∙ ap (λ l. build c.as_str-name.result.now c.deref-5.result.now ∷ l) c.in_ok-outcome.ensures.edits)
