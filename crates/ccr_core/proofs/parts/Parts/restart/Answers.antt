use Rattle.std.proofs.Common.{map, option_map, sym, ap, ◌∙◌, subst}
use Rattle.ccr_history.specs.Changes.{changed, AdmitsAll}
use Rattle.ccr_history.specs.Edits.{edit_data}
use Rattle.ccr_steps.specs.Runs.{run_data}
use Rattle.ccr_core.specs.Cores.{core_data}
use Rattle.ccr_core.specs.Holding.{name_data}
use Rattle.ccr_core.specs.Resumed.{cut_name}
use Rattle.ccr_history.specs.History.{HistoryData}
use Rattle.ccr_pipeline.specs.Pipelines.{pipeline_data}
use Rattle.ccr_core.specs.Indexed.{AreIndexesOf}
use Rattle.ccr_core.proofs.Indexing.{cuts_on_of}
use Rattle.ccr_core.proofs.Editing.{all_taken, restart_edits, restarted_so}
use Rattle.ccr_core.proofs.Rows.{changes_so}
use Rattle.ccr_core.proofs.parts.Parts.restart.Goals as goal

pub cut_all-requires : goal.cut_all-requires
cut_all-requires c =
    subst (λ l. AdmitsAll c.args.self.now.history (map cut_name (map name_data l))) (sym c.deref-in-Ok.ensures.value) (all_taken (core_data c.args.self.now) c.requires.core)

pub returns-in-Ok-clause-step : goal.returns-in-Ok-clause-step
returns-in-Ok-clause-step c =
    restarted_so (core_data c.args.self.now) c.cut_all.new.history (map name_data c.clear.new.self.items) (map run_data c.clear-in-Ok.new.self.items)
    (c.cut_all.ensures ∙ ap (λ l. changed (map cut_name (map name_data l)) c.args.self.now.history) c.deref-in-Ok.ensures.value)
    (ap (map name_data) c.clear.ensures.items) (ap (map run_data) c.clear-in-Ok.ensures.items)

pub returns-in-Ok-clause-change : goal.returns-in-Ok-clause-change
returns-in-Ok-clause-change c =
    let same = c.in-Ok.ensures.is ∙ ap (λ l. map cut_name (map name_data l)) c.deref.ensures.value in
    changes_so c.in-Ok.change.items c.args.self.now.history c.cut_all.new.history (
      subst (AdmitsAll c.args.self.now.history) (sym same) (all_taken (core_data c.args.self.now) c.requires.core),
      ap (λ es. changed es c.args.self.now.history) same ∙ sym (c.cut_all.ensures ∙ ap (λ l. changed (map cut_name (map name_data l)) c.args.self.now.history) c.deref-in-Ok.ensures.value),
    )
    c.in-Ok.ensures.numbered

pub returns-in-Ok-clause-indexed : goal.returns-in-Ok-clause-indexed
returns-in-Ok-clause-indexed c =
    let h : HistoryData = c.args.self.now.history in
    let o = option_map pipeline_data c.args.self.now.pipeline in
    let is = c.cut_all.ensures ∙ ap (λ l. changed (map cut_name (map name_data l)) h) c.deref-in-Ok.ensures.value in
    subst (λ y. AreIndexesOf o y c.args.self.now.indexes) (sym is)
    (cuts_on_of c.builds_change_problems.ensures.unsuccessful o (map name_data c.args.self.now.names.items) h c.args.self.now.indexes c.rules.ensures (all_taken (core_data c.args.self.now) c.requires.core) c.requires.indexed)

pub returns-in-Ok-clause-edits : goal.returns-in-Ok-clause-edits
returns-in-Ok-clause-edits c =
    restart_edits (core_data c.args.self.now) (map edit_data c.in-Ok.change.items) (c.in-Ok.ensures.is ∙ ap (λ l. map cut_name (map name_data l)) c.deref.ensures.value)
