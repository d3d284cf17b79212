use Rattle.std.proofs.Common.{rules, ◌≡◌, true, false, length, map, sym, ap, ◌∙◌, subst, arith}
use Rattle.ccr_history.specs.Changes.{text, edited}
use Rattle.ccr_pipeline.specs.Pipelines.{pipeline_data}
use Rattle.ccr_steps.specs.Runs.{run_data}
use Rattle.ccr_problem.specs.Indexes.{AreIndexes}
use Rattle.ccr_core.specs.Cores.{core_data}
use Rattle.ccr_core.proofs.Choosing.{length_map}
use Rattle.ccr_core.proofs.Editing.{builds_open, piped_so, no_length, is_zero, not_zero}
use Rattle.ccr_core.proofs.Piping.{pipeline_kept}
use Rattle.ccr_core.proofs.parts.Parts.set_pipeline.Goals as goal

pub returns-then-not-is_empty-clause-refused : goal.returns-then-not-is_empty-clause-refused
returns-then-not-is_empty-clause-refused c =
    let no : c.is_empty.result ≡ false = search rules in
    builds_open (core_data c.args.self.now) (pipeline_data c.args.pipeline) (λ none.
    let same = length_map run_data c.args.self.now.runs.items in
    let empty = ap length none in
    not_zero _ _ c.is_empty.ensures no (omega (arith, same, empty, c.args.self.now.runs.ok)))

pub returns-then-not-is_empty-clause-kept : goal.returns-then-not-is_empty-clause-kept
returns-then-not-is_empty-clause-kept c = pipeline_kept c.args.pipeline

pub returns-in-Ok-clause-step : goal.returns-in-Ok-clause-step
returns-in-Ok-clause-step c =
    let yes : c.is_empty.result ≡ true = search rules in
    let zero = is_zero _ _ c.is_empty.ensures yes in
    piped_so (core_data c.args.self.now) (pipeline_data c.args.pipeline) c.set_text.new.self (ap (map run_data) (no_length c.args.self.now.runs.items (omega (arith, zero, c.args.self.now.runs.ok)))) (c.set_text.ensures ∙ ap (λ t. edited (text t) c.args.self.now.history) c.in-Ok.ensures.text)

pub returns-in-Ok-clause-kept : goal.returns-in-Ok-clause-kept
returns-in-Ok-clause-kept c = pipeline_kept c.args.pipeline

pub returns-in-Err-clause-kept : goal.returns-in-Err-clause-kept
returns-in-Err-clause-kept c = pipeline_kept c.args.pipeline

pub returns-in-Ok-clause-indexed : goal.returns-in-Ok-clause-indexed
returns-in-Ok-clause-indexed c = subst (λ y. AreIndexes (pipeline_data c.args.pipeline) y c.in-Ok.indexes) (sym c.set_text.ensures) c.in-Ok.ensures.indexes
