use Rattle.std.proofs.Common.{option_map, sym, ap, ◌∙◌}
use Rattle.ccr_history.specs.History.{has_place}
use Rattle.ccr_history.specs.Scopes.{ScopeData}
use Rattle.ccr_history.specs.Tables.{scope_number}
use Rattle.ccr_pipeline.specs.JobData.{resource_data}
use Rattle.ccr_pipeline.specs.Pipelines.{pipeline_data}
use Rattle.ccr_core.proofs.parts.Parts.scope_with.Goals as goal

pub returns-in_default-resource-clause-lacks : goal.returns-in_default-resource-clause-lacks
returns-in_default-resource-clause-lacks c =
    (pipeline_data c.in-Some.pipeline, ap (option_map pipeline_data) c.in-Some.is, sym c.in_default-resource.ensures)

pub returns-then-has_place-clause-has : goal.returns-then-has_place-clause-has
returns-then-has_place-clause-has c = (
  pipeline_data c.in-Some.pipeline,
  resource_data c.in-Some-resource.found.now,
  ap (option_map pipeline_data) c.in-Some.is,
  sym c.in-Some-resource.ensures,
  c.scope-scope.ensures,
  ap (λ n. has_place c.args.self.now.history.tables n c.args.place) (sym c.scope_number.ensures) ∙ sym c.has_place.ensures ∙ c.if-has_place.true,
)

pub returns-else-has_place-clause-lacks : goal.returns-else-has_place-clause-lacks
returns-else-has_place-clause-lacks c = (
  pipeline_data c.in-Some.pipeline,
  resource_data c.in-Some-resource.found.now,
  ap (option_map pipeline_data) c.in-Some.is,
  sym c.in-Some-resource.ensures,
  ap (λ n. has_place c.args.self.now.history.tables n c.args.place)
      (ap (λ (s : ScopeData). scope_number s c.args.self.now.history.tables) (sym c.scope-scope.ensures) ∙ sym c.scope_number.ensures)
      ∙ sym c.has_place.ensures ∙ c.if-has_place.false,
)
