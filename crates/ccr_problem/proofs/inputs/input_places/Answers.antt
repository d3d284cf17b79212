use Rattle.std.proofs.Common.{◌≡◌, ◌∙◌, ℕ, List, [], Some, ap, ap₂, arith, length}
use Rattle.std.proofs.lemmas.Result.{IfOk-weaker}
use Rattle.std.specs.Option.{option_map_or}
use Rattle.ccr_history.specs.TextMap.{TextMap}
use Rattle.ccr_history.specs.Scopes.{ScopeData}
use Rattle.ccr_history.specs.Tables.{versions_of, scope_number}
use Rattle.ccr_pipeline.specs.Inputs.{InputData, input_data}
use Rattle.ccr_pipeline.specs.JobData.{ResourceData, resource_data, scope_of}
use Rattle.ccr_pipeline.specs.Pipelines.{pipeline_data}
use Rattle.ccr_problem.specs.Allowed.{PinsData, allowed_places}
use Rattle.ccr_problem.specs.ProblemOf.{resource_of, pins_of, is_disabled_at}
use Rattle.ccr_problem.proofs.Places.{few_in_history}
use Rattle.ccr_problem.proofs.inputs.input_places.Goals as goal

pub allowed_places-requires : goal.allowed_places-requires
allowed_places-requires c =
    omega (arith, ap length c.versions.ensures, few_in_history c.args.history.now c.scope-2.result.now c.rules.ensures)

pub returns : goal.returns
returns c =
    let h = c.args.history.now in
    let i : InputData = input_data c.args.input.now in
    let r : ResourceData = resource_data c.in-Some.resource.now in
    let numbered : c.scope_number-scope.result ≡ scope_number (scope_of r) h.tables =
    c.scope_number-scope.ensures ∙ ap (λ (s : ScopeData). scope_number s h.tables) c.scope.ensures in
    let seen : c.versions.result.now ≡ versions_of (scope_of r) h.tables =
    c.versions.ensures ∙ ap (λ (s : ScopeData). versions_of s h.tables) c.scope-2.ensures in
    let F : ResourceData → List ℕ = λ r. allowed_places (pins_of r h i) (is_disabled_at h (scope_number (scope_of r) h.tables)) (versions_of (scope_of r) h.tables) in
    let found : Some r ≡ resource_of i.resource (pipeline_data c.args.pipeline.now).resources =
    c.in-Some.ensures ∙ ap (λ n. resource_of n (pipeline_data c.args.pipeline.now).resources) c.as_str.ensures.value in
    let same : allowed_places c.pins_of-pins.result (is_disabled_at h c.scope_number-scope.result) c.versions.result.now ≡ F r =
    ap (λ (pins : PinsData). allowed_places pins (is_disabled_at h c.scope_number-scope.result) c.versions.result.now) c.pins_of-pins.ensures
    ∙ ap₂ (λ n (vs : List TextMap). allowed_places (pins_of r h i) (is_disabled_at h n) vs) numbered seen in
    IfOk-weaker c.allowed_places.result _ _ (λ v is. is ∙ same ∙ ap (λ o. option_map_or F o []) found) c.allowed_places.ensures
