-- A place that is disabled or enabled.
use Rattle.std.proofs.Common.{◌≡◌, ℕ, Bool, true, Option, Some, None, Ok, refl, sym, ap, ◌∙◌}
use Rattle.std.specs.Prelude.{unwrap_or}
use Rattle.std.specs.Option.{option_map_or}
use Rattle.std.proofs.lemmas.Bool.{false≢true}
use Rattle.ccr_history.specs.Text.{Text}
use Rattle.ccr_history.specs.Scopes.{ScopeData}
use Rattle.ccr_history.specs.Tables.{scope_number}
use Rattle.ccr_history.specs.Changes.{disabled, enabled, edited}
use Rattle.ccr_history.specs.History.{HistoryData, has_place}
use Rattle.ccr_pipeline.specs.JobData.{ResourceData}
use Rattle.ccr_pipeline.specs.Pipelines.{PipelineData}
use Rattle.ccr_problem.specs.ProblemOf.{resource_of, scope_of}
use Rattle.ccr_core.specs.declared.fault.CoreFault.{CoreFault}
use Rattle.ccr_core.specs.declared.reply.Reply.TheVariants.{Disabled, Enabled}
use Rattle.ccr_core.specs.Events.{disable, enable}
use Rattle.ccr_core.specs.Faults.{PlaceMeets}
use Rattle.ccr_core.specs.Holding.{CoreData, Stands, TakesStep}
use Rattle.ccr_core.specs.Opening.{HasVersion}
use Rattle.ccr_core.specs.State.{State, no_pipeline, resources_of, scope_in, with_history}
use Rattle.ccr_core.proofs.Refusing.{none_met}

-- ---- a resource of the pipeline
module _ (c : CoreData) (name : Text) (place : ℕ) (p : PipelineData) (piped : c.pipeline ≡ Some p) (s : State) (st : Stands c s) where
  piped_there : s.pipeline ≡ Some p
  piped_there = sym st.1 ∙ piped

  some_pipeline : ¬ (s.pipeline ≡ None)
  some_pipeline none = let e : None ≡ Some p = sym none ∙ piped_there in absurd (cc e)

  found_there : (o : Option ResourceData) → resource_of name p.resources ≡ o → resource_of name (resources_of s) ≡ o
  found_there o found = ap (λ q. resource_of name (unwrap_or q no_pipeline).resources) piped_there ∙ found

  module _ (r : ResourceData) (found : resource_of name p.resources ≡ Some r) where
    some_resource : ¬ (resource_of name (resources_of s) ≡ None)
    some_resource none = let e : None ≡ Some r = sym none ∙ found_there (Some r) found in absurd (cc e)

    -- its scope has the number that it has in the core
    number_there : scope_in s name ≡ scope_number (scope_of r) c.history.tables
    number_there =
        ap (λ o. option_map_or (λ x. scope_number (scope_of x) s.history.tables) o 0) (found_there (Some r) found)
        ∙ ap (λ (h : HistoryData). scope_number (scope_of r) h.tables) (sym st.0)

    -- the table lacks the place in the state where it does in the core
    place_there : (b : Bool) → has_place c.history.tables (scope_number (scope_of r) c.history.tables) place ≡ b → has_place s.history.tables (scope_in s name) place ≡ b
    place_there b is =
        ap (λ n. has_place s.history.tables n place) number_there
        ∙ ap (λ (h : HistoryData). has_place h.tables (scope_number (scope_of r) c.history.tables) place) (sym st.0) ∙ is

    -- where the place is there, no fault is met
    none_lacks : has_place c.history.tables (scope_number (scope_of r) c.history.tables) place ≡ true → (f : CoreFault) → ¬ PlaceMeets s name place f
    none_lacks there =
        none_met (PlaceMeets s name place) (λ lacks. false≢true (sym lacks ∙ place_there true there))
        some_pipeline (λ h. h) some_resource (λ h. h) (λ h. h) (λ h. h) (λ h. h) (λ h. h) (λ h. h)

-- ---- the place is there
pub disabled_so : (c : CoreData) (name : Text) (place : ℕ) (scope : ScopeData) → HasVersion c name place scope → (h : HistoryData) → h ≡ edited (disabled (scope_number scope c.history.tables) place) c.history
    → TakesStep c (record { history = h; pipeline = c.pipeline; budget = c.budget; names = c.names; runs = c.runs }) (disable name place) (Ok Disabled)
disabled_so c name place scope (p, r, piped, found, is, there) h to = λ s st.
    let same : scope_number (scope_of r) c.history.tables ≡ scope_number scope c.history.tables = ap (λ (z : ScopeData). scope_number z c.history.tables) (sym is) in
    let here : has_place c.history.tables (scope_number (scope_of r) c.history.tables) place ≡ true = ap (λ n. has_place c.history.tables n place) same ∙ there in
    let numbered : scope_in s name ≡ scope_number scope c.history.tables = number_there c name place p piped s st r found ∙ same in (
      with_history s (edited (disabled (scope_in s name) place) s.history),
      ((λ f. none_lacks c name place p piped s st r found here f), refl),
      (to ∙ ap (λ n. edited (disabled n place) c.history) (sym numbered) ∙ ap (edited (disabled (scope_in s name) place)) st.0, st.1, st.2, st.3),
    )

pub enabled_so : (c : CoreData) (name : Text) (place : ℕ) (scope : ScopeData) → HasVersion c name place scope → (h : HistoryData) → h ≡ edited (enabled (scope_number scope c.history.tables) place) c.history
    → TakesStep c (record { history = h; pipeline = c.pipeline; budget = c.budget; names = c.names; runs = c.runs }) (enable name place) (Ok Enabled)
enabled_so c name place scope (p, r, piped, found, is, there) h to = λ s st.
    let same : scope_number (scope_of r) c.history.tables ≡ scope_number scope c.history.tables = ap (λ (z : ScopeData). scope_number z c.history.tables) (sym is) in
    let here : has_place c.history.tables (scope_number (scope_of r) c.history.tables) place ≡ true = ap (λ n. has_place c.history.tables n place) same ∙ there in
    let numbered : scope_in s name ≡ scope_number scope c.history.tables = number_there c name place p piped s st r found ∙ same in (
      with_history s (edited (enabled (scope_in s name) place) s.history),
      ((λ f. none_lacks c name place p piped s st r found here f), refl),
      (to ∙ ap (λ n. edited (enabled n place) c.history) (sym numbered) ∙ ap (edited (enabled (scope_in s name) place)) st.0, st.1, st.2, st.3),
    )
