-- What a running build asks names a resource of the pipeline.
use Rattle.std.proofs.Common.{◌≡◌, ℕ, Bool, true, false, cond, ◌||◌, List, [], ◌∷◌, Some, bytes_eq, refl, sym, ap, ◌∙◌, subst}
use Rattle.std.specs.Prelude.{unwrap_or}
use Rattle.std.specs.List.{AllByRecursion}
use Rattle.std.proofs.lemmas.Option.{IfSome_then}
use Rattle.std.proofs.lemmas.Slice.Eq.{bytes_eq-Decides}
use Rattle.ccr_history.specs.Text.{Text}
use Rattle.ccr_pipeline.specs.JobData.{ResourceData}
use Rattle.ccr_pipeline.specs.Links.{used_resources, resource_names}
use Rattle.ccr_pipeline.specs.Names.{has_name}
use Rattle.ccr_steps.specs.Asks.{AskData, ask_resource, NamesResourceOf}
use Rattle.ccr_problem.specs.ProblemOf.{resource_of}
use Rattle.ccr_core.specs.Holding.{CoreData, Stands, IsCore, NamesResource}
use Rattle.ccr_core.specs.State.{RunningData, State, no_pipeline, pipeline_of, resources_of, running_at}
use Rattle.ccr_core.proofs.Placing.{IsKnown}
use Rattle.ccr_core.proofs.Reaching.{firm}
use Rattle.ccr_core.proofs.RunningLists.{all_at}
use Rattle.ccr_core.proofs.Sound.{IsSoundBuild}

-- what holds of each name holds of one that is among them
name_has : (P : Text → Type 0) (names : List Text) (name : Text) → AllByRecursion P names → has_name names name ≡ true → P name
name_has P [] name all e = absurd (cc e)
name_has P (n ∷ ns) name all e = by (bytes_eq name n) refl (name_has P ns name all.1) e
  where
    by : (t : Bool) → bytes_eq name n ≡ t → (has_name ns name ≡ true → P name) → (t || has_name ns name) ≡ true → P name
    by true is more e = subst P (sym ((bytes_eq-Decides name n).0 is)) all.0
    by false is more e = more e

-- a resource that is found by its name has one of the names
name_of_found : (rs : List ResourceData) (name : Text) (x : ResourceData) → resource_of name rs ≡ Some x → has_name (resource_names rs) name ≡ true
name_of_found [] name x e = absurd (cc e)
name_of_found (r ∷ rs) name x e = by (bytes_eq name r.name) (name_of_found rs name x) e
  where
    by : (t : Bool) → (resource_of name rs ≡ Some x → has_name (resource_names rs) name ≡ true) → cond t (Some r) (resource_of name rs) ≡ Some x → (t || has_name (resource_names rs) name) ≡ true
    by true more e = refl
    by false more e = more e

-- the build that is asked runs in the state that a core stands for, and its plan has what the ask names
abbrev pub AsksOf : CoreData → Text → ℕ → AskData → Type 0
AsksOf c job number a = (s : State) → Stands c s → (b : RunningData) × (running_at job number s.running ≡ Some b) × NamesResourceOf b.plan a

pub names_resource : (c : CoreData) (job : Text) (number : ℕ) (a : AskData) → IsCore c → AsksOf c job number a → (s : State) → Stands c s → NamesResource s a
names_resource c job number a core asks s stands =
    let t = firm c core in
    let p = pipeline_of t.state in
    let (b, at, named) = asks t.state t.stands in
    let sound = all_at (IsSoundBuild p t.state.history) job number t.state.running b t.sound.each at in
    let same : resources_of t.state ≡ resources_of s = ap (λ o. (unwrap_or o no_pipeline).resources) (sym t.stands.1 ∙ stands.1) in
    let has : (r : Text) → has_name (used_resources b.plan) r ≡ true → has_name (resource_names (resources_of s)) r ≡ true = λ r e.
    (let (x, there) = name_has (IsKnown p) (used_resources b.plan) r sound.known e in
    subst (λ l. has_name (resource_names l) r ≡ true) same (name_of_found p.resources r x there)) in
    IfSome_then (ask_resource a) named has
