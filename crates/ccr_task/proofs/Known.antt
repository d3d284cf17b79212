-- An ask of a plan of the pipeline's names a resource that is there.
use Rattle.std.proofs.Common.{◌≡◌, List, [], ◌∷◌, Bool, true, false, ◌||◌, is_some, Option, Some, refl, ap, ◌∙◌, cond}
use Rattle.std.proofs.lemmas.List.Elements.{All-contains, All-head, All-tail}
use Rattle.std.proofs.lemmas.Slice.Eq.{bytes_eq-Decides}
use Rattle.std.specs.List.{AllPass, Contains}
use Rattle.std.specs.Str.{bytes_eq}
use Rattle.ccr_pipeline.specs.JobData.{ResourceData, JobData}
use Rattle.ccr_pipeline.specs.Links.{used_resources, resource_names, job_names, IsLinked, AreLinked}
use Rattle.ccr_pipeline.specs.Named.{resource_of}
use Rattle.ccr_pipeline.specs.Names.{has_name}
use Rattle.ccr_pipeline.specs.Tree.{Text}
use Rattle.ccr_steps.specs.Asks.{AskData, fetch, push, read_config, run_task, NamesResourceOf}
use Rattle.ccr_task.specs.Launching.{can_launch, starts_program}

-- what is among names that are known is known
among_case : (known : List Text) (n name : Text) (b others : Bool) → bytes_eq name n ≡ b → has_name known n ≡ true → (others ≡ true → has_name known name ≡ true) → (b || others) ≡ true → has_name known name ≡ true
among_case known n name true others is one more e = ap (has_name known) ((bytes_eq-Decides name n).0 is) ∙ one
among_case known n name false others is one more e = more e

among : (known names : List Text) (name : Text) → AllPass (has_name known) names → has_name names name ≡ true → has_name known name ≡ true
among known [] name all e = absurd (cc (e))
among known (n ∷ ns) name all e =
    among_case known n name (bytes_eq name n) (has_name ns name) refl (All-head (λ s. has_name known s ≡ true) n ns all)
    (among known ns name (All-tail (λ s. has_name known s ≡ true) n ns all)) e

-- a resource of a known name is found
pub is_found : (name : Text) (rs : List ResourceData) → has_name (resource_names rs) name ≡ true → is_some (resource_of name rs) ≡ true
is_found name [] e = absurd (cc (e))
is_found name (r ∷ rs) e = found (bytes_eq name r.name) (has_name (resource_names rs) name) (resource_of name rs) (is_found name rs) e where
  found : (b others : Bool) (rest : Option ResourceData) → (others ≡ true → is_some rest ≡ true) → (b || others) ≡ true
      → is_some (cond b (Some r) rest) ≡ true
  found true others rest more e = refl
  found false others rest more e = more e

module _ (rs : List ResourceData) (js : List JobData) (job : JobData) (linked : AreLinked rs js) (there : Contains js job) where
  resource_there : (name : Text) → has_name (used_resources job.plan) name ≡ true → is_some (resource_of name rs) ≡ true
  resource_there name is =
      let plan = All-contains (λ j. IsLinked (resource_names rs) (job_names js) j.plan) js job linked there in
      is_found name rs (among (resource_names rs) (used_resources job.plan) name plan.0 is)

  pub launches : (a : AskData) → NamesResourceOf job.plan a → can_launch rs a ≡ starts_program a
  launches (fetch artifact resource version params) own = resource_there resource own
  launches (push artifact resource params) own = resource_there resource own
  launches (read_config file) own = refl
  launches (run_task config env) own = refl
