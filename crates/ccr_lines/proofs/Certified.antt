-- What is shown of a build for the checker, as its job is found.
use Rattle.std.proofs.Common.{◌≡◌, ◌+◌, List, [], ℕ, map, take, drop, slice_get, Bool, true, false, MatchBool, MatchOption, Result, IfOk, Option, Some, unwrap_or, is_some, IsSome, Vec, String, Global, string_bytes, refl, sym, ◌∙◌, ap, subst}
use Rattle.std.specs.List.{list_all}
use Rattle.std.specs.Option.{option_map_or}
use Rattle.std.specs.declared.alloc.AllocError.{AllocError}
use Rattle.std.proofs.lemmas.Result.{IfOk-weaker}
use Rattle.ccr_history.specs.Text.{Text}
use Rattle.ccr_history.specs.Builds.{UsedData, BuildData, build_of}
use Rattle.ccr_history.specs.History.{HistoryData}
use Rattle.ccr_pipeline.specs.Inputs.{InputData, inputs}
use Rattle.ccr_pipeline.specs.JobData.{JobData}
use Rattle.ccr_pipeline.specs.Pipelines.{PipelineData}
use Rattle.ccr_problem.specs.ProblemOf.{job_of}
use Rattle.ccr_core.specs.Holding.{CoreData}
use Rattle.ccr_core.specs.State.{no_pipeline}
use Rattle.ccr_lines.specs.BuildCertificates.{place_for, has_input, took_these, is_plan_kept, plan_changed, IsRefused, IsTakenShown}
use Rattle.ccr_lines.specs.Releases.{inputs_in_plan}
use Rattle.ccr_core.specs.Commands.{build_certificate}
use Rattle.ccr_lines.specs.Shown.{IsMade}
use Rattle.ccr_lines.proofs.Cores.{made_before}
use Rattle.ccr_lines.proofs.Taking.{all_there, took_all}

-- a status and lines
abbrev Made : Type 0
Made = ℕ × String Global

-- they say that the plan has changed
abbrev pub IsChanged : Made → Type 0
IsChanged x = IsRefused plan_changed x.0 (string_bytes x.1)

-- they are what is said of a build's inputs, where they are these today
abbrev pub IsJudgedBy : PipelineData → HistoryData → List BuildData → List InputData → List UsedData → Made → Type 0
IsJudgedBy p h before is used x =
    MatchBool (took_these p h is used) (IsTakenShown p h before is used x.0 (string_bytes x.1)) (IsChanged x)

-- they are what is said of a build of the job of this name
abbrev pub IsFoundBy : PipelineData → HistoryData → Text → List BuildData → List UsedData → Made → Type 0
IsFoundBy p h job before used x =
    MatchBool (is_plan_kept p h job used) (IsTakenShown p h before (inputs_in_plan p job) used x.0 (string_bytes x.1)) (IsChanged x)

module _ (h : HistoryData) (job : Text) (before : List BuildData) (used : List UsedData) (o : Option PipelineData)
    (r : Result Made AllocError) where
  -- what is said where the job was looked for
  abbrev Looked : PipelineData → Made → Option JobData → Type 0
  Looked p x found =
      MatchBool (option_map_or (λ j. took_these p h (inputs j.plan) used) found false)
      (IsTakenShown p h before (option_map_or (λ j. inputs j.plan) found []) used x.0 (string_bytes x.1)) (IsChanged x)

  -- the pipeline has such a job
  pub with_job : (p : PipelineData) (j : JobData) → o ≡ Some p → job_of job p.jobs ≡ Some j
      → IfOk r (IsJudgedBy p h before (inputs j.plan) used) → IfOk r (IsFoundBy (unwrap_or o no_pipeline) h job before used)
  with_job p j set found judged =
      IfOk-weaker r (IsJudgedBy p h before (inputs j.plan) used) (IsFoundBy (unwrap_or o no_pipeline) h job before used)
      (λ x q. subst (λ y. IsFoundBy (unwrap_or y no_pipeline) h job before used x) (sym set) (subst (Looked p x) (sym found) q)) judged

-- where a place was found for each input and for no other, what is said is what is shown
pub judged_so : (p : PipelineData) (h : HistoryData) (before : List BuildData) (is found others shown : List InputData)
    (used : List UsedData) (o : Option (Vec ℕ Global)) (places : Vec ℕ Global) (all : Bool) (r : Result Made AllocError)
    → found ≡ is → others ≡ is → shown ≡ is → o ≡ Some places
    → MatchOption o (list_all (λ i. is_some (place_for p h used i)) found ≡ false)
    (λ ns. map Some ns.items ≡ map (place_for p h used) found)
    → all ≡ list_all (λ u. has_input others u.input) used → all ≡ true
    → IfOk r (λ x. IsTakenShown p h before shown used x.0 (string_bytes x.1)) → IfOk r (IsJudgedBy p h before is used)
judged_so p h before is found others shown used o places all r a b c some taken tested holds said =
    let there : map Some places.items ≡ map (place_for p h used) is =
    subst (λ y. MatchOption y (list_all (λ i. is_some (place_for p h used i)) found ≡ false)
    (λ ns. map Some ns.items ≡ map (place_for p h used) found)) some taken ∙ ap (map (place_for p h used)) a in
    let first = all_there (place_for p h used) is places.items there in
    let second : list_all (λ u. has_input is u.input) used ≡ true =
    ap (λ xs. list_all (λ u. has_input xs u.input) used) (sym b) ∙ (sym tested ∙ holds) in
    IfOk-weaker r (λ x. IsTakenShown p h before shown used x.0 (string_bytes x.1)) (IsJudgedBy p h before is used)
    (λ x s. took_all _ _ (IsTakenShown p h before is used x.0 (string_bytes x.1)) (IsChanged x) first second
    (subst (λ xs. IsTakenShown p h before xs used x.0 (string_bytes x.1)) c s)) said

-- what is said of a build of a core is made of the core
pub certified_made : (c : CoreData) (job : Text) (number k : ℕ) (b : BuildData) (h : HistoryData) (o : Option PipelineData)
    (x : Made) → slice_get c.history.builds k ≡ Some b → build_of job number c.history.builds ≡ Some b → h ≡ c.history → o ≡ c.pipeline
    → IsFoundBy (unwrap_or o no_pipeline) h job (take k h.builds) b.used x
    → IsMade (build_certificate job number) c x.0 (string_bytes x.1)
certified_made c job number k b h o x at there held set said = (
  subst (λ y. IsSome y) (sym there) refl,
  (
    b,
    take k c.history.builds,
    there,
    (drop (k + 1) c.history.builds, made_before c.history.builds k b at),
    subst (λ y. IsFoundBy (unwrap_or y no_pipeline) c.history job (take k c.history.builds) b.used x) set
        (subst (λ y. IsFoundBy (unwrap_or o no_pipeline) y job (take k y.builds) b.used x) held said),
  ),
)
