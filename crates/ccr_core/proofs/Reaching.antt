-- What a core stands for is reached, step by step.
use Rattle.std.proofs.Common.{◌≡◌, ℕ, ◌≤◌, List, [], ◌∷◌, ◌++◌, length, Some, None, Ok, Err, refl, sym, ap, ◌∙◌, subst, arith}
use Rattle.std.specs.Prelude.{unwrap_or, Result, IfOk, OnErr}
use Rattle.std.specs.List.{AllByRecursion}
use Rattle.ccr_history.specs.Text.{Text}
use Rattle.ccr_history.specs.History.{IsHistory}
use Rattle.ccr_pipeline.specs.Pipelines.{PipelineData}
use Rattle.ccr_steps.specs.Runs.{RunData}
use Rattle.ccr_proof.specs.declared.proof.TheConstants.{MOST_NODES}
use Rattle.ccr_problem.specs.ProblemOf.{job_of}
use Rattle.ccr_core.specs.declared.fault.CoreFault.{CoreFault}
use Rattle.ccr_core.specs.declared.reply.Reply.{Reply}
use Rattle.ccr_core.specs.Events.{EventData}
use Rattle.ccr_core.specs.Holding.{CoreData, AreRuns, Stands, IsCore, TakesStep}
use Rattle.ccr_core.specs.Kept.{IsPipeline, IsEvent}
use Rattle.ccr_core.specs.Replies.{Replied}
use Rattle.ccr_core.specs.State.{RunningData, State, no_pipeline, pipeline_of}
use Rattle.ccr_core.specs.Steps.{Step, Run}
use Rattle.ccr_core.specs.EachBuild.{IsPlanned}
use Rattle.ccr_core.proofs.Owning.{each_has_its_own}
use Rattle.ccr_core.proofs.RunningLists.{all_weaker, all_append}
use Rattle.ccr_core.proofs.Sound.{IsSound, leaves_run, starts}

-- a run, and one step more
run_more : (s mid after : State) (es : List EventData) (rs : List Replied) (e : EventData) (r : Replied) → Run s es rs mid → Step mid e r after → Run s (es ++ e ∷ []) (rs ++ r ∷ []) after
run_more s mid after [] [] e r run step = (after, subst (λ y. Step y e r after) run step, refl)
run_more s mid after [] (q ∷ rs) e r run step = absurd run
run_more s mid after (d ∷ es) [] e r run step = absurd run
run_more s mid after (d ∷ es) (q ∷ rs) e r (first, one, rest) step = (first, one, run_more first mid after es rs e r rest step)

-- a step leads from what is reached to what is reached
pub core_on : (old new : CoreData) (e : EventData) (r : Replied) → new.budget ≡ old.budget → IsEvent e → TakesStep old new e r → IsCore old → IsCore new
core_on old new e r same up takes core =
    let (start, es, rs, s, is, ups, run, stands) = core.reached in
    let (after, step, then) = takes s stands in
    record {
      least = subst (λ n. 1 ≤ n) (sym same) core.least;
      most = subst (λ n. n ≤ MOST_NODES) (sym same) core.most;
      reached = (start, es ++ e ∷ [], rs ++ r ∷ [], after, is, all_append IsEvent es e ups up, run_more start s after es rs e r run step, then);
    }

-- ---- a state that a core stands for, and that is sound
pub record IsFirm (c : CoreData) : Type 0 where
  pub state : State
  pub stands : Stands c state
  pub sound : IsSound state

pub firm : (c : CoreData) → IsCore c → IsFirm c
firm c core =
    let (start, es, rs, s, is, ups, run, stands) = core.reached in
    record { state = s; stands = stands; sound = (leaves_run start es rs s ups (starts start is) run).sound }

-- ---- without a pipeline nothing runs
none_planned : (p : PipelineData) (bs : List RunningData) → p.jobs ≡ [] → AllByRecursion (IsPlanned p) bs → bs ≡ []
none_planned p [] is all = refl
none_planned p (b ∷ bs) is ((j, at, plan), all) = let none : None ≡ Some j = ap (job_of b.job) (sym is) ∙ at in absurd (cc none)

no_names : (ns : List (Text × ℕ)) (rs : List RunData) → AreRuns ns rs [] → (bs : List RunningData) → AreRuns ns rs bs → bs ≡ []
no_names [] [] none [] are = refl
no_names [] [] none (b ∷ bs) are = absurd are
no_names [] (r ∷ rs) none bs are = absurd none
no_names (n ∷ ns) [] none bs are = absurd none
no_names (n ∷ ns) (r ∷ rs) none bs are = absurd none

pub idle : (c : CoreData) → IsCore c → c.pipeline ≡ None → (s : State) → Stands c s → s.running ≡ []
idle c core none s stands =
    let (start, es, rs, t, is, ups, run, (h, p, n, each)) = core.reached in
    let bare : (pipeline_of t).jobs ≡ [] = ap (λ o. (unwrap_or o no_pipeline).jobs) (sym p ∙ none) in
    let all = all_weaker (λ b own. own.planned) t.running (each_has_its_own start t es rs is.none_runs run) in
    no_names c.names c.runs (subst (AreRuns c.names c.runs) (none_planned (pipeline_of t) t.running bare all) each) s.running stands.3

-- ---- as many names as machines
pub as_many : (ns : List (Text × ℕ)) (rs : List RunData) (bs : List RunningData) → AreRuns ns rs bs → (length bs ≡ length ns) × (length rs ≡ length ns)
as_many [] [] [] are = (refl, refl)
as_many (m ∷ ns) (q ∷ rs) (c ∷ bs) (e, s, w, rest) = let (p, q) = as_many ns rs bs rest in (omega (arith, p), omega (arith, q))
as_many [] [] (c ∷ bs) are = absurd are
as_many [] (q ∷ rs) bs are = absurd are
as_many (m ∷ ns) [] bs are = absurd are
as_many (m ∷ ns) (q ∷ rs) [] are = absurd are

pub paired : (c : CoreData) → IsCore c → length c.runs ≡ length c.names
paired c core = let t = firm c core in (as_many c.names c.runs t.state.running t.stands.3).1

-- ---- a core goes on
pub step_kept : {X : Type 0} → (old new : CoreData) (e : EventData) (r : Result (Reply × X) CoreFault) → IsCore old → new.budget ≡ old.budget → IfOk r (λ x. TakesStep old new e (Ok x.0)) → IsEvent e → OnErr r (new ≡ old) → IsCore new
step_kept old new e (Ok x) core same takes up unchanged = core_on old new e (Ok x.0) same up takes core
step_kept old new e (Err f) core same takes up unchanged = subst IsCore (sym unchanged) core

-- ---- a core begins
pub begun_core : (c : CoreData) → 1 ≤ c.budget → c.budget ≤ MOST_NODES → IsHistory c.history → IsPipeline (unwrap_or c.pipeline no_pipeline) → c.names ≡ [] → c.runs ≡ [] → IsCore c
begun_core c least most history piped names runs =
    let s : State = record { history = c.history; pipeline = c.pipeline; budget = c.budget; running = [] } in
    record {
      least = least;
      most = most;
      reached = (s, [], [], s, record { history = history; pipeline = piped; none_runs = refl }, tt, refl, (refl, refl, refl, subst (λ ns. AreRuns ns c.runs []) (sym names) (subst (λ rs. AreRuns [] rs []) (sym runs) tt)));
    }
