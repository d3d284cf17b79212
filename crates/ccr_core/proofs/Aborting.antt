-- Aborts of builds.
use Rattle.std.proofs.Common.{◌≡◌, inl, inr, ℕ, Some, None, Ok, Err, refl, sym, ◌∙◌, subst}
use Rattle.ccr_history.specs.Text.{Text}
use Rattle.ccr_steps.specs.Asks.{AskData, fetch, push, read_config, run_task, aborted}
use Rattle.ccr_steps.specs.Runs.{HasTurn}
use Rattle.ccr_core.specs.declared.fault.CoreFault.{CoreFault}
use Rattle.ccr_core.specs.declared.fault.CoreFault.TheVariants.{NoPipeline, NoJob, NoResource, NoBuild, BuildsOpen, NotWanted, TooManyOpen, TableFull, NoMemory, NoVersion}
use Rattle.ccr_core.specs.declared.reply.Reply.{Reply}
use Rattle.ccr_core.specs.declared.reply.Reply.TheVariants.{Goes, Ends}
use Rattle.ccr_core.specs.Aborting.{AbortIsAnswer, AbortMeetsNoBuild}
use Rattle.ccr_core.specs.Addressed.{answer_to}
use Rattle.ccr_core.specs.Events.{answer, abort}
use Rattle.ccr_core.specs.Faults.{Meets, MayRefuse, PushOverfills}
use Rattle.ccr_core.specs.Replies.{Replied}
use Rattle.ccr_core.specs.Seen.{pushed_by}
use Rattle.ccr_core.specs.State.{RunningData, State, running_at}
use Rattle.ccr_core.specs.Steps.{Answers, Step}
use Rattle.ccr_core.specs.Wanting.{AbortIsTaken}
use Rattle.ccr_core.proofs.Reaching.{firm}
use Rattle.ccr_core.proofs.Wanting.{asked_there}

-- ---- the one fault
pushes_nothing : (a : AskData) → pushed_by a aborted ≡ None
pushes_nothing (fetch artifact resource version params) = refl
pushes_nothing (push artifact resource params) = refl
pushes_nothing (read_config file) = refl
pushes_nothing (run_task config env) = refl

fills_nothing : (s : State) (job : Text) (number : ℕ) → ¬ PushOverfills s job number aborted
fills_nothing s job number (b, a, resource, v, at, next, pushed, over) =
    let none : None ≡ Some (resource, v) = sym (pushes_nothing a) ∙ pushed in absurd (cc none)

module _ (s : State) (job : Text) (number : ℕ) where
  met : (f : CoreFault) → Meets s (abort job number) f → (f ≡ NoBuild) × (running_at job number s.running ≡ None)
  met NoPipeline m = absurd m
  met NoJob m = absurd m
  met NoResource m = absurd m
  met NoBuild m = (refl, m)
  met BuildsOpen m = absurd m
  met NotWanted m = absurd m
  met TooManyOpen m = absurd m
  met TableFull m = absurd (fills_nothing s job number m)
  met NoMemory m = absurd m
  met NoVersion m = absurd m

  meets : (f : CoreFault) → (f ≡ NoBuild) × (running_at job number s.running ≡ None) → Meets s (abort job number) f
  meets f (is, none) = subst (Meets s (abort job number)) (sym is) none

  -- ---- as an answer
  module _ (turn : ℕ) (b : RunningData) (at : running_at job number s.running ≡ Some b) (own : HasTurn b.exchanges turn) where
    to : (f : CoreFault) → Meets s (abort job number) f → Meets s (answer job number turn aborted) f
    to NoPipeline m = m
    to NoJob m = m
    to NoResource m = m
    to NoBuild m = m
    to BuildsOpen m = m
    to NotWanted m = absurd m
    to TooManyOpen m = m
    to TableFull m = m
    to NoMemory m = m
    to NoVersion m = m

    from : (f : CoreFault) → Meets s (answer job number turn aborted) f → Meets s (abort job number) f
    from NoPipeline m = m
    from NoJob m = m
    from NoResource m = m
    from NoBuild m = m
    from BuildsOpen m = m
    from NotWanted (c, there, other) =
        let one : Some b ≡ Some c = sym at ∙ there in
        let same : b ≡ c = cc one in
        absurd (other (subst (λ y. HasTurn y.exchanges turn) same own))
    from TooManyOpen m = m
    from TableFull m = m
    from NoMemory m = m
    from NoVersion m = m

    answers_to : (r : Reply) (after : State) → Answers s (answer_to job number None aborted) r after → Answers s (answer_to job number (Some turn) aborted) r after
    answers_to Goes after does = does
    answers_to (Ends o) after does = does
    answers_to r after does = absurd does

    answers_from : (r : Reply) (after : State) → Answers s (answer_to job number (Some turn) aborted) r after → Answers s (answer_to job number None aborted) r after
    answers_from Goes after does = does
    answers_from (Ends o) after does = does
    answers_from r after does = absurd does

    step_to : (r : Replied) (after : State) → Step s (abort job number) r after → Step s (answer job number turn aborted) r after
    step_to (Ok r) after (free, does) = (λ f m. free f (from f m), answers_to r after does)
    step_to (Err f) after (inl is, same) = (inl is, same)
    step_to (Err f) after (inr (m, first), same) = (inr (to f m, λ g lt n. first g lt (from g n)), same)

    step_from : (r : Replied) (after : State) → Step s (answer job number turn aborted) r after → Step s (abort job number) r after
    step_from (Ok r) after (free, does) = (λ f m. free f (to f m), answers_from r after does)
    step_from (Err f) after (inl is, same) = (inl is, same)
    step_from (Err f) after (inr (m, first), same) = (inr (from f m, λ g lt n. first g lt (to g n)), same)

pub abort_is_answer : AbortIsAnswer
abort_is_answer s after job number turn b r at own =
    (step_to s job number turn b at own r after, step_from s job number turn b at own r after)

pub abort_meets_no_build : AbortMeetsNoBuild
abort_meets_no_build s job number f = (met s job number f, meets s job number f)

-- ---- of a core
pub abort_is_taken : AbortIsTaken
abort_is_taken c job number turn ask f core wants takes =
    let t = firm c core in
    let (b, at, own) = asked_there (running_at job number t.state.running) turn ask (wants t.state t.stands) in
    let (after, (may, is), stands) = takes t.state t.stands in
    by b at may
  where
    by : (b : RunningData) → running_at job number (firm c core).state.running ≡ Some b → MayRefuse (firm c core).state (abort job number) f → f ≡ NoMemory
    by b at (inl is) = is
    by b at (inr (m, first)) =
        let no : Some b ≡ None = sym at ∙ (met (firm c core).state job number f m).1 in absurd (cc no)
