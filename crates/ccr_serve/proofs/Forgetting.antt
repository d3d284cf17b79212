-- What asks to abort a build that has ended in the event that made it.
use Rattle.std.proofs.Common.{◌≡◌, ℕ, ◌+◌, List, Bool, true, false, Option, Some, None, IfSome, Result, Ok, Err, refl, sym, ap, subst, ◌∙◌, if◌then◌else◌}
use Rattle.ccr_history.specs.Text.{Text}
use Rattle.ccr_history.specs.Builds.{build_of, count_of}
use Rattle.ccr_history.specs.History.{HistoryData}
use Rattle.ccr_pipeline.specs.JobData.{JobData}
use Rattle.ccr_problem.specs.ProblemOf.{job_of}
use Rattle.ccr_task.specs.Calls.{CallData}
use Rattle.ccr_task.specs.Places.{PlacesData, abort_folder}
use Rattle.ccr_core.specs.declared.reply.Reply.{Reply}
use Rattle.ccr_core.specs.declared.reply.Reply.TheVariants.{Made}
use Rattle.ccr_core.specs.Events.{EventData, schedule, trigger}
use Rattle.ccr_core.specs.Holding.{CoreData, IsCore, TakesStep}
use Rattle.ccr_core.specs.Replies.{Replied}
use Rattle.ccr_core.specs.State.{State, jobs_of}
use Rattle.ccr_core.specs.Builds.{Makes}
use Rattle.ccr_core.specs.Choices.{best, Finds}
use Rattle.ccr_core.specs.Steps.{Step, Schedules, Triggers, has_news}
use Rattle.ccr_core.proofs.Owning.{job_same}
use Rattle.ccr_serve.specs.Aborts.{has_ended, ended_at_once, Forgets}
use Rattle.ccr_serve.proofs.Making.{core_reached}

-- ---- the number of a new build
-- one more than the count of its job's builds
scheduled_number : (s after : State) (job : Text) (number : ℕ) → Step s (schedule job) (Ok (Made number)) after
    → number ≡ count_of job s.history.builds + 1
scheduled_number s after job number step =
    let d : (j : JobData) × (job_of job (jobs_of s) ≡ Some j) × Schedules s j (Made number) after = step.1 in
    let so : Schedules s d.0 (Made number) after = d.2 in
    let chosen : (places : List ℕ) × Finds s d.0.name (best places) × (has_news s d.0 places ≡ true)
    × Makes s d.0 places number after = so.1 in
    let made : Makes s d.0 chosen.0 number after = chosen.3 in
    made.0 ∙ ap (λ t. count_of t s.history.builds + 1) (sym (job_same job (jobs_of s) d.0 d.1))

triggered_number : (s after : State) (job : Text) (number : ℕ) → Step s (trigger job) (Ok (Made number)) after
    → number ≡ count_of job s.history.builds + 1
triggered_number s after job number step =
    let d : (j : JobData) × (job_of job (jobs_of s) ≡ Some j) × Triggers s j (Made number) after = step.1 in
    let so : Triggers s d.0 (Made number) after = d.2 in
    let chosen : (places : List ℕ) × Finds s d.0.name (best places) × Makes s d.0 places number after = so.1 in
    let made : Makes s d.0 chosen.0 number after = chosen.2 in
    made.0 ∙ ap (λ t. count_of t s.history.builds + 1) (sym (job_same job (jobs_of s) d.0 d.1))

-- ---- its path
-- a path that was made for this number is that of the build that has ended at once
path_of : (places : PlacesData) (job path : Text) (n k : ℕ) (ended : Bool) → path ≡ abort_folder places job k → n ≡ k
    → IfSome (if ended then Some n else None) (λ m. path ≡ abort_folder places job m)
path_of places job path n k true is same = is ∙ ap (λ m. abort_folder places job m) (sym same)
path_of places job path n k false is same = tt

path_by : (places : PlacesData) (job path : Text) (r : Replied) (h : HistoryData) (k : ℕ) → path ≡ abort_folder places job k
    → ((n : ℕ) → r ≡ Ok (Made n) → n ≡ k) → IfSome (ended_at_once job r h) (λ n. path ≡ abort_folder places job n)
path_by places job path (Ok (Made n)) h k is number =
    path_of places job path n k (has_ended (build_of job n h.builds)) is (number n refl)
path_by places job path (Ok r) h k is number = tt
path_by places job path (Err f) h k is number = tt

-- the core knows the number of the build that it makes
pub scheduled_path : (places : PlacesData) (job path : Text) (r : Replied) (c after : CoreData) → IsCore c
    → path ≡ abort_folder places job (count_of job c.history.builds + 1) → TakesStep c after (schedule job) r
    → IfSome (ended_at_once job r after.history) (λ n. path ≡ abort_folder places job n)
scheduled_path places job path r c after core is takes =
    let (s, reached, stands) = core_reached c core in
    let t = takes s stands in
    path_by places job path r after.history (count_of job c.history.builds + 1) is (λ n e.
    scheduled_number s t.0 job n (subst (λ q. Step s (schedule job) q t.0) e t.1)
    ∙ ap (λ h. count_of job h.builds + 1) (sym stands.0))

pub triggered_path : (places : PlacesData) (job path : Text) (r : Replied) (c after : CoreData) → IsCore c
    → path ≡ abort_folder places job (count_of job c.history.builds + 1) → TakesStep c after (trigger job) r
    → IfSome (ended_at_once job r after.history) (λ n. path ≡ abort_folder places job n)
triggered_path places job path r c after core is takes =
    let (s, reached, stands) = core_reached c core in
    let t = takes s stands in
    path_by places job path r after.history (count_of job c.history.builds + 1) is (λ n e.
    triggered_number s t.0 job n (subst (λ q. Step s (trigger job) q t.0) e t.1)
    ∙ ap (λ h. count_of job h.builds + 1) (sym stands.0))

-- ---- the calls of the shelf
-- what was done for the build that has ended at once, with what is known of its path
pub forgets_by : (places : PlacesData) (job path : Text) (r : Replied) (h now : HistoryData) (ended : Option ℕ)
    (before mid after : List CallData) → IfSome (ended_at_once job r now) (λ n. path ≡ abort_folder places job n)
    → ended ≡ ended_at_once job r h → h ≡ now → mid ≡ before
    → (IfSome ended (λ n. path ≡ abort_folder places job n) → Forgets places job ended mid after)
    → Forgets places job (ended_at_once job r now) before after
forgets_by places job path r h now ended before mid after known is same began forget =
    let so : ended ≡ ended_at_once job r now = is ∙ ap (λ x. ended_at_once job r x) same in
    subst (λ k. Forgets places job (ended_at_once job r now) k after) began
    (subst (λ o. Forgets places job o mid after) so
    (forget (subst (λ o. IfSome o (λ n. path ≡ abort_folder places job n)) (sym so) known)))
