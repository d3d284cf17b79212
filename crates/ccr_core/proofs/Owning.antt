-- What is kept of the builds that run, over runs.
use Rattle.std.proofs.Common.{◌≡◌, ◌≢◌, ℕ, ◌<◌, ◌≤◌, ◌==◌, Bool, true, false, cond, ◌&&◌, List, [], ◌∷◌, ◌++◌, Option, Some, None, Ok, Err, map, bytes_eq, refl, sym, ap, ◌∙◌, subst, arith, append-nil, append_assoc}
use Rattle.std.specs.List.{AllByRecursion}
use Rattle.std.proofs.lemmas.Slice.Eq.{bytes_eq-Decides}
use Rattle.ccr_history.specs.Text.{Text}
use Rattle.ccr_history.specs.Builds.{BuildData, count_of}
use Rattle.ccr_history.specs.Changes.{build, ended, pin_set, pin_cleared, disabled, enabled, edited, changed}
use Rattle.ccr_history.specs.History.{HistoryData}
use Rattle.ccr_pipeline.specs.Inputs.{inputs}
use Rattle.ccr_pipeline.specs.JobData.{JobData}
use Rattle.ccr_pipeline.specs.Pipelines.{PipelineData}
use Rattle.ccr_steps.specs.Asks.{AskData, AnswerData, Exchange, exchange}
use Rattle.ccr_steps.specs.Gains.{no_gains}
use Rattle.ccr_steps.specs.Means.{Means}
use Rattle.ccr_steps.specs.Progress.{IsAllowed, Begins, BeginningsDecide, answers}
use Rattle.ccr_steps.specs.declared.outcome.Outcome.{Outcome}
use Rattle.ccr_core.specs.declared.fault.CoreFault.{CoreFault}
use Rattle.ccr_core.specs.declared.fault.CoreFault.TheVariants.{BuildsOpen}
use Rattle.ccr_core.specs.declared.reply.Reply.{Reply}
use Rattle.ccr_core.specs.declared.reply.Reply.TheVariants.{Set, New, Made, NotNew, Goes, Ends, Pinned, Unpinned, Disabled, Enabled, Restarted}
use Rattle.ccr_problem.specs.ProblemOf.{job_of}
use Rattle.ccr_core.specs.Builds.{status_of, Settles, begun, history_with, with_made, Makes, with_answer, with_answered, GoesOnWith, cut}
use Rattle.ccr_core.specs.Choices.{used_at}
use Rattle.ccr_core.specs.Addressed.{AnswerTo, addressed}
use Rattle.ccr_core.specs.Events.{EventData, set_pipeline, checked, schedule, trigger, pin, unpin, disable, enable, restart}
use Rattle.ccr_core.specs.Faults.{MeetsBy, IsFree}
use Rattle.ccr_core.specs.Own.{said_to, own, own_of}
use Rattle.ccr_core.specs.Seen.{pairs_of, report, report_by}
use Rattle.ccr_core.specs.Replies.{Replied}
use Rattle.ccr_core.specs.State.{RunningData, State, pipeline_of, moved_on, with_history, is_run_of, running_at, replaced, without, scope_in}
use Rattle.ccr_core.specs.Steps.{with_pipeline, Schedules, Triggers, Answers, DoesBy, Step, Run}
use Rattle.ccr_core.specs.EachBuild.{HasItsOwn, EachHasItsOwn, RunsAgree, NoneRunsOn}
use Rattle.ccr_core.proofs.Counting.{count_new, count_edited, count_changed, fresh}
use Rattle.ccr_core.proofs.RunningLists.{all_weaker, all_append, id_same, id_refl, id_flip, at_id, IsApart, apart_with, apart_less, apart_more, all_with, all_less, all_at}

-- the answers that were each build's own so far
abbrev pub Past : Type 0
Past = Text → ℕ → List AnswerData

-- a build that runs has had these of its own, and its number is one that was given
pub record IsOwned (past : Past) (p : PipelineData) (builds : List BuildData) (b : RunningData) : Type 0 where
  pub has : HasItsOwn p (past b.job b.number) b
  pub known : b.number ≤ count_of b.job builds

-- no two builds that run have one number, and numbers that are still to come have had no answers
pub record IsKept (past : Past) (s : State) : Type 0 where
  pub owned : AllByRecursion (IsOwned past (pipeline_of s) s.history.builds) s.running
  pub future : (j : Text) (n : ℕ) → count_of j s.history.builds < n → past j n ≡ []
  pub apart : IsApart s.running

-- the same, with other answers and more builds
owned_on : (past later : Past) (p : PipelineData) (old new : List BuildData) (b : RunningData) → past b.job b.number ≡ later b.job b.number → count_of b.job old ≤ count_of b.job new → IsOwned past p old b → IsOwned later p new b
owned_on past later p old new b same le h = record {
  has = record { answered = h.has.answered ∙ same; planned = h.has.planned; begins = h.has.begins; waits = h.has.waits };
  known = let was = h.known in omega (arith, le, was);
}

kept_past : (past later : Past) (s : State) → ((j : Text) (n : ℕ) → past j n ≡ later j n) → IsKept past s → IsKept later s
kept_past past later s same k = record {
  owned = all_weaker (λ b h. owned_on past later (pipeline_of s) s.history.builds s.history.builds b (same b.job b.number) (omega arith) h) s.running k.owned;
  future = λ j n lt. sym (same j n) ∙ k.future j n lt;
  apart = k.apart;
}

kept_on : (past : Past) (s : State) (h : HistoryData) → ((j : Text) → count_of j s.history.builds ≤ count_of j h.builds) → IsKept past s → IsKept past (with_history s h)
kept_on past s h more k = record {
  owned = all_weaker (λ b o. owned_on past past (pipeline_of s) s.history.builds h.builds b refl (more b.job) o) s.running k.owned;
  future = λ j n lt. k.future j n (let le = more j in omega (arith, le, lt));
  apart = k.apart;
}

with_nothing : (past : Past) (s : State) → IsKept past s → IsKept (λ j n. past j n ++ []) s
with_nothing past s k = kept_past past (λ j n. past j n ++ []) s (λ j n. sym (append-nil (past j n))) k

-- ---- names
-- the job that is found has the name
pub job_same : (name : Text) (js : List JobData) (j : JobData) → job_of name js ≡ Some j → name ≡ j.name
job_same name [] j e = absurd (cc (e))
job_same name (k ∷ js) j e = by (bytes_eq name k.name) refl (job_same name js j) e
  where
    by : (t : Bool) → bytes_eq name k.name ≡ t → (job_of name js ≡ Some j → name ≡ j.name) → cond t (Some k) (job_of name js) ≡ Some j → name ≡ j.name
    by true is more e = let same : k ≡ j = cc e in (bytes_eq-Decides name k.name).0 is ∙ ap (λ y. y.name) same
    by false is more e = more e

-- it is found under its own name
pub job_at : (name : Text) (js : List JobData) (j : JobData) → job_of name js ≡ Some j → job_of j.name js ≡ Some j
job_at name js j e = ap (λ y. job_of y js) (sym (job_same name js j e)) ∙ e

-- ---- a build is made
module _ (past : Past) (s : State) (j : JobData) (places : List ℕ) (k : IsKept past s) (at : job_of j.name (pipeline_of s).jobs ≡ Some j) where
  settled_made : (o : Option Outcome) (h : HistoryData) → Settles (pipeline_of s) (history_with (pipeline_of s) s.history j places) (begun (pipeline_of s) s.history j places) o h → IsKept past (moved_on s h (with_made (begun (pipeline_of s) s.history j places) o s.running))
  settled_made None h (begins, waits, is) =
      let p = pipeline_of s in
      let b = begun p s.history j places in
      let now = history_with p s.history j places in
      let used = used_at p s.history (inputs j.plan) places in
      let more = kept_on past s now (λ i. count_edited i (build j.name used) s.history) k in
      let next : count_of j.name s.history.builds < b.number = omega arith in
      subst (λ g. IsKept past (moved_on s g (s.running ++ b ∷ []))) (sym is) (record {
        owned = all_append (IsOwned past p now.builds) s.running b more.owned (record {
          has = record { answered = sym (k.future b.job b.number next); planned = (j, at, refl); begins = begins; waits = waits };
          known = let e = count_new j.name used s.history.builds in omega (arith, e);
        });
        future = more.future;
        apart = apart_more s.running b k.apart (fresh s.history.builds b.job b.number next s.running (all_weaker (λ y o. o.known) s.running k.owned));
      })
  settled_made (Some o) h (g, means, is) =
      let p = pipeline_of s in
      let b = begun p s.history j places in
      let now = history_with p s.history j places in
      let used = used_at p s.history (inputs j.plan) places in
      let end = ended b.job b.number (status_of o) (pairs_of p now g.moved) in
      subst (λ y. IsKept past (moved_on s y s.running)) (sym is)
      (kept_on past s (edited end now) (λ i. let first = count_edited i (build j.name used) s.history in let then = count_edited i end now in omega (arith, first, then)) k)

made_kept : (past : Past) (s : State) (name : Text) (j : JobData) (places : List ℕ) (m : ℕ) (after : State) → IsKept past s → job_of name (pipeline_of s).jobs ≡ Some j → Makes s j places m after → IsKept past after
made_kept past s name j places m after k at (number, (o, h, settles, is)) =
    subst (IsKept past) (sym is) (settled_made past s j places k (job_at name (pipeline_of s).jobs j at) o h settles)

-- ---- a build is answered
-- with one answer more to the build of a number
abbrev with_own : Past → Text → ℕ → AnswerData → Past
with_own past j n x i m = past i m ++ cond (bytes_eq i j && m == n) (x ∷ []) []

own_yes : (past : Past) (j : Text) (n : ℕ) (x : AnswerData) → with_own past j n x j n ≡ past j n ++ x ∷ []
own_yes past j n x = ap (λ t. past j n ++ cond t (x ∷ []) []) (id_refl j n)

own_no : (past : Past) (j : Text) (n : ℕ) (x : AnswerData) (i : Text) (m : ℕ) → (bytes_eq i j && m == n) ≡ false → past i m ≡ with_own past j n x i m
own_no past j n x i m e = sym (ap (λ t. past i m ++ cond t (x ∷ []) []) e ∙ append-nil (past i m))

pub answers_more : (es : List Exchange) (e : Exchange) → answers (es ++ e ∷ []) ≡ answers es ++ e.answer ∷ []
answers_more [] e = refl
answers_more (x ∷ es) e = ap (λ l. x.answer ∷ l) (answers_more es e)

module _ (past : Past) (s : State) (b : RunningData) (a : AskData) (x : AnswerData) (k : IsKept past s) (at : running_at b.job b.number s.running ≡ Some b) where
  own_b : IsOwned past (pipeline_of s) s.history.builds b
  own_b = all_at (IsOwned past (pipeline_of s) s.history.builds) b.job b.number s.running b k.owned at

  no_future : (i : Text) (m : ℕ) → count_of i s.history.builds < m → with_own past b.job b.number x i m ≡ []
  no_future i m lt = by (bytes_eq i b.job && m == b.number) refl
    where
      by : (t : Bool) → (bytes_eq i b.job && m == b.number) ≡ t → with_own past b.job b.number x i m ≡ []
      by false e = sym (own_no past b.job b.number x i m e) ∙ k.future i m lt
      by true e =
          let (p, q) = id_same i b.job m b.number e in
          let le : m ≤ count_of i s.history.builds = subst (λ y. y ≤ count_of i s.history.builds) (sym q) (subst (λ y. b.number ≤ count_of y s.history.builds) (sym p) own_b.known) in
          absurd (omega (arith, le, lt))

  others : (builds : List BuildData) → ((i : Text) → count_of i s.history.builds ≤ count_of i builds) → (y : RunningData) → is_run_of b.job b.number y ≡ false → IsOwned past (pipeline_of s) s.history.builds y → IsOwned (with_own past b.job b.number x) (pipeline_of s) builds y
  others builds more y apart o =
      owned_on past (with_own past b.job b.number x) (pipeline_of s) s.history.builds builds y (own_no past b.job b.number x y.job y.number (id_flip b.job y.job b.number y.number apart)) (more y.job) o

  own_now : answers (b.exchanges ++ exchange a x ∷ []) ≡ with_own past b.job b.number x b.job b.number
  own_now = answers_more b.exchanges (exchange a x) ∙ ap (λ l. l ++ x ∷ []) own_b.has.answered ∙ sym (own_yes past b.job b.number x)

  settled_taken : (o : Option Outcome) (h : HistoryData) → Settles (pipeline_of s) (changed (report_by (pipeline_of s) a x) s.history) (with_answer b a x) o h → IsKept (with_own past b.job b.number x) (moved_on s h (with_answered (with_answer b a x) o s.running))
  settled_taken None h (begins, waits, is) =
      let new = with_answer b a x in
      let edits = report_by (pipeline_of s) a x in
      let now = changed edits s.history in
      subst (λ g. IsKept (with_own past b.job b.number x) (moved_on s g (replaced new s.running))) (sym is) (record {
        owned = all_with new (others now.builds (λ i. count_changed i edits s.history)) (record {
          has = record { answered = own_now; planned = own_b.has.planned; begins = begins; waits = waits };
          known = let le = count_changed b.job edits s.history in let was = own_b.known in omega (arith, le, was);
        }) s.running k.apart k.owned;
        future = λ i m lt. no_future i m (let le = count_changed i edits s.history in omega (arith, le, lt));
        apart = apart_with new s.running k.apart;
      })
  settled_taken (Some o) h (g, means, is) =
      let edits = report_by (pipeline_of s) a x in
      let now = changed edits s.history in
      let end = ended b.job b.number (status_of o) (pairs_of (pipeline_of s) now g.moved) in
      let more : (i : Text) → count_of i s.history.builds ≤ count_of i (edited end now).builds = λ i. let first = count_changed i edits s.history in let then = count_edited i end now in omega (arith, first, then) in
      subst (λ y. IsKept (with_own past b.job b.number x) (moved_on s y (without b.job b.number s.running))) (sym is) (record {
        owned = all_less b.job b.number (others (edited end now).builds more) s.running k.apart k.owned;
        future = λ i m lt. no_future i m (let le = more i in omega (arith, le, lt));
        apart = apart_less b.job b.number s.running k.apart;
      })

-- a build that is found under a number is found under its own
pub at_own : (j : Text) (n : ℕ) (bs : List RunningData) (b : RunningData) → running_at j n bs ≡ Some b → running_at b.job b.number bs ≡ Some b
at_own j n bs b at =
    let (p, q) = at_id j n bs b at in
    ap (λ y. running_at y b.number bs) p ∙ ap (λ y. running_at j y bs) q ∙ at

taken_kept : (past : Past) (s : State) (j : Text) (n : ℕ) (b : RunningData) (x : AnswerData) (o : Option Outcome) (after : State) → IsKept past s → running_at j n s.running ≡ Some b → GoesOnWith s b x o after → IsKept (with_own past j n x) after
taken_kept past s j n b x o after k at (a, next, (h, settles, is)) =
    let (p, q) = at_id j n s.running b at in
    let kept = settled_taken past s b a x k (at_own j n s.running b at) o h settles in
    subst (λ y. IsKept (with_own past j y x) after) q (subst (λ y. IsKept (with_own past y b.number x) after) p (subst (IsKept (with_own past b.job b.number x)) (sym is) kept))

-- ---- each step keeps it
scheduled_kept : (past : Past) (s : State) (name : Text) (j : JobData) (r : Reply) (after : State) → IsKept past s → job_of name (pipeline_of s).jobs ≡ Some j → Schedules s j r after → IsKept past after
scheduled_kept past s name j (Made m) after k at (idle, (places, finds, news, makes)) = made_kept past s name j places m after k at makes
scheduled_kept past s name j NotNew after k at (idle, (places, finds, news, is)) = subst (IsKept past) (sym is) k
scheduled_kept past s name j r after k at (held, is) = subst (IsKept past) (sym is) k

triggered_kept : (past : Past) (s : State) (name : Text) (j : JobData) (r : Reply) (after : State) → IsKept past s → job_of name (pipeline_of s).jobs ≡ Some j → Triggers s j r after → IsKept past after
triggered_kept past s name j (Made m) after k at (idle, (places, finds, makes)) = made_kept past s name j places m after k at makes
triggered_kept past s name j r after k at (held, is) = subst (IsKept past) (sym is) k

-- where a pipeline may be set, nothing runs
pub none_runs : (s : State) (p : PipelineData) → IsFree s (set_pipeline p) → s.running ≡ []
none_runs s p free = by s.running (free BuildsOpen)
  where
    by : (bs : List RunningData) → ¬ (bs ≢ []) → bs ≡ []
    by [] h = refl
    by (b ∷ bs) h = absurd (h (λ e. cc (e)))

set_kept : (past : Past) (s : State) (p : PipelineData) → s.running ≡ [] → IsKept past s → IsKept past (with_pipeline s p)
set_kept past s p none k = record {
  owned = subst (AllByRecursion (IsOwned past p s.history.builds)) (sym none) tt;
  future = k.future;
  apart = k.apart;
}

cut_kept : (past : Past) (s : State) → IsKept past s → IsKept past (moved_on s (changed (map cut s.running) s.history) [])
cut_kept past s k = record {
  owned = tt;
  future = λ j n lt. k.future j n (let le = count_changed j (map cut s.running) s.history in omega (arith, le, lt));
  apart = tt;
}

-- the answers that were each build's own, with those of one event more
abbrev pub past_by : Past → EventData → Replied → Past
past_by past e r j n = past j n ++ own_of j n e r

answered_kept : (past : Past) (s : State) (a : AnswerTo) (r : Reply) (after : State) → IsKept past s → Answers s a r after → IsKept (λ j n. past j n ++ said_to j n (Some a)) after
answered_kept past s a Goes after k (b, at, takes) = taken_kept past s a.job a.number b a.given None after k at takes
answered_kept past s a (Ends o) after k (b, at, takes) = taken_kept past s a.job a.number b a.given (Some o) after k at takes
answered_kept past s a r after k does = absurd does

other_kept : (past : Past) (s : State) (e : EventData) (r : Reply) (after : State) → IsKept past s → ((f : CoreFault) → ¬ MeetsBy s None e f) → DoesBy s None e r after → IsKept past after
other_kept past s (set_pipeline p) Set after k free is = subst (IsKept past) (sym is) (set_kept past s p (none_runs s p free) k)
other_kept past s (checked resource vs) (New n) after k free (news, is) =
    let edits = report (pipeline_of s) resource vs in
    subst (IsKept past) (sym is) (kept_on past s (changed edits s.history) (λ j. count_changed j edits s.history) k)
other_kept past s (schedule job) r after k free (j, at, how) = scheduled_kept past s job j r after k at how
other_kept past s (trigger job) r after k free (j, at, how) = triggered_kept past s job j r after k at how
other_kept past s (pin resource p) Pinned after k free is = subst (IsKept past) (sym is) (kept_on past s (edited (pin_set resource p) s.history) (λ j. count_edited j (pin_set resource p) s.history) k)
other_kept past s (unpin resource) Unpinned after k free is = subst (IsKept past) (sym is) (kept_on past s (edited (pin_cleared resource) s.history) (λ j. count_edited j (pin_cleared resource) s.history) k)
other_kept past s (disable resource place) Disabled after k free is = subst (IsKept past) (sym is) (kept_on past s (edited (disabled (scope_in s resource) place) s.history) (λ j. count_edited j (disabled (scope_in s resource) place) s.history) k)
other_kept past s (enable resource place) Enabled after k free is = subst (IsKept past) (sym is) (kept_on past s (edited (enabled (scope_in s resource) place) s.history) (λ j. count_edited j (enabled (scope_in s resource) place) s.history) k)
other_kept past s restart Restarted after k free is = subst (IsKept past) (sym is) (cut_kept past s k)
other_kept past s e r after k free does = absurd does

pub step_kept : (past : Past) (s : State) (e : EventData) (r : Replied) (after : State) → IsKept past s → Step s e r after → IsKept (past_by past e r) after
step_kept past s e (Ok r) after k (free, does) = by (addressed e) free does
  where
    by : (o : Option AnswerTo) → ((f : CoreFault) → ¬ MeetsBy s o e f) → DoesBy s o e r after → IsKept (λ j n. past j n ++ said_to j n o) after
    by (Some a) free does = answered_kept past s a r after k does
    by None free does = with_nothing past after (other_kept past s e r after k free does)
step_kept past s e (Err f) after k (may, is) = with_nothing past after (subst (IsKept past) (sym is) k)

-- ---- each run keeps it
pub run_kept : (past : Past) (s : State) (es : List EventData) (rs : List Replied) (after : State) → IsKept past s → Run s es rs after → IsKept (λ j n. past j n ++ own j n es rs) after
run_kept past s [] [] after k h = subst (IsKept (λ j n. past j n ++ [])) (sym h) (with_nothing past s k)
run_kept past s [] (r ∷ rs) after k h = absurd h
run_kept past s (e ∷ es) [] after k h = absurd h
run_kept past s (e ∷ es) (r ∷ rs) after k (mid, step, run) =
    kept_past (λ j n. past_by past e r j n ++ own j n es rs) (λ j n. past j n ++ own j n (e ∷ es) (r ∷ rs)) after
    (λ j n. append_assoc (past j n) (own_of j n e r) (own j n es rs))
    (run_kept (past_by past e r) mid es rs after (step_kept past s e r mid k step) run)

abbrev no_past : Past
no_past j n = []

starts : (s : State) → s.running ≡ [] → IsKept no_past s
starts s e = record {
  owned = subst (AllByRecursion (IsOwned no_past (pipeline_of s) s.history.builds)) (sym e) tt;
  future = λ j n lt. refl;
  apart = subst IsApart (sym e) tt;
}

pub kept_from : (s after : State) (es : List EventData) (rs : List Replied) → s.running ≡ [] → Run s es rs after → IsKept (λ j n. own j n es rs) after
kept_from s after es rs e run = run_kept no_past s es rs after (starts s e) run

-- ---- the laws
pub each_has_its_own : EachHasItsOwn
each_has_its_own s after es rs e run = all_weaker (λ b h. h.has) after.running (kept_from s after es rs e run).owned

-- what is kept of the build of a number
pub of_build : (s after : State) (es : List EventData) (rs : List Replied) (j : Text) (n : ℕ) (b : RunningData) → s.running ≡ [] → Run s es rs after → running_at j n after.running ≡ Some b → HasItsOwn (pipeline_of after) (own j n es rs) b
of_build s after es rs j n b e run at =
    let k = kept_from s after es rs e run in
    let h = all_at (IsOwned (λ j n. own j n es rs) (pipeline_of after) after.history.builds) j n after.running b k.owned at in
    let (p, q) = at_id j n after.running b at in
    record { answered = h.has.answered ∙ ap (λ y. own y b.number es rs) p ∙ ap (λ y. own j y es rs) q; planned = h.has.planned; begins = h.has.begins; waits = h.has.waits }

pub runs_agree : BeginningsDecide → RunsAgree
runs_agree decide s after t later es fs rs us j n i m b c e d run ran at there plan inputs same =
    let h = of_build s after es rs j n b e run at in
    let g = of_build t later fs us i m c d ran there in
    (decide b.inputs b.plan b.exchanges c.exchanges h.begins
    (subst (λ y. Begins y b.plan c.exchanges) (sym inputs) (subst (λ y. Begins c.inputs y c.exchanges) (sym plan) g.begins))).whole (h.answered ∙ same ∙ sym g.answered)

pub none_runs_on : BeginningsDecide → NoneRunsOn
none_runs_on decide s after later es rs j n b xs d f e run at plan inputs same =
    let h = of_build s after es rs j n b e run at in
    let meant : Means b.inputs b.plan no_gains f.run.exchanges f.outcome f.gains = subst (λ y. Means y b.plan no_gains f.run.exchanges f.outcome f.gains) (sym inputs) (subst (λ y. Means f.run.inputs y no_gains f.run.exchanges f.outcome f.gains) (sym plan) f.meant) in
    let whole : IsAllowed b.inputs b.plan f.run.exchanges = (f.outcome, f.gains, meant) in
    let begins : Begins b.inputs b.plan f.run.exchanges = ([], subst (IsAllowed b.inputs b.plan) (sym (append-nil f.run.exchanges)) whole) in
    let one : b.exchanges ≡ f.run.exchanges = (decide b.inputs b.plan b.exchanges f.run.exchanges h.begins begins).whole (h.answered ∙ same ∙ sym f.answered) in
    h.waits (subst (IsAllowed b.inputs b.plan) (sym one) whole)
