-- Which event ends a build.
use Rattle.std.proofs.Common.{◌≡◌, ◌≢◌, ◌⊎◌, inl, inr, ℕ, ◌+◌, ◌<◌, Bool, true, false, cond, List, [], ◌∷◌, Option, Some, None, Ok, Err, map, refl, sym, ap, ◌∙◌, arith}
use Rattle.ccr_history.specs.declared.build.Status.TheVariants.{Running, Errored}
use Rattle.ccr_history.specs.Text.{Text}
use Rattle.ccr_history.specs.Builds.{BuildData, count_of, build_of, new_build}
use Rattle.ccr_history.specs.Changes.{edited, changed}
use Rattle.ccr_history.specs.History.{HistoryData}
use Rattle.ccr_pipeline.specs.Inputs.{inputs}
use Rattle.ccr_pipeline.specs.JobData.{JobData}
use Rattle.ccr_steps.specs.Asks.{AnswerData}
use Rattle.ccr_steps.specs.declared.outcome.Outcome.{Outcome}
use Rattle.ccr_core.specs.declared.reply.Reply.{Reply}
use Rattle.ccr_core.specs.declared.reply.Reply.TheVariants.{Set, New, Made, NotNew, Goes, Ends, Pinned, Unpinned, Disabled, Enabled, Restarted}
use Rattle.ccr_problem.specs.ProblemOf.{job_of}
use Rattle.ccr_core.specs.Addressed.{AnswerTo, addressed}
use Rattle.ccr_core.specs.Builds.{status_of, history_with, Makes, GoesOnWith, cut}
use Rattle.ccr_core.specs.Choices.{used_at}
use Rattle.ccr_core.specs.Events.{EventData, set_pipeline, checked, schedule, trigger, pin, unpin, disable, enable, restart}
use Rattle.ccr_core.specs.EndedInRun.{EndsByAnswer, EndsAsMade}
use Rattle.ccr_core.specs.Own.{own_of}
use Rattle.ccr_core.specs.Replies.{Replied}
use Rattle.ccr_core.specs.Seen.{pairs_of}
use Rattle.ccr_core.specs.State.{RunningData, State, pipeline_of, is_run_of, running_at}
use Rattle.ccr_core.specs.Steps.{Schedules, Triggers, Answers, DoesBy, Step}
use Rattle.ccr_core.specs.EachBuild.{EndsIn}
use Rattle.ccr_core.proofs.Ending.{found_more, IsEnded, found_end, none_ends, taken}
use Rattle.ccr_core.proofs.Keeping.{AreKnown, not_there}
use Rattle.ccr_core.proofs.Owning.{job_same}
use Rattle.ccr_core.proofs.RunningLists.{id_refl, at_id}
use Rattle.ccr_core.proofs.Seeing.{report_builds, pushed_builds}

module _ (before : State) (known : AreKnown before.history.builds before.history.builds) (c : BuildData) where
  -- ---- by an answer
  answered : (e : EventData) (w : AnswerTo) (b : RunningData) (o : Outcome) (after : State) → addressed e ≡ Some w → running_at w.job w.number before.running ≡ Some b → GoesOnWith before b w.given (Some o) after → EndsIn before after c → EndsByAnswer before e (Ok (Ends o)) c
  answered e w b o after said at (a, next, (h, (g, means, is), to)) (found, done, fresh) =
      by (found_end c.job c.number b.job b.number (status_of o) (pairs_of (pipeline_of before) (taken before a w.given) g.moved) c (taken before a w.given).builds
      (sym (ap (λ y. build_of c.job c.number y.history.builds) to ∙ ap (λ y. build_of c.job c.number y.builds) is) ∙ found))
    where
      by : IsEnded c.job c.number b.job b.number (status_of o) (pairs_of (pipeline_of before) (taken before a w.given) g.moved) c (taken before a w.given).builds ⊎ (build_of c.job c.number (taken before a w.given).builds ≡ Some c) → EndsByAnswer before e (Ok (Ends o)) c
      by (inr old) = absurd (fresh (c, ap (build_of c.job c.number) (sym (pushed_builds (pipeline_of before) a w.given before.history)) ∙ old, done))
      by (inl (p, q, (was, same, there))) =
          let (u, v) = at_id w.job w.number before.running b at in
          let here : running_at c.job c.number before.running ≡ Some b = ap (λ y. running_at y c.number before.running) (p ∙ u) ∙ ap (λ y. running_at w.job y before.running) (q ∙ v) ∙ at in
          (b, w, o, here, said, sym (p ∙ u), sym (q ∙ v), refl, ap (λ y. y.status) same)

  -- ---- in the event that made it
  module _ (e : EventData) (name : Text) (j : JobData) (at : job_of name (pipeline_of before).jobs ≡ Some j) (asks : (e ≡ schedule name) ⊎ (e ≡ trigger name)) (places : List ℕ) where
    abbrev now : HistoryData
    now = history_with (pipeline_of before) before.history j places

    was_there : c.status ≢ Running → build_of c.job c.number now.builds ≡ Some c → build_of c.job c.number before.history.builds ≡ Some c
    was_there done found = found_more c.job c.number before.history.builds (new_build j.name (count_of j.name before.history.builds + 1) (used_at (pipeline_of before) before.history (inputs j.plan) places)) c refl done found

    asked_so : name ≡ c.job → (e ≡ schedule c.job) ⊎ (e ≡ trigger c.job)
    asked_so same = by asks
      where
        by : (e ≡ schedule name) ⊎ (e ≡ trigger name) → (e ≡ schedule c.job) ⊎ (e ≡ trigger c.job)
        by (inl is) = inl (is ∙ ap schedule same)
        by (inr is) = inr (is ∙ ap trigger same)

    made_so : (m : ℕ) → m ≡ count_of j.name before.history.builds + 1 → c.job ≡ j.name → c.number ≡ count_of j.name before.history.builds + 1 → EndsAsMade before e (Ok (Made m)) c
    made_so m number p q =
        let counts : count_of c.job before.history.builds ≡ count_of j.name before.history.builds = ap (λ y. count_of y before.history.builds) p in
        let less : count_of c.job before.history.builds < c.number = omega (arith, q, counts) in
        (not_there before.history.builds c.job c.number less before.history.builds known, asked_so (job_same name (pipeline_of before).jobs j at ∙ sym p), ap (λ n. Ok (Made n)) (number ∙ sym q))

    made : (m : ℕ) (after : State) → Makes before j places m after → EndsIn before after c → EndsAsMade before e (Ok (Made m)) c
    made m after (number, (None, h, (begins, waits, is), to)) (found, done, fresh) =
        absurd (fresh (c, was_there done (sym (ap (λ y. build_of c.job c.number y.history.builds) to ∙ ap (λ y. build_of c.job c.number y.builds) is) ∙ found), done))
    made m after (number, (Some o, h, (g, means, is), to)) (found, done, fresh) =
        by (found_end c.job c.number j.name (count_of j.name before.history.builds + 1) (status_of o) (pairs_of (pipeline_of before) now g.moved) c now.builds
        (sym (ap (λ y. build_of c.job c.number y.history.builds) to ∙ ap (λ y. build_of c.job c.number y.builds) is) ∙ found))
      where
        by : IsEnded c.job c.number j.name (count_of j.name before.history.builds + 1) (status_of o) (pairs_of (pipeline_of before) now g.moved) c now.builds ⊎ (build_of c.job c.number now.builds ≡ Some c) → EndsAsMade before e (Ok (Made m)) c
        by (inr old) = absurd (fresh (c, was_there done old, done))
        by (inl (p, q, (was, same, there))) = made_so m number p q

  -- ---- each step
  abbrev IsCaused : EventData → Replied → Type 0
  IsCaused e r = EndsByAnswer before e r c ⊎ EndsAsMade before e r c

  scheduled : (name : Text) (j : JobData) (r : Reply) (after : State) → job_of name (pipeline_of before).jobs ≡ Some j → Schedules before j r after → EndsIn before after c → IsCaused (schedule name) (Ok r)
  scheduled name j (Made m) after at (idle, (places, finds, news, makes)) ends = inr (made (schedule name) name j at (inl refl) places m after makes ends)
  scheduled name j NotNew after at (idle, (places, finds, news, is)) ends = absurd (none_ends before after c (ap (λ y. y.history.builds) is) ends)
  scheduled name j r after at (held, is) ends = absurd (none_ends before after c (ap (λ y. y.history.builds) is) ends)

  triggered : (name : Text) (j : JobData) (r : Reply) (after : State) → job_of name (pipeline_of before).jobs ≡ Some j → Triggers before j r after → EndsIn before after c → IsCaused (trigger name) (Ok r)
  triggered name j (Made m) after at (idle, (places, finds, makes)) ends = inr (made (trigger name) name j at (inr refl) places m after makes ends)
  triggered name j r after at (held, is) ends = absurd (none_ends before after c (ap (λ y. y.history.builds) is) ends)

  other : (e : EventData) (r : Reply) (after : State) → DoesBy before None e r after → e ≢ restart → EndsIn before after c → IsCaused e (Ok r)
  other (set_pipeline p) Set after is ne ends = absurd (none_ends before after c (ap (λ y. y.history.builds) is) ends)
  other (checked resource vs) (New n) after (news, is) ne ends = absurd (none_ends before after c (ap (λ y. y.history.builds) is ∙ report_builds (pipeline_of before) resource vs before.history) ends)
  other (schedule job) r after (j, at, how) ne ends = scheduled job j r after at how ends
  other (trigger job) r after (j, at, how) ne ends = triggered job j r after at how ends
  other (pin resource p) Pinned after is ne ends = absurd (none_ends before after c (ap (λ y. y.history.builds) is) ends)
  other (unpin resource) Unpinned after is ne ends = absurd (none_ends before after c (ap (λ y. y.history.builds) is) ends)
  other (disable resource place) Disabled after is ne ends = absurd (none_ends before after c (ap (λ y. y.history.builds) is) ends)
  other (enable resource place) Enabled after is ne ends = absurd (none_ends before after c (ap (λ y. y.history.builds) is) ends)
  other restart r after does ne ends = absurd (ne refl)
  other e r after does ne ends = absurd does

  said_so : (e : EventData) (w : AnswerTo) (r : Reply) (after : State) → addressed e ≡ Some w → Answers before w r after → EndsIn before after c → IsCaused e (Ok r)
  said_so e w Goes after said (b, at, takes) ends = absurd (none_ends before after c (still b w.given after takes) ends)
    where
      still : (b : RunningData) (x : AnswerData) (after : State) → GoesOnWith before b x None after → after.history.builds ≡ before.history.builds
      still b x after (a, next, (h, (begins, waits, is), to)) = ap (λ y. y.history.builds) to ∙ ap (λ y. y.builds) is ∙ pushed_builds (pipeline_of before) a x before.history
  said_so e w (Ends o) after said (b, at, takes) ends = inl (answered e w b o after said at takes ends)
  said_so e w r after said answers ends = absurd answers

  -- a build that ends in a step, other than of a restart, ends by its own answer, or was made by the event
  pub caused : (e : EventData) (r : Replied) (after : State) → Step before e r after → e ≢ restart → EndsIn before after c → EndsByAnswer before e r c ⊎ EndsAsMade before e r c
  caused e (Ok r) after (free, does) ne ends = by (addressed e) refl does
    where
      by : (o : Option AnswerTo) → addressed e ≡ o → DoesBy before o e r after → EndsByAnswer before e (Ok r) c ⊎ EndsAsMade before e (Ok r) c
      by (Some w) said answers = said_so e w r after said answers ends
      by None said does = other e r after does ne ends
  caused e (Err f) after (may, is) ne ends = absurd (none_ends before after c (ap (λ y. y.history.builds) is) ends)

-- ---- by a restart
-- a build that ended where builds were cut short is one of them, or had ended before
cut_one : (j : Text) (n : ℕ) (c : BuildData) (bs : List RunningData) (h : HistoryData) → build_of j n (changed (map cut bs) h).builds ≡ Some c → ((b : RunningData) × (running_at j n bs ≡ Some b)) ⊎ (build_of j n h.builds ≡ Some c)
cut_one j n c [] h e = inr e
cut_one j n c (b ∷ bs) h e = by (cut_one j n c bs (edited (cut b) h) e)
  where
    first : (t : Bool) → ((x : RunningData) × (running_at j n bs ≡ Some x)) → (x : RunningData) × (cond t (Some b) (running_at j n bs) ≡ Some x)
    first true more = (b, refl)
    first false more = more

    from : IsEnded j n b.job b.number Errored [] c h.builds ⊎ (build_of j n h.builds ≡ Some c) → ((x : RunningData) × (running_at j n (b ∷ bs) ≡ Some x)) ⊎ (build_of j n h.builds ≡ Some c)
    from (inl (p, q, (was, same, there))) =
        let it : is_run_of j n b ≡ true = ap (λ y. is_run_of y n b) p ∙ ap (λ y. is_run_of b.job y b) q ∙ id_refl b.job b.number in
        inl (b, ap (λ t. cond t (Some b) (running_at j n bs)) it)
    from (inr old) = inr old

    by : ((x : RunningData) × (running_at j n bs ≡ Some x)) ⊎ (build_of j n (edited (cut b) h).builds ≡ Some c) → ((x : RunningData) × (running_at j n (b ∷ bs) ≡ Some x)) ⊎ (build_of j n h.builds ≡ Some c)
    by (inl more) = inl (first (is_run_of j n b) more)
    by (inr found) = from (found_end j n b.job b.number Errored [] c h.builds found)

-- a build that a restart ends ran
pub ran : (before after : State) (r : Replied) (c : BuildData) → Step before restart r after → EndsIn before after c → (b : RunningData) × (running_at c.job c.number before.running ≡ Some b)
ran before after (Ok Restarted) c (free, is) (found, done, fresh) =
    by (cut_one c.job c.number c before.running before.history (ap (λ y. build_of c.job c.number y.history.builds) (sym is) ∙ found))
  where
    by : ((b : RunningData) × (running_at c.job c.number before.running ≡ Some b)) ⊎ (build_of c.job c.number before.history.builds ≡ Some c) → (b : RunningData) × (running_at c.job c.number before.running ≡ Some b)
    by (inl h) = h
    by (inr old) = absurd (fresh (c, old, done))
ran before after (Err f) c (may, is) ends = absurd (none_ends before after c (ap (λ y. y.history.builds) is) ends)
ran before after (Ok r) c (free, does) ends = absurd does

-- and none of its own answers came with it
pub none_own : (j : Text) (n : ℕ) (r : Replied) → own_of j n restart r ≡ []
none_own j n (Ok r) = refl
none_own j n (Err f) = refl
