-- How builds end.
use Rattle.std.proofs.Common.{◌≡◌, ◌≢◌, ◌⊎◌, inl, inr, ℕ, ◌+◌, ◌<◌, ◌≤◌, length, Bool, true, false, cond, List, [], ◌∷◌, ◌++◌, Option, Some, None, Ok, Err, map, refl, sym, ap, ◌∙◌, subst, arith, append-nil, append_assoc}
use Rattle.std.specs.List.{AllByRecursion}
use Rattle.ccr_history.specs.declared.build.Status.{Status}
use Rattle.ccr_history.specs.declared.builds.TheConstants.{MOST_BUILDS}
use Rattle.ccr_history.specs.declared.build.Status.TheVariants.{Running, Errored}
use Rattle.ccr_history.specs.Text.{Text}
use Rattle.ccr_history.specs.Builds.{BuildData, is_build_of, count_of, build_of, new_build, ended as ended_build, with_end, is_succeeded, passed_pairs}
use Rattle.ccr_history.specs.Changes.{ended, edited, changed, AreMoved}
use Rattle.ccr_history.specs.History.{HistoryData}
use Rattle.ccr_pipeline.specs.Inputs.{inputs}
use Rattle.ccr_pipeline.specs.JobData.{JobData}
use Rattle.ccr_pipeline.specs.Pipelines.{PipelineData}
use Rattle.ccr_steps.specs.Asks.{AskData, AnswerData, exchange}
use Rattle.ccr_steps.specs.Gains.{GainsData, no_gains}
use Rattle.ccr_steps.specs.Means.{Means}
use Rattle.ccr_steps.specs.Progress.{AnswersDecide, answers}
use Rattle.ccr_steps.specs.declared.outcome.Outcome.{Outcome}
use Rattle.ccr_steps.specs.declared.outcome.Outcome.TheVariants as outcome
use Rattle.ccr_core.specs.declared.fault.CoreFault.{CoreFault}
use Rattle.ccr_core.specs.declared.fault.CoreFault.TheVariants.{TableFull}
use Rattle.ccr_core.specs.declared.reply.Reply.{Reply}
use Rattle.ccr_core.specs.declared.reply.Reply.TheVariants.{Set, New, Made, NotNew, Goes, Ends, Pinned, Unpinned, Disabled, Enabled, Restarted}
use Rattle.ccr_problem.specs.ProblemOf.{job_of}
use Rattle.ccr_core.specs.Builds.{status_of, Settles, begun, history_with, with_made, Makes, with_answer, GoesOnWith, cut}
use Rattle.ccr_core.specs.Choices.{best, Finds, used_at}
use Rattle.ccr_core.specs.Addressed.{AnswerTo, addressed}
use Rattle.ccr_core.specs.Events.{EventData, set_pipeline, checked, schedule, trigger, pin, unpin, disable, enable, restart}
use Rattle.ccr_core.specs.Faults.{MeetsBy}
use Rattle.ccr_core.specs.Own.{said_to, own, own_of}
use Rattle.ccr_core.specs.Kept.{IsEvent, IsStart}
use Rattle.ccr_core.specs.Seen.{AreThoseUsed, pairs_of, report_by}
use Rattle.ccr_core.specs.Replies.{Replied}
use Rattle.ccr_core.specs.State.{RunningData, State, pipeline_of, moved_on, running_at, without}
use Rattle.ccr_core.specs.Steps.{Schedules, Triggers, Answers, DoesBy, Step, Run}
use Rattle.ccr_core.specs.EachBuild.{EndsIn, EndsAsMeant, EachEndsAsMeant, EachIsCutShort, EndsAgree}
use Rattle.ccr_core.proofs.Choosing.{IsSeen}
use Rattle.ccr_core.proofs.Moving.{IsGot}
use Rattle.ccr_core.proofs.Placing.{moved_fit}
use Rattle.ccr_core.proofs.RunningLists.{all_weaker, all_at, id_same, id_refl, at_id}
use Rattle.ccr_core.proofs.Scoping.{IsUsedIn}
use Rattle.ccr_core.proofs.Seeing.{report_builds, pushed_builds}
use Rattle.ccr_core.proofs.Sound.{IsSoundBuild, IsSound, sound_begun, sound_answered, leaves_run, starts}
use Rattle.ccr_core.proofs.Using.{IsRight, right_changed}
use Rattle.ccr_core.proofs.Owning.{job_at, answers_more, kept_from, of_build}

-- ---- builds of a history by their numbers
module _ (j : Text) (n : ℕ) where
  -- a new build runs: one that has ended was there
  pub found_more : (bs : List BuildData) (new c : BuildData) → new.status ≡ Running → c.status ≢ Running → build_of j n (bs ++ new ∷ []) ≡ Some c → build_of j n bs ≡ Some c
  found_more [] new c runs done e = by (is_build_of j n new) e
    where
      by : (t : Bool) → cond t (Some new) None ≡ Some c → None ≡ Some c
      by true e = let same : new ≡ c = cc e in absurd (done (ap (λ y. y.status) (sym same) ∙ runs))
      by false e = e
  found_more (b ∷ bs) new c runs done e = by (is_build_of j n b) (found_more bs new c runs done) e
    where
      by : (t : Bool) → (build_of j n (bs ++ new ∷ []) ≡ Some c → build_of j n bs ≡ Some c) → cond t (Some b) (build_of j n (bs ++ new ∷ [])) ≡ Some c → cond t (Some b) (build_of j n bs) ≡ Some c
      by true more e = e
      by false more e = more e

  -- a build that is found once one ended is that one, or was there
  module _ (job : Text) (number : ℕ) (st : Status) (mv : List (ℕ × ℕ)) (c : BuildData) where
    abbrev pub IsEnded : List BuildData → Type 0
    IsEnded bs = (j ≡ job) × (n ≡ number) × ((was : BuildData) × (c ≡ ended_build st mv was) × (build_of j n bs ≡ Some was))

    end_by : (b : BuildData) (bs : List BuildData) (t u : Bool) → is_build_of job number b ≡ t → is_build_of j n b ≡ u → (build_of j n (with_end job number st mv bs) ≡ Some c → IsEnded bs ⊎ (build_of j n bs ≡ Some c)) → build_of j n (cond t (ended_build st mv b) b ∷ with_end job number st mv bs) ≡ Some c → IsEnded (b ∷ bs) ⊎ (build_of j n (b ∷ bs) ≡ Some c)
    end_by b bs true true is us more e =
        let same : ended_build st mv b ≡ c = (let h : Some (ended_build st mv b) ≡ Some c = sym (ap (λ v. cond v (Some (ended_build st mv b)) (build_of j n (with_end job number st mv bs))) us) ∙ e in cc h) in
        let (p, q) = id_same j b.job n b.number us in
        let (r, s) = id_same job b.job number b.number is in
        inl (p ∙ sym r, q ∙ sym s, (b, sym same, ap (λ v. cond v (Some b) (build_of j n bs)) us))
    end_by b bs false true is us more e =
        inr (ap (λ v. cond v (Some b) (build_of j n bs)) us ∙ sym (ap (λ v. cond v (Some b) (build_of j n (with_end job number st mv bs))) us) ∙ e)
    end_by b bs t false is us more e = by t e
      where
        on : IsEnded bs ⊎ (build_of j n bs ≡ Some c) → IsEnded (b ∷ bs) ⊎ (build_of j n (b ∷ bs) ≡ Some c)
        on (inl (p, q, (was, same, there))) = inl (p, q, (was, same, ap (λ v. cond v (Some b) (build_of j n bs)) us ∙ there))
        on (inr h) = inr (ap (λ v. cond v (Some b) (build_of j n bs)) us ∙ h)

        by : (t : Bool) → build_of j n (cond t (ended_build st mv b) b ∷ with_end job number st mv bs) ≡ Some c → IsEnded (b ∷ bs) ⊎ (build_of j n (b ∷ bs) ≡ Some c)
        by true e = on (more (sym (ap (λ v. cond v (Some (ended_build st mv b)) (build_of j n (with_end job number st mv bs))) us) ∙ e))
        by false e = on (more (sym (ap (λ v. cond v (Some b) (build_of j n (with_end job number st mv bs))) us) ∙ e))

    pub found_end : (bs : List BuildData) → build_of j n (with_end job number st mv bs) ≡ Some c → IsEnded bs ⊎ (build_of j n bs ≡ Some c)
    found_end [] e = inr e
    found_end (b ∷ bs) e = end_by b bs (is_build_of job number b) (is_build_of j n b) refl refl (found_end bs) e

-- ---- builds that don't end
-- where the builds stay, none ends
pub none_ends : (before after : State) (c : BuildData) → after.history.builds ≡ before.history.builds → EndsIn before after c → ⊥
none_ends before after c same (found, done, fresh) = fresh (c, ap (build_of c.job c.number) (sym same) ∙ found, done)

-- ---- only a build that succeeded has passed anything
passed_by : (o : Outcome) (c : BuildData) → c.status ≡ status_of o → o ≢ outcome.Succeeded → passed_pairs c ≡ []
passed_by outcome.Succeeded c e ne = absurd (ne refl)
passed_by outcome.Failed c e ne = ap (λ y. cond (is_succeeded y) c.moved []) e
passed_by outcome.Errored c e ne = ap (λ y. cond (is_succeeded y) c.moved []) e
passed_by outcome.Aborted c e ne = ap (λ y. cond (is_succeeded y) c.moved []) e

-- the answers that were a build's own, with the last event's
own_last : (j : Text) (n : ℕ) (e : EventData) (r : Replied) (s after : State) (es : List EventData) (rs : List Replied) → Run s es rs after → own j n (es ++ e ∷ []) (rs ++ r ∷ []) ≡ own j n es rs ++ own_of j n e r
own_last j n e r s after [] [] run = append-nil (own_of j n e r)
own_last j n e r s after [] (u ∷ rs) run = absurd run
own_last j n e r s after (f ∷ es) [] run = absurd run
own_last j n e r s after (f ∷ es) (u ∷ rs) (mid, step, run) = ap (λ l. own_of j n f u ++ l) (own_last j n e r mid after es rs run) ∙ sym (append_assoc (own_of j n f u) (own j n es rs) (own_of j n e r))

-- a build that ended as meant, with what held of it while it ran
pub record EndsSound (after : State) (xs : List AnswerData) (c : BuildData) : Type 0 where
  pub meant : EndsAsMeant after xs c
  pub right : AllByRecursion (IsRight after.history.tables meant.run.inputs) c.used
  pub got : AllByRecursion (IsGot (IsSeen (pipeline_of after) after.history) meant.run.inputs) (inputs meant.run.plan)
  pub used_in : AllByRecursion (IsUsedIn (pipeline_of after) after.history c.used) (inputs meant.run.plan)

-- it ends as it means to end, if it ends in this step
abbrev EndsTo : State → List AnswerData → BuildData → State → Type 0
EndsTo before xs c after = EndsIn before after c → EndsSound after xs c

-- the history once an answer is taken
abbrev pub taken : State → AskData → AnswerData → HistoryData
taken s a x = changed (report_by (pipeline_of s) a x) s.history

-- the history once a build has ended
abbrev pub done_with : PipelineData → RunningData → Outcome → GainsData → HistoryData → HistoryData
done_with p b o g h = edited (ended b.job b.number (status_of o) (pairs_of p h g.moved)) h

-- a build that is found under one number is found under another that is the same
found_as : (j job : Text) (n number : ℕ) (bs : List BuildData) (c d : BuildData) → j ≡ job → n ≡ number → build_of j n bs ≡ Some c → build_of job number bs ≡ Some d → c ≡ d
found_as j job n number bs c d p q e f =
    let both : Some c ≡ Some d = sym e ∙ ap (λ y. build_of y n bs) p ∙ ap (λ y. build_of job y bs) q ∙ f in
    cc both

module _ (s before : State) (es : List EventData) (rs : List Replied) (start : IsStart s) (up : AllByRecursion IsEvent es) (run : Run s es rs before) where
  none : s.running ≡ []
  none = start.none_runs

  sound : IsSound before
  sound = (leaves_run s es rs before up (starts s start) run).sound

  -- ---- a build ends by an answer
  module _ (e : EventData) (w : AnswerTo) (said : addressed e ≡ Some w) (b : RunningData) (o : Outcome) (c : BuildData) (at : running_at w.job w.number before.running ≡ Some b) where
    answered_so : (a : AskData) → c.job ≡ b.job → c.number ≡ b.number → answers (b.exchanges ++ exchange a w.given ∷ []) ≡ own c.job c.number (es ++ e ∷ []) (rs ++ Ok (Ends o) ∷ [])
    answered_so a p q =
        let own_b = of_build s before es rs w.job w.number b none run at in
        let (u, v) = at_id w.job w.number before.running b at in
        let last = own_last w.job w.number e (Ok (Ends o)) s before es rs run in
        answers_more b.exchanges (exchange a w.given) ∙ ap (λ l. l ++ w.given ∷ []) own_b.answered
        ∙ sym (last ∙ ap (λ t. own w.job w.number es rs ++ said_to w.job w.number t) said ∙ ap (λ t. own w.job w.number es rs ++ cond t (w.given ∷ []) []) (id_refl w.job w.number))
        ∙ ap (λ y. own y w.number (es ++ e ∷ []) (rs ++ Ok (Ends o) ∷ [])) (sym (p ∙ u))
        ∙ ap (λ y. own c.job y (es ++ e ∷ []) (rs ++ Ok (Ends o) ∷ [])) (sym (q ∙ v))

    fits_so : (a : AskData) (o : Outcome) (g : GainsData) → Means b.inputs b.plan no_gains (b.exchanges ++ exchange a w.given ∷ []) o g → AreMoved (taken before a w.given).tables (pairs_of (pipeline_of before) (taken before a w.given) g.moved)
    fits_so a o g means =
        let sb = sound_answered before w.job w.number b a w.given sound at in
        moved_fit (pipeline_of before) (taken before a w.given) b.inputs b.plan (b.exchanges ++ exchange a w.given ∷ []) o g sb.got sb.known sb.pushes means

    used_so : (a : AskData) (was : BuildData) (st : Status) (mv : List (ℕ × ℕ)) → c.job ≡ b.job → c.number ≡ b.number → c ≡ ended_build st mv was → build_of c.job c.number (taken before a w.given).builds ≡ Some was → AreThoseUsed (taken before a w.given).tables c.used b.inputs
    used_so a was st mv p q same there =
        let (d, found, runs, right, each) = (all_at (IsSoundBuild (pipeline_of before) before.history) w.job w.number before.running b sound.each at).held in
        let here : build_of c.job c.number before.history.builds ≡ Some was = ap (build_of c.job c.number) (sym (pushed_builds (pipeline_of before) a w.given before.history)) ∙ there in
        let one : was ≡ d = found_as c.job b.job c.number b.number before.history.builds was d p q here found in
        subst (λ us. AreThoseUsed (taken before a w.given).tables us b.inputs) (sym (ap (λ y. y.used) same ∙ ap (λ y. y.used) one))
        (each, all_weaker (λ u r. (right_changed (report_by (pipeline_of before) a w.given) before.history b.inputs u r).1) d.used right)

    -- what it used is what it used while it ran
    uses_so : (a : AskData) (was : BuildData) (st : Status) (mv : List (ℕ × ℕ)) → c.job ≡ b.job → c.number ≡ b.number → c ≡ ended_build st mv was → build_of c.job c.number (taken before a w.given).builds ≡ Some was → (sound_answered before w.job w.number b a w.given sound at).held.0.used ≡ c.used
    uses_so a was st mv p q same there =
        let held = (sound_answered before w.job w.number b a w.given sound at).held in
        let one : was ≡ held.0 = found_as c.job b.job c.number b.number (taken before a w.given).builds was held.0 p q there held.1 in
        sym (ap (λ y. y.used) same ∙ ap (λ y. y.used) one)

    right_so : (a : AskData) (was : BuildData) (st : Status) (mv : List (ℕ × ℕ)) → c.job ≡ b.job → c.number ≡ b.number → c ≡ ended_build st mv was → build_of c.job c.number (taken before a w.given).builds ≡ Some was → AllByRecursion (IsRight (taken before a w.given).tables b.inputs) c.used
    right_so a was st mv p q same there =
        subst (AllByRecursion (IsRight (taken before a w.given).tables b.inputs)) (uses_so a was st mv p q same there) (sound_answered before w.job w.number b a w.given sound at).held.3

    used_in_so : (a : AskData) (was : BuildData) (st : Status) (mv : List (ℕ × ℕ)) → c.job ≡ b.job → c.number ≡ b.number → c ≡ ended_build st mv was → build_of c.job c.number (taken before a w.given).builds ≡ Some was → AllByRecursion (IsUsedIn (pipeline_of before) (taken before a w.given) c.used) (inputs b.plan)
    used_in_so a was st mv p q same there =
        subst (λ us. AllByRecursion (IsUsedIn (pipeline_of before) (taken before a w.given) us) (inputs b.plan)) (uses_so a was st mv p q same there) (sound_answered before w.job w.number b a w.given sound at).used_in

    ends_now : (a : AskData) (g : GainsData) → Means b.inputs b.plan no_gains (b.exchanges ++ exchange a w.given ∷ []) o g → EndsTo before (own c.job c.number (es ++ e ∷ []) (rs ++ Ok (Ends o) ∷ [])) c (moved_on before (done_with (pipeline_of before) b o g (taken before a w.given)) (without b.job b.number before.running))
    ends_now a g means (found, done, fresh) = by (found_end c.job c.number b.job b.number (status_of o) (pairs_of (pipeline_of before) (taken before a w.given) g.moved) c (taken before a w.given).builds found)
      where
        by : IsEnded c.job c.number b.job b.number (status_of o) (pairs_of (pipeline_of before) (taken before a w.given) g.moved) c (taken before a w.given).builds ⊎ (build_of c.job c.number (taken before a w.given).builds ≡ Some c) → EndsSound (moved_on before (done_with (pipeline_of before) b o g (taken before a w.given)) (without b.job b.number before.running)) (own c.job c.number (es ++ e ∷ []) (rs ++ Ok (Ends o) ∷ [])) c
        by (inr old) = absurd (fresh (c, ap (build_of c.job c.number) (sym (pushed_builds (pipeline_of before) a w.given before.history)) ∙ old, done))
        by (inl (p, q, (was, same, there))) = record {
          meant = record {
            run = with_answer b a w.given;
            outcome = o;
            gains = g;
            is_job = sym p;
            is_number = sym q;
            planned = (of_build s before es rs w.job w.number b none run at).planned;
            used = used_so a was (status_of o) (pairs_of (pipeline_of before) (taken before a w.given) g.moved) p q same there;
            answered = answered_so a p q;
            meant = means;
            status = ap (λ y. y.status) same;
            moved = ap (λ y. y.moved) same;
            once = fits_so a o g means;
            passed = passed_by o c (ap (λ y. y.status) same);
          };
          right = right_so a was (status_of o) (pairs_of (pipeline_of before) (taken before a w.given) g.moved) p q same there;
          got = (sound_answered before w.job w.number b a w.given sound at).got;
          used_in = used_in_so a was (status_of o) (pairs_of (pipeline_of before) (taken before a w.given) g.moved) p q same there;
        }

    ends_taken : (after : State) → GoesOnWith before b w.given (Some o) after → EndsTo before (own c.job c.number (es ++ e ∷ []) (rs ++ Ok (Ends o) ∷ [])) c after
    ends_taken after (a, next, (h, (g, means, is), to)) =
        subst (EndsTo before (own c.job c.number (es ++ e ∷ []) (rs ++ Ok (Ends o) ∷ [])) c) (sym to)
        (subst (λ y. EndsTo before (own c.job c.number (es ++ e ∷ []) (rs ++ Ok (Ends o) ∷ [])) c (moved_on before y (without b.job b.number before.running))) (sym is)
        (ends_now a g means))

  -- ---- a build ends in the event that made it
  module _ (e : EventData) (r : Replied) (quiet : (j : Text) (n : ℕ) → own_of j n e r ≡ []) (name : Text) (j : JobData) (places : List ℕ) (at : job_of name (pipeline_of before).jobs ≡ Some j) (finds : Finds before j.name (best places)) (room : ¬ (MOST_BUILDS ≤ length before.history.builds)) (c : BuildData) where
    abbrev b : RunningData
    b = begun (pipeline_of before) before.history j places

    abbrev now : HistoryData
    now = history_with (pipeline_of before) before.history j places

    was_there : c.status ≢ Running → build_of c.job c.number (history_with (pipeline_of before) before.history j places).builds ≡ Some c → build_of c.job c.number before.history.builds ≡ Some c
    was_there done found = found_more c.job c.number before.history.builds (new_build j.name (count_of j.name before.history.builds + 1) (used_at (pipeline_of before) before.history (inputs j.plan) places)) c refl done found

    not_answered : c.job ≡ j.name → c.number ≡ count_of j.name before.history.builds + 1 → [] ≡ own c.job c.number (es ++ e ∷ []) (rs ++ r ∷ [])
    not_answered p q =
        let k = kept_from s before es rs none run in
        let number = count_of j.name before.history.builds + 1 in
        let next : count_of j.name before.history.builds < count_of j.name before.history.builds + 1 = omega arith in
        let last = own_last j.name number e r s before es rs run in
        sym (last ∙ ap (λ l. l ++ own_of j.name number e r) (k.future j.name number next) ∙ quiet j.name number)
        ∙ ap (λ y. own y number (es ++ e ∷ []) (rs ++ r ∷ [])) (sym p)
        ∙ ap (λ y. own c.job y (es ++ e ∷ []) (rs ++ r ∷ [])) (sym q)

    fits_new : (o : Outcome) (g : GainsData) → Means b.inputs b.plan no_gains [] o g → AreMoved now.tables (pairs_of (pipeline_of before) now g.moved)
    fits_new o g means =
        let sb = sound_begun before name j places sound at finds room in
        moved_fit (pipeline_of before) now b.inputs b.plan [] o g sb.got sb.known tt means

    used_new : (was : BuildData) (st : Status) (mv : List (ℕ × ℕ)) → c.job ≡ j.name → c.number ≡ count_of j.name before.history.builds + 1 → c ≡ ended_build st mv was → build_of c.job c.number now.builds ≡ Some was → AreThoseUsed now.tables c.used b.inputs
    used_new was st mv p q same there =
        let (d, found, runs, right, each) = (sound_begun before name j places sound at finds room).held in
        let one : was ≡ d = found_as c.job j.name c.number (count_of j.name before.history.builds + 1) now.builds was d p q there found in
        subst (λ us. AreThoseUsed now.tables us b.inputs) (sym (ap (λ y. y.used) same ∙ ap (λ y. y.used) one)) (each, all_weaker (λ u r. r.1) d.used right)

    uses_new : (was : BuildData) (st : Status) (mv : List (ℕ × ℕ)) → c.job ≡ j.name → c.number ≡ count_of j.name before.history.builds + 1 → c ≡ ended_build st mv was → build_of c.job c.number now.builds ≡ Some was → (sound_begun before name j places sound at finds room).held.0.used ≡ c.used
    uses_new was st mv p q same there =
        let held = (sound_begun before name j places sound at finds room).held in
        let one : was ≡ held.0 = found_as c.job j.name c.number (count_of j.name before.history.builds + 1) now.builds was held.0 p q there held.1 in
        sym (ap (λ y. y.used) same ∙ ap (λ y. y.used) one)

    right_new : (was : BuildData) (st : Status) (mv : List (ℕ × ℕ)) → c.job ≡ j.name → c.number ≡ count_of j.name before.history.builds + 1 → c ≡ ended_build st mv was → build_of c.job c.number now.builds ≡ Some was → AllByRecursion (IsRight now.tables b.inputs) c.used
    right_new was st mv p q same there =
        subst (AllByRecursion (IsRight now.tables b.inputs)) (uses_new was st mv p q same there) (sound_begun before name j places sound at finds room).held.3

    used_in_new : (was : BuildData) (st : Status) (mv : List (ℕ × ℕ)) → c.job ≡ j.name → c.number ≡ count_of j.name before.history.builds + 1 → c ≡ ended_build st mv was → build_of c.job c.number now.builds ≡ Some was → AllByRecursion (IsUsedIn (pipeline_of before) now c.used) (inputs b.plan)
    used_in_new was st mv p q same there =
        subst (λ us. AllByRecursion (IsUsedIn (pipeline_of before) now us) (inputs b.plan)) (uses_new was st mv p q same there) (sound_begun before name j places sound at finds room).used_in

    ends_at_once : (o : Outcome) (g : GainsData) → Means b.inputs b.plan no_gains [] o g → EndsTo before (own c.job c.number (es ++ e ∷ []) (rs ++ r ∷ [])) c (moved_on before (done_with (pipeline_of before) b o g now) before.running)
    ends_at_once o g means (found, done, fresh) = by (found_end c.job c.number b.job b.number (status_of o) (pairs_of (pipeline_of before) now g.moved) c now.builds found)
      where
        by : IsEnded c.job c.number b.job b.number (status_of o) (pairs_of (pipeline_of before) now g.moved) c now.builds ⊎ (build_of c.job c.number now.builds ≡ Some c) → EndsSound (moved_on before (done_with (pipeline_of before) b o g now) before.running) (own c.job c.number (es ++ e ∷ []) (rs ++ r ∷ [])) c
        by (inr old) = absurd (fresh (c, was_there done old, done))
        by (inl (p, q, (was, same, there))) = record {
          meant = record {
            run = begun (pipeline_of before) before.history j places;
            outcome = o;
            gains = g;
            is_job = sym p;
            is_number = sym q;
            planned = (j, job_at name (pipeline_of before).jobs j at, refl);
            used = used_new was (status_of o) (pairs_of (pipeline_of before) now g.moved) p q same there;
            answered = not_answered p q;
            meant = means;
            status = ap (λ y. y.status) same;
            moved = ap (λ y. y.moved) same;
            once = fits_new o g means;
            passed = passed_by o c (ap (λ y. y.status) same);
          };
          right = right_new was (status_of o) (pairs_of (pipeline_of before) now g.moved) p q same there;
          got = (sound_begun before name j places sound at finds room).got;
          used_in = used_in_new was (status_of o) (pairs_of (pipeline_of before) now g.moved) p q same there;
        }

    ends_settled : (o : Option Outcome) (h : HistoryData) → Settles (pipeline_of before) now b o h → EndsTo before (own c.job c.number (es ++ e ∷ []) (rs ++ r ∷ [])) c (moved_on before h (with_made b o before.running))
    ends_settled None h (begins, waits, is) =
        λ ends. absurd (ends.2 (c, was_there ends.1 (ap (λ y. build_of c.job c.number y.builds) (sym is) ∙ ends.0), ends.1))
    ends_settled (Some o) h (g, means, is) =
        subst (λ y. EndsTo before (own c.job c.number (es ++ e ∷ []) (rs ++ r ∷ [])) c (moved_on before y before.running)) (sym is) (ends_at_once o g means)

    ends_made : (m : ℕ) (after : State) → Makes before j places m after → EndsTo before (own c.job c.number (es ++ e ∷ []) (rs ++ r ∷ [])) c after
    ends_made m after (number, (o, h, settles, to)) =
        subst (EndsTo before (own c.job c.number (es ++ e ∷ []) (rs ++ r ∷ [])) c) (sym to) (ends_settled o h settles)

  -- ---- each step
  ends_scheduled : (name : Text) (j : JobData) (r : Reply) (after : State) → job_of name (pipeline_of before).jobs ≡ Some j → ¬ (MOST_BUILDS ≤ length before.history.builds) → Schedules before j r after → (c : BuildData) → EndsIn before after c → EndsSound after (own c.job c.number (es ++ schedule name ∷ []) (rs ++ Ok r ∷ [])) c
  ends_scheduled name j (Made m) after at room (idle, (places, finds, news, makes)) c ends = ends_made (schedule name) (Ok (Made m)) (λ i n. refl) name j places at finds room c m after makes ends
  ends_scheduled name j NotNew after at room (idle, (places, finds, news, is)) c ends = absurd (none_ends before after c (ap (λ y. y.history.builds) is) ends)
  ends_scheduled name j r after at room (held, is) c ends = absurd (none_ends before after c (ap (λ y. y.history.builds) is) ends)

  ends_triggered : (name : Text) (j : JobData) (r : Reply) (after : State) → job_of name (pipeline_of before).jobs ≡ Some j → ¬ (MOST_BUILDS ≤ length before.history.builds) → Triggers before j r after → (c : BuildData) → EndsIn before after c → EndsSound after (own c.job c.number (es ++ trigger name ∷ []) (rs ++ Ok r ∷ [])) c
  ends_triggered name j (Made m) after at room (idle, (places, finds, makes)) c ends = ends_made (trigger name) (Ok (Made m)) (λ i n. refl) name j places at finds room c m after makes ends
  ends_triggered name j r after at room (held, is) c ends = absurd (none_ends before after c (ap (λ y. y.history.builds) is) ends)

  -- a build that goes on hasn't ended
  pub goes_on : (b : RunningData) (x : AnswerData) (after : State) → GoesOnWith before b x None after → after.history.builds ≡ before.history.builds
  goes_on b x after (a, next, (h, (begins, waits, is), to)) = ap (λ y. y.history.builds) to ∙ ap (λ y. y.builds) is ∙ pushed_builds (pipeline_of before) a x before.history

  ends_other : (e : EventData) (r : Reply) (after : State) → ((f : CoreFault) → ¬ MeetsBy before None e f) → DoesBy before None e r after → e ≢ restart → (c : BuildData) → EndsIn before after c → EndsSound after (own c.job c.number (es ++ e ∷ []) (rs ++ Ok r ∷ [])) c
  ends_other (set_pipeline p) Set after free is ne c ends = absurd (none_ends before after c (ap (λ y. y.history.builds) is) ends)
  ends_other (checked resource vs) (New n) after free (news, is) ne c ends = absurd (none_ends before after c (ap (λ y. y.history.builds) is ∙ report_builds (pipeline_of before) resource vs before.history) ends)
  ends_other (schedule job) r after free (j, at, how) ne c ends = ends_scheduled job j r after at (free TableFull) how c ends
  ends_other (trigger job) r after free (j, at, how) ne c ends = ends_triggered job j r after at (free TableFull) how c ends
  ends_other (pin resource p) Pinned after free is ne c ends = absurd (none_ends before after c (ap (λ y. y.history.builds) is) ends)
  ends_other (unpin resource) Unpinned after free is ne c ends = absurd (none_ends before after c (ap (λ y. y.history.builds) is) ends)
  ends_other (disable resource place) Disabled after free is ne c ends = absurd (none_ends before after c (ap (λ y. y.history.builds) is) ends)
  ends_other (enable resource place) Enabled after free is ne c ends = absurd (none_ends before after c (ap (λ y. y.history.builds) is) ends)
  ends_other restart r after free does ne c ends = absurd (ne refl)
  ends_other e r after free does ne c ends = absurd does

  ends_answered : (e : EventData) (w : AnswerTo) (r : Reply) (after : State) → addressed e ≡ Some w → Answers before w r after → (c : BuildData) → EndsIn before after c → EndsSound after (own c.job c.number (es ++ e ∷ []) (rs ++ Ok r ∷ [])) c
  ends_answered e w Goes after said (b, at, takes) c ends = absurd (none_ends before after c (goes_on b w.given after takes) ends)
  ends_answered e w (Ends o) after said (b, at, takes) c ends = ends_taken e w said b o c at after takes ends
  ends_answered e w r after said answers c ends = absurd answers

  pub ends_step : (e : EventData) (r : Replied) (after : State) → Step before e r after → e ≢ restart → (c : BuildData) → EndsIn before after c → EndsSound after (own c.job c.number (es ++ e ∷ []) (rs ++ r ∷ [])) c
  ends_step e (Ok r) after (free, does) ne c ends = by (addressed e) refl free does
    where
      by : (o : Option AnswerTo) → addressed e ≡ o → ((f : CoreFault) → ¬ MeetsBy before o e f) → DoesBy before o e r after → EndsSound after (own c.job c.number (es ++ e ∷ []) (rs ++ Ok r ∷ [])) c
      by (Some w) said free answers = ends_answered e w r after said answers c ends
      by None said free other = ends_other e r after free other ne c ends
  ends_step e (Err f) after (may, is) ne c ends = absurd (none_ends before after c (ap (λ y. y.history.builds) is) ends)

pub each_ends_as_meant : EachEndsAsMeant
each_ends_as_meant s before after es rs e r start up run step ne c ends = (ends_step s before es rs start up run e r after step ne c ends).meant

-- ---- a restart
cut_found : (j : Text) (n : ℕ) (c : BuildData) (bs : List RunningData) (h : HistoryData) → build_of j n (changed (map cut bs) h).builds ≡ Some c → ((c.status ≡ Errored) × (c.moved ≡ [])) ⊎ (build_of j n h.builds ≡ Some c)
cut_found j n c [] h e = inr e
cut_found j n c (b ∷ bs) h e = by (cut_found j n c bs (edited (cut b) h) e)
  where
    from : IsEnded j n b.job b.number Errored [] c h.builds ⊎ (build_of j n h.builds ≡ Some c) → ((c.status ≡ Errored) × (c.moved ≡ [])) ⊎ (build_of j n h.builds ≡ Some c)
    from (inl (p, q, (was, same, there))) = inl (ap (λ y. y.status) same, ap (λ y. y.moved) same)
    from (inr old) = inr old

    by : ((c.status ≡ Errored) × (c.moved ≡ [])) ⊎ (build_of j n (edited (cut b) h).builds ≡ Some c) → ((c.status ≡ Errored) × (c.moved ≡ [])) ⊎ (build_of j n h.builds ≡ Some c)
    by (inl done) = inl done
    by (inr found) = from (found_end j n b.job b.number Errored [] c h.builds found)

pub each_is_cut_short : EachIsCutShort
each_is_cut_short before after (Ok Restarted) (free, is) c (found, done, fresh) =
    by (cut_found c.job c.number c before.running before.history (ap (λ y. build_of c.job c.number y.history.builds) (sym is) ∙ found))
  where
    by : ((c.status ≡ Errored) × (c.moved ≡ [])) ⊎ (build_of c.job c.number before.history.builds ≡ Some c) → (c.status ≡ Errored) × (c.moved ≡ [])
    by (inl h) = h
    by (inr old) = absurd (fresh (c, old, done))
each_is_cut_short before after (Err f) (may, is) c ends = absurd (none_ends before after c (ap (λ y. y.history.builds) is) ends)
each_is_cut_short before after (Ok r) (free, does) c ends = absurd does

pub ends_agree : AnswersDecide → EndsAgree
ends_agree decide after later xs ys c d e f plan inputs same =
    let theirs : Means e.run.inputs e.run.plan no_gains f.run.exchanges f.outcome f.gains = subst (λ y. Means y e.run.plan no_gains f.run.exchanges f.outcome f.gains) (sym inputs) (subst (λ y. Means f.run.inputs y no_gains f.run.exchanges f.outcome f.gains) (sym plan) f.meant) in
    let (exchanges, outcomes, gains) = decide e.run.inputs e.run.plan e.run.exchanges f.run.exchanges e.outcome f.outcome e.gains f.gains e.meant theirs (e.answered ∙ same ∙ sym f.answered) in
    (exchanges, gains, e.status ∙ ap status_of outcomes ∙ sym f.status)
