-- Limits are kept.
use Rattle.std.proofs.Common.{◌≡◌, ◌≢◌, ℕ, ◌+◌, ◌≤◌, Bool, true, false, cond, not, nat_le, ◌&&◌, ◌||◌, List, [], ◌∷◌, ◌++◌, Option, Some, None, Ok, Err, length, map, bytes_eq, refl, sym, ap, ◌∙◌, subst, arith, lit≤}
use Rattle.std.proofs.lemmas.Bool.{leb-false}
use Rattle.std.specs.List.{list_any, AllByRecursion}
use Rattle.std.specs.Option.{option_map_or}
use Rattle.std.proofs.lemmas.List.Sums.{sum_by-cons}
use Rattle.std.proofs.lemmas.Slice.Eq.{bytes_eq-Decides}
use Rattle.ccr_history.specs.Text.{Text}
use Rattle.ccr_history.specs.Changes.{changed}
use Rattle.ccr_history.specs.History.{HistoryData}
use Rattle.ccr_pipeline.specs.JobData.{JobData}
use Rattle.ccr_pipeline.specs.Names.{has_name}
use Rattle.ccr_steps.specs.Asks.{AnswerData}
use Rattle.ccr_steps.specs.declared.outcome.Outcome.{Outcome}
use Rattle.ccr_core.specs.declared.fault.CoreFault.{CoreFault}
use Rattle.ccr_core.specs.declared.fault.CoreFault.TheVariants.{TooManyOpen}
use Rattle.ccr_core.specs.declared.limit.TheConstants.{MOST_RUNNING}
use Rattle.ccr_core.specs.declared.reply.Reply.{Reply}
use Rattle.ccr_core.specs.declared.reply.Reply.TheVariants.{Set, New, Made, NotNew, Goes, Ends, Pinned, Unpinned, Disabled, Enabled, Restarted}
use Rattle.ccr_problem.specs.ProblemOf.{job_of}
use Rattle.ccr_core.specs.Builds.{begun, with_made, Makes, with_answer, with_answered, GoesOnWith, cut}
use Rattle.ccr_core.specs.Busy.{running_of, share, is_shut_out, is_busy}
use Rattle.ccr_problem.specs.Limit.{limit_of, has_reached}
use Rattle.ccr_core.specs.Addressed.{AnswerTo, addressed}
use Rattle.ccr_core.specs.Events.{EventData, set_pipeline, checked, schedule, trigger, pin, unpin, disable, enable, restart}
use Rattle.ccr_core.specs.Faults.{MeetsBy}
use Rattle.ccr_core.specs.Limits.{IsWithin, Runs, IsLimited, LimitsAreKept}
use Rattle.ccr_core.specs.Replies.{Replied}
use Rattle.ccr_core.specs.State.{RunningData, State, pipeline_of, moved_on, with_history, is_run_of, replaced, without}
use Rattle.ccr_core.specs.Steps.{with_pipeline, Schedules, Triggers, Answers, DoesBy, Step, Run}
use Rattle.ccr_core.proofs.RunningLists.{all_weaker, id_same}
use Rattle.ccr_core.proofs.Owning.{job_at, none_runs}

-- ---- how many run
run_cons : (name : Text) (b : RunningData) (bs : List RunningData) → running_of name (b ∷ bs) ≡ cond (bytes_eq name b.job) 1 0 + running_of name bs
run_cons name b bs = sum_by-cons (λ x. cond (bytes_eq name x.job) 1 0) b bs

run_more : (name : Text) (bs : List RunningData) (b : RunningData) → running_of name (bs ++ b ∷ []) ≡ running_of name bs + cond (bytes_eq name b.job) 1 0
run_more name [] b = run_cons name b [] ∙ omega arith
run_more name (x ∷ bs) b =
    let first = run_cons name x (bs ++ b ∷ []) in
    let rest = run_more name bs b in
    let whole = run_cons name x bs in
    omega (arith, first, rest, whole)

length_more : (bs : List RunningData) (b : RunningData) → length (bs ++ b ∷ []) ≡ length bs + 1
length_more [] b = omega arith
length_more (x ∷ bs) b = let e = length_more bs b in omega (arith, e)

module _ (new : RunningData) where
  with_by : (name : Text) (x : RunningData) (t : Bool) (bs : List RunningData) → is_run_of new.job new.number x ≡ t → running_of name (replaced new bs) ≡ running_of name bs → running_of name (cond t (new ∷ bs) (x ∷ replaced new bs)) ≡ running_of name (x ∷ bs)
  with_by name x true bs is e = let (p, q) = id_same new.job x.job new.number x.number is in run_cons name new bs ∙ ap (λ y. cond (bytes_eq name y) 1 0 + running_of name bs) p ∙ sym (run_cons name x bs)
  with_by name x false bs is e = run_cons name x (replaced new bs) ∙ ap (λ k. cond (bytes_eq name x.job) 1 0 + k) e ∙ sym (run_cons name x bs)

  run_with : (name : Text) (bs : List RunningData) → running_of name (replaced new bs) ≡ running_of name bs
  run_with name [] = refl
  run_with name (x ∷ bs) = with_by name x (is_run_of new.job new.number x) bs refl (run_with name bs)

  length_by : (x : RunningData) (t : Bool) (bs : List RunningData) → length (replaced new bs) ≡ length bs → length (cond t (new ∷ bs) (x ∷ replaced new bs)) ≡ length (x ∷ bs)
  length_by x true bs e = refl
  length_by x false bs e = omega (arith, e)

  length_with : (bs : List RunningData) → length (replaced new bs) ≡ length bs
  length_with [] = refl
  length_with (x ∷ bs) = length_by x (is_run_of new.job new.number x) bs (length_with bs)

module _ (j : Text) (n : ℕ) where
  less_by : (name : Text) (x : RunningData) (t : Bool) (bs : List RunningData) → running_of name (without j n bs) ≤ running_of name bs → running_of name (cond t bs (x ∷ without j n bs)) ≤ running_of name (x ∷ bs)
  less_by name x true bs e = let c = run_cons name x bs in omega (arith, c)
  less_by name x false bs e = let c = run_cons name x bs in let d = run_cons name x (without j n bs) in omega (arith, c, d, e)

  run_less : (name : Text) (bs : List RunningData) → running_of name (without j n bs) ≤ running_of name bs
  run_less name [] = omega arith
  run_less name (x ∷ bs) = less_by name x (is_run_of j n x) bs (run_less name bs)

  short_by : (x : RunningData) (t : Bool) (bs : List RunningData) → length (without j n bs) ≤ length bs → length (cond t bs (x ∷ without j n bs)) ≤ length (x ∷ bs)
  short_by x true bs e = omega arith
  short_by x false bs e = omega (arith, e)

  length_less : (bs : List RunningData) → length (without j n bs) ≤ length bs
  length_less [] = omega arith
  length_less (x ∷ bs) = short_by x (is_run_of j n x) bs (length_less bs)

-- ---- limits of numbers
within_less : (l : Option ℕ) (m n : ℕ) → n ≤ m → IsWithin l m → IsWithin l n
within_less None m n le w = w
within_less (Some k) m n le w = omega (arith, le, w)

reached_by : (m n : ℕ) → nat_le m n ≡ false → n + 1 ≤ m
reached_by m n e = let lt = leb-false m n e in omega (arith, lt)

within_next : (l : Option ℕ) (n : ℕ) → has_reached l n ≡ false → IsWithin l (n + 1)
within_next None n e = tt
within_next (Some m) n e = reached_by m n e

within_none : (l : Option ℕ) → IsWithin l 0
within_none None = tt
within_none (Some m) = omega arith

-- fewer builds run
limited_less : (s : State) (h : HistoryData) (running : List RunningData) → length running ≤ length s.running → ((name : Text) → running_of name running ≤ running_of name s.running) → IsLimited s → IsLimited (moved_on s h running)
limited_less s h running len le l = record {
  few = let f = l.few in omega (arith, f, len);
  each = λ name j e. within_less (limit_of j) (running_of name s.running) (running_of name running) (le name) (l.each name j e);
  apart = λ name other j k e d ne sh rn ro. l.apart name other j k e d ne sh (λ z. let m = le name in rn (omega (arith, z, m))) (λ z. let m = le other in ro (omega (arith, z, m)));
}

-- none runs
limited_none : (s : State) → s.running ≡ [] → IsLimited s
limited_none s e = record {
  few = subst (λ l. length l ≤ MOST_RUNNING) (sym e) (lit≤ tt);
  each = λ name j at. subst (λ l. IsWithin (limit_of j) (running_of name l)) (sym e) (within_none (limit_of j));
  apart = λ name other j k at bt ne sh rn ro. rn (ap (running_of name) e);
}

-- ---- groups
or_left : (p q : Bool) → p ≡ true → (p || q) ≡ true
or_left p q e = ap (λ t. t || q) e

or_right : (p q : Bool) → q ≡ true → (p || q) ≡ true
or_right true q e = refl
or_right false q e = e

or_false : (p q : Bool) → (p || q) ≡ false → (p ≡ false) × (q ≡ false)
or_false true q e = absurd (cc (e))
or_false false q e = (refl, e)

all_has : (js : List Text) → AllByRecursion (λ g. has_name js g ≡ true) js
all_has [] = tt
all_has (g ∷ gs) = (or_left (bytes_eq g g) (has_name gs g) ((bytes_eq-Decides g g).1 refl), all_weaker (λ x h. or_right (bytes_eq x g) (has_name gs x) h) gs (all_has gs))

one_back : (js : List Text) (g : Text) → has_name js g ≡ true → (ks : List Text) → has_name ks g ≡ true → list_any (has_name js) ks ≡ true
one_back js g h [] e = absurd (cc (e))
one_back js g h (k ∷ ks) e = by (bytes_eq g k) refl (one_back js g h ks) e
  where
    by : (t : Bool) → bytes_eq g k ≡ t → (has_name ks g ≡ true → list_any (has_name js) ks ≡ true) → (t || has_name ks g) ≡ true → list_any (has_name js) (k ∷ ks) ≡ true
    by true is more e = or_left (has_name js k) (list_any (has_name js) ks) (subst (λ y. has_name js y ≡ true) ((bytes_eq-Decides g k).0 is) h)
    by false is more e = or_right (has_name js k) (list_any (has_name js) ks) (more e)

any_back : (js ks : List Text) (gs : List Text) → AllByRecursion (λ g. has_name js g ≡ true) gs → list_any (has_name ks) gs ≡ true → list_any (has_name js) ks ≡ true
any_back js ks [] h e = absurd (cc (e))
any_back js ks (g ∷ gs) h e = by (has_name ks g) refl (any_back js ks gs h.1) e
  where
    by : (t : Bool) → has_name ks g ≡ t → (list_any (has_name ks) gs ≡ true → list_any (has_name js) ks ≡ true) → (t || list_any (has_name ks) gs) ≡ true → list_any (has_name js) ks ≡ true
    by true is more e = one_back js g h.0 ks is
    by false is more e = more e

-- sharing a group goes both ways
share_back : (j k : JobData) → share j k ≡ true → share k j ≡ true
share_back j k e = any_back j.serial_groups k.serial_groups j.serial_groups (all_has j.serial_groups) e

-- a build that runs of a job in the same group shuts a job out
module _ (jobs : List JobData) (j k : JobData) (other : Text) (at : job_of other jobs ≡ Some k) (sh : share j k ≡ true) (ne : j.name ≢ other) where
  shuts : (b : RunningData) → other ≡ b.job → (t : Bool) → bytes_eq j.name b.job ≡ t → (not t && option_map_or (share j) (job_of b.job jobs) false) ≡ true
  shuts b is true e = absurd (ne ((bytes_eq-Decides j.name b.job).0 e ∙ sym is))
  shuts b is false e = ap (λ y. option_map_or (share j) (job_of y jobs) false) (sym is) ∙ ap (λ o. option_map_or (share j) o false) at ∙ sh

  shut_by_one : (running : List RunningData) → Runs other running → is_shut_out jobs j running ≡ true
  shut_by_one [] r = absurd (r refl)
  shut_by_one (b ∷ bs) r = by (bytes_eq other b.job) refl (shut_by_one bs)
    where
      by : (t : Bool) → bytes_eq other b.job ≡ t → (Runs other bs → is_shut_out jobs j bs ≡ true) → is_shut_out jobs j (b ∷ bs) ≡ true
      by true is more = or_left (not (bytes_eq j.name b.job) && option_map_or (share j) (job_of b.job jobs) false) (is_shut_out jobs j bs) (shuts b ((bytes_eq-Decides other b.job).0 is) (bytes_eq j.name b.job) refl)
      by false is more = or_right (not (bytes_eq j.name b.job) && option_map_or (share j) (job_of b.job jobs) false) (is_shut_out jobs j bs) (more (λ z. r (run_cons other b bs ∙ ap (λ t. cond t 1 0 + running_of other bs) is ∙ omega (arith, z))))

-- ---- a build of a job that isn't busy is made
module _ (s : State) (h : HistoryData) (b : RunningData) (j : JobData) (l : IsLimited s) (at : job_of b.job (pipeline_of s).jobs ≡ Some j) (named : j.name ≡ b.job) (idle : is_busy (pipeline_of s).jobs j s.running ≡ false) (room : ¬ (MOST_RUNNING ≤ length s.running)) where
  not_reached : has_reached (limit_of j) (running_of j.name s.running) ≡ false
  not_reached = (or_false (has_reached (limit_of j) (running_of j.name s.running)) (is_shut_out (pipeline_of s).jobs j s.running) idle).0

  not_shut : is_shut_out (pipeline_of s).jobs j s.running ≡ false
  not_shut = (or_false (has_reached (limit_of j) (running_of j.name s.running)) (is_shut_out (pipeline_of s).jobs j s.running) idle).1

  same_job : (name : Text) (k : JobData) → name ≡ b.job → job_of name (pipeline_of s).jobs ≡ Some k → k ≡ j
  same_job name k is e = let both : Some k ≡ Some j = sym e ∙ ap (λ y. job_of y (pipeline_of s).jobs) is ∙ at in cc both

  each_by : (name : Text) (k : JobData) (t : Bool) → bytes_eq name b.job ≡ t → job_of name (pipeline_of s).jobs ≡ Some k → IsWithin (limit_of k) (running_of name (s.running ++ b ∷ []))
  each_by name k true is e =
      let p = (bytes_eq-Decides name b.job).0 is in
      let next = within_next (limit_of j) (running_of j.name s.running) not_reached in
      subst (λ y. IsWithin (limit_of y) (running_of name (s.running ++ b ∷ []))) (sym (same_job name k p e))
      (subst (IsWithin (limit_of j)) (ap (λ y. running_of y s.running + 1) (named ∙ sym p) ∙ sym (run_more name s.running b ∙ ap (λ t. running_of name s.running + cond t 1 0) is)) next)
  each_by name k false is e = subst (IsWithin (limit_of k)) (sym (run_more name s.running b ∙ ap (λ t. running_of name s.running + cond t 1 0) is ∙ omega arith)) (l.each name k e)

  old_runs : (name : Text) → bytes_eq name b.job ≡ false → Runs name (s.running ++ b ∷ []) → Runs name s.running
  old_runs name is r z = r (run_more name s.running b ∙ ap (λ t. running_of name s.running + cond t 1 0) is ∙ omega (arith, z))

  -- no other job in one of the groups runs
  clash : (name : Text) (k : JobData) → job_of name (pipeline_of s).jobs ≡ Some k → share j k ≡ true → name ≢ b.job → Runs name s.running → ⊥
  clash name k e sh ne r =
      let yes = shut_by_one (pipeline_of s).jobs j k name e sh (λ q. ne (sym q ∙ named)) s.running r in
      let both : true ≡ false = sym yes ∙ not_shut in cc both

  apart_by : (name other : Text) (k i : JobData) (t u : Bool) → bytes_eq name b.job ≡ t → bytes_eq other b.job ≡ u → job_of name (pipeline_of s).jobs ≡ Some k → job_of other (pipeline_of s).jobs ≡ Some i → name ≢ other → share k i ≡ true → Runs name (s.running ++ b ∷ []) → Runs other (s.running ++ b ∷ []) → ⊥
  apart_by name other k i true true is us e d ne sh rn ro = ne ((bytes_eq-Decides name b.job).0 is ∙ sym ((bytes_eq-Decides other b.job).0 us))
  apart_by name other k i false false is us e d ne sh rn ro = l.apart name other k i e d ne sh (old_runs name is rn) (old_runs other us ro)
  apart_by name other k i true false is us e d ne sh rn ro =
      let p = (bytes_eq-Decides name b.job).0 is in
      clash other i d (subst (λ y. share y i ≡ true) (same_job name k p e) sh) (λ q. ne (p ∙ sym q)) (old_runs other us ro)
  apart_by name other k i false true is us e d ne sh rn ro =
      let p = (bytes_eq-Decides other b.job).0 us in
      clash name k e (share_back k j (subst (λ y. share k y ≡ true) (same_job other i p d) sh)) (λ q. ne (q ∙ sym p)) (old_runs name is rn)

  limited_more : IsLimited (moved_on s h (s.running ++ b ∷ []))
  limited_more = record {
    few = let m = length_more s.running b in omega (arith, m, room);
    each = λ name k e. each_by name k (bytes_eq name b.job) refl e;
    apart = λ name other k i e d ne sh rn ro. apart_by name other k i (bytes_eq name b.job) (bytes_eq other b.job) refl refl e d ne sh rn ro;
  }

-- ---- each step keeps them
limited_history : (s : State) (h : HistoryData) → IsLimited s → IsLimited (with_history s h)
limited_history s h l = limited_less s h s.running (omega arith) (λ name. omega arith) l

limited_made : (s : State) (name : Text) (j : JobData) (places : List ℕ) (m : ℕ) (after : State) → IsLimited s → job_of name (pipeline_of s).jobs ≡ Some j → is_busy (pipeline_of s).jobs j s.running ≡ false → ¬ (MOST_RUNNING ≤ length s.running) → Makes s j places m after → IsLimited after
limited_made s name j places m after l at idle room (number, (o, h, settles, is)) = subst IsLimited (sym is) (by o)
  where
    by : (o : Option Outcome) → IsLimited (moved_on s h (with_made (begun (pipeline_of s) s.history j places) o s.running))
    by None = limited_more s h (begun (pipeline_of s) s.history j places) j l (job_at name (pipeline_of s).jobs j at) refl idle room
    by (Some o) = limited_history s h l

limited_taken : (s : State) (b : RunningData) (x : AnswerData) (o : Option Outcome) (after : State) → IsLimited s → GoesOnWith s b x o after → IsLimited after
limited_taken s b x o after l (a, next, (h, settles, is)) = subst IsLimited (sym is) (by o)
  where
    by : (o : Option Outcome) → IsLimited (moved_on s h (with_answered (with_answer b a x) o s.running))
    by None = limited_less s h (replaced (with_answer b a x) s.running) (let e = length_with (with_answer b a x) s.running in omega (arith, e)) (λ name. let e = run_with (with_answer b a x) name s.running in omega (arith, e)) l
    by (Some o) = limited_less s h (without b.job b.number s.running) (length_less b.job b.number s.running) (λ name. run_less b.job b.number name s.running) l

limited_scheduled : (s : State) (name : Text) (j : JobData) (r : Reply) (after : State) → IsLimited s → job_of name (pipeline_of s).jobs ≡ Some j → ¬ (MOST_RUNNING ≤ length s.running) → Schedules s j r after → IsLimited after
limited_scheduled s name j (Made m) after l at room (idle, (places, finds, news, makes)) = limited_made s name j places m after l at idle room makes
limited_scheduled s name j NotNew after l at room (idle, (places, finds, news, is)) = subst IsLimited (sym is) l
limited_scheduled s name j r after l at room (held, is) = subst IsLimited (sym is) l

limited_triggered : (s : State) (name : Text) (j : JobData) (r : Reply) (after : State) → IsLimited s → job_of name (pipeline_of s).jobs ≡ Some j → ¬ (MOST_RUNNING ≤ length s.running) → Triggers s j r after → IsLimited after
limited_triggered s name j (Made m) after l at room (idle, (places, finds, makes)) = limited_made s name j places m after l at idle room makes
limited_triggered s name j r after l at room (held, is) = subst IsLimited (sym is) l

limited_answered : (s : State) (a : AnswerTo) (r : Reply) (after : State) → IsLimited s → Answers s a r after → IsLimited after
limited_answered s a Goes after l (b, at, takes) = limited_taken s b a.given None after l takes
limited_answered s a (Ends o) after l (b, at, takes) = limited_taken s b a.given (Some o) after l takes
limited_answered s a r after l answers = absurd answers

limited_other : (s : State) (e : EventData) (r : Reply) (after : State) → IsLimited s → ((f : CoreFault) → ¬ MeetsBy s None e f) → DoesBy s None e r after → IsLimited after
limited_other s (set_pipeline p) Set after l free is = subst IsLimited (sym is) (limited_none (with_pipeline s p) (none_runs s p free))
limited_other s (checked resource vs) (New n) after l free (news, is) = subst IsLimited (sym is) (limited_history s _ l)
limited_other s (schedule job) r after l free (j, at, how) = limited_scheduled s job j r after l at (free TooManyOpen) how
limited_other s (trigger job) r after l free (j, at, how) = limited_triggered s job j r after l at (free TooManyOpen) how
limited_other s (pin resource p) Pinned after l free is = subst IsLimited (sym is) (limited_history s _ l)
limited_other s (unpin resource) Unpinned after l free is = subst IsLimited (sym is) (limited_history s _ l)
limited_other s (disable resource place) Disabled after l free is = subst IsLimited (sym is) (limited_history s _ l)
limited_other s (enable resource place) Enabled after l free is = subst IsLimited (sym is) (limited_history s _ l)
limited_other s restart Restarted after l free is = subst IsLimited (sym is) (limited_none (moved_on s (changed (map cut s.running) s.history) []) refl)
limited_other s e r after l free does = absurd does

limited_step : (s : State) (e : EventData) (r : Replied) (after : State) → IsLimited s → Step s e r after → IsLimited after
limited_step s e (Ok r) after l (free, does) = by (addressed e) free does
  where
    by : (o : Option AnswerTo) → ((f : CoreFault) → ¬ MeetsBy s o e f) → DoesBy s o e r after → IsLimited after
    by (Some a) free answers = limited_answered s a r after l answers
    by None free other = limited_other s e r after l free other
limited_step s e (Err f) after l (may, is) = subst IsLimited (sym is) l

limited_run : (s : State) (es : List EventData) (rs : List Replied) (after : State) → IsLimited s → Run s es rs after → IsLimited after
limited_run s [] [] after l h = subst IsLimited (sym h) l
limited_run s [] (r ∷ rs) after l h = absurd h
limited_run s (e ∷ es) [] after l h = absurd h
limited_run s (e ∷ es) (r ∷ rs) after l (mid, step, run) = limited_run mid es rs after (limited_step s e r mid l step) run

pub limits_are_kept : LimitsAreKept
limits_are_kept s after es rs e run = limited_run s es rs after (limited_none s e) run
