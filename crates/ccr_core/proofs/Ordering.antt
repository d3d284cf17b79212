-- The builds that run stand in order of making.
use Rattle.std.proofs.Common.{◌≡◌, ℕ, zero, suc, ◌+◌, ◌≤◌, Bool, true, false, cond, List, [], ◌∷◌, ◌++◌, length, map, slice_get, Option, Some, None, option_map, Ok, Err, refl, sym, ap, ◌∙◌, subst, arith}
use Rattle.std.specs.List.{AllByRecursion}
use Rattle.std.proofs.lemmas.Option.{slice_get_within}
use Rattle.ccr_history.specs.declared.build.Status.{Status}
use Rattle.ccr_history.specs.Text.{Text}
use Rattle.ccr_history.specs.Builds.{BuildData, is_build_of, count_of, build_of, new_build, ended as ended_build, with_end}
use Rattle.ccr_history.specs.Changes.{changed}
use Rattle.ccr_pipeline.specs.Inputs.{inputs}
use Rattle.ccr_pipeline.specs.JobData.{JobData}
use Rattle.ccr_steps.specs.Asks.{AnswerData}
use Rattle.ccr_steps.specs.declared.outcome.Outcome.{Outcome}
use Rattle.ccr_core.specs.declared.reply.Reply.{Reply}
use Rattle.ccr_core.specs.declared.reply.Reply.TheVariants.{Set, New, Made, NotNew, Goes, Ends, Pinned, Unpinned, Disabled, Enabled, Restarted}
use Rattle.ccr_core.specs.Builds.{begun, history_with, Makes, with_answer, GoesOnWith}
use Rattle.ccr_core.specs.Choices.{used_at}
use Rattle.ccr_core.specs.Addressed.{AnswerTo, addressed}
use Rattle.ccr_core.specs.Events.{EventData, set_pipeline, checked, schedule, trigger, pin, unpin, disable, enable, restart}
use Rattle.ccr_core.specs.Holding.{CoreData, IsCore}
use Rattle.ccr_core.specs.Kept.{IsEvent}
use Rattle.ccr_core.specs.Picking.{name_of}
use Rattle.ccr_core.specs.Positions.{IsMadeAt, AreInOrder}
use Rattle.ccr_core.specs.Replies.{Replied}
use Rattle.ccr_core.specs.Seen.{pairs_of, report_by}
use Rattle.ccr_core.specs.State.{RunningData, State, pipeline_of, is_run_of, replaced, without}
use Rattle.ccr_core.specs.Steps.{Schedules, Triggers, Answers, DoesBy, Step, Run}
use Rattle.ccr_core.proofs.Keeping.{AreKnown, found_there, new_found}
use Rattle.ccr_core.proofs.Opening.{names_are}
use Rattle.ccr_core.proofs.RunningLists.{id_same}
use Rattle.ccr_core.proofs.Seeing.{report_builds, pushed_builds}
use Rattle.ccr_core.proofs.Sound.{IsSound, leaves_step, starts}

-- ---- positions, as builds are made and end
get_more : (bs : List BuildData) (x b : BuildData) (k : ℕ) → slice_get bs k ≡ Some b → slice_get (bs ++ x ∷ []) k ≡ Some b
get_more [] x b k e = absurd (cc e)
get_more (y ∷ bs) x b zero e = e
get_more (y ∷ bs) x b (suc k) e = get_more bs x b k e

get_last : (bs : List BuildData) (x : BuildData) → slice_get (bs ++ x ∷ []) (length bs) ≡ Some x
get_last [] x = refl
get_last (y ∷ bs) x = get_last bs x

made_more : (bs : List BuildData) (x : BuildData) (n : Text × ℕ) (k : ℕ) → IsMadeAt bs n.0 n.1 (Some k) → IsMadeAt (bs ++ x ∷ []) n.0 n.1 (Some k)
made_more bs x n k (b, at, found) = (b, get_more bs x b k at, found_there n.0 n.1 bs x b found)

module _ (job : Text) (number : ℕ) (st : Status) (mv : List (ℕ × ℕ)) where
  abbrev end_of : BuildData → BuildData
  end_of b = cond (is_build_of job number b) (ended_build st mv b) b

  get_end : (bs : List BuildData) (b : BuildData) (k : ℕ) → slice_get bs k ≡ Some b → slice_get (with_end job number st mv bs) k ≡ Some (end_of b)
  get_end [] b k e = absurd (cc e)
  get_end (y ∷ bs) b zero e = ap (option_map end_of) e
  get_end (y ∷ bs) b (suc k) e = get_end bs b k e

  found_end : (bs : List BuildData) (j : Text) (n : ℕ) (b : BuildData) → build_of j n bs ≡ Some b → build_of j n (with_end job number st mv bs) ≡ Some (end_of b)
  found_end [] j n b e = absurd (cc e)
  found_end (y ∷ bs) j n b e = same (is_build_of job number y) (Some (end_of y)) (build_of j n (with_end job number st mv bs)) ∙ by (is_build_of j n y) (found_end bs j n b) e
    where
      same : (t : Bool) (found rest : Option BuildData) → cond (is_build_of j n (cond t (ended_build st mv y) y)) found rest ≡ cond (is_build_of j n y) found rest
      same true found rest = refl
      same false found rest = refl

      by : (t : Bool) → (build_of j n bs ≡ Some b → build_of j n (with_end job number st mv bs) ≡ Some (end_of b)) → cond t (Some y) (build_of j n bs) ≡ Some b → cond t (Some (end_of y)) (build_of j n (with_end job number st mv bs)) ≡ Some (end_of b)
      by true more is = ap (option_map end_of) is
      by false more is = more is

  made_end : (bs : List BuildData) (n : Text × ℕ) (k : ℕ) → IsMadeAt bs n.0 n.1 (Some k) → IsMadeAt (with_end job number st mv bs) n.0 n.1 (Some k)
  made_end bs n k (b, at, found) = (end_of b, get_end bs b k at, found_end bs n.0 n.1 b found)

-- ---- the order, as builds come and go
order_kept : (bs cs : List BuildData) → ((n : Text × ℕ) (k : ℕ) → IsMadeAt bs n.0 n.1 (Some k) → IsMadeAt cs n.0 n.1 (Some k)) → (ns : List (Text × ℕ)) (least : ℕ) → AreInOrder bs least ns → AreInOrder cs least ns
order_kept bs cs f [] least h = tt
order_kept bs cs f (n ∷ ns) least (k, le, at, rest) = (k, le, f n k at, order_kept bs cs f ns (k + 1) rest)

order_lower : (bs : List BuildData) (ns : List (Text × ℕ)) (least less : ℕ) → less ≤ least → AreInOrder bs least ns → AreInOrder bs less ns
order_lower bs [] least less lower h = tt
order_lower bs (n ∷ ns) least less lower (k, le, at, rest) = (k, omega (arith, lower, le), at, rest)

order_less : (bs : List BuildData) (job : Text) (number : ℕ) (rs : List RunningData) (least : ℕ) → AreInOrder bs least (map name_of rs) → AreInOrder bs least (map name_of (without job number rs))
order_less bs job number [] least h = tt
order_less bs job number (b ∷ rs) least (k, le, at, rest) = by (is_run_of job number b) (order_less bs job number rs (k + 1) rest)
  where
    by : (t : Bool) → AreInOrder bs (k + 1) (map name_of (without job number rs)) → AreInOrder bs least (map name_of (cond t rs (b ∷ without job number rs)))
    by true more = order_lower bs (map name_of rs) (k + 1) least (omega (arith, le)) rest
    by false more = (k, le, at, more)

order_more : (bs : List BuildData) (x : BuildData) (rs : List RunningData) (b : RunningData) (least : ℕ) → least ≤ length bs → IsMadeAt (bs ++ x ∷ []) b.job b.number (Some (length bs)) → AreInOrder bs least (map name_of rs) → AreInOrder (bs ++ x ∷ []) least (map name_of (rs ++ b ∷ []))
order_more bs x [] b least le new h = (length bs, le, new, tt)
order_more bs x (r ∷ rs) b least le new (k, at_least, at, rest) =
    let within = slice_get_within bs k at.0 at.1 in
    (k, at_least, made_more bs x (name_of r) k at, order_more bs x rs b (k + 1) (omega (arith, within)) new rest)

names_replaced : (new : RunningData) (rs : List RunningData) → map name_of (replaced new rs) ≡ map name_of rs
names_replaced new [] = refl
names_replaced new (b ∷ rs) = by (is_run_of new.job new.number b) refl (names_replaced new rs)
  where
    by : (t : Bool) → is_run_of new.job new.number b ≡ t → map name_of (replaced new rs) ≡ map name_of rs → map name_of (cond t (new ∷ rs) (b ∷ replaced new rs)) ≡ map name_of (b ∷ rs)
    by true is more =
        let (p, q) = id_same new.job b.job new.number b.number is in
        ap (λ j. (j, new.number) ∷ map name_of rs) p ∙ ap (λ n. (b.job, n) ∷ map name_of rs) q
    by false is more = ap (λ l. name_of b ∷ l) more

-- ---- each step
-- the builds that run stand in order of making
abbrev IsOrdered : State → Type 0
IsOrdered s = AreInOrder s.history.builds 0 (map name_of s.running)

module _ (s : State) (ordered : IsOrdered s) where
  ordered_same : (bs : List BuildData) (rs : List RunningData) → bs ≡ s.history.builds → map name_of rs ≡ map name_of s.running → AreInOrder bs 0 (map name_of rs)
  ordered_same bs rs builds names = subst (λ y. AreInOrder y 0 (map name_of rs)) (sym builds) (subst (AreInOrder s.history.builds 0) (sym names) ordered)

  ordered_made : (j : JobData) (places : List ℕ) (number : ℕ) (after : State) → AreKnown s.history.builds s.history.builds → Makes s j places number after → IsOrdered after
  ordered_made j places number after known (is, (None, h, (begins, waits, same), to)) =
      let used = used_at (pipeline_of s) s.history (inputs j.plan) places in
      let x = new_build j.name (count_of j.name s.history.builds + 1) used in
      let b = begun (pipeline_of s) s.history j places in
      let none : 0 ≤ length s.history.builds = omega arith in
      subst IsOrdered (sym to)
      (subst (λ y. AreInOrder y.builds 0 (map name_of (s.running ++ b ∷ []))) (sym same)
      (order_more s.history.builds x s.running b 0 none (x, get_last s.history.builds x, new_found j.name used s.history.builds known) ordered))
  ordered_made j places number after known (is, (Some o, h, (g, means, same), to)) =
      let x = new_build j.name (count_of j.name s.history.builds + 1) (used_at (pipeline_of s) s.history (inputs j.plan) places) in
      let bs = s.history.builds ++ x ∷ [] in
      subst IsOrdered (sym to)
      (subst (λ y. AreInOrder y.builds 0 (map name_of s.running)) (sym same)
      (order_kept bs _ (made_end _ _ _ (pairs_of (pipeline_of s) (history_with (pipeline_of s) s.history j places) g.moved) bs) (map name_of s.running) 0
      (order_kept s.history.builds bs (made_more s.history.builds x) (map name_of s.running) 0 ordered)))

  ordered_taken : (b : RunningData) (x : AnswerData) (o : Option Outcome) (after : State) → GoesOnWith s b x o after → IsOrdered after
  ordered_taken b x None after (a, next, (h, (begins, waits, same), to)) =
      subst IsOrdered (sym to)
      (ordered_same h.builds (replaced (with_answer b a x) s.running) (ap (λ y. y.builds) same ∙ pushed_builds (pipeline_of s) a x s.history) (names_replaced (with_answer b a x) s.running))
  ordered_taken b x (Some o) after (a, next, (h, (g, means, same), to)) =
      let left = without b.job b.number s.running in
      let then = changed (report_by (pipeline_of s) a x) s.history in
      subst IsOrdered (sym to)
      (subst (λ y. AreInOrder y.builds 0 (map name_of left)) (sym same)
      (order_kept then.builds _ (made_end _ _ _ (pairs_of (pipeline_of s) then g.moved) then.builds) (map name_of left) 0
      (subst (λ y. AreInOrder y 0 (map name_of left)) (sym (pushed_builds (pipeline_of s) a x s.history))
      (order_less s.history.builds b.job b.number s.running 0 ordered))))

  ordered_scheduled : (j : JobData) (r : Reply) (after : State) → AreKnown s.history.builds s.history.builds → Schedules s j r after → IsOrdered after
  ordered_scheduled j (Made m) after known (idle, (places, finds, news, makes)) = ordered_made j places m after known makes
  ordered_scheduled j NotNew after known (idle, (places, finds, news, is)) = subst IsOrdered (sym is) ordered
  ordered_scheduled j r after known (held, is) = subst IsOrdered (sym is) ordered

  ordered_triggered : (j : JobData) (r : Reply) (after : State) → AreKnown s.history.builds s.history.builds → Triggers s j r after → IsOrdered after
  ordered_triggered j (Made m) after known (idle, (places, finds, makes)) = ordered_made j places m after known makes
  ordered_triggered j r after known (held, is) = subst IsOrdered (sym is) ordered

  ordered_answered : (a : AnswerTo) (r : Reply) (after : State) → Answers s a r after → IsOrdered after
  ordered_answered a Goes after (b, at, takes) = ordered_taken b a.given None after takes
  ordered_answered a (Ends o) after (b, at, takes) = ordered_taken b a.given (Some o) after takes
  ordered_answered a r after answers = absurd answers

  ordered_other : (e : EventData) (r : Reply) (after : State) → AreKnown s.history.builds s.history.builds → DoesBy s None e r after → IsOrdered after
  ordered_other (set_pipeline p) Set after known is = subst IsOrdered (sym is) ordered
  ordered_other (checked resource vs) (New n) after known (news, is) =
      subst IsOrdered (sym is) (ordered_same _ s.running (report_builds (pipeline_of s) resource vs s.history) refl)
  ordered_other (schedule job) r after known (j, at, how) = ordered_scheduled j r after known how
  ordered_other (trigger job) r after known (j, at, how) = ordered_triggered j r after known how
  ordered_other (pin resource p) Pinned after known is = subst IsOrdered (sym is) ordered
  ordered_other (unpin resource) Unpinned after known is = subst IsOrdered (sym is) ordered
  ordered_other (disable resource place) Disabled after known is = subst IsOrdered (sym is) ordered
  ordered_other (enable resource place) Enabled after known is = subst IsOrdered (sym is) ordered
  ordered_other restart Restarted after known is = subst IsOrdered (sym is) tt
  ordered_other e r after known does = absurd does

  ordered_step : (e : EventData) (r : Replied) (after : State) → AreKnown s.history.builds s.history.builds → Step s e r after → IsOrdered after
  ordered_step e (Ok r) after known (free, does) = by (addressed e) does
    where
      by : (o : Option AnswerTo) → DoesBy s o e r after → IsOrdered after
      by (Some a) answers = ordered_answered a r after answers
      by None other = ordered_other e r after known other
  ordered_step e (Err f) after known (may, is) = subst IsOrdered (sym is) ordered

-- ---- each run
ordered_run : (s : State) (es : List EventData) (rs : List Replied) (after : State) → AllByRecursion IsEvent es → IsSound s → IsOrdered s → Run s es rs after → IsOrdered after
ordered_run s [] [] after up k ordered h = subst IsOrdered (sym h) ordered
ordered_run s [] (r ∷ rs) after up k ordered h = absurd h
ordered_run s (e ∷ es) [] after up k ordered h = absurd h
ordered_run s (e ∷ es) (r ∷ rs) after up k ordered (mid, step, run) =
    ordered_run mid es rs after up.1 (leaves_step s e r mid up.0 k step).sound (ordered_step s ordered e r mid k.numbers step) run

pub running_ordered : (c : CoreData) → IsCore c → AreInOrder c.history.builds 0 c.names
running_ordered c core =
    let (start, es, rs, s, is, ups, run, stands) = core.reached in
    let none : IsOrdered start = subst (λ l. AreInOrder start.history.builds 0 (map name_of l)) (sym is.none_runs) tt in
    subst (λ h. AreInOrder h.builds 0 c.names) (sym stands.0)
    (subst (AreInOrder s.history.builds 0) (names_are c.names c.runs s.running stands.3)
    (ordered_run start es rs s ups (starts start is) none run))
