-- Each change that a step makes is one that the history takes.
use Rattle.std.proofs.Common.{◌≡◌, ◌≢◌, ℕ, ◌+◌, ◌<◌, ◌≤◌, Bool, true, false, cond, ◌||◌, List, [], ◌∷◌, ◌++◌, length, map, Option, Some, None, IsSomeAnd, Ok, Err, bytes_eq, refl, sym, ap, ◌∙◌, subst, arith, IsTrue}
use Rattle.std.specs.Prelude.{⊤}
use Rattle.std.specs.List.{AllByRecursion}
use Rattle.std.specs.Option.{option_map_or}
use Rattle.std.proofs.lemmas.List.Elements.{recursion_from_All}
use Rattle.ccr_history.specs.declared.build.Status.TheVariants.{Running, Errored}
use Rattle.ccr_history.specs.declared.builds.TheConstants.{MOST_BUILDS}
use Rattle.ccr_history.specs.Text.{Text}
use Rattle.ccr_history.specs.TextMap.{TextMap, IsAscending}
use Rattle.ccr_history.specs.Tables.{has_version, versions_of, is_table_full}
use Rattle.ccr_history.specs.Builds.{BuildData, count_of, build_of, new_build}
use Rattle.ccr_history.specs.Changes.{EditData, text, versions, build, ended, pin_set, pin_cleared, disabled, enabled, edited, changed, IsRunning, Admits, AdmitsAll}
use Rattle.ccr_history.specs.History.{HistoryData, has_place}
use Rattle.ccr_pipeline.specs.Inputs.{inputs}
use Rattle.ccr_pipeline.specs.JobData.{ResourceData, JobData}
use Rattle.ccr_pipeline.specs.Kinds.{is_name}
use Rattle.ccr_pipeline.specs.Limits.{IsPlan, names}
use Rattle.ccr_pipeline.specs.Links.{IsLinked, used_resources, resource_names, job_names}
use Rattle.ccr_pipeline.specs.Names.{has_name}
use Rattle.ccr_pipeline.specs.Pipelines.{PipelineData}
use Rattle.ccr_steps.specs.Asks.{AskData, push, AnswerData, pushed, exchange}
use Rattle.ccr_steps.specs.Gains.{GainsData, no_gains}
use Rattle.ccr_steps.specs.Means.{Means}
use Rattle.ccr_steps.specs.Progress.{IsAllowed, Begins, IsNext}
use Rattle.ccr_steps.specs.declared.outcome.Outcome.{Outcome}
use Rattle.ccr_steps.specs.declared.outcome.Outcome.TheVariants as outcome
use Rattle.ccr_choice.specs.Satisfies.{Satisfies}
use Rattle.ccr_core.specs.declared.fault.CoreFault.{CoreFault}
use Rattle.ccr_core.specs.declared.fault.CoreFault.TheVariants.{TableFull, NoVersion}
use Rattle.ccr_core.specs.declared.reply.Reply.{Reply}
use Rattle.ccr_core.specs.declared.reply.Reply.TheVariants.{Set, New, Made, NotNew, Goes, Ends, Pinned, Unpinned, Disabled, Enabled, Restarted}
use Rattle.ccr_problem.specs.ProblemOf.{resource_of, scope_of, job_of, problem_with}
use Rattle.ccr_core.specs.Builds.{status_of, begun, history_with, Makes, with_answer, GoesOnWith, cut}
use Rattle.ccr_core.specs.Choices.{best, Finds, used_at}
use Rattle.ccr_core.specs.Addressed.{AnswerTo, addressed}
use Rattle.ccr_core.specs.Events.{EventData, set_pipeline, checked, schedule, trigger, pin, unpin, disable, enable, restart}
use Rattle.ccr_core.specs.Faults.{PushOverfills, AnswerMeets, MeetsBy}
use Rattle.ccr_core.specs.Edits.{AreBuildEdits, AreNextEdits, AreAnswerEdits, AreSaidEdits, AreMadeEdits, AreEditsBy, AreEdits, AreTakenTo, news_in}
use Rattle.ccr_core.specs.Kept.{IsPipeline, IsAnswer, IsEventBy, IsEvent, IsStart, AreTaken, EachChangeIsTaken}
use Rattle.ccr_core.specs.Replies.{Replied}
use Rattle.ccr_core.specs.Seen.{pairs_of, is_used_for, report, Overfills, pushed_by, report_by}
use Rattle.ccr_core.specs.State.{RunningData, State, pipeline_of, moved_on, with_history, running_at, replaced, without, scope_in}
use Rattle.ccr_core.specs.Steps.{with_pipeline, Schedules, Triggers, Answers, DoesBy, Step, Run}
use Rattle.ccr_core.proofs.Choosing.{IsSeen, ArePlaced, satisfied_placed, chosen_seen, are_used}
use Rattle.ccr_core.proofs.Counting.{count_edited, fresh}
use Rattle.ccr_core.proofs.Keeping.{AreKnown, known_start, known_new, known_end, number_known, new_found, found_there, found_other}
use Rattle.ccr_core.proofs.Moving.{IsPushed, ArePushed, IsGot}
use Rattle.ccr_core.proofs.Naming.{inputs_named}
use Rattle.ccr_core.proofs.News.{IsSame, news_report, news_push}
use Rattle.ccr_core.proofs.Owning.{job_at, none_runs}
use Rattle.ccr_core.proofs.Placing.{IsKnown, moved_fit}
use Rattle.ccr_core.proofs.RunningLists.{all_weaker, all_append, all_both, id_flip, IsApart, apart_with, apart_less, apart_more, none_all, all_with, all_less, all_at}
use Rattle.ccr_core.proofs.Scoping.{IsUsedIn, used_in_changed, begun_used_in}
use Rattle.ccr_core.proofs.Seeing.{has_report, has_changed, report_builds, pushed_builds}
use Rattle.ccr_core.proofs.Using.{IsRight, right_changed, begun_right, begun_each}

-- ---- changes, one after another
changed_more : (es fs : List EditData) (h : HistoryData) → changed (es ++ fs) h ≡ changed fs (changed es h)
changed_more [] fs h = refl
changed_more (e ∷ es) fs h = changed_more es fs (edited e h)

takes_more : (es fs : List EditData) (h : HistoryData) → AdmitsAll h es → AdmitsAll (changed es h) fs → AdmitsAll h (es ++ fs)
takes_more [] fs h first then = then
takes_more (e ∷ es) fs h first then = (first.0, takes_more es fs (edited e h) first.1 then)

-- changes that come to the same, and then more
taken_then : (h : HistoryData) (es fs more : List EditData) → IsSame h es fs → AdmitsAll (changed es h) more → AdmitsAll h (fs ++ more) × (changed more (changed es h) ≡ changed (fs ++ more) h)
taken_then h es fs more (takes, same) then =
    (takes_more fs more h takes (subst (λ y. AdmitsAll y more) (sym same) then), ap (changed more) (sym same) ∙ sym (changed_more fs more h))

-- ---- what holds of a build that runs
-- the history has it, running, and its inputs are the versions at the places that it used
abbrev pub IsStored : HistoryData → RunningData → Type 0
IsStored h b =
    (c : BuildData) × (build_of b.job b.number h.builds ≡ Some c) × (c.status ≡ Running)
    × AllByRecursion (IsRight h.tables b.inputs) c.used × AllByRecursion (λ i. is_used_for c.used i.0 ≡ true) b.inputs

pub is_running : (h : HistoryData) (b : RunningData) → IsStored h b → IsRunning b.job b.number h.builds
is_running h b (c, found, runs, right, each) = (c, found, runs)

pub record IsSoundBuild (p : PipelineData) (h : HistoryData) (b : RunningData) : Type 0 where
  pub held : IsStored h b
  pub got : AllByRecursion (IsGot (IsSeen p h) b.inputs) (inputs b.plan)
  pub known : AllByRecursion (IsKnown p) (used_resources b.plan)
  pub pushes : ArePushed (IsKnown p) (IsSeen p h) b.exchanges
  pub used_in : AllByRecursion (IsUsedIn p h held.0.used) (inputs b.plan)

pub record IsSound (s : State) : Type 0 where
  pub piped : IsPipeline (pipeline_of s)
  pub numbers : AreKnown s.history.builds s.history.builds
  pub apart : IsApart s.running
  pub each : AllByRecursion (IsSoundBuild (pipeline_of s) s.history) s.running

-- what a step leaves, whose edits are such
pub record Leaves (E : List EditData → Type 0) (before after : State) : Type 0 where
  pub sound : IsSound after
  pub taken : (edits : List EditData) × E edits × AreTakenTo before edits after

leaves_as : (E F : List EditData → Type 0) (before after : State) → ((edits : List EditData) → E edits → F edits) → Leaves E before after → Leaves F before after
leaves_as E F before after on l = record { sound = l.sound; taken = (let (edits, is, to) = l.taken in (edits, on edits is, to)) }

module _ (p : PipelineData) (h : HistoryData) (es : List EditData) where
  pushed_on : (o : Option (Text × TextMap)) → IsPushed (IsKnown p) (IsSeen p h) o → IsPushed (IsKnown p) (IsSeen p (changed es h)) o
  pushed_on None f = tt
  pushed_on (Some m) f = λ u. (let (x, at, has) = f u in (x, at, has_changed (scope_of x) m.1 es h has))

  -- changes leave what holds of a build, if it still runs
  build_on : (b : RunningData) → ((c : BuildData) → build_of b.job b.number h.builds ≡ Some c → build_of b.job b.number (changed es h).builds ≡ Some c) → IsSoundBuild p h b → IsSoundBuild p (changed es h) b
  build_on b on sb = record {
    held = (let (c, found, runs, right, each) = sb.held in (c, on c found, runs, all_weaker (λ u r. right_changed es h b.inputs u r) c.used right, each));
    got = all_weaker (λ i seen. (let (x, at, has) = seen in (x, at, has_changed (scope_of x) _ es h has))) (inputs b.plan) sb.got;
    known = sb.known;
    pushes = all_weaker (λ e f. pushed_on (pushed_by e.ask e.answer) f) b.exchanges sb.pushes;
    used_in = all_both (λ i seen used. used_in_changed p es h b.inputs sb.held.0.used i seen used) (inputs b.plan) sb.got sb.used_in;
  }

-- what holds of the number of a build that runs
numbers_known : (s : State) → IsSound s → AllByRecursion (λ b. b.number ≤ count_of b.job s.history.builds) s.running
numbers_known s k = all_weaker (λ b sb. number_known s.history.builds b.job b.number k.numbers (is_running s.history b sb.held)) s.running k.each

sound_history : (s : State) (es : List EditData) → (changed es s.history).builds ≡ s.history.builds → IsSound s → IsSound (with_history s (changed es s.history))
sound_history s es same k = record {
  piped = k.piped;
  numbers = subst (λ bs. AreKnown bs bs) (sym same) k.numbers;
  apart = k.apart;
  each = all_weaker (λ b sb. build_on (pipeline_of s) s.history es b (λ c found. ap (build_of b.job b.number) same ∙ found) sb) s.running k.each;
}

-- ---- reports
takes_report : (s : State) (resource : Text) (vs : List TextMap) → ¬ Overfills s resource vs → AllByRecursion IsAscending vs → AdmitsAll s.history (report (pipeline_of s) resource vs)
takes_report s resource vs room up = by (resource_of resource (pipeline_of s).resources) refl
  where
    full : (x : ResourceData) → resource_of resource (pipeline_of s).resources ≡ Some x → (t : Bool) → is_table_full (scope_of x) vs s.history.tables ≡ t → is_table_full (scope_of x) vs s.history.tables ≡ false
    full x at true is = absurd (room (subst (λ o. IsSomeAnd o (λ r. is_table_full (scope_of r) vs s.history.tables ≡ true)) (sym at) is))
    full x at false is = is

    by : (o : Option ResourceData) → resource_of resource (pipeline_of s).resources ≡ o → AdmitsAll s.history (option_map_or (λ r. versions (scope_of r) vs ∷ []) o [])
    by None at = tt
    by (Some x) at = ((full x at (is_table_full (scope_of x) vs s.history.tables) refl, up), tt)

-- ---- a build is made
-- what holds of each job holds of the one that is found
job_has : (P : JobData → Type 0) (name : Text) (js : List JobData) (j : JobData) → AllByRecursion P js → job_of name js ≡ Some j → P j
job_has P name [] j h e = absurd (cc (e))
job_has P name (k ∷ js) j h e = by (bytes_eq name k.name) (job_has P name js j h.1) e
  where
    by : (t : Bool) → (job_of name js ≡ Some j → P j) → cond t (Some k) (job_of name js) ≡ Some j → P j
    by true more e = let same : k ≡ j = cc e in subst P same h.0
    by false more e = more e

known_by_name : (rs : List ResourceData) (name : Text) → has_name (resource_names rs) name ≡ true → (x : ResourceData) × (resource_of name rs ≡ Some x)
known_by_name [] name e = absurd (cc (e))
known_by_name (r ∷ rs) name e = by (bytes_eq name r.name) (known_by_name rs name) e
  where
    by : (t : Bool) → (has_name (resource_names rs) name ≡ true → (x : ResourceData) × (resource_of name rs ≡ Some x)) → (t || has_name (resource_names rs) name) ≡ true → (x : ResourceData) × (cond t (Some r) (resource_of name rs) ≡ Some x)
    by true more e = (r, refl)
    by false more e = more e

ends_not : (o : Outcome) → status_of o ≢ Running
ends_not outcome.Succeeded e = absurd (cc (e))
ends_not outcome.Failed e = absurd (cc (e))
ends_not outcome.Errored e = absurd (cc (e))
ends_not outcome.Aborted e = absurd (cc (e))

module _ (s : State) (name : Text) (j : JobData) (places : List ℕ) (k : IsSound s) (at : job_of name (pipeline_of s).jobs ≡ Some j) (finds : Finds s j.name (best places)) (room : ¬ (MOST_BUILDS ≤ length s.history.builds)) where
  pub placed : ArePlaced (pipeline_of s) s.history (inputs j.plan) places
  placed =
      let (problem, is, (builds, optimal)) = finds in
      let same : problem ≡ problem_with (pipeline_of s) s.history j.name (inputs j.plan) = subst (λ o. IsSomeAnd o (λ i. problem ≡ problem_with (pipeline_of s) s.history i.name (inputs i.plan))) (job_at name (pipeline_of s).jobs j at) is in
      satisfied_placed (pipeline_of s) s.history j.name (inputs j.plan) places builds (subst (λ q. Satisfies q places builds) same optimal.satisfies)

  plan_kept : IsPlan j.plan
  plan_kept = job_has (λ i. IsPlan i.plan) name (pipeline_of s).jobs j (recursion_from_All (λ i. IsPlan i.plan) (pipeline_of s).jobs k.piped.plans) at

  linked : IsLinked (resource_names (pipeline_of s).resources) (job_names (pipeline_of s).jobs) j.plan
  linked = job_has (λ i. IsLinked (resource_names (pipeline_of s).resources) (job_names (pipeline_of s).jobs) i.plan) name (pipeline_of s).jobs j (recursion_from_All (λ i. IsLinked (resource_names (pipeline_of s).resources) (job_names (pipeline_of s).jobs) i.plan) (pipeline_of s).jobs k.piped.linked) at

  abbrev made_edit : EditData
  made_edit = build j.name (used_at (pipeline_of s) s.history (inputs j.plan) places)

  abbrev now : HistoryData
  now = history_with (pipeline_of s) s.history j places

  abbrev b : RunningData
  b = begun (pipeline_of s) s.history j places

  pub takes_build : Admits s.history (build j.name (used_at (pipeline_of s) s.history (inputs j.plan) places))
  takes_build =
      (omega (arith, room), are_used (pipeline_of s) s.history (inputs j.plan) places placed plan_kept.distinct (inputs_named j.plan (recursion_from_All (λ n. is_name n ≡ true) (names j.plan) plan_kept.well_named)))

  pub sound_begun : IsSoundBuild (pipeline_of s) (history_with (pipeline_of s) s.history j places) (begun (pipeline_of s) s.history j places)
  sound_begun = record {
    held = (
      new_build j.name (count_of j.name s.history.builds + 1) (used_at (pipeline_of s) s.history (inputs j.plan) places),
      new_found j.name (used_at (pipeline_of s) s.history (inputs j.plan) places) s.history.builds k.numbers,
      refl,
      begun_right (pipeline_of s) s.history (inputs j.plan) places placed plan_kept.distinct,
      begun_each (pipeline_of s) s.history (inputs j.plan) places placed,
    );
    got = all_weaker (λ i seen. (let (x, there, has) = seen in (x, there, has))) (inputs j.plan) (chosen_seen (pipeline_of s) s.history (inputs j.plan) places placed plan_kept.distinct);
    known = all_weaker (λ r has. known_by_name (pipeline_of s).resources r has) (used_resources j.plan) (recursion_from_All (λ r. has_name (resource_names (pipeline_of s).resources) r ≡ true) (used_resources j.plan) linked.0);
    pushes = tt;
    used_in = all_weaker (λ i used. (let (place, there) = used in (place, there))) (inputs j.plan) (begun_used_in (pipeline_of s) s.history (inputs j.plan) places placed);
  }

  none_there : running_at (begun (pipeline_of s) s.history j places).job (begun (pipeline_of s) s.history j places).number s.running ≡ None
  none_there =
      let lt : count_of j.name s.history.builds < count_of j.name s.history.builds + 1 = omega arith in
      fresh s.history.builds j.name (count_of j.name s.history.builds + 1) lt s.running (numbers_known s k)

  numbers_now : AreKnown now.builds now.builds
  numbers_now = known_new j.name (used_at (pipeline_of s) s.history (inputs j.plan) places) s.history.builds (λ i. count_edited i (build j.name (used_at (pipeline_of s) s.history (inputs j.plan) places)) s.history) k.numbers

  -- a build that ran runs
  on_now : (y : RunningData) → IsSoundBuild (pipeline_of s) s.history y → IsSoundBuild (pipeline_of s) (history_with (pipeline_of s) s.history j places) y
  on_now y sy = build_on (pipeline_of s) s.history (build j.name (used_at (pipeline_of s) s.history (inputs j.plan) places) ∷ []) y (λ c found. found_there y.job y.number s.history.builds (new_build j.name (count_of j.name s.history.builds + 1) (used_at (pipeline_of s) s.history (inputs j.plan) places)) c found) sy

  abbrev AreMade : List EditData → Type 0
  AreMade = AreBuildEdits (pipeline_of s) s.history j places

  made_open : Begins b.inputs b.plan [] → (IsAllowed b.inputs b.plan [] → ⊥) → Leaves AreMade s (moved_on s now (s.running ++ b ∷ []))
  made_open begins waits = record {
    sound = record {
      piped = k.piped;
      numbers = numbers_now;
      apart = apart_more s.running b k.apart none_there;
      each = all_append (IsSoundBuild (pipeline_of s) now) s.running b (all_weaker on_now s.running k.each) sound_begun;
    };
    taken = (made_edit ∷ [], (None, [], ([], (begins, waits), refl), refl), ((takes_build, tt), refl));
  }

  made_ended : (o : Outcome) (g : GainsData) → Means b.inputs b.plan no_gains [] o g → Leaves AreMade s (moved_on s (edited (ended b.job b.number (status_of o) (pairs_of (pipeline_of s) now g.moved)) now) s.running)
  made_ended o g means =
      let p = pipeline_of s in
      let mv = pairs_of p now g.moved in
      let end = ended b.job b.number (status_of o) mv in
      let fits = moved_fit p now b.inputs b.plan [] o g sound_begun.got sound_begun.known tt means in
      record {
        sound = record {
          piped = k.piped;
          numbers = known_end b.job b.number (status_of o) mv now.builds numbers_now;
          apart = k.apart;
          each = all_both (λ y sy other. build_on p now (end ∷ []) y (λ c found. found_other y.job y.number b.job b.number (status_of o) mv (id_flip b.job y.job b.number y.number other) now.builds ∙ found) (on_now y sy)) s.running k.each (none_all b.job b.number s.running none_there);
        };
        taken = (made_edit ∷ end ∷ [], (Some o, end ∷ [], (mv, (g, means, refl), refl), refl), ((takes_build, ((is_running now b sound_begun.held, ends_not o, fits), tt)), refl));
      }

  leaves_made : (m : ℕ) (after : State) → Makes s j places m after → Leaves AreMade s after
  leaves_made m after (number, (None, h, (begins, waits, is), to)) = subst (Leaves AreMade s) (sym to) (subst (λ y. Leaves AreMade s (moved_on s y (s.running ++ b ∷ []))) (sym is) (made_open begins waits))
  leaves_made m after (number, (Some o, h, (g, means, is), to)) = subst (Leaves AreMade s) (sym to) (subst (λ y. Leaves AreMade s (moved_on s y s.running)) (sym is) (made_ended o g means))

-- ---- a build is answered
-- what is pushed is seen then
pushed_seen : (p : PipelineData) (h : HistoryData) (o : Option (Text × TextMap)) → IsPushed (IsKnown p) (IsSeen p (changed (option_map_or (λ m. report p m.0 (m.1 ∷ [])) o []) h)) o
pushed_seen p h None = tt
pushed_seen p h (Some m) = λ u. (let (x, at) = u in (x, at, subst (λ z. has_version (versions_of (scope_of x) (changed (option_map_or (λ r. versions (scope_of r) (m.1 ∷ []) ∷ []) z []) h).tables) m.1 ≡ true) (sym at) (has_report (scope_of x) m.1 h.tables)))

-- a pushed version has its keys in order
pub pushed_up : (a : AskData) (x : AnswerData) (r : Text) (v : TextMap) → IsAnswer x → pushed_by a x ≡ Some (r, v) → IsAscending v
pushed_up (push artifact resource params) (pushed w) r v up e = let same : ◌≡◌ {A = Text × TextMap} (resource, w) (r, v) = cc e in subst IsAscending (ap (λ q. q.1) same) up
pushed_up a x r v up e = absurd (cc (e))

module _ (s : State) (job : Text) (number : ℕ) (b : RunningData) (a : AskData) (x : AnswerData) (k : IsSound s) (at : running_at job number s.running ≡ Some b) where
  abbrev edits : List EditData
  edits = report_by (pipeline_of s) a x

  abbrev then : HistoryData
  then = changed (report_by (pipeline_of s) a x) s.history

  own_sound : IsSoundBuild (pipeline_of s) s.history b
  own_sound = all_at (IsSoundBuild (pipeline_of s) s.history) job number s.running b k.each at

  same_builds : (changed (report_by (pipeline_of s) a x) s.history).builds ≡ s.history.builds
  same_builds = pushed_builds (pipeline_of s) a x s.history

  on_then : (y : RunningData) → IsSoundBuild (pipeline_of s) s.history y → IsSoundBuild (pipeline_of s) (changed (report_by (pipeline_of s) a x) s.history) y
  on_then y sy = build_on (pipeline_of s) s.history (report_by (pipeline_of s) a x) y (λ c found. ap (build_of y.job y.number) same_builds ∙ found) sy

  pub sound_answered : IsSoundBuild (pipeline_of s) (changed (report_by (pipeline_of s) a x) s.history) (with_answer b a x)
  sound_answered =
      let was = on_then b own_sound in
      record {
        held = was.held;
        got = was.got;
        known = was.known;
        pushes = all_append (λ e. IsPushed (IsKnown (pipeline_of s)) (IsSeen (pipeline_of s) then) (pushed_by e.ask e.answer)) b.exchanges (exchange a x) was.pushes (pushed_seen (pipeline_of s) s.history (pushed_by a x));
        used_in = was.used_in;
      }

  numbers_then : AreKnown then.builds then.builds
  numbers_then = subst (λ bs. AreKnown bs bs) (sym same_builds) k.numbers

  module _ (next : IsNext b.inputs b.plan b.exchanges a) (room : ¬ PushOverfills s job number x) (up : IsAnswer x) where
    takes_push : AdmitsAll s.history (report_by (pipeline_of s) a x)
    takes_push = by (pushed_by a x) refl
      where
        by : (o : Option (Text × TextMap)) → pushed_by a x ≡ o → AdmitsAll s.history (option_map_or (λ m. report (pipeline_of s) m.0 (m.1 ∷ [])) o [])
        by None is = tt
        by (Some (r, v)) is = takes_report s r (v ∷ []) (λ full. room (b, a, r, v, at, next, is, full)) (pushed_up a x r v up is, tt)

    abbrev AreNext : Option Outcome → List EditData → Type 0
    AreNext = AreNextEdits (pipeline_of s) s.history b x

    same : IsSame s.history (report_by (pipeline_of s) a x) (news_in s.history (report_by (pipeline_of s) a x))
    same = news_push (pipeline_of s) s.history a x takes_push

    answered_open : Begins b.inputs b.plan (b.exchanges ++ exchange a x ∷ []) → (IsAllowed b.inputs b.plan (b.exchanges ++ exchange a x ∷ []) → ⊥) → Leaves (AreNext None) s (moved_on s then (replaced (with_answer b a x) s.running))
    answered_open begins waits = record {
      sound = record {
        piped = k.piped;
        numbers = numbers_then;
        apart = apart_with (with_answer b a x) s.running k.apart;
        each = all_with (with_answer b a x) (λ y other sy. on_then y sy) sound_answered s.running k.apart k.each;
      };
      taken = (news_in s.history edits ++ [], (a, next, ([], ([], (begins, waits), refl), refl)), taken_then s.history edits (news_in s.history edits) [] same tt);
    }

    answered_ended : (o : Outcome) (g : GainsData) → Means b.inputs b.plan no_gains (b.exchanges ++ exchange a x ∷ []) o g → Leaves (AreNext (Some o)) s (moved_on s (edited (ended b.job b.number (status_of o) (pairs_of (pipeline_of s) then g.moved)) then) (without b.job b.number s.running))
    answered_ended o g means =
        let p = pipeline_of s in
        let mv = pairs_of p then g.moved in
        let end = ended b.job b.number (status_of o) mv in
        let fits = moved_fit p then b.inputs b.plan (b.exchanges ++ exchange a x ∷ []) o g sound_answered.got sound_answered.known sound_answered.pushes means in
        record {
          sound = record {
            piped = k.piped;
            numbers = known_end b.job b.number (status_of o) mv then.builds numbers_then;
            apart = apart_less b.job b.number s.running k.apart;
            each = all_less b.job b.number (λ y other sy. build_on p then (end ∷ []) y (λ c found. found_other y.job y.number b.job b.number (status_of o) mv (id_flip b.job y.job b.number y.number other) then.builds ∙ found) (on_then y sy)) s.running k.apart k.each;
          };
          taken = (news_in s.history edits ++ end ∷ [], (a, next, (end ∷ [], (mv, (g, means, refl), refl), refl)), taken_then s.history edits (news_in s.history edits) (end ∷ []) same ((is_running then b sound_answered.held, ends_not o, fits), tt));
        }

leaves_taken : (s : State) (w : AnswerTo) (b : RunningData) (o : Option Outcome) (after : State) → IsSound s → running_at w.job w.number s.running ≡ Some b → ¬ PushOverfills s w.job w.number w.given → IsAnswer w.given → GoesOnWith s b w.given o after → Leaves (AreAnswerEdits s w o) s after
leaves_taken s w b None after k at room up (a, next, (h, (begins, waits, is), to)) =
    subst (Leaves (AreAnswerEdits s w None) s) (sym to) (subst (λ y. Leaves (AreAnswerEdits s w None) s (moved_on s y (replaced (with_answer b a w.given) s.running))) (sym is)
    (leaves_as (AreNextEdits (pipeline_of s) s.history b w.given None) (AreAnswerEdits s w None) s (moved_on s (changed (report_by (pipeline_of s) a w.given) s.history) (replaced (with_answer b a w.given) s.running)) (λ edits are. (b, at, are))
    (answered_open s w.job w.number b a w.given k at next room up begins waits)))
leaves_taken s w b (Some o) after k at room up (a, next, (h, (g, means, is), to)) =
    subst (Leaves (AreAnswerEdits s w (Some o)) s) (sym to) (subst (λ y. Leaves (AreAnswerEdits s w (Some o)) s (moved_on s y (without b.job b.number s.running))) (sym is)
    (leaves_as (AreNextEdits (pipeline_of s) s.history b w.given (Some o)) (AreAnswerEdits s w (Some o)) s _ (λ edits are. (b, at, are))
    (answered_ended s w.job w.number b a w.given k at next room up o g means)))

-- ---- a restart
pub cut_takes : (bs : List RunningData) (h : HistoryData) → IsApart bs → AllByRecursion (λ b. IsRunning b.job b.number h.builds) bs → AdmitsAll h (map cut bs)
cut_takes [] h apart runs = tt
cut_takes (b ∷ bs) h (none, apart) (first, rest) = (
  (first, (λ e. absurd (cc (e))), ((λ i j d before within. absurd (omega (arith, within))), tt)),
  cut_takes bs (edited (cut b) h) apart (all_both (λ y r other. (let (c, found, runs) = r in (c, found_other y.job y.number b.job b.number Errored [] (id_flip b.job y.job b.number y.number other) h.builds ∙ found, runs))) bs rest (none_all b.job b.number bs none)),
)

cut_known : (bs : List RunningData) (h : HistoryData) → AreKnown h.builds h.builds → AreKnown (changed (map cut bs) h).builds (changed (map cut bs) h).builds
cut_known [] h known = known
cut_known (b ∷ bs) h known = cut_known bs (edited (cut b) h) (known_end b.job b.number Errored [] h.builds known)

-- ---- each step
leaves_same : (E : List EditData → Type 0) (s after : State) → E [] → IsSound s → after ≡ s → Leaves E s after
leaves_same E s after none k is = subst (Leaves E s) (sym is) (record { sound = k; taken = ([], none, (tt, refl)) })

-- a build that is made for a job's name
leaves_named : (s : State) (name : Text) (j : JobData) (places : List ℕ) (m : ℕ) (after : State) → IsSound s → job_of name (pipeline_of s).jobs ≡ Some j → Finds s j.name (best places) → ¬ (MOST_BUILDS ≤ length s.history.builds) → Makes s j places m after → Leaves (AreMadeEdits s name (Made m)) s after
leaves_named s name j places m after k at finds room makes =
    leaves_as (AreBuildEdits (pipeline_of s) s.history j places) (AreMadeEdits s name (Made m)) s after (λ edits are. (j, at, (places, finds, are)))
    (leaves_made s name j places k at finds room m after makes)

leaves_scheduled : (s : State) (name : Text) (j : JobData) (r : Reply) (after : State) → IsSound s → job_of name (pipeline_of s).jobs ≡ Some j → ¬ (MOST_BUILDS ≤ length s.history.builds) → Schedules s j r after → Leaves (AreMadeEdits s name r) s after
leaves_scheduled s name j (Made m) after k at room (idle, (places, finds, news, makes)) = leaves_named s name j places m after k at finds room makes
leaves_scheduled s name j NotNew after k at room (idle, (places, finds, news, is)) = leaves_same (AreMadeEdits s name NotNew) s after refl k is
leaves_scheduled s name j r after k at room (held, is) = leaves_same (AreMadeEdits s name r) s after refl k is

leaves_triggered : (s : State) (name : Text) (j : JobData) (r : Reply) (after : State) → IsSound s → job_of name (pipeline_of s).jobs ≡ Some j → ¬ (MOST_BUILDS ≤ length s.history.builds) → Triggers s j r after → Leaves (AreMadeEdits s name r) s after
leaves_triggered s name j (Made m) after k at room (idle, (places, finds, makes)) = leaves_named s name j places m after k at finds room makes
leaves_triggered s name j r after k at room (held, is) = leaves_same (AreMadeEdits s name r) s after refl k is

set_sound : (s : State) (p : PipelineData) → IsPipeline p → s.running ≡ [] → IsSound s → IsSound (with_pipeline s p)
set_sound s p piped none k = record {
  piped = piped;
  numbers = k.numbers;
  apart = k.apart;
  each = subst (AllByRecursion (IsSoundBuild p (edited (text p.text) s.history))) (sym none) tt;
}

leaves_answered : (s : State) (a : AnswerTo) (r : Reply) (after : State) → IsAnswer a.given → IsSound s → ((f : CoreFault) → ¬ AnswerMeets s a f) → Answers s a r after → Leaves (AreSaidEdits s a r) s after
leaves_answered s a Goes after up k free (b, at, takes) = leaves_taken s a b None after k at (free TableFull) up takes
leaves_answered s a (Ends o) after up k free (b, at, takes) = leaves_taken s a b (Some o) after k at (free TableFull) up takes
leaves_answered s a r after up k free answers = absurd answers

-- a place that isn't lacking is there
place_there : (s : State) (resource : Text) (place : ℕ) → ¬ (has_place s.history.tables (scope_in s resource) place ≡ false) → IsTrue (has_place s.history.tables (scope_in s resource) place)
place_there s resource place there = by (has_place s.history.tables (scope_in s resource) place) there
  where
    by : (b : Bool) → ¬ (b ≡ false) → b ≡ true
    by true h = refl
    by false h = absurd (h refl)

leaves_other : (s : State) (e : EventData) (r : Reply) (after : State) → IsEventBy None e → IsSound s → ((f : CoreFault) → ¬ MeetsBy s None e f) → DoesBy s None e r after → Leaves (AreEditsBy s None e r) s after
leaves_other s (set_pipeline p) Set after piped k free is =
    subst (Leaves (AreEditsBy s None (set_pipeline p) Set) s) (sym is) (record { sound = set_sound s p piped (none_runs s p free) k; taken = (text p.text ∷ [], refl, ((tt, tt), refl)) })
leaves_other s (checked resource vs) (New n) after up k free (news, is) =
    let edits = report (pipeline_of s) resource vs in
    let same = news_report (pipeline_of s) s.history resource vs (takes_report s resource vs (free TableFull) up) in
    subst (Leaves (AreEditsBy s None (checked resource vs) (New n)) s) (sym is) (record {
      sound = sound_history s edits (report_builds (pipeline_of s) resource vs s.history) k;
      taken = (news_in s.history edits, refl, (same.0, sym same.1));
    })
leaves_other s (schedule job) r after up k free (j, at, how) = leaves_scheduled s job j r after k at (free TableFull) how
leaves_other s (trigger job) r after up k free (j, at, how) = leaves_triggered s job j r after k at (free TableFull) how
leaves_other s (pin resource p) Pinned after up k free is =
    subst (Leaves (AreEditsBy s None (pin resource p) Pinned) s) (sym is) (record { sound = sound_history s (pin_set resource p ∷ []) refl k; taken = (pin_set resource p ∷ [], refl, ((up, tt), refl)) })
leaves_other s (unpin resource) Unpinned after up k free is =
    subst (Leaves (AreEditsBy s None (unpin resource) Unpinned) s) (sym is) (record { sound = sound_history s (pin_cleared resource ∷ []) refl k; taken = (pin_cleared resource ∷ [], refl, ((tt, tt), refl)) })
leaves_other s (disable resource place) Disabled after up k free is =
    let edit : EditData = disabled (scope_in s resource) place in
    subst (Leaves (AreEditsBy s None (disable resource place) Disabled) s) (sym is) (record {
      sound = sound_history s (edit ∷ []) refl k;
      taken = (edit ∷ [], refl, ((place_there s resource place (free NoVersion), tt), refl));
    })
leaves_other s (enable resource place) Enabled after up k free is =
    let edit : EditData = enabled (scope_in s resource) place in
    subst (Leaves (AreEditsBy s None (enable resource place) Enabled) s) (sym is) (record {
      sound = sound_history s (edit ∷ []) refl k;
      taken = (edit ∷ [], refl, ((place_there s resource place (free NoVersion), tt), refl));
    })
leaves_other s restart Restarted after up k free is =
    subst (Leaves (AreEditsBy s None restart Restarted) s) (sym is) (record {
      sound = record { piped = k.piped; numbers = cut_known s.running s.history k.numbers; apart = tt; each = tt };
      taken = (map cut s.running, refl, (cut_takes s.running s.history k.apart (all_weaker (λ b sb. is_running s.history b sb.held) s.running k.each), refl));
    })
leaves_other s e r after up k free does = absurd does

pub leaves_step : (s : State) (e : EventData) (r : Replied) (after : State) → IsEvent e → IsSound s → Step s e r after → Leaves (AreEdits s e r) s after
leaves_step s e (Ok r) after up k (free, does) = by (addressed e) up free does
  where
    by : (o : Option AnswerTo) → IsEventBy o e → ((f : CoreFault) → ¬ MeetsBy s o e f) → DoesBy s o e r after → Leaves (AreEditsBy s o e r) s after
    by (Some a) up free answers = leaves_answered s a r after up k free answers
    by None up free other = leaves_other s e r after up k free other
leaves_step s e (Err f) after up k (may, is) = leaves_same (AreEdits s e (Err f)) s after refl k is

-- ---- each run
-- edits of any kind
abbrev pub Any : List EditData → Type 0
Any _ = ⊤

pub leaves_run : (s : State) (es : List EventData) (rs : List Replied) (after : State) → AllByRecursion IsEvent es → IsSound s → Run s es rs after → Leaves Any s after
leaves_run s [] [] after up k h = leaves_same Any s after tt k h
leaves_run s [] (r ∷ rs) after up k h = absurd h
leaves_run s (e ∷ es) [] after up k h = absurd h
leaves_run s (e ∷ es) (r ∷ rs) after up k (mid, step, run) =
    let l = leaves_step s e r mid up.0 k step in
    let rest = leaves_run mid es rs after up.1 l.sound run in
    let (fs, are, (first, to)) = l.taken in
    let (more, any, (then, on)) = rest.taken in
    record {
      sound = rest.sound;
      taken = (fs ++ more, tt, (takes_more fs more s.history first (subst (λ y. AdmitsAll y more) to then), on ∙ ap (changed more) to ∙ sym (changed_more fs more s.history)));
    }

taken_run : (s : State) (es : List EventData) (rs : List Replied) (after : State) → AllByRecursion IsEvent es → IsSound s → Run s es rs after → (changes : List (List EditData)) × AreTaken s es rs changes after
taken_run s [] [] after up k h = ([], h)
taken_run s [] (r ∷ rs) after up k h = absurd h
taken_run s (e ∷ es) [] after up k h = absurd h
taken_run s (e ∷ es) (r ∷ rs) after up k (mid, step, run) =
    let l = leaves_step s e r mid up.0 k step in
    let (edits, are, to) = l.taken in
    let (more, rest) = taken_run mid es rs after up.1 l.sound run in
    (edits ∷ more, (mid, step, are, to, rest))

pub starts : (s : State) → IsStart s → IsSound s
starts s start = record {
  piped = start.pipeline;
  numbers = known_start s.history.builds start.history.1.1;
  apart = subst IsApart (sym start.none_runs) tt;
  each = subst (AllByRecursion (IsSoundBuild (pipeline_of s) s.history)) (sym start.none_runs) tt;
}

pub each_change_is_taken : EachChangeIsTaken
each_change_is_taken s after es rs start up run =
    let end = leaves_run s es rs after up (starts s start) run in (
      taken_run s es rs after up (starts s start) run,
      all_weaker (λ b sb. (let (c, found, runs, right, each) = sb.held in (c, found, runs, (each, all_weaker (λ u r. r.1) c.used right)))) after.running end.sound.each,
    )
