-- Which event made a build, and that it used the best places then.
use Rattle.std.proofs.Common.{◌≡◌, ◌⊎◌, inl, inr, ℕ, zero, suc, ◌+◌, ◌≤◌, Bool, true, false, cond, List, [], ◌∷◌, ◌++◌, length, map, Option, Some, None, IsSomeAnd, Ok, Err, Ordering, Less, Equal, Greater, refl, sym, ap, ◌∙◌, subst, arith, append_assoc}
use Rattle.std.specs.Prelude.{slice_get, slice_index, Contains, unwrap_or}
use Rattle.std.proofs.lemmas.List.Elements.{All-from_recursion}
use Rattle.std.specs.List.{AllByRecursion}
use Rattle.std.specs.Ordering.{nat_cmp, match_ordering}
use Rattle.std.specs.Cmp.Lexicographic.{slice_cmp}
use Rattle.std.proofs.lemmas.List.{map-append}
use Rattle.ccr_history.specs.declared.build.Status.{Status}
use Rattle.ccr_history.specs.Text.{Text}
use Rattle.ccr_history.specs.Builds.{UsedData, BuildData, is_build_of, count_of, with_used, by_input, new_build, ended as ended_build, with_end}
use Rattle.ccr_history.specs.Changes.{edited, changed}
use Rattle.ccr_history.specs.History.{HistoryData, no_history, IsHistory}
use Rattle.ccr_history.proofs.ChangeLaws.{none_is_history, all_kept}
use Rattle.ccr_pipeline.specs.Inputs.{InputData, inputs}
use Rattle.ccr_pipeline.specs.JobData.{JobData}
use Rattle.ccr_pipeline.specs.Limits.{IsPlan}
use Rattle.ccr_pipeline.specs.Links.{IsLinked, resource_names, job_names}
use Rattle.ccr_pipeline.specs.Pipelines.{PipelineData}
use Rattle.ccr_choice.specs.Preference.{order_of}
use Rattle.ccr_choice.specs.Optimal.{IsOptimal, HasNoChoice}
use Rattle.ccr_core.specs.declared.reply.Reply.{Reply}
use Rattle.ccr_core.specs.declared.reply.Reply.TheVariants.{Set, New, Made, NoneSatisfies, NotNew, Goes, Ends, Pinned, Unpinned, Disabled, Enabled, Restarted}
use Rattle.ccr_problem.specs.ProblemOf.{history_number, job_of, problem_with}
use Rattle.ccr_problem.specs.Together.{AreBest, NoneGoTogether}
use Rattle.ccr_problem.proofs.Among.{Among, among_from, contains_from, map_among, among_map, append_among, among_left, among_right, all_among}
use Rattle.ccr_problem.proofs.BestNamed.{best_so, none_so}
use Rattle.ccr_core.specs.Addressed.{AnswerTo, addressed}
use Rattle.ccr_core.specs.Builds.{status_of, history_with, Makes, cut}
use Rattle.ccr_core.specs.Choices.{best, nothing, Finds, used_at}
use Rattle.ccr_core.specs.Events.{EventData, set_pipeline, checked, schedule, trigger, pin, unpin, disable, enable, restart}
use Rattle.ccr_core.specs.Kept.{IsPipeline, IsEvent, IsStart}
use Rattle.ccr_core.specs.MadeInRun.{AreUsedFor, IsMadeBy, MadeInRun, IsKept, EachStepMakesBest, EachIsMadeBest, EachIsMadeSo, UsedStays, NoneIsSaidRightly}
use Rattle.ccr_core.specs.Replies.{Replied}
use Rattle.ccr_core.specs.Resumed.{cut_name, running_in, resumed}
use Rattle.ccr_core.specs.Seen.{pairs_of, report_by}
use Rattle.ccr_core.specs.State.{RunningData, State, no_pipeline, pipeline_of}
use Rattle.ccr_core.specs.Steps.{Schedules, Triggers, Answers, DoesBy, Step, Run}
use Rattle.ccr_core.proofs.Keeping.{AreKnown}
use Rattle.ccr_core.proofs.Owning.{job_same, job_at}
use Rattle.ccr_core.proofs.Scoping.{by_input_has}
use Rattle.ccr_core.proofs.Seeing.{report_builds, pushed_builds}
use Rattle.ccr_core.proofs.Sound.{IsSound, Leaves, leaves_step, leaves_run, starts}

-- ---- what is fixed of a build when it is made
abbrev Fixed : Type 0
Fixed = Text × ℕ × List UsedData

abbrev fixed : BuildData → Fixed
fixed b = (b.job, b.number, b.used)

abbrev all_fixed : HistoryData → List Fixed
all_fixed h = map fixed h.builds

end_fixed : (job : Text) (number : ℕ) (st : Status) (mv : List (ℕ × ℕ)) (bs : List BuildData) → map fixed (with_end job number st mv bs) ≡ map fixed bs
end_fixed job number st mv [] = refl
end_fixed job number st mv (b ∷ bs) = by (is_build_of job number b) (end_fixed job number st mv bs)
  where
    by : (t : Bool) → map fixed (with_end job number st mv bs) ≡ map fixed bs → map fixed (cond t (ended_build st mv b) b ∷ with_end job number st mv bs) ≡ map fixed (b ∷ bs)
    by true more = ap (λ l. fixed b ∷ l) more
    by false more = ap (λ l. fixed b ∷ l) more

cut_fixed : (bs : List RunningData) (h : HistoryData) → all_fixed (changed (map cut bs) h) ≡ all_fixed h
cut_fixed [] h = refl
cut_fixed (b ∷ bs) h = cut_fixed bs (edited (cut b) h) ∙ end_fixed b.job b.number _ [] h.builds

names_fixed : (ns : List (Text × ℕ)) (h : HistoryData) → all_fixed (changed (map cut_name ns) h) ≡ all_fixed h
names_fixed [] h = refl
names_fixed (n ∷ ns) h = names_fixed ns (edited (cut_name n) h) ∙ end_fixed n.0 n.1 _ [] h.builds

-- ---- what a new build used
with_used_long : (u : UsedData) (us : List UsedData) → length (with_used u us) ≡ suc (length us)
with_used_long u [] = refl
with_used_long u (v ∷ vs) = by (slice_cmp nat_cmp u.input v.input) (with_used_long u vs)
  where
    by : (o : Ordering) → length (with_used u vs) ≡ suc (length vs) → length (match_ordering o (u ∷ v ∷ vs) (u ∷ v ∷ vs) (v ∷ with_used u vs)) ≡ suc (suc (length vs))
    by Less more = refl
    by Equal more = refl
    by Greater more = ap suc more

by_input_long : (us : List UsedData) → length (by_input us) ≡ length us
by_input_long [] = refl
by_input_long (u ∷ us) = with_used_long u (by_input us) ∙ ap suc (by_input_long us)

module _ (p : PipelineData) (h : HistoryData) where
  used_there : (is : List InputData) (ns : List ℕ) → length ns ≡ length is → (k : ℕ) (i : InputData) → slice_get is k ≡ Some i
      → Among (used_at p h is ns) (record { input = i.name; scope = history_number p h i.resource; place = slice_index ns k })
  used_there [] ns e k i at = absurd (cc (at))
  used_there (j ∷ is) [] e k i at = absurd (omega (arith, e))
  used_there (j ∷ is) (n ∷ ns) e zero i at = let same : j ≡ i = cc at in inl (ap (λ y. record { input = y.name; scope = history_number p h y.resource; place = n }) same)
  used_there (j ∷ is) (n ∷ ns) e (suc k) i at = inr (used_there is ns (omega (arith, e)) k i at)

  used_long : (is : List InputData) (ns : List ℕ) → length ns ≡ length is → length (used_at p h is ns) ≡ length is
  used_long [] ns e = refl
  used_long (i ∷ is) [] e = absurd (omega (arith, e))
  used_long (i ∷ is) (n ∷ ns) e = ap suc (used_long is ns (omega (arith, e)))

  used_so : (is : List InputData) (ns : List ℕ) → length ns ≡ length is → AreUsedFor p h is ns (by_input (used_at p h is ns))
  used_so is ns e = record {
    each = λ k i at. contains_from (by_input (used_at p h is ns)) _ (by_input_has (used_at p h is ns) _ (used_there is ns e k i at));
    no_more = by_input_long (used_at p h is ns) ∙ used_long is ns e;
  }

-- ---- what a finding says
module _ (s : State) (name : Text) (j : JobData) (at : job_of name (pipeline_of s).jobs ≡ Some j) where
  problem_same : (problem : _) → IsSomeAnd (job_of j.name (pipeline_of s).jobs) (λ i. problem ≡ problem_with (pipeline_of s) s.history i.name (inputs i.plan)) → problem ≡ problem_with (pipeline_of s) s.history j.name (inputs j.plan)
  problem_same problem is = subst (λ o. IsSomeAnd o (λ i. problem ≡ problem_with (pipeline_of s) s.history i.name (inputs i.plan))) (job_at name (pipeline_of s).jobs j at) is

  pub best_found : IsHistory s.history → (places : List ℕ) → Finds s j.name (best places) → AreBest (pipeline_of s) s.history j.name (inputs j.plan) places
  best_found rules places (problem, is, (builds, optimal)) =
      best_so (pipeline_of s) s.history j.name (inputs j.plan) places builds rules
      (subst (λ q. IsOptimal (order_of q) q places builds) (problem_same problem is) optimal)

  none_found : Finds s j.name nothing → NoneGoTogether (pipeline_of s) s.history (inputs j.plan)
  none_found (problem, is, none) =
      none_so (pipeline_of s) s.history j.name (inputs j.plan) (subst HasNoChoice (problem_same problem is) none)

-- ---- each step
-- a step leaves what is fixed, or makes one build more
abbrev Same : State → State → Type 0
Same before after = all_fixed after.history ≡ all_fixed before.history

-- the event makes a build with this fixed
abbrev IsNew : State → EventData → Replied → Fixed → Type 0
IsNew before e r x = (c : BuildData) → fixed c ≡ x → IsMadeBy before e r c

abbrev Adds : State → EventData → Replied → State → Type 0
Adds before e r after = (x : Fixed) × (all_fixed after.history ≡ all_fixed before.history ++ x ∷ []) × IsNew before e r x

abbrev Steps : State → EventData → Replied → State → Type 0
Steps before e r after = Same before after ⊎ Adds before e r after

module _ (before : State) (rules : IsHistory before.history) (known : AreKnown before.history.builds before.history.builds) where
  abbrev p : PipelineData
  p = pipeline_of before

  abbrev bs : List BuildData
  bs = before.history.builds

  module _ (e : EventData) (name : Text) (asks : (e ≡ schedule name) ⊎ (e ≡ trigger name)) (j : JobData) (at : job_of name (pipeline_of before).jobs ≡ Some j) (places : List ℕ) (finds : Finds before j.name (best places)) (m : ℕ) (number : m ≡ count_of j.name before.history.builds + 1) where
    abbrev new : Fixed
    new = (j.name, count_of j.name before.history.builds + 1, by_input (used_at (pipeline_of before) before.history (inputs j.plan) places))

    asked_so : (job : Text) → job ≡ j.name → (e ≡ schedule job) ⊎ (e ≡ trigger job)
    asked_so job same = by asks
      where
        is : name ≡ job
        is = job_same name (pipeline_of before).jobs j at ∙ sym same

        by : (e ≡ schedule name) ⊎ (e ≡ trigger name) → (e ≡ schedule job) ⊎ (e ≡ trigger job)
        by (inl f) = inl (f ∙ ap schedule is)
        by (inr f) = inr (f ∙ ap trigger is)

    new_so : IsNew before e (Ok (Made m)) (j.name, count_of j.name before.history.builds + 1, by_input (used_at (pipeline_of before) before.history (inputs j.plan) places))
    new_so c same =
        let job : c.job ≡ j.name = ap (λ (y : Fixed). y.0) same in
        let its : c.number ≡ count_of j.name before.history.builds + 1 = ap (λ (y : Fixed). y.1) same in
        let uses : c.used ≡ by_input (used_at (pipeline_of before) before.history (inputs j.plan) places) = ap (λ (y : Fixed). y.2) same in
        let found = best_found before name j at rules places finds in
        record {
          asked = asked_so c.job job;
          replied = ap (λ n. Ok (Made n)) (number ∙ sym its);
          fresh = λ b there of_job same_number. (
              let less : b.number ≤ count_of b.job before.history.builds = all_among (λ b. b.number ≤ count_of b.job before.history.builds) before.history.builds b known (among_from before.history.builds b there) in
              let counts : count_of b.job before.history.builds ≡ count_of j.name before.history.builds = ap (λ y. count_of y before.history.builds) (of_job ∙ job) in
              omega (arith, less, counts, same_number, its)
              );
          job = j;
          named = ap (λ y. job_of y (pipeline_of before).jobs) job ∙ job_at name (pipeline_of before).jobs j at;
          places = places;
          best = subst (λ y. AreBest (pipeline_of before) before.history y (inputs j.plan) places) (sym job) found;
          used = subst (AreUsedFor (pipeline_of before) before.history (inputs j.plan) places) (sym uses) (used_so (pipeline_of before) before.history (inputs j.plan) places found.together.place_each);
        }

    built : all_fixed (history_with (pipeline_of before) before.history j places) ≡ all_fixed before.history ++ (j.name, count_of j.name before.history.builds + 1, by_input (used_at (pipeline_of before) before.history (inputs j.plan) places)) ∷ []
    built = map-append fixed before.history.builds (new_build j.name (count_of j.name before.history.builds + 1) (used_at (pipeline_of before) before.history (inputs j.plan) places) ∷ [])

    made : (after : State) → Makes before j places m after → Adds before e (Ok (Made m)) after
    made after (is_number, (None, h, (begins, waits, is), to)) =
        (new, ap (λ y. all_fixed y.history) to ∙ ap all_fixed is ∙ built, new_so)
    made after (is_number, (Some o, h, (g, means, is), to)) =
        (new, ap (λ y. all_fixed y.history) to ∙ ap all_fixed is ∙ end_fixed j.name (count_of j.name before.history.builds + 1) (status_of o) (pairs_of (pipeline_of before) (history_with (pipeline_of before) before.history j places) g.moved) (history_with (pipeline_of before) before.history j places).builds ∙ built, new_so)

  still : (after : State) → after.history.builds ≡ before.history.builds → Same before after
  still after is = ap (map fixed) is

  scheduled : (name : Text) (j : JobData) (r : Reply) (after : State) → job_of name (pipeline_of before).jobs ≡ Some j → Schedules before j r after → Steps before (schedule name) (Ok r) after
  scheduled name j (Made m) after at (idle, (places, finds, news, makes)) = inr (made (schedule name) name (inl refl) j at places finds m makes.0 after makes)
  scheduled name j NotNew after at (idle, (places, finds, news, is)) = inl (still after (ap (λ y. y.history.builds) is))
  scheduled name j r after at (held, is) = inl (still after (ap (λ y. y.history.builds) is))

  triggered : (name : Text) (j : JobData) (r : Reply) (after : State) → job_of name (pipeline_of before).jobs ≡ Some j → Triggers before j r after → Steps before (trigger name) (Ok r) after
  triggered name j (Made m) after at (idle, (places, finds, makes)) = inr (made (trigger name) name (inr refl) j at places finds m makes.0 after makes)
  triggered name j r after at (held, is) = inl (still after (ap (λ y. y.history.builds) is))

  other : (e : EventData) (r : Reply) (after : State) → DoesBy before None e r after → Steps before e (Ok r) after
  other (set_pipeline q) Set after is = inl (still after (ap (λ y. y.history.builds) is))
  other (checked resource vs) (New n) after (news, is) = inl (still after (ap (λ y. y.history.builds) is ∙ report_builds (pipeline_of before) resource vs before.history))
  other (schedule job) r after (j, at, how) = scheduled job j r after at how
  other (trigger job) r after (j, at, how) = triggered job j r after at how
  other (pin resource q) Pinned after is = inl (still after (ap (λ y. y.history.builds) is))
  other (unpin resource) Unpinned after is = inl (still after (ap (λ y. y.history.builds) is))
  other (disable resource place) Disabled after is = inl (still after (ap (λ y. y.history.builds) is))
  other (enable resource place) Enabled after is = inl (still after (ap (λ y. y.history.builds) is))
  other restart Restarted after is = inl (ap (λ y. all_fixed y.history) is ∙ cut_fixed before.running before.history)
  other e r after does = absurd does

  answered : (w : AnswerTo) (r : Reply) (after : State) → Answers before w r after → Same before after
  answered w Goes after (b, at, (a, next, (h, (begins, waits, is), to))) =
      still after (ap (λ y. y.history.builds) to ∙ ap (λ y. y.builds) is ∙ pushed_builds (pipeline_of before) a w.given before.history)
  answered w (Ends o) after (b, at, (a, next, (h, (g, means, is), to))) =
      ap (λ y. all_fixed y.history) to ∙ ap all_fixed is
      ∙ end_fixed b.job b.number (status_of o) (pairs_of (pipeline_of before) (changed (report_by (pipeline_of before) a w.given) before.history) g.moved) (changed (report_by (pipeline_of before) a w.given) before.history).builds
      ∙ ap (map fixed) (pushed_builds (pipeline_of before) a w.given before.history)
  answered w r after answers = absurd answers

  steps : (e : EventData) (r : Replied) (after : State) → Step before e r after → Steps before e r after
  steps e (Ok r) after (free, does) = by (addressed e) does
    where
      by : (o : Option AnswerTo) → DoesBy before o e r after → Steps before e (Ok r) after
      by (Some w) answers = inl (answered w r after answers)
      by None does = other e r after does
  steps e (Err f) after (may, is) = inl (still after (ap (λ y. y.history.builds) is))

-- ---- a whole run
pub run_more : (s mid after : State) (es : List EventData) (rs : List Replied) (e : EventData) (r : Replied) → Run s es rs mid → Step mid e r after → Run s (es ++ e ∷ []) (rs ++ r ∷ []) after
run_more s mid after [] [] e r run step = (after, subst (λ y. Step y e r after) run step, refl)
run_more s mid after [] (u ∷ rs) e r run step = absurd run
run_more s mid after (f ∷ es) [] e r run step = absurd run
run_more s mid after (f ∷ es) (u ∷ rs) e r (next, first, run) step = (next, first, run_more next mid after es rs e r run step)

-- what a step's change leaves is a history
pub history_then : (E : _ → Type 0) (s after : State) → IsHistory s.history → Leaves E s after → IsHistory after.history
history_then E s after rules l = let (edits, are, (takes, is)) = l.taken in subst IsHistory (sym is) (all_kept edits s.history rules takes)

module _ (start : State) (c : BuildData) where
  told : (s after : State) (es₀ es : List EventData) (rs₀ rs : List Replied) → Run start es₀ rs₀ s → AllByRecursion IsEvent es → IsSound s → IsHistory s.history → Run s es rs after
      → Among (all_fixed after.history) (fixed c) → Among (all_fixed s.history) (fixed c) ⊎ MadeInRun start after (es₀ ++ es) (rs₀ ++ rs) c
  told s after es₀ [] rs₀ [] run up k rules rest there = inl (subst (λ y. Among (all_fixed y.history) (fixed c)) rest there)
  told s after es₀ [] rs₀ (r ∷ rs) run up k rules rest there = absurd rest
  told s after es₀ (e ∷ es) rs₀ [] run up k rules rest there = absurd rest
  told s after es₀ (e ∷ es) rs₀ (r ∷ rs) run up k rules (mid, step, rest) there =
      by (told mid after (es₀ ++ e ∷ []) es (rs₀ ++ r ∷ []) rs (run_more start s mid es₀ rs₀ e r run step) up.1 (leaves_step s e r mid up.0 k step).sound (history_then _ s mid rules (leaves_step s e r mid up.0 k step)) rest there)
    where
      made_here : IsMadeBy s e r c → MadeInRun start after (es₀ ++ e ∷ es) (rs₀ ++ r ∷ rs) c
      made_here is = record {
        at = record {
          first = es₀;
          event = e;
          rest = es;
          first_replies = rs₀;
          reply = r;
          rest_replies = rs;
          events = refl;
          replies = refl;
          before = s;
          then = mid;
          led = run;
          step = step;
          leads = rest;
        };
        made = is;
      }

      last : (x : Fixed) → IsNew s e r x → Among (all_fixed s.history) (fixed c) ⊎ Among (x ∷ []) (fixed c) → Among (all_fixed s.history) (fixed c) ⊎ MadeInRun start after (es₀ ++ e ∷ es) (rs₀ ++ r ∷ rs) c
      last x makes (inl old) = inl old
      last x makes (inr (inl same)) = inr (made_here (makes c (sym same)))
      last x makes (inr (inr none)) = absurd none

      here : Steps s e r mid → Among (all_fixed mid.history) (fixed c) → Among (all_fixed s.history) (fixed c) ⊎ MadeInRun start after (es₀ ++ e ∷ es) (rs₀ ++ r ∷ rs) c
      here (inl same) among = inl (subst (λ l. Among l (fixed c)) same among)
      here (inr (x, adds, makes)) among = last x makes (append_among (all_fixed s.history) (x ∷ []) (fixed c) (subst (λ l. Among l (fixed c)) adds among))

      by : Among (all_fixed mid.history) (fixed c) ⊎ MadeInRun start after ((es₀ ++ e ∷ []) ++ es) ((rs₀ ++ r ∷ []) ++ rs) c → Among (all_fixed s.history) (fixed c) ⊎ MadeInRun start after (es₀ ++ e ∷ es) (rs₀ ++ r ∷ rs) c
      by (inl among) = here (steps s rules k.numbers e r mid step) among
      by (inr more) = inr (subst (λ l. MadeInRun start after l (rs₀ ++ r ∷ rs) c) (append_assoc es₀ (e ∷ []) es) (subst (λ l. MadeInRun start after ((es₀ ++ e ∷ []) ++ es) l c) (append_assoc rs₀ (r ∷ []) rs) more))

  kept_by : (h : HistoryData) → Among (all_fixed h) (fixed c) → IsKept h c
  kept_by h among =
      let (it, there, same) = map_among fixed h.builds (fixed c) among in
      record {
        it = it;
        there = contains_from h.builds it there;
        job = ap (λ (y : Fixed). y.0) same;
        number = ap (λ (y : Fixed). y.1) same;
        used = ap (λ (y : Fixed). y.2) same;
      }

  stays : (s after : State) (es : List EventData) (rs : List Replied) → AllByRecursion IsEvent es → IsSound s → IsHistory s.history → Run s es rs after → Among (all_fixed s.history) (fixed c) → Among (all_fixed after.history) (fixed c)
  stays s after [] [] up k rules rest there = subst (λ y. Among (all_fixed y.history) (fixed c)) (sym rest) there
  stays s after [] (r ∷ rs) up k rules rest there = absurd rest
  stays s after (e ∷ es) [] up k rules rest there = absurd rest
  stays s after (e ∷ es) (r ∷ rs) up k rules (mid, step, rest) there =
      stays mid after es rs up.1 (leaves_step s e r mid up.0 k step).sound (history_then _ s mid rules (leaves_step s e r mid up.0 k step)) rest (on (steps s rules k.numbers e r mid step))
    where
      on : Steps s e r mid → Among (all_fixed mid.history) (fixed c)
      on (inl same) = subst (λ l. Among l (fixed c)) (sym same) there
      on (inr (x, adds, makes)) = subst (λ l. Among l (fixed c)) (sym adds) (among_left (all_fixed s.history) (x ∷ []) (fixed c) there)

fixed_there : (h : HistoryData) (c : BuildData) → Contains h.builds c → Among (all_fixed h) (fixed c)
fixed_there h c there = among_map fixed h.builds c (among_from h.builds c there)

-- ---- the laws
pub each_step_makes_best : EachStepMakesBest
each_step_makes_best s before after es rs e r start up run step c there =
    by (steps before rules sound.numbers e r after step) (fixed_there after.history c there)
  where
    sound : IsSound before
    sound = (leaves_run s es rs before up (starts s start) run).sound

    rules : IsHistory before.history
    rules = history_then _ s before start.history (leaves_run s es rs before up (starts s start) run)

    last : (x : Fixed) → IsNew before e r x → Among (all_fixed before.history) (fixed c) ⊎ Among (x ∷ []) (fixed c) → IsKept before.history c ⊎ IsMadeBy before e r c
    last x makes (inl old) = inl (kept_by before c before.history old)
    last x makes (inr (inl same)) = inr (makes c (sym same))
    last x makes (inr (inr none)) = absurd none

    by : Steps before e r after → Among (all_fixed after.history) (fixed c) → IsKept before.history c ⊎ IsMadeBy before e r c
    by (inl same) among = inl (kept_by before c before.history (subst (λ l. Among l (fixed c)) same among))
    by (inr (x, adds, makes)) among = last x makes (append_among (all_fixed before.history) (x ∷ []) (fixed c) (subst (λ l. Among l (fixed c)) adds among))

pub each_is_made_best : EachIsMadeBest
each_is_made_best s after es rs start up run c there =
    by (told s c s after [] es [] rs refl up (starts s start) start.history run (fixed_there after.history c there))
  where
    by : Among (all_fixed s.history) (fixed c) ⊎ MadeInRun s after es rs c → IsKept s.history c ⊎ MadeInRun s after es rs c
    by (inl old) = inl (kept_by s c s.history old)
    by (inr new) = inr new

nothing_starts : (s : State) → s.history ≡ no_history → s.pipeline ≡ None → s.running ≡ [] → IsStart s
nothing_starts s none unset idle = record {
  history = subst IsHistory (sym none) none_is_history;
  pipeline = subst (λ o. IsPipeline (unwrap_or o no_pipeline)) (sym unset) (record { plans = All-from_recursion (λ j. IsPlan j.plan) [] tt; linked = All-from_recursion (λ j. IsLinked (resource_names []) (job_names []) j.plan) [] tt });
  none_runs = idle;
}

pub each_is_made_so : EachIsMadeSo
each_is_made_so s after es rs none unset idle up run c there = by (each_is_made_best s after es rs (nothing_starts s none unset idle) up run c there)
  where
    by : IsKept s.history c ⊎ MadeInRun s after es rs c → MadeInRun s after es rs c
    by (inl old) = absurd (among_from [] old.it (subst (λ h. Contains h.builds old.it) none old.there))
    by (inr new) = new

pub used_stays : UsedStays
used_stays s after es rs start up run b there =
    kept_by s b after.history (stays s b s after es rs up (starts s start) start.history run (fixed_there s.history b there))

pub none_is_said_rightly : NoneIsSaidRightly
none_is_said_rightly s after e name (inl is) step = let (j, at, ((idle, none), same)) = (subst (λ y. Step s y (Ok NoneSatisfies) after) is step).1 in (j, at, none_found s name j at none)
none_is_said_rightly s after e name (inr is) step = let (j, at, ((idle, none), same)) = (subst (λ y. Step s y (Ok NoneSatisfies) after) is step).1 in (j, at, none_found s name j at none)

-- ---- from any state that events lead to
module _ (s before : State) (es : List EventData) (rs : List Replied) (start : IsStart s) (up : AllByRecursion IsEvent es) (run : Run s es rs before) where
  sound_then : IsSound before
  sound_then = (leaves_run s es rs before up (starts s start) run).sound

  rules_then : IsHistory before.history
  rules_then = history_then _ s before start.history (leaves_run s es rs before up (starts s start) run)

  -- what a build used stays
  pub used_stays_then : (after : State) (fs : List EventData) (us : List Replied) → AllByRecursion IsEvent fs → Run before fs us after → (b : BuildData) → Contains before.history.builds b → IsKept after.history b
  used_stays_then after fs us more_up more b there =
      kept_by before b after.history (stays before b before after fs us more_up sound_then rules_then more (fixed_there before.history b there))

  -- a build that is said to be made is there, and the event made it
  pub made_is_there : (e : EventData) (n : ℕ) (after : State) → Step before e (Ok (Made n)) after → (c : BuildData) × Contains after.history.builds c × IsMadeBy before e (Ok (Made n)) c
  made_is_there e n after (free, does) = there (by (addressed e) does)
    where
      makes : (name : Text) (f : EventData) → (f ≡ schedule name) ⊎ (f ≡ trigger name) → (j : JobData) → job_of name (pipeline_of before).jobs ≡ Some j → (places : List ℕ) → Finds before j.name (best places) → Makes before j places n after → Adds before f (Ok (Made n)) after
      makes name f asks j at places finds how = made before rules_then sound_then.numbers f name asks j at places finds n how.0 after how

      other : (f : EventData) → DoesBy before None f (Made n) after → Adds before f (Ok (Made n)) after
      other (schedule name) (j, at, (idle, (places, finds, news, how))) = makes name (schedule name) (inl refl) j at places finds how
      other (trigger name) (j, at, (idle, (places, finds, how))) = makes name (trigger name) (inr refl) j at places finds how
      other f how = absurd how

      by : (o : Option AnswerTo) → DoesBy before o e (Made n) after → Adds before e (Ok (Made n)) after
      by (Some w) answers = absurd answers
      by None how = other e how

      there : Adds before e (Ok (Made n)) after → (c : BuildData) × Contains after.history.builds c × IsMadeBy before e (Ok (Made n)) c
      there (x, adds, is_new) =
          let (c, among, same) = map_among fixed after.history.builds x (subst (λ l. Among l x) (sym adds) (among_right (all_fixed before.history) (x ∷ []) x (inl refl))) in
          (c, contains_from after.history.builds c among, is_new c same)

-- ---- what is cut short before a core begins
module _ (h : HistoryData) where
  -- a state with this history
  holding : State
  holding = record { history = h; pipeline = None; budget = 0; running = [] }

  pub resumed_from : (c : BuildData) → Contains (changed (resumed h) h).builds c → IsKept h c
  resumed_from c there =
      kept_by holding c h (subst (λ l. Among l (fixed c)) (names_fixed (running_in h.builds) h) (fixed_there (changed (resumed h) h) c there))

  pub resumed_keeps : (c : BuildData) → Contains h.builds c → IsKept (changed (resumed h) h) c
  resumed_keeps c there =
      kept_by holding c (changed (resumed h) h) (subst (λ l. Among l (fixed c)) (sym (names_fixed (running_in h.builds) h)) (fixed_there h c there))
