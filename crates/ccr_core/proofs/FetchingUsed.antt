-- Each build that runs has a version for each input of its plan, and fetches the one at the place that it used.
use Rattle.std.proofs.Common.{◌≡◌, ◌⊎◌, inl, inr, ℕ, Bool, true, false, cond, ◌||◌, List, [], ◌∷◌, length, map, Option, Some, None, Ok, Err, bytes_eq, refl, sym, ap, ◌∙◌, subst, arith}
use Rattle.std.specs.List.{AllByRecursion}
use Rattle.std.proofs.lemmas.Bool.{false≢true}
use Rattle.std.proofs.lemmas.List.{length-map}
use Rattle.ccr_history.specs.Text.{Text}
use Rattle.ccr_history.specs.TextMap.{TextMap}
use Rattle.ccr_history.specs.Builds.{UsedData, BuildData, is_build_of, build_of}
use Rattle.ccr_history.specs.History.{HistoryData, IsHistory}
use Rattle.ccr_pipeline.specs.Inputs.{InputData, inputs}
use Rattle.ccr_pipeline.specs.JobData.{JobData}
use Rattle.ccr_pipeline.specs.Limits.{input_names}
use Rattle.ccr_pipeline.specs.Pipelines.{PipelineData}
use Rattle.ccr_steps.specs.Asks.{chosen, version_of}
use Rattle.ccr_core.specs.declared.reply.Reply.{Reply}
use Rattle.ccr_core.specs.declared.reply.Reply.TheVariants.{Set, New, Made, NotNew, Goes, Ends, Pinned, Unpinned, Disabled, Enabled, Restarted}
use Rattle.ccr_problem.specs.ProblemOf.{job_of}
use Rattle.ccr_problem.proofs.Among.{Among, among_from, contains_from, map_among, among_map, all_among}
use Rattle.ccr_problem.proofs.Names.{same_text}
use Rattle.ccr_core.specs.Addressed.{AnswerTo, addressed}
use Rattle.ccr_core.specs.Builds.{begun, Makes, with_answer}
use Rattle.ccr_core.specs.Choices.{best, Finds, versions_at}
use Rattle.ccr_core.specs.Events.{EventData, set_pipeline, checked, schedule, trigger, pin, unpin, disable, enable, restart}
use Rattle.ccr_steps.specs.Fetches.{IsOfInput, WasPushed}
use Rattle.ccr_core.specs.FetchedInRun.{IsAsUsed, EachFetchesWhatItUsed}
use Rattle.ccr_core.specs.Kept.{IsEvent, IsKeptBy}
use Rattle.ccr_core.specs.Replies.{Replied}
use Rattle.ccr_core.specs.Seen.{is_used_for, version_in}
use Rattle.ccr_core.specs.State.{RunningData, State, pipeline_of, is_run_of, replaced, without}
use Rattle.ccr_core.specs.Steps.{Schedules, Triggers, Answers, DoesBy, Step, Run}
use Rattle.ccr_steps.proofs.Fetching.{fetches_its_own}
use Rattle.ccr_core.proofs.MadeBest.{best_found, history_then}
use Rattle.ccr_core.proofs.RunningLists.{all_append, all_at, id_same}
use Rattle.ccr_core.proofs.Sound.{IsSound, leaves_step, starts, each_change_is_taken}

-- the build has a version for each input of its plan, by name and in order
abbrev IsNamed : RunningData → Type 0
IsNamed b = map (λ i. i.0) b.inputs ≡ input_names b.plan

names_chosen : (ns : List Text) (vs : List TextMap) → length vs ≡ length ns → map (λ i. i.0) (chosen ns vs) ≡ ns
names_chosen [] vs e = refl
names_chosen (n ∷ ns) [] e = absurd (omega (arith, e))
names_chosen (n ∷ ns) (v ∷ vs) e = ap (λ l. n ∷ l) (names_chosen ns vs (omega (arith, e)))

versions_long : (p : PipelineData) (h : HistoryData) (is : List InputData) (ns : List ℕ) → length ns ≡ length is → length (versions_at p h is ns) ≡ length is
versions_long p h [] ns e = refl
versions_long p h (i ∷ is) [] e = absurd (omega (arith, e))
versions_long p h (i ∷ is) (n ∷ ns) e = let more = versions_long p h is ns (omega (arith, e)) in omega (arith, more)

all_replaced : (P : RunningData → Type 0) (new : RunningData) (bs : List RunningData) → P new → AllByRecursion P bs → AllByRecursion P (replaced new bs)
all_replaced P new [] is all = tt
all_replaced P new (b ∷ bs) is all = by (is_run_of new.job new.number b) (all_replaced P new bs is all.1)
  where
    by : (t : Bool) → AllByRecursion P (replaced new bs) → AllByRecursion P (cond t (new ∷ bs) (b ∷ replaced new bs))
    by true more = (is, all.1)
    by false more = (all.0, more)

all_without : (P : RunningData → Type 0) (job : Text) (number : ℕ) (bs : List RunningData) → AllByRecursion P bs → AllByRecursion P (without job number bs)
all_without P job number [] all = tt
all_without P job number (b ∷ bs) all = by (is_run_of job number b) (all_without P job number bs all.1)
  where
    by : (t : Bool) → AllByRecursion P (without job number bs) → AllByRecursion P (cond t bs (b ∷ without job number bs))
    by true more = all.1
    by false more = (all.0, more)

-- ---- each step
module _ (before : State) (rules : IsHistory before.history) (named : AllByRecursion IsNamed before.running) where
  abbrev AreNamed : State → Type 0
  AreNamed s = AllByRecursion IsNamed s.running

  still : (after : State) → after.running ≡ before.running → AreNamed after
  still after is = subst (AllByRecursion IsNamed) (sym is) named

  begun_named : (name : Text) (j : JobData) (at : job_of name (pipeline_of before).jobs ≡ Some j) (places : List ℕ) → Finds before j.name (best places) → IsNamed (begun (pipeline_of before) before.history j places)
  begun_named name j at places finds =
      let found = best_found before name j at rules places finds in
      names_chosen (input_names j.plan) (versions_at (pipeline_of before) before.history (inputs j.plan) places)
      (versions_long (pipeline_of before) before.history (inputs j.plan) places found.together.place_each ∙ sym (length-map (inputs j.plan) (λ i. i.name)))

  made : (name : Text) (j : JobData) (at : job_of name (pipeline_of before).jobs ≡ Some j) (places : List ℕ) (m : ℕ) (after : State) → Finds before j.name (best places) → Makes before j places m after → AreNamed after
  made name j at places m after finds (number, (None, h, settles, to)) =
      subst AreNamed (sym to) (all_append IsNamed before.running (begun (pipeline_of before) before.history j places) named (begun_named name j at places finds))
  made name j at places m after finds (number, (Some o, h, settles, to)) = subst AreNamed (sym to) named

  scheduled : (name : Text) (j : JobData) (r : Reply) (after : State) → job_of name (pipeline_of before).jobs ≡ Some j → Schedules before j r after → AreNamed after
  scheduled name j (Made m) after at (idle, (places, finds, news, makes)) = made name j at places m after finds makes
  scheduled name j NotNew after at (idle, (places, finds, news, is)) = still after (ap (λ y. y.running) is)
  scheduled name j r after at (held, is) = still after (ap (λ y. y.running) is)

  triggered : (name : Text) (j : JobData) (r : Reply) (after : State) → job_of name (pipeline_of before).jobs ≡ Some j → Triggers before j r after → AreNamed after
  triggered name j (Made m) after at (idle, (places, finds, makes)) = made name j at places m after finds makes
  triggered name j r after at (held, is) = still after (ap (λ y. y.running) is)

  other : (e : EventData) (r : Reply) (after : State) → DoesBy before None e r after → AreNamed after
  other (set_pipeline q) Set after is = still after (ap (λ y. y.running) is)
  other (checked resource vs) (New n) after (news, is) = still after (ap (λ y. y.running) is)
  other (schedule job) r after (j, at, how) = scheduled job j r after at how
  other (trigger job) r after (j, at, how) = triggered job j r after at how
  other (pin resource q) Pinned after is = still after (ap (λ y. y.running) is)
  other (unpin resource) Unpinned after is = still after (ap (λ y. y.running) is)
  other (disable resource place) Disabled after is = still after (ap (λ y. y.running) is)
  other (enable resource place) Enabled after is = still after (ap (λ y. y.running) is)
  other restart Restarted after is = subst AreNamed (sym is) tt
  other e r after does = absurd does

  answered : (w : AnswerTo) (r : Reply) (after : State) → Answers before w r after → AreNamed after
  answered w Goes after (b, at, (a, next, (h, settles, to))) =
      subst AreNamed (sym to) (all_replaced IsNamed (with_answer b a w.given) before.running (all_at IsNamed w.job w.number before.running b named at) named)
  answered w (Ends o) after (b, at, (a, next, (h, settles, to))) = subst AreNamed (sym to) (all_without IsNamed b.job b.number before.running named)
  answered w r after answers = absurd answers

  steps : (e : EventData) (r : Replied) (after : State) → Step before e r after → AreNamed after
  steps e (Ok r) after (free, does) = by (addressed e) does
    where
      by : (o : Option AnswerTo) → DoesBy before o e r after → AreNamed after
      by (Some w) answers = answered w r after answers
      by None does = other e r after does
  steps e (Err f) after (may, is) = still after (ap (λ y. y.running) is)

runs_named : (s after : State) (es : List EventData) (rs : List Replied) → AllByRecursion IsEvent es → IsSound s → IsHistory s.history → AllByRecursion IsNamed s.running → Run s es rs after → AllByRecursion IsNamed after.running
runs_named s after [] [] up k rules named rest = subst (λ y. AllByRecursion IsNamed y.running) (sym rest) named
runs_named s after [] (r ∷ rs) up k rules named rest = absurd rest
runs_named s after (e ∷ es) [] up k rules named rest = absurd rest
runs_named s after (e ∷ es) (r ∷ rs) up k rules named (mid, step, rest) =
    runs_named mid after es rs up.1 (leaves_step s e r mid up.0 k step).sound (history_then _ s mid rules (leaves_step s e r mid up.0 k step)) (steps s rules named e r mid step) rest

-- ---- what was used
used_among : (name : Text) (us : List UsedData) → is_used_for us name ≡ true → (u : UsedData) × Among us u × (u.input ≡ name)
used_among name [] h = absurd (false≢true h)
used_among name (u ∷ us) h = by (bytes_eq name u.input) refl h (used_among name us)
  where
    by : (t : Bool) → bytes_eq name u.input ≡ t → (t || is_used_for us name) ≡ true → (is_used_for us name ≡ true → (v : UsedData) × Among us v × (v.input ≡ name)) → (v : UsedData) × Among (u ∷ us) v × (v.input ≡ name)
    by true is h more = (u, inl refl, sym (same_text name u.input is))
    by false is h more = let (v, there, e) = more h in (v, inr there, e)

pub found_among : (j : Text) (n : ℕ) (bs : List BuildData) (c : BuildData) → build_of j n bs ≡ Some c → Among bs c × (c.job ≡ j) × (c.number ≡ n)
found_among j n [] c e = absurd (cc (e))
found_among j n (b ∷ bs) c e = by (is_build_of j n b) refl e (found_among j n bs c)
  where
    by : (t : Bool) → is_build_of j n b ≡ t → cond t (Some b) (build_of j n bs) ≡ Some c → (build_of j n bs ≡ Some c → Among bs c × (c.job ≡ j) × (c.number ≡ n)) → Among (b ∷ bs) c × (c.job ≡ j) × (c.number ≡ n)
    by true is e more =
        let same : b ≡ c = cc e in
        let (p, q) = id_same j b.job n b.number is in
        (inl same, ap (λ y. y.job) (sym same) ∙ sym p, ap (λ y. y.number) (sym same) ∙ sym q)
    by false is e more = let (there, p, q) = more e in (inr there, p, q)

as_used : (h : HistoryData) (b : RunningData) (name : Text) (v : TextMap) → IsKeptBy h b → IsNamed b → Among (input_names b.plan) name → v ≡ version_of b.inputs name → IsAsUsed h b name v
as_used h b name v (c, found, runs, (each, right)) named there is =
    let (x, mine, e) = map_among (λ (i : Text × TextMap). i.0) b.inputs name (subst (λ l. Among l name) (sym named) there) in
    let for_it : is_used_for c.used name ≡ true = subst (λ y. is_used_for c.used y ≡ true) e (all_among (λ (i : Text × TextMap). is_used_for c.used i.0 ≡ true) b.inputs x each mine) in
    let (u, used, input) = used_among name c.used for_it in
    let (kept, p, q) = found_among b.job b.number h.builds c found in
    record {
      build = c;
      there = contains_from h.builds c kept;
      job = p;
      number = q;
      used = u;
      among = contains_from c.used u used;
      input = input;
      version = is ∙ ap (version_of b.inputs) (sym input) ∙ all_among (λ u. version_of b.inputs u.input ≡ version_in h.tables u.scope u.place) c.used u right used;
    }

pub each_fetches_what_it_used : EachFetchesWhatItUsed
each_fetches_what_it_used s after es rs start up run b running name resource v params next =
    by (fetches_its_own b.inputs b.plan b.exchanges name resource v params next)
  where
    there : Among after.running b
    there = among_from after.running b running

    kept : IsKeptBy after.history b
    kept = all_among (IsKeptBy after.history) after.running b (each_change_is_taken s after es rs start up run).1 there

    named : IsNamed b
    named = all_among IsNamed after.running b (runs_named s after es rs up (starts s start) start.history (subst (AllByRecursion IsNamed) (sym start.none_runs) tt) run) there

    by : IsOfInput b.inputs b.plan name resource v ⊎ WasPushed b.exchanges resource v → IsAsUsed after.history b name v ⊎ WasPushed b.exchanges resource v
    by (inl (i, among, is_name, of_resource, is)) =
        inl (as_used after.history b name v kept named (subst (Among (input_names b.plan)) is_name (among_map (λ i. i.name) (inputs b.plan) i (among_from (inputs b.plan) i among))) is)
    by (inr pushed) = inr pushed
