-- What has become of each build.
use Rattle.std.proofs.Common.{◌≡◌, ◌≢◌, ◌⊎◌, inl, inr, ℕ, ◌==◌, Bool, true, false, cond, ◌&&◌, List, [], ◌∷◌, ◌++◌, Option, Some, None, Ok, Err, bytes_eq, refl, sym, ap, ◌∙◌, subst, append-nil, append_assoc}
use Rattle.std.specs.List.{AllByRecursion}
use Rattle.ccr_history.specs.declared.build.Status.{Status}
use Rattle.ccr_history.specs.declared.build.Status.TheVariants.{Running, Succeeded, Failed, Errored, Aborted}
use Rattle.ccr_history.specs.Text.{Text}
use Rattle.ccr_history.specs.Builds.{BuildData, build_of}
use Rattle.ccr_history.specs.Changes.{EditData}
use Rattle.ccr_steps.specs.Asks.{AnswerData}
use Rattle.ccr_core.specs.declared.reply.Reply.{Reply}
use Rattle.ccr_core.specs.declared.reply.Reply.TheVariants.{Goes, Ends}
use Rattle.ccr_core.specs.Addressed.{AnswerTo, addressed}
use Rattle.ccr_core.specs.Edits.{AreEdits}
use Rattle.ccr_core.specs.Events.{EventData, set_pipeline, checked, schedule, trigger, answer, abort, pin, unpin, disable, enable, restart}
use Rattle.ccr_core.specs.EndedInRun.{Moment, EndedInRun, EachEndedInRun, EndedStays}
use Rattle.ccr_core.specs.Kept.{IsEvent, IsStart}
use Rattle.ccr_core.specs.Own.{said_to, own, own_of}
use Rattle.ccr_core.specs.Replies.{Replied}
use Rattle.ccr_core.specs.State.{RunningData, State, pipeline_of, running_at}
use Rattle.ccr_core.specs.Steps.{Answers, DoesBy, Step, Run}
use Rattle.ccr_core.specs.EachBuild.{HasEnded, EndsIn, EndsAsMeant}
use Rattle.ccr_core.proofs.Causing.{caused, ran, none_own}
use Rattle.ccr_core.proofs.Ending.{each_ends_as_meant, each_is_cut_short}
use Rattle.ccr_core.proofs.Keeping.{all_stay}
use Rattle.ccr_core.proofs.Owning.{of_build}
use Rattle.ccr_core.proofs.RunningLists.{all_append, id_same, at_id, all_at}
use Rattle.ccr_core.proofs.Sound.{IsSoundBuild, IsSound, Leaves, Any, leaves_step, leaves_run, starts}

-- ---- runs, put together
run_more : (s mid after : State) (es : List EventData) (rs : List Replied) (e : EventData) (r : Replied) → Run s es rs mid → Step mid e r after → Run s (es ++ e ∷ []) (rs ++ r ∷ []) after
run_more s mid after [] [] e r run step = (after, subst (λ y. Step y e r after) run step, refl)
run_more s mid after [] (u ∷ rs) e r run step = absurd run
run_more s mid after (f ∷ es) [] e r run step = absurd run
run_more s mid after (f ∷ es) (u ∷ rs) e r (next, first, run) step = (next, first, run_more next mid after es rs e r run step)

own_join : (j : Text) (n : ℕ) (s after : State) (es fs : List EventData) (rs us : List Replied) → Run s es rs after → own j n (es ++ fs) (rs ++ us) ≡ own j n es rs ++ own j n fs us
own_join j n s after [] fs [] us run = refl
own_join j n s after [] fs (u ∷ rs) us run = absurd run
own_join j n s after (f ∷ es) fs [] us run = absurd run
own_join j n s after (f ∷ es) fs (u ∷ rs) us (mid, step, run) = ap (λ l. own_of j n f u ++ l) (own_join j n mid after es fs rs us run) ∙ sym (append_assoc (own_of j n f u) (own j n es rs) (own j n fs us))

-- ---- a build that has ended
-- what has ended stays so over a step
step_stays : (E : List EditData → Type 0) (s after : State) → Leaves E s after → (j : Text) (n : ℕ) (c : BuildData) → build_of j n s.history.builds ≡ Some c → c.status ≢ Running → build_of j n after.history.builds ≡ Some c
step_stays E s after l j n c found done =
    let (edits, are, (takes, is)) = l.taken in
    ap (λ y. build_of j n y.builds) is ∙ all_stay edits s.history takes j n c found done

-- it doesn't run
not_running : (s : State) (j : Text) (n : ℕ) (c : BuildData) (b : RunningData) → IsSound s → build_of j n s.history.builds ≡ Some c → c.status ≢ Running → running_at j n s.running ≡ Some b → ⊥
not_running s j n c b k found done at =
    let (d, there, runs, right, each) = (all_at (IsSoundBuild (pipeline_of s) s.history) j n s.running b k.each at).held in
    let (p, q) = at_id j n s.running b at in
    let both : Some c ≡ Some d = sym found ∙ ap (λ y. build_of y n s.history.builds) (sym p) ∙ ap (λ y. build_of b.job y s.history.builds) (sym q) ∙ there in
    let same : c ≡ d = cc both in
    done (ap (λ y. y.status) same ∙ runs)

-- so no answer to it is taken
not_owned : (s : State) (j job : Text) (n number : ℕ) (x : AnswerData) (c : BuildData) (b : RunningData) → IsSound s → build_of j n s.history.builds ≡ Some c → c.status ≢ Running → running_at job number s.running ≡ Some b → cond (bytes_eq j job && n == number) (x ∷ []) [] ≡ []
not_owned s j job n number x c b k found done at = by (bytes_eq j job && n == number) refl
  where
    by : (t : Bool) → (bytes_eq j job && n == number) ≡ t → cond t (x ∷ []) [] ≡ []
    by false is = refl
    by true is =
        let (p, q) = id_same j job n number is in
        absurd (not_running s j n c b k found done (ap (λ y. running_at y n s.running) p ∙ ap (λ y. running_at job y s.running) q ∙ at))

own_none : (s : State) (e : EventData) (r : Replied) (after : State) (j : Text) (n : ℕ) (c : BuildData) → IsSound s → Step s e r after → build_of j n s.history.builds ≡ Some c → c.status ≢ Running → own_of j n e r ≡ []
own_none s e (Ok r) after j n c k (free, does) found done = by (addressed e) does
  where
    on : (a : AnswerTo) (u : Reply) → Answers s a u after → said_to j n (Some a) ≡ []
    on a Goes (b, at, takes) = not_owned s j a.job n a.number a.given c b k found done at
    on a (Ends o) (b, at, takes) = not_owned s j a.job n a.number a.given c b k found done at
    on a u answers = absurd answers

    by : (o : Option AnswerTo) → DoesBy s o e r after → said_to j n o ≡ []
    by (Some a) answers = on a r answers
    by None other = refl
own_none s e (Err f) after j n c k step found done = refl

owns_none : (s : State) (es : List EventData) (rs : List Replied) (after : State) (j : Text) (n : ℕ) (c : BuildData) → AllByRecursion IsEvent es → IsSound s → Run s es rs after → build_of j n s.history.builds ≡ Some c → c.status ≢ Running → own j n es rs ≡ []
owns_none s [] [] after j n c up k run found done = refl
owns_none s [] (r ∷ rs) after j n c up k run found done = absurd run
owns_none s (e ∷ es) [] after j n c up k run found done = absurd run
owns_none s (e ∷ es) (r ∷ rs) after j n c up k (mid, step, run) found done =
    let l = leaves_step s e r mid up.0 k step in
    ap (λ l. l ++ own j n es rs) (own_none s e r mid j n c k step found done) ∙ owns_none mid es rs after j n c up.1 l.sound run (step_stays (AreEdits s e r) s mid l j n c found done) done

-- ---- how it ended
-- whether a build has ended
is_ended : (s : State) (j : Text) (n : ℕ) → HasEnded s j n ⊎ ¬ HasEnded s j n
is_ended s j n = by (build_of j n s.history.builds) refl
  where
    on : (c : BuildData) → build_of j n s.history.builds ≡ Some c → (st : Status) → c.status ≡ st → HasEnded s j n ⊎ ¬ HasEnded s j n
    on c found Running is = inr (λ h. let (d, there, done) = h in let both : Some c ≡ Some d = sym found ∙ there in (let same : c ≡ d = cc both in done (ap (λ y. y.status) (sym same) ∙ is)))
    on c found Succeeded is = inl (c, found, λ e. cc (is, e))
    on c found Failed is = inl (c, found, λ e. cc (is, e))
    on c found Errored is = inl (c, found, λ e. cc (is, e))
    on c found Aborted is = inl (c, found, λ e. cc (is, e))

    by : (o : Option BuildData) → build_of j n s.history.builds ≡ o → HasEnded s j n ⊎ ¬ HasEnded s j n
    by None none = inr (λ h. let (d, there, done) = h in (let both : None ≡ Some d = sym none ∙ there in cc both))
    by (Some c) found = on c found c.status refl

module _ (start : State) (begins : IsStart start) where
  module _ (s mid after : State) (es₀ es : List EventData) (rs₀ rs : List Replied) (r : Replied) (up : AllByRecursion IsEvent es₀) (run : Run start es₀ rs₀ s) (rest : Run mid es rs after) (c : BuildData) (later : own c.job c.number es rs ≡ []) (ends : EndsIn s mid c) where
    -- the answers that were its own so far are those in all of the run
    pub own_whole : (e : EventData) → own c.job c.number (es₀ ++ e ∷ []) (rs₀ ++ r ∷ []) ≡ own c.job c.number (es₀ ++ e ∷ es) (rs₀ ++ r ∷ rs)
    own_whole e =
        own_join c.job c.number start s es₀ (e ∷ []) rs₀ (r ∷ []) run
        ∙ ap (λ l. own c.job c.number es₀ rs₀ ++ (own_of c.job c.number e r ++ l)) (sym later)
        ∙ sym (own_join c.job c.number start s es₀ (e ∷ es) rs₀ (r ∷ rs) run)

    -- and so are those before a restart
    own_before : own c.job c.number es₀ rs₀ ≡ own c.job c.number (es₀ ++ restart ∷ es) (rs₀ ++ r ∷ rs)
    own_before =
        sym (append-nil (own c.job c.number es₀ rs₀))
        ∙ ap (λ l. own c.job c.number es₀ rs₀ ++ l) (sym (ap (λ l. l ++ own c.job c.number es rs) (none_own c.job c.number r) ∙ later))
        ∙ sym (own_join c.job c.number start s es₀ (restart ∷ es) rs₀ (r ∷ rs) run)

    here : (e : EventData) → Step s e r mid → Moment start after (es₀ ++ e ∷ es) (rs₀ ++ r ∷ rs)
    here e step = record {
      first = es₀;
      event = e;
      rest = es;
      first_replies = rs₀;
      reply = r;
      rest_replies = rs;
      events = refl;
      replies = refl;
      before = s;
      then = mid;
      led = run;
      step = step;
      leads = rest;
    }

    meant_here : (e : EventData) → e ≢ restart → IsSound s → Step s e r mid → EndedInRun start after (es₀ ++ e ∷ es) (rs₀ ++ r ∷ rs) c
    unfolding here
    meant_here e other k step = record {
      at = here e step;
      ends = ends;
      silent = later;
      cause = inl (
        caused s k.numbers c e r mid step other ends,
        subst (λ xs. EndsAsMeant mid xs c) (own_whole e) (each_ends_as_meant start s mid es₀ rs₀ e r begins up run step other c ends),
      );
    }

    cut_here : Step s restart r mid → EndedInRun start after (es₀ ++ restart ∷ es) (rs₀ ++ r ∷ rs) c
    unfolding here
    cut_here step =
        let (status, moved) = each_is_cut_short s mid r step c ends in
        let (b, at) = ran s mid r c step ends in
        let own_b = of_build start s es₀ rs₀ c.job c.number b begins.none_runs run at in
        record {
          at = here restart step;
          ends = ends;
          silent = later;
          cause = inr (
            refl,
            (b, at, record { answered = own_b.answered ∙ own_before; planned = own_b.planned; begins = own_b.begins; waits = own_b.waits }),
            status,
            moved,
          );
        }

    -- a build that ends in a step
    ends_here : (e : EventData) → IsSound s → Step s e r mid → EndedInRun start after (es₀ ++ e ∷ es) (rs₀ ++ r ∷ rs) c
    ends_here (set_pipeline p) k step = meant_here (set_pipeline p) (λ e. cc (e)) k step
    ends_here (checked resource vs) k step = meant_here (checked resource vs) (λ e. cc (e)) k step
    ends_here (schedule job) k step = meant_here (schedule job) (λ e. cc (e)) k step
    ends_here (trigger job) k step = meant_here (trigger job) (λ e. cc (e)) k step
    ends_here (answer job number turn x) k step = meant_here (answer job number turn x) (λ e. cc (e)) k step
    ends_here (abort job number) k step = meant_here (abort job number) (λ e. cc (e)) k step
    ends_here (pin resource p) k step = meant_here (pin resource p) (λ e. cc (e)) k step
    ends_here (unpin resource) k step = meant_here (unpin resource) (λ e. cc (e)) k step
    ends_here (disable resource place) k step = meant_here (disable resource place) (λ e. cc (e)) k step
    ends_here (enable resource place) k step = meant_here (enable resource place) (λ e. cc (e)) k step
    ends_here restart k step = cut_here step

  told : (s after : State) (es₀ es : List EventData) (rs₀ rs : List Replied) → AllByRecursion IsEvent es₀ → Run start es₀ rs₀ s → AllByRecursion IsEvent es → IsSound s → Run s es rs after → (c : BuildData) → build_of c.job c.number after.history.builds ≡ Some c → c.status ≢ Running → ¬ HasEnded s c.job c.number → EndedInRun start after (es₀ ++ es) (rs₀ ++ rs) c
  told s after es₀ [] rs₀ [] before run up k rest c found done fresh = absurd (fresh (c, ap (λ y. build_of c.job c.number y.history.builds) (sym rest) ∙ found, done))
  told s after es₀ [] rs₀ (r ∷ rs) before run up k rest c found done fresh = absurd rest
  told s after es₀ (e ∷ es) rs₀ [] before run up k rest c found done fresh = absurd rest
  told s after es₀ (e ∷ es) rs₀ (r ∷ rs) before run up k (mid, step, rest) c found done fresh =
      by (is_ended mid c.job c.number) (told mid after (es₀ ++ e ∷ []) es (rs₀ ++ r ∷ []) rs (all_append IsEvent es₀ e before up.0) (run_more start s mid es₀ rs₀ e r run step) up.1 (leaves_step s e r mid up.0 k step).sound rest c found done)
    where
      by : HasEnded mid c.job c.number ⊎ ¬ HasEnded mid c.job c.number → (¬ HasEnded mid c.job c.number → EndedInRun start after ((es₀ ++ e ∷ []) ++ es) ((rs₀ ++ r ∷ []) ++ rs) c) → EndedInRun start after (es₀ ++ e ∷ es) (rs₀ ++ r ∷ rs) c
      by (inr open_) more = subst (λ l. EndedInRun start after l (rs₀ ++ r ∷ rs) c) (append_assoc es₀ (e ∷ []) es) (subst (λ l. EndedInRun start after ((es₀ ++ e ∷ []) ++ es) l c) (append_assoc rs₀ (r ∷ []) rs) (more open_))
      by (inl (d, there, over)) more =
          let l = leaves_step s e r mid up.0 k step in
          let end : build_of c.job c.number after.history.builds ≡ Some d = step_stays Any mid after (leaves_run mid es rs after up.1 l.sound rest) c.job c.number d there over in
          let both : Some d ≡ Some c = sym end ∙ found in
          let same : d ≡ c = cc both in
          let here : build_of c.job c.number mid.history.builds ≡ Some c = there ∙ ap Some same in
          ends_here s mid after es₀ es rs₀ rs r before run rest c (owns_none mid es rs after c.job c.number c up.1 l.sound rest here done) (here, done, fresh) e k step

-- ---- the laws
pub ended_stay : EndedStays
ended_stay s after es rs start up run c found done = step_stays Any s after (leaves_run s es rs after up (starts s start) run) c.job c.number c found done

pub each_has_its_fate : EachEndedInRun
each_has_its_fate s after es rs start up run c found done = by (is_ended s c.job c.number)
  where
    by : HasEnded s c.job c.number ⊎ ¬ HasEnded s c.job c.number → (build_of c.job c.number s.history.builds ≡ Some c) ⊎ EndedInRun s after es rs c
    by (inl (d, there, over)) =
        let end : build_of c.job c.number after.history.builds ≡ Some d = step_stays Any s after (leaves_run s es rs after up (starts s start) run) c.job c.number d there over in
        let both : Some d ≡ Some c = sym end ∙ found in
        let same : d ≡ c = cc both in
        inl (there ∙ ap Some same)
    by (inr fresh) = inr (told s start s after [] es [] rs tt refl up (starts s start) run c found done fresh)
