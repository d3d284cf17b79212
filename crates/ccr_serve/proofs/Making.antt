-- Which builds a call made, and that they used the best places then.
use Rattle.std.proofs.Common.{◌≡◌, ◌≢◌, ◌++◌, ◌⊎◌, ℕ, List, [], ◌∷◌, Bool, true, false, Option, Some, None, Result, Ok, Err, refl, sym, ◌∙◌, ap, subst, inl, inr, append_assoc}
use Rattle.std.specs.Prelude.{Contains, codes}
use Rattle.ccr_history.specs.Text.{Text}
use Rattle.ccr_history.specs.Builds.{BuildData, build_of}
use Rattle.ccr_history.specs.History.{HistoryData}
use Rattle.ccr_pipeline.specs.Inputs.{inputs}
use Rattle.ccr_problem.specs.ProblemOf.{job_of}
use Rattle.ccr_problem.specs.Together.{AreBest}
use Rattle.ccr_problem.proofs.Among.{Among, among_from}
use Rattle.ccr_task.specs.Places.{PlacesData}
use Rattle.ccr_core.specs.declared.reply.Reply.TheVariants.{Made}
use Rattle.ccr_core.specs.Commands.{CommandData}
use Rattle.ccr_core.specs.Events.{EventData, schedule, trigger}
use Rattle.ccr_core.specs.Holding.{CoreData, IsCore, Stands}
use Rattle.ccr_core.specs.Kept.{IsEvent}
use Rattle.ccr_core.specs.MadeInRun.{AreUsedFor, IsKept, IsMadeBy}
use Rattle.ccr_core.specs.Replies.{Replied}
use Rattle.ccr_core.specs.State.{State, pipeline_of, jobs_of}
use Rattle.ccr_core.specs.Steps.{Step}
use Rattle.ccr_core.proofs.MadeBest.{each_step_makes_best, used_stays_then, made_is_there, run_more}
use Rattle.ccr_core.proofs.Moving.{all_join}
use Rattle.ccr_lines.specs.Lines.{build_line, end_line, lines_of}
use Rattle.ccr_serve.specs.Commanding.{CameOf, Commanded, Unended}
use Rattle.ccr_serve.specs.Items.{World, Done, Part, Items}
use Rattle.ccr_serve.specs.MadeInCall.{MadeByOne, MadeABuild, MakesBest, IsReachedBy, MakesFrom, CallMakesBest}
use Rattle.ccr_serve.specs.Serving.{Serves}
use Rattle.ccr_serve.specs.Told.{Told}
use Rattle.ccr_serve.specs.Views.{View, world_of, with_calls, StandsAt, Calls}
use Rattle.ccr_serve.specs.declared.fault.ServeFault.{ServeFault}
use Rattle.ccr_serve.specs.declared.fault.ServeFault.TheVariants as fault
use Rattle.ccr_serve.proofs.Leading.{By, One, Led, PartLeads, led_both, led_run, items_led, commanded_led, unended_led}

-- ---- states that events lead to
reached_more : (s mid : State) (e : EventData) (r : Replied) → IsReachedBy s → Step s e r mid → IsEvent e → IsReachedBy mid
reached_more s mid e r reached step kept = record {
  start = reached.start;
  events = reached.events ++ e ∷ [];
  replies = reached.replies ++ r ∷ [];
  starts = reached.starts;
  kept = all_join IsEvent reached.events (e ∷ []) reached.kept (kept, tt);
  run = run_more reached.start s mid reached.events reached.replies e r reached.run step;
}

-- ---- builds that are the same but for how they stand
pub kept_by_kept : (h : HistoryData) (a b : BuildData) → a.job ≡ b.job → a.number ≡ b.number → a.used ≡ b.used → IsKept h a
    → IsKept h b
kept_by_kept h a b job number used k = record {
  it = k.it;
  there = k.there;
  job = k.job ∙ job;
  number = k.number ∙ number;
  used = k.used ∙ used;
}

pub kept_itself : (h : HistoryData) (c : BuildData) → Contains h.builds c → IsKept h c
kept_itself h c there = record { it = c; there = there; job = refl; number = refl; used = refl }

pub made_by_made : (s : State) (e : EventData) (r : Replied) (a b : BuildData) → a.job ≡ b.job → a.number ≡ b.number
    → a.used ≡ b.used → IsMadeBy s e r a → IsMadeBy s e r b
made_by_made s e r a b job number used m = record {
  asked = subst (λ j. (e ≡ schedule j) ⊎ (e ≡ trigger j)) job m.asked;
  replied = m.replied ∙ ap (λ n. Ok (Made n)) number;
  fresh = λ x there of. subst (λ (n : ℕ). x.number ≢ n) number (m.fresh x there (of ∙ sym job));
  job = m.job;
  named = subst (λ j. job_of j (jobs_of s) ≡ Some m.job) job m.named;
  places = m.places;
  best = subst (λ j. AreBest (pipeline_of s) s.history j (inputs m.job.plan) m.places) job m.best;
  used = subst (AreUsedFor (pipeline_of s) s.history (inputs m.job.plan) m.places) used m.used;
}

-- ---- one of what was done
-- the lines of what was done are those of the build that it made
made_lines : (lines : Text) (s t : State) (e : EventData) (r : Replied) (c : BuildData) → lines ≡ lines_of e r t.history
    → IsMadeBy s e r c
    → lines ≡ build_line c.job c.number (codes "made") ++ end_line c.job c.number (build_of c.job c.number t.history.builds)
made_lines lines s t e r c are m =
    by m.asked (subst (λ (x : Replied). lines ≡ lines_of e x t.history) m.replied are)
  where
    by : (e ≡ schedule c.job) ⊎ (e ≡ trigger c.job) → lines ≡ lines_of e (Ok (Made c.number)) t.history
        → lines
        ≡ build_line c.job c.number (codes "made") ++ end_line c.job c.number (build_of c.job c.number t.history.builds)
    by (inl is) so = subst (λ x. lines ≡ lines_of x (Ok (Made c.number)) t.history) is so
    by (inr is) so = subst (λ x. lines ≡ lines_of x (Ok (Made c.number)) t.history) is so

-- what was done led on by its event
record ByEvent (o : Option Told) (lines : Text) (old new : State) : Type 0 where
  event : EventData
  reply : Replied
  its : o ≡ Some (event, reply)
  kept : IsEvent event
  step : Step old event reply new
  are : lines ≡ lines_of event reply new.history

by_its_event : (o : Option Told) (lines : Text) (old new : State) → By o lines old new
    → (new ≡ old) ⊎ ByEvent o lines old new
by_its_event None lines old new same = inl same
by_its_event (Some m) lines old new (step, kept, are) =
    inr (record { event = m.0; reply = m.1; its = refl; kept = kept; step = step; are = are })

one_reached : (d : Done) (old new : State) → IsReachedBy old → One d old new → IsReachedBy new
one_reached d old new reached one = by (by_its_event d.event d.lines old new one)
  where
    by : (new ≡ old) ⊎ ByEvent d.event d.lines old new → IsReachedBy new
    by (inl same) = subst IsReachedBy (sym same) reached
    by (inr b) = reached_more old new b.event b.reply reached b.step b.kept

one_stays : (d : Done) (old new : State) → IsReachedBy old → One d old new → (b : BuildData)
    → Contains old.history.builds b → IsKept new.history b
one_stays d old new reached one c there = by (by_its_event d.event d.lines old new one)
  where
    by : (new ≡ old) ⊎ ByEvent d.event d.lines old new → IsKept new.history c
    by (inl same) = subst (λ s. IsKept s.history c) (sym same) (kept_itself old.history c there)
    by (inr b) =
        used_stays_then reached.start old reached.events reached.replies reached.starts reached.kept reached.run new
        (b.event ∷ []) (b.reply ∷ []) (b.kept, tt) (new, b.step, refl) c there

-- the first of what was done made the build
abbrev MadeHere : (d : Done) (old new : State) (c : BuildData) → Type 0
MadeHere d old new c = (b : ByEvent d.event d.lines old new) × IsMadeBy old b.event b.reply c

one_makes : (d : Done) (old new : State) → IsReachedBy old → One d old new → (c : BuildData)
    → Contains new.history.builds c → IsKept old.history c ⊎ MadeHere d old new c
one_makes d old new reached one c there = by (by_its_event d.event d.lines old new one)
  where
    so : (b : ByEvent d.event d.lines old new) → IsKept old.history c ⊎ IsMadeBy old b.event b.reply c
        → IsKept old.history c ⊎ MadeHere d old new c
    so b (inl k) = inl k
    so b (inr m) = inr (b, m)

    by : (new ≡ old) ⊎ ByEvent d.event d.lines old new → IsKept old.history c ⊎ MadeHere d old new c
    by (inl same) = inl (kept_itself old.history c (subst (λ s. Contains s.history.builds c) same there))
    by (inr b) =
        so b (each_step_makes_best reached.start old new reached.events reached.replies b.event b.reply reached.starts
        reached.kept reached.run b.step c there)

-- ---- all that was done
module _ (old new : State) where
  -- what was done first, one more, and what is left to be done
  abbrev made_at : (first : List Done) (d : Done) (rest : List Done) (before then : State) (c a : BuildData) → Led first old before
      → MadeHere d before then a → a.job ≡ c.job → a.number ≡ c.number → a.used ≡ c.used → Led rest then new
      → MadeByOne old (first ++ d ∷ rest) new c
  made_at first d rest before then c a led (b, m) job number used more =
      let made : IsMadeBy before b.event b.reply c = made_by_made before b.event b.reply a c job number used m in record {
        first = first;
        one = d;
        rest = rest;
        all = refl;
        event = b.event;
        reply = b.reply;
        its = b.its;
        before = before;
        then = then;
        led = led_run first old before led;
        step = b.step;
        leads = led_run rest then new more;
        made = made;
        lines = made_lines d.lines before then b.event b.reply c b.are made;
      }

  makes_from : (first rest : List Done) (s : State) → Led first old s → IsReachedBy s → Led rest s new → (c : BuildData)
      → Contains new.history.builds c → IsKept s.history c ⊎ MadeByOne old (first ++ rest) new c
  makes_from first [] s led reached same c there =
      inl (kept_itself s.history c (subst (λ t. Contains t.history.builds c) same there))
  makes_from first (d ∷ rest) s led reached (mid, one, more) c there =
      by (makes_from (first ++ d ∷ []) rest mid (led_both first (d ∷ []) old s mid led (mid, one, refl))
      (one_reached d s mid reached one) more c there)
    where
      here : (k : IsKept mid.history c) → IsKept s.history k.it ⊎ MadeHere d s mid k.it
          → IsKept s.history c ⊎ MadeByOne old (first ++ d ∷ rest) new c
      here k (inl was) = inl (kept_by_kept s.history k.it c k.job k.number k.used was)
      here k (inr made) = inr (made_at first d rest s mid c k.it led made k.job k.number k.used more)

      by : IsKept mid.history c ⊎ MadeByOne old ((first ++ d ∷ []) ++ rest) new c
          → IsKept s.history c ⊎ MadeByOne old (first ++ d ∷ rest) new c
      by (inl k) = here k (one_makes d s mid reached one k.it k.there)
      by (inr later) = inr (subst (λ l. MadeByOne old l new c) (append_assoc first (d ∷ []) rest) later)

stays_from : (ds : List Done) (s new : State) → IsReachedBy s → Led ds s new → (b : BuildData)
    → IsKept s.history b → IsKept new.history b
stays_from [] s new reached same b k = subst (λ t. IsKept t.history b) (sym same) k
stays_from (d ∷ ds) s new reached (mid, one, more) b k =
    let on = one_stays d s mid reached one k.it k.there in
    stays_from ds mid new (one_reached d s mid reached one) more b
    (kept_by_kept mid.history k.it b k.job k.number k.used on)

-- the reply of one says that a build was made
module _ (old new : State) (one : Done) (e : EventData) (n : ℕ) (is : one.event ≡ Some (e, Ok (Made n))) where
  said_here : (first : List Done) (d : Done) (rest : List Done) (s mid : State) → Led first old s → IsReachedBy s → One d s mid
      → Led rest mid new → d ≡ one → MadeABuild old (first ++ d ∷ rest) new one
  said_here first d rest s mid led reached one_led more same =
      let its : d.event ≡ Some (e, Ok (Made n)) = ap (λ x. x.event) same ∙ is in
      let (step, kept, are) = subst (λ o. By o d.lines s mid) its one_led in
      let (c, there, made) = made_is_there reached.start s reached.events reached.replies reached.starts reached.kept
      reached.run e n mid step in
      let b : ByEvent d.event d.lines s mid = record {
        event = e;
        reply = Ok (Made n);
        its = its;
        kept = kept;
        step = step;
        are = are;
      } in (
        c,
        stays_from rest mid new (one_reached d s mid reached one_led) more c (kept_itself mid.history c there),
        (made_at old new first d rest s mid c c led (b, made) refl refl refl more, same),
      )

  said_from : (first rest : List Done) (s : State) → Led first old s → IsReachedBy s → Led rest s new → Among rest one
      → MadeABuild old (first ++ rest) new one
  said_from first [] s led reached same h = absurd h
  said_from first (d ∷ rest) s led reached (mid, one_led, more) (inl same) =
      said_here first d rest s mid led reached one_led more same
  said_from first (d ∷ rest) s led reached (mid, one_led, more) (inr h) =
      subst (λ l. MadeABuild old l new one) (append_assoc first (d ∷ []) rest)
      (said_from (first ++ d ∷ []) rest mid (led_both first (d ∷ []) old s mid led (mid, one_led, refl))
      (one_reached d s mid reached one_led) more h)

pub led_makes_best : (ds : List Done) (old new : State) → IsReachedBy old → Led ds old new → MakesBest old ds new
led_makes_best ds old new reached led = record {
  best = λ c there. makes_from old new [] ds old refl reached led c there;
  stays = λ b there. stays_from ds old new reached led b (kept_itself old.history b there);
  said = λ one e n there is. said_from old new one e n is [] ds old refl reached led (among_from ds one there);
}

-- ---- calls
stands_so : (whole closed : Bool) (now : World) (new : View) → StandsAt whole closed now new → new.closed ≡ closed
    → new.closed ≡ false → Stands new.core now.core
stands_so true closed now new (unclosed, is, last) same goes_on = is
stands_so false true now new is same goes_on = absurd (cc (same, goes_on))
stands_so false false now new (is, last) same goes_on = is

pub core_reached : (c : CoreData) → IsCore c → (s : State) × IsReachedBy s × Stands c s
core_reached c core =
    let (start, es, rs, s, starts, kept, run, stands) = core.reached in (
      s,
      record { start = start; events = es; replies = rs; starts = starts; kept = kept; run = run },
      stands,
    )

pub call_makes_best : (P : Part) → PartLeads P → (old new : View) (whole : Bool) → Calls P old whole new
    → CallMakesBest old new
call_makes_best P leads old new whole calls s reached stands =
    let c = calls.from s stands in
    let led : Led c.dones s c.now.core = leads (world_of old s) c.dones whole c.now c.does in
    record {
      dones = c.dones;
      now = c.now.core;
      run = led_run c.dones s c.now.core led;
      lines = c.lines;
      holds = c.holds;
      goes_on = stands_so whole new.closed c.now new c.stands refl;
      makes = led_makes_best c.dones s c.now.core reached led;
    }

pub came_makes_best : (places : PlacesData) (c : CommandData) (result : Result ℕ ServeFault) (old new : View)
    → CameOf places c result old new → CallMakesBest old new
came_makes_best places c (Ok status) old new came =
    call_makes_best (Commanded places c status) (commanded_led places c status) old new true came
came_makes_best places c (Err fault.NoMemory) old new came =
    call_makes_best (Commanded places c 0) (commanded_led places c 0) old new false came
came_makes_best places c (Err (fault.Store f)) old new came =
    call_makes_best (Commanded places c 0) (commanded_led places c 0) old new false came
came_makes_best places c (Err fault.TurnsUsedUp) old new came =
    call_makes_best (Unended places c) (unended_led places c) old new true came
came_makes_best places c (Err f) old new came =
    λ s reached stands. again (call_makes_best (Items (Serves places) []) (items_led places []) (with_calls new.calls old) new
    false came.back s reached stands)
  where
    again : {s : State} → MakesFrom s (with_calls new.calls old) new → MakesFrom s old new
    again m = record {
      dones = m.dones;
      now = m.now;
      run = m.run;
      lines = m.lines;
      holds = m.holds;
      goes_on = m.goes_on;
      makes = m.makes;
    }
