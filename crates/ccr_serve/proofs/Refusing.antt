-- Commands that are refused, or that are kept from beginning.
use Rattle.std.proofs.Common.{◌≡◌, ℕ, List, [], false, Option, None, Some, IsSome, Err, refl, sym, ◌∙◌, ap, subst, append-nil, inl, inr}
use Rattle.std.proofs.lemmas.Bool.{false≢true}
use Rattle.ccr_history.specs.Text.{Text}
use Rattle.ccr_task.specs.Places.{PlacesData}
use Rattle.ccr_core.specs.declared.fault.CoreFault.{CoreFault}
use Rattle.ccr_core.specs.declared.fault.CoreFault.TheVariants as core_fault
use Rattle.ccr_core.specs.Events.{EventData}
use Rattle.ccr_core.specs.Faults.{MayRefuse, IsFirstFault}
use Rattle.ccr_core.specs.Holding.{Stands}
use Rattle.ccr_core.specs.State.{State}
use Rattle.ccr_core.specs.Commands.{CommandData}
use Rattle.ccr_lines.specs.CommandNeeds.{need_of}
use Rattle.ccr_lines.specs.Needs.{Lacks}
use Rattle.ccr_task.specs.Calls.{CallData}
use Rattle.ccr_serve.specs.Commanding.{Commanded, IsRefused, WasRefused, CameOf}
use Rattle.ccr_serve.specs.Items.{Items}
use Rattle.ccr_serve.specs.Serving.{Serves}
use Rattle.ccr_serve.specs.Views.{View, world_of, with_calls, IsReady, Calls, StandsAt, Made, Unmade, StopsItem, Ends}
use Rattle.ccr_serve.specs.declared.fault.ServeFault.{ServeFault}
use Rattle.ccr_serve.specs.declared.fault.ServeFault.TheVariants as fault
use Rattle.ccr_serve.proofs.Commits.{rose_none, asked_these}
use Rattle.ccr_serve.proofs.Composing.{calls_back}
use Rattle.ccr_serve.proofs.Crash.{leaves_ready}
use Rattle.ccr_serve.proofs.Steps.{after, printed, MayTell, items_stop, cut_at_once, unmade_at_once, stops_item}

-- ---- nothing was done
-- a server that has done nothing refuses
pub refused_at_once : {places : PlacesData} {c : CommandData} {f : ServeFault} {v : View} → IsReady v
    → ((s : State) → Stands v.core s → IsRefused c f s v.calls v.calls) → WasRefused places c f v v
refused_at_once {places} {c} {f} {v} ready why = record {
  why = why;
  back = calls_back (Serves places) [] ready;
  pairs = refl;
  commits = rose_none v.tally.commits;
  lines = refl;
}

-- a server refuses whose shelf was called
pub refused_after : {places : PlacesData} {c : CommandData} {f : ServeFault} {v : View} {k : List CallData} {l : Text}
    → IsReady v → l ≡ v.lines → ((s : State) → Stands v.core s → IsRefused c f s v.calls k)
    → WasRefused places c f v (after v k v.pairs l)
refused_after {places} {c} {f} {v} {k} {l} ready lines why = record {
  why = why;
  back = cut_at_once (with_calls k v) (items_stop (Serves places) []) ready lines;
  pairs = refl;
  commits = rose_none v.tally.commits;
  lines = lines;
}

-- what the command needs isn't there
pub lacks : {l : Text} (places : PlacesData) (c : CommandData) (f : CoreFault) (v : View) → IsReady v → l ≡ v.lines
    → Lacks (need_of c) v.core.pipeline v.core.history f → CameOf places c (Err (fault.Core f)) v (printed v l)
lacks {l} places c f v ready lines is = by f is where
  refuses : (f : CoreFault) → ((s : State) → Stands v.core s → IsRefused c (fault.Core f) s v.calls v.calls)
      → CameOf places c (Err (fault.Core f)) v (printed v l)
  refuses f why = refused_after {f = fault.Core f} ready lines why

  -- it isn't there in the states that the core stands for
  moved : (s : State) (f : CoreFault) → Stands v.core s → Lacks (need_of c) v.core.pipeline v.core.history f
      → Lacks (need_of c) s.pipeline s.history f
  moved s f stands h =
      subst (λ x. Lacks (need_of c) s.pipeline x f) stands.0
      (subst (λ p. Lacks (need_of c) p v.core.history f) stands.1 h)

  by : (f : CoreFault) → Lacks (need_of c) v.core.pipeline v.core.history f → CameOf places c (Err (fault.Core f)) v (printed v l)
  by core_fault.NoPipeline h = refuses core_fault.NoPipeline (λ s stands. (moved s core_fault.NoPipeline stands h, refl))
  by core_fault.NoResource h = refuses core_fault.NoResource (λ s stands. (moved s core_fault.NoResource stands h, refl))
  by core_fault.NoJob h = refuses core_fault.NoJob (λ s stands. (moved s core_fault.NoJob stands h, refl))
  by core_fault.NoBuild h = refuses core_fault.NoBuild (λ s stands. (moved s core_fault.NoBuild stands h, refl))
  by core_fault.BuildsOpen h = absurd h
  by core_fault.NotWanted h = absurd h
  by core_fault.TooManyOpen h = absurd h
  by core_fault.TableFull h = absurd h
  by core_fault.NoVersion h = absurd h
  by core_fault.NoMemory h = absurd h

-- ---- what the core refused
pub some_if : {A : Type 0} (o : Option A) → (o ≡ None → ⊥) → IsSome o
some_if None other = absurd (other refl)
some_if (Some x) other = refl

first_fault : (s : State) (e : EventData) (f : CoreFault) → (f ≡ core_fault.NoMemory → ⊥) → MayRefuse s e f
    → IsFirstFault s e f
first_fault s e f other (inl is) = absurd (other is)
first_fault s e f other (inr first) = first

module _ {e : EventData} {f : CoreFault} {k : List CallData} {n : View} {l : Text} (places : PlacesData) (c : CommandData)
    (v : View) (lines : l ≡ v.lines) (made : Made e (Err f) (after v k v.pairs []) n) where
  -- nothing has changed
  stands_still : (s : State) → Stands v.core s → Stands n.core s
  stands_still s h = let t = made.takes s h in subst (λ u. Stands n.core u) t.1.1 t.2

  nothing_done : Calls (Items (Serves places) []) (with_calls n.calls v) false (printed n l)
  nothing_done = record {
    from = λ s h. record {
      dones = [];
      now = world_of (with_calls n.calls v) s;
      does = ([], [], refl, world_of (with_calls n.calls v) s, refl, inl refl);
      pairs = made.rest.pairs ∙ sym (append-nil v.pairs);
      few = tt;
      calls = refl;
      commits = asked_these v.tally.commits 0 n.tally.commits made.commits;
      lines = lines ∙ sym (append-nil v.lines);
      holds = subst n.holds (stands_still s h).0 made.ready.holds;
      crash = leaves_ready _ n s made.ready (stands_still s h);
      stands = subst (λ b. StandsAt false b (world_of (with_calls n.calls v) s) (printed n l)) (sym made.ready.is_open)
          (stands_still s h, made.rest.last);
    };
  }

  -- the event's first fault is the command's
  pub refused_by_core : ((s : State) → IsFirstFault s e f → IsRefused c (fault.Core f) s v.calls n.calls)
      → CameOf places c (Err (fault.Core f)) v (printed n l)
  refused_by_core why = record {
    why = λ s h. why s
        (first_fault s e f (λ is. made.found_memory (ap (λ g. Err g) is)) (made.takes s h).1.0);
    back = nothing_done;
    pairs = made.rest.pairs;
    commits = made.commits;
    lines = lines;
  }

-- ---- commands that are cut short
pub came_stopped : {v n : View} (places : PlacesData) (c : CommandData) (f : ServeFault) (w : View) → StopsItem false f w
    → Calls (Commanded places c 0) v false n → CameOf places c (Err f) v n
came_stopped places c fault.NoMemory w stops cut = cut
came_stopped places c (fault.Store e) w stops cut = cut
came_stopped places c (fault.Core e) w stops cut = absurd stops
came_stopped places c (fault.Read e) w stops cut = absurd stops
came_stopped places c fault.File w stops cut = absurd stops
came_stopped places c fault.BadPin w stops cut = absurd stops
came_stopped places c fault.Closed w stops cut = absurd (false≢true stops.0)
came_stopped places c fault.TurnsUsedUp w stops cut = absurd stops

-- the one event of a command isn't made
pub came_unmade : {d e : EventData} {f : ServeFault} {n : View} {l : Text} (places : PlacesData) (c : CommandData) (v : View)
    → d ≡ e → MayTell (Commanded places c 0) e → l ≡ v.lines → Unmade d f (printed v []) n
    → CameOf places c (Err f) v (printed n l)
came_unmade {d} {e} {f} {n} {l} places c v same may lines un =
    came_stopped places c f n (stops_item f (printed v []) n un) (unmade_at_once same may lines un)

-- a command stands as the items do that ended it early
pub ends_so : (f : ServeFault) (v : View) → StopsItem false f v → Ends {A = ℕ} (Err f) v
ends_so fault.NoMemory v stops = stops
ends_so (fault.Store e) v stops = stops
ends_so (fault.Core e) v stops = absurd stops
ends_so (fault.Read e) v stops = absurd stops
ends_so fault.File v stops = absurd stops
ends_so fault.BadPin v stops = absurd stops
ends_so fault.Closed v stops = stops.1
ends_so fault.TurnsUsedUp v stops = absurd stops
