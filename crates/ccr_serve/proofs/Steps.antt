-- Items that were done, and items that were cut short.
use Rattle.std.proofs.Common.{◌≡◌, ◌++◌, ◌⊎◌, ◌&&◌, List, [], ◌∷◌, Bool, true, false, is_ok, Option, Some, None, option_to_list, unwrap_or, Ok, Err, refl, sym, ◌∙◌, ap, subst, append-nil, inl, inr}
use Rattle.std.proofs.lemmas.Bool.{false≢true}
use Rattle.std.specs.Option.{option_map_or}
use Rattle.ccr_history.specs.Text.{Text}
use Rattle.ccr_history.specs.History.{HistoryData}
use Rattle.ccr_history.specs.TextMap.{TextMap}
use Rattle.ccr_pipeline.specs.JobData.{ResourceData}
use Rattle.ccr_problem.specs.ProblemOf.{resource_of}
use Rattle.ccr_process.specs.Runs.{Pair}
use Rattle.ccr_task.specs.Places.{PlacesData}
use Rattle.ccr_core.specs.Events.{EventData, checked}
use Rattle.ccr_core.specs.Events as event
use Rattle.ccr_core.specs.Holding.{CoreData, Stands}
use Rattle.ccr_core.specs.Replies.{Replied}
use Rattle.ccr_core.specs.State.{State, no_pipeline, resources_of}
use Rattle.ccr_core.specs.Steps.{Step}
use Rattle.ccr_lines.specs.Lines.{lines_of, refused_line, cause_words}
use Rattle.ccr_lines.specs.declared.cause.Cause.{Cause}
use Rattle.ccr_task.specs.Calls.{CallData}
use Rattle.ccr_serve.specs.Aborts.{ended_at_once, Forgets, ForgetsAfter}
use Rattle.ccr_serve.specs.Crash.{LeavesAt}
use Rattle.ccr_serve.specs.Found.{found, newest, Finds, BeginsFind}
use Rattle.ccr_serve.specs.Found as what_is
use Rattle.ccr_serve.specs.Items.{Loss, no_loss, World, unmade, Item, Done, Serve, Part, Items, Noting}
use Rattle.ccr_serve.specs.Items as item
use Rattle.ccr_serve.specs.Pairs.{Adds}
use Rattle.ccr_serve.specs.Serving.{Tells, BeginsItem, Serves}
use Rattle.ccr_serve.specs.Taken.{all_taken, taken_of}
use Rattle.ccr_history.specs.Counts.{RoseBy}
use Rattle.ccr_serve.specs.Views.{View, world_of, resources_held, IsReady, HasAsked, StandsAt, Calls, StopsItem, Made, Unmade}
use Rattle.ccr_serve.specs.declared.fault.ServeFault.{ServeFault}
use Rattle.ccr_serve.specs.declared.fault.ServeFault.TheVariants as fault
use Rattle.ccr_serve.proofs.Commits.{add_none, rose_none, asked_none}
use Rattle.ccr_serve.proofs.Begun.{found_begun}
use Rattle.ccr_serve.proofs.Crash.{leaves_ready, leaves_as}

-- ---- views
-- a view after launches: the shelf's calls, the pairs and what is printed may be others
abbrev pub after : View → List CallData → List Pair → Text → View
after v f p l = record {
  core = v.core;
  last = v.last;
  calls = f;
  pairs = p;
  holds = v.holds;
  leaves = v.leaves;
  tally = v.tally;
  places = v.places;
  lines = l;
  closed = v.closed;
}

-- a view that has printed these lines
abbrev pub printed : View → Text → View
printed v l = after v v.calls v.pairs l

-- ---- parts of which one item was done, or nothing
-- what one item did from a state
pub record Did (P : Part) (old : View) (s : State) (new : View) : Type 0 where
  pub did : Done
  pub state : State
  pub stands : Stands new.core state
  pub does : P (world_of old s) (did ∷ []) true (world_of new state)
  pub pairs : new.pairs ≡ old.pairs ++ option_to_list did.pair
  pub commits : RoseBy old.tally.commits (taken_of did.event) new.tally.commits
  pub lines : new.lines ≡ old.lines ++ did.lines

pub calls_did : {P : Part} {old new : View} → IsReady new → ((s : State) → Stands old.core s → Did P old s new)
    → Calls P old true new
calls_did {P} {old} {new} ready each = record {
  from = λ s is. let one = each s is in record {
    dones = one.did ∷ [];
    now = world_of new one.state;
    does = one.does;
    pairs = one.pairs
        ∙ ap (λ ps. old.pairs ++ ps)
        (sym (append-nil (option_to_list one.did.pair ++ []) ∙ append-nil (option_to_list one.did.pair)));
    few = refl;
    calls = refl;
    commits = subst (λ n. RoseBy old.tally.commits n new.tally.commits) (sym (add_none (taken_of one.did.event)))
        one.commits;
    lines = one.lines ∙ ap (λ ls. old.lines ++ ls) (sym (append-nil one.did.lines));
    holds = subst new.holds one.stands.0 ready.holds;
    crash = leaves_ready _ new one.state ready one.stands;
    stands = (ready.is_open, one.stands, refl);
  };
}

-- where a server stands that has done nothing, and has begun this
abbrev pub begun_at : View → State → List CallData → Loss → World
begun_at v s calls lost = record { core = s; last = v.last; calls = calls; lost = lost }

-- a part of which nothing was done, and this was begun
abbrev pub MayBegin : Part → View → List CallData → Loss → Type 0
MayBegin P v calls lost = (s : State) → Stands v.core s → P (world_of v s) [] false (begun_at v s calls lost)

-- a part of which nothing may be done, and nothing begun
abbrev pub MayStop : Part → Type 0
MayStop P = (w : World) → P w [] false w

pub calls_stop : (P : Part) (old new : View) (lost : Loss) → MayBegin P old new.calls lost
    → Adds old.pairs lost.pair new.pairs → HasAsked false old.tally.commits 0 new.tally.commits
    → new.lines ≡ old.lines → new.holds old.core.history
    → ((s : State) → Stands old.core s → LeavesAt new.closed (λ e. lost.event ≡ Some e) new.leaves s)
    → ((s : State) → Stands old.core s → StandsAt false new.closed (begun_at old s new.calls lost) new)
    → Calls P old false new
calls_stop P old new lost begins pairs commits lines holds crash stands = record {
  from = λ s is. record {
    dones = [];
    now = begun_at old s new.calls lost;
    does = begins s is;
    pairs = pairs;
    few = tt;
    calls = refl;
    commits = commits;
    lines = lines ∙ sym (append-nil old.lines);
    holds = subst new.holds is.0 holds;
    crash = crash s is;
    stands = stands s is;
  };
}

-- of items nothing may be done, whatever is noted once they are whole
pub items_stop : (S : Serve) (is : List Item) → MayStop (Items S is)
items_stop S is w = ([], is, refl, w, refl, inl refl)

pub noting_stop : (S : Serve) (is : List Item) (Note : List Done → Type 0) → MayStop (Noting (Items S is) Note)
noting_stop S is Note w = ([], is, refl, w, refl, inl refl)

-- this was begun of one item, whatever is noted once it is whole
pub item_begun : (places : PlacesData) (i : Item) (v : View) (calls : List CallData) (lost : Loss)
    → ((s : State) → Stands v.core s → BeginsItem places i (world_of v s) (begun_at v s calls lost))
    → MayBegin (Items (Serves places) (i ∷ [])) v calls lost
item_begun places i v calls lost begins s is = ([], i ∷ [], refl, world_of v s, refl, inr (begins s is))

-- ---- stopped where memory ran out, or by a failure of the storage
pub stands_back : (closed : Bool) (v new : View) (s : State) (calls : List CallData) (lost : Loss)
    → Stands new.core s → new.last ≡ v.last → StandsAt false closed (begun_at v s calls lost) new
stands_back true v new s calls lost is last = tt
stands_back false v new s calls lost is last = (is, last)

-- memory was wanted before the event
pub cut_by_memory : {P : Part} (v : View) {f : List CallData} {p : List Pair} {l : Text} (lost : Loss)
    → MayBegin P v f lost → IsReady v → Adds v.pairs lost.pair p → l ≡ v.lines → Calls P v false (after v f p l)
cut_by_memory {P} v {f} {p} {l} lost begins ready adds lines =
    calls_stop P v (after v f p l) lost begins adds (asked_none v.tally.commits) lines ready.holds
    (λ s is. leaves_ready _ v s ready is) (λ s is. stands_back v.closed v (after v f p l) s f lost is refl)

pub none_added : (p : List Pair) → Adds p None p
none_added p = sym (append-nil p)

-- memory was wanted before anything
pub cut_at_once : {P : Part} (v : View) {l : Text} → MayStop P → IsReady v → l ≡ v.lines → Calls P v false (printed v l)
cut_at_once v may ready lines =
    cut_by_memory v no_loss (λ s is. may (world_of v s)) ready (none_added v.pairs) lines

-- memory was wanted, and the shelf was called for nothing
pub cut_unchanged : {P : Part} (v : View) {f : List CallData} {l : Text} → MayStop P → IsReady v → f ≡ v.calls
    → l ≡ v.lines → Calls P v false (after v f v.pairs l)
cut_unchanged {P} v {f} {l} may ready same lines =
    subst (λ k. Calls P v false (after v k v.pairs l)) (sym same) (cut_at_once v may ready lines)

-- an event that wasn't made: the core is as it was, or the server has closed
unmade_back : {d : EventData} (f : ServeFault) (old new : View) → Unmade d f old new
    → ((new.core ≡ old.core) × IsReady new) ⊎ (new.closed ≡ true)
unmade_back (fault.Core e) old new un = absurd un.back
unmade_back (fault.Store e) old new un = inr un.back.0
unmade_back (fault.Read e) old new un = absurd un.back
unmade_back fault.File old new un = absurd un.back
unmade_back fault.BadPin old new un = absurd un.back
unmade_back fault.NoMemory old new un = inl un.back
unmade_back fault.Closed old new un = absurd un.back
unmade_back fault.TurnsUsedUp old new un = absurd un.back

stands_closed : (closed : Bool) (now : World) (new : View) → closed ≡ true → StandsAt false closed now new
stands_closed true now new is = tt
stands_closed false now new is = absurd (false≢true is)

pub calls_unmade : {P : Part} {v : View} {f : List CallData} {p : List Pair} {l : Text} {n : View} {stop : ServeFault}
    {e : EventData} (lost : Loss) → lost.event ≡ Some e → MayBegin P v f lost → Adds v.pairs lost.pair p → l ≡ v.lines
    → Unmade e stop (after v f p []) n → Calls P v false (printed n l)
calls_unmade {P} {v} {f} {p} {l} {n} {stop} {e} lost its begins adds lines un =
    calls_stop P v (printed n l) lost (subst (λ k. MayBegin P v k lost) (sym un.rest.calls) begins)
    (un.rest.pairs ∙ adds) un.commits lines un.holds
    (λ s is. leaves_as n.closed n.leaves s (λ x same. its ∙ ap (λ y. Some y) (sym same)) (un.crash s is))
    (λ s is. elim (unmade_back stop (after v f p []) n un)
    as (λ _. StandsAt false n.closed (begun_at v s n.calls lost) (printed n l)) [
      | inl back ↦ stands_back n.closed v (printed n l) s n.calls lost (subst (λ c. Stands c s) (sym back.0) is) un.rest.last
      | inr closed ↦ stands_closed n.closed (begun_at v s n.calls lost) (printed n l) closed
    ])

-- a part of which nothing may be done or begun but this event, which isn't made
abbrev pub MayTell : Part → EventData → Type 0
MayTell P e = (w : World) → P w [] false (unmade e w)

-- nothing was begun but the event, which wasn't made
pub unmade_at_once : {P : Part} {d e : EventData} {v : View} {l : Text} {n : View} {stop : ServeFault} → d ≡ e
    → MayTell P e → l ≡ v.lines → Unmade d stop (printed v []) n → Calls P v false (printed n l)
unmade_at_once {P} {d} {e} {v} {l} {n} {stop} same may lines un =
    calls_unmade (record { pair = None; event = Some e }) refl (λ s is. may (world_of v s)) (none_added v.pairs) lines
    (subst (λ x. Unmade x stop (printed v []) n) same un)

-- of one item its event wasn't made
pub schedule_unmade : (places : PlacesData) (job : Text)
    → MayTell (Items (Serves places) (item.schedule job ∷ [])) (event.schedule job)
schedule_unmade places job w = ([], item.schedule job ∷ [], refl, w, refl, inr refl)

pub tell_unmade : (places : PlacesData) (e : EventData) → MayTell (Items (Serves places) (item.tell e ∷ [])) e
tell_unmade places e w = ([], item.tell e ∷ [], refl, w, refl, inr refl)

pub stops_item : {d : EventData} (f : ServeFault) (old new : View) → Unmade d f old new → StopsItem false f new
stops_item (fault.Core e) old new un = absurd un.back
stops_item (fault.Store e) old new un = un.back
stops_item (fault.Read e) old new un = absurd un.back
stops_item fault.File old new un = absurd un.back
stops_item fault.BadPin old new un = absurd un.back
stops_item fault.NoMemory old new un = un.back.1
stops_item fault.Closed old new un = absurd un.back
stops_item fault.TurnsUsedUp old new un = absurd un.back

-- ---- events that were made
-- the event leads to a state that the core stands for, with its lines, and the shelf was called so after it
pub made_did : (places : PlacesData) (P : Part) (e : EventData) (r : Replied) (v n : View) (f : List CallData) (m : Text)
    (s : State) → Made e r (printed v []) n
    → ((s a : State) → Step s e r a → Stands n.core a → m ≡ v.lines ++ lines_of e r a.history)
    → ForgetsAfter places e r n.core.history v.calls f
    → ((w u : World) (d : Done) → Tells places e w d u → d.event ≡ Some (e, r) → P w (d ∷ []) true u)
    → Stands v.core s → Did P v s (after n f n.pairs m)
made_did places P e r v n f m s made lines forgets can is = let t = made.takes s is in
    let d : Done = record { pair = None; event = Some (e, r); lines = lines_of e r t.0.history } in record {
      did = d;
      state = t.0;
      stands = t.2;
      does = can (world_of v s) (world_of (after n f n.pairs m) t.0) d (record {
        makes = record {
          reply = r;
          step = t.1;
          kept = made.kept;
          found_memory = made.found_memory;
          event = refl;
          lines = refl;
        };
        pair = refl;
        last = made.rest.last;
        calls = subst (λ h. ForgetsAfter places e r h v.calls f) t.2.0 forgets;
        lost = refl;
      }) refl;
      pairs = made.rest.pairs ∙ sym (append-nil v.pairs);
      commits = made.commits;
      lines = lines s t.0 t.1 t.2;
    }

pub calls_made_then : {P : Part} {e : EventData} {r : Replied} {v n : View} {f : List CallData} {m : Text}
    (places : PlacesData) → Made e r (printed v []) n
    → ((s a : State) → Step s e r a → Stands n.core a → m ≡ v.lines ++ lines_of e r a.history)
    → ForgetsAfter places e r n.core.history v.calls f
    → ((w u : World) (d : Done) → Tells places e w d u → d.event ≡ Some (e, r) → P w (d ∷ []) true u)
    → Calls P v true (after n f n.pairs m)
calls_made_then {P} {e} {r} {v} {n} {f} {m} places made lines forgets can =
    calls_did made.ready (λ s is. made_did places P e r v n f m s made lines forgets can is)

-- an event behind which the shelf isn't called
pub calls_made : {P : Part} {e : EventData} {r : Replied} {v n : View} {m : Text} (places : PlacesData)
    → Made e r (printed v []) n
    → ((s a : State) → Step s e r a → Stands n.core a → m ≡ v.lines ++ lines_of e r a.history)
    → ((h : HistoryData) → n.calls ≡ v.calls → ForgetsAfter places e r h v.calls n.calls)
    → ((w u : World) (d : Done) → Tells places e w d u → d.event ≡ Some (e, r) → P w (d ∷ []) true u)
    → Calls P v true (printed n m)
calls_made {P} {e} {r} {v} {n} {m} places made lines forgets can =
    calls_made_then places made lines (forgets n.core.history made.rest.calls) can

-- the lines of an event, with the history of a state that the core stands for
pub lines_at : (e : EventData) (r : Replied) (c : CoreData) (a : State) (old mid new : Text) → Stands c a → mid ≡ old
    → new ≡ mid ++ lines_of e r c.history → new ≡ old ++ lines_of e r a.history
lines_at e r c a old mid new is same told =
    told ∙ (ap (λ ls. ls ++ lines_of e r c.history) same ∙ ap (λ h. old ++ lines_of e r h) is.0)

-- ---- checks
pub resources_at : (c : CoreData) (s : State) → Stands c s → resources_held c ≡ resources_of s
resources_at c s is = ap (λ p. (unwrap_or p no_pipeline).resources) is.1

-- what a check notes of the one event that it made
pub taken_one : (r : Replied) (d : Done) (e : EventData) → d.event ≡ Some (e, r) → is_ok r ≡ all_taken (d ∷ [])
taken_one (Ok x) d e made = sym (ap (λ o. option_map_or (λ made. is_ok made.1) o false && true) made)
taken_one (Err x) d e made = sym (ap (λ o. option_map_or (λ made. is_ok made.1) o false && true) made)

-- the versions that a check found were an event
pub check_made : {name named : Text} {one : ResourceData} {v : View} {f : List CallData} {p : List Pair} {l : Text} {n : View}
    {m : Text} {vs : List TextMap} {r : Replied} {good : Bool} (places : PlacesData) (pair : Option Pair)
    → named ≡ name → resource_of name (resources_held v.core) ≡ Some one → l ≡ v.lines
    → p ≡ v.pairs ++ option_to_list pair → Finds places one (newest one v.core.history) v.calls f pair (found vs)
    → Made (checked named vs) r (after v f p []) n → m ≡ l ++ lines_of (checked name vs) r n.core.history
    → good ≡ is_ok r
    → Calls (Noting (Items (Serves places) (item.check name ∷ [])) (λ ds. good ≡ all_taken ds)) v true (printed n m)
check_made {name} {named} {one} {v} {f} {p} {l} {n} {m} {vs} {r} {good} places pair copied there lines pairs finds
    made_named told is_good =
    calls_did made_named.ready (λ s is.
    let made : Made (checked name vs) r (after v f p []) n =
    subst (λ t. Made (checked t vs) r (after v f p []) n) copied made_named in
    let t = made.takes s is in
    let d : Done = record {
      pair = pair;
      event = Some (checked name vs, r);
      lines = lines_of (checked name vs) r t.0.history;
    } in
    record {
      did = d;
      state = t.0;
      stands = t.2;
      does = (
        (
          world_of (printed n m) t.0,
          record {
            one = one;
            named = ap (λ rs. resource_of name rs) (sym (resources_at v.core s is)) ∙ there;
            what = found vs;
            finds = subst (λ h. Finds places one (newest one h) v.calls n.calls pair (found vs)) is.0
                (subst (λ k. Finds places one (newest one v.core.history) v.calls k pair (found vs))
                (sym made.rest.calls) finds);
            reports = record {
              reply = r;
              step = t.1;
              kept = made.kept;
              found_memory = made.found_memory;
              event = refl;
              lines = refl;
            };
            last = made.rest.last;
            lost = refl;
          },
          refl,
        ),
        is_good ∙ taken_one r d (checked name vs) refl,
      );
      pairs = made.rest.pairs ∙ pairs;
      commits = made.commits;
      lines = lines_at (checked name vs) r n.core t.0 v.lines l m t.2 lines told;
    })

-- a check found nothing, and its line says why
pub check_found_nothing : {one : ResourceData} {v : View} {f : List CallData} {p : List Pair} {l m : Text}
    (places : PlacesData) (name : Text) (pair : Option Pair) (cause : Cause) → IsReady v → resource_of name (resources_held v.core) ≡ Some one → l ≡ v.lines
    → p ≡ v.pairs ++ option_to_list pair
    → Finds places one (newest one v.core.history) v.calls f pair (what_is.nothing cause)
    → m ≡ l ++ refused_line name (cause_words cause)
    → Calls (Noting (Items (Serves places) (item.check name ∷ [])) (λ ds. false ≡ all_taken ds)) v true (after v f p m)
check_found_nothing {one} {v} {f} {p} {l} {m} places name pair cause ready there lines pairs finds told =
    calls_did ready (λ s is. record {
      did = record { pair = pair; event = None; lines = refused_line name (cause_words cause) };
      state = s;
      stands = is;
      does = (
        (
          world_of (after v f p m) s,
          record {
            one = one;
            named = ap (λ rs. resource_of name rs) (sym (resources_at v.core s is)) ∙ there;
            what = what_is.nothing cause;
            finds = subst (λ h. Finds places one (newest one h) v.calls f pair (what_is.nothing cause)) is.0 finds;
            reports = (refl, refl, refl);
            last = refl;
            lost = refl;
          },
          refl,
        ),
        refl,
      );
      pairs = pairs;
      commits = rose_none v.tally.commits;
      lines = told ∙ ap (λ ls. ls ++ refused_line name (cause_words cause)) lines;
    })

-- a check was begun
pub check_begun : (places : PlacesData) (name : Text) (one : ResourceData) (v : View) (f : List CallData)
    (lost : Option Pair) → resource_of name (resources_held v.core) ≡ Some one
    → BeginsFind places one (newest one v.core.history) v.calls f lost
    → MayBegin (Items (Serves places) (item.check name ∷ [])) v f (record { pair = lost; event = None })
check_begun places name one v f lost there begins =
    item_begun places (item.check name) v f (record { pair = lost; event = None }) (λ s is. record {
      one = one;
      named = ap (λ rs. resource_of name rs) (sym (resources_at v.core s is)) ∙ there;
      begins = subst (λ h. BeginsFind places one (newest one h) v.calls f lost) is.0 begins;
      may = tt;
      core = refl;
      last = refl;
    })

-- the event of what a check found wasn't made
pub check_unmade : (places : PlacesData) (name named : Text) (one : ResourceData) (v : View) (f : List CallData)
    (lost : Option Pair) (vs : List TextMap) → named ≡ name → resource_of name (resources_held v.core) ≡ Some one
    → Finds places one (newest one v.core.history) v.calls f lost (found vs)
    → MayBegin (Items (Serves places) (item.check name ∷ [])) v f
    (record { pair = lost; event = Some (checked named vs) })
check_unmade places name named one v f lost vs copied there finds =
    item_begun places (item.check name) v f (record { pair = lost; event = Some (checked named vs) }) (λ s is.
    let so : Finds places one (newest one s.history) v.calls f lost (found vs) =
    subst (λ h. Finds places one (newest one h) v.calls f lost (found vs)) is.0 finds in
    record {
      one = one;
      named = ap (λ rs. resource_of name rs) (sym (resources_at v.core s is)) ∙ there;
      begins = found_begun places one (newest one s.history) v.calls f lost vs so;
      may = (vs, so, ap (λ t. checked t vs) copied);
      core = refl;
      last = refl;
    })

-- ---- schedules
-- the schedule of a job was an event
pub schedule_made : {job named : Text} {r : Replied} {v n : View} {f : List CallData} {l m : Text} (places : PlacesData)
    → named ≡ job → l ≡ v.lines → Made (event.schedule named) r (printed v []) n
    → m ≡ l ++ lines_of (event.schedule job) r n.core.history
    → Forgets places job (ended_at_once job r n.core.history) v.calls f
    → Calls (Items (Serves places) (item.schedule job ∷ [])) v true (after n f n.pairs m)
schedule_made {job} {named} {r} {v} {n} {f} {l} {m} places copied lines made_named told forgets =
    calls_made_then places
    (subst (λ t. Made (event.schedule t) r (printed v []) n) copied made_named)
    (λ s a step is. lines_at (event.schedule job) r n.core a v.lines l m is lines told)
    forgets
    (λ w u d tells made. (u, tells, refl))
