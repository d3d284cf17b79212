-- Turns until no build runs.
use Rattle.std.proofs.Common.{◌≡◌, ◌≢◌, ◌≤◌, ◌<◌, ◌+◌, ◌++◌, ℕ, List, [], ◌∷◌, replicate, Bool, true, false, IsSome, refl, sym, subst, arith, inl, inr}
use Rattle.std.proofs.lemmas.List.{replicate-append-replicate}
use Rattle.ccr_core.specs.Holding.{AreRuns}
use Rattle.ccr_core.specs.State.{RunningData}
use Rattle.ccr_history.specs.Text.{Text}
use Rattle.ccr_steps.specs.Runs.{RunData}
use Rattle.ccr_task.specs.Places.{PlacesData}
use Rattle.ccr_serve.specs.Items.{World, turn, Done, Each, IsCut, Part, Items, Then}
use Rattle.ccr_serve.specs.Runs.{AllMade, TurnsMade, MOST_TURNS, ToTheEnd, UsedUp, TurnsTo}
use Rattle.ccr_serve.specs.Serving.{DoesItem, Serves}
use Rattle.ccr_serve.specs.Views.{View, world_of, IsReady, Calls}
use Rattle.ccr_serve.proofs.Composing.{each-append, called_then, called_to, called_as, calls_as, calls_none}

-- so many turns that each made an event
abbrev pub Turns : PlacesData → ℕ → Part
Turns places n old ds whole new = TurnsMade places n old ds new

-- a turn that made an event, or none where it is cut short
abbrev OneTurn : PlacesData → Part
OneTurn places old ds true new = TurnsMade places 1 old ds new
OneTurn places old ds false new =
    (n : ℕ) × (n ≤ 1) × (mid : World) × TurnsMade places n old ds mid × IsCut (Serves places) (turn ∷ []) mid new

all_made-append : (ds es : List Done) → AllMade ds → AllMade es → AllMade (ds ++ es)
all_made-append [] es a b = b
all_made-append (d ∷ ds) es a b = (a.0, all_made-append ds es a.1 b)

-- a core that has a name stands for a state in which a build runs
some_run : (ns : List (Text × ℕ)) (rs : List RunData) (bs : List RunningData) → AreRuns ns rs bs → ns ≢ [] → bs ≢ []
some_run [] rs bs h some = absurd (some refl)
some_run (n ∷ ns) rs (b ∷ bs) h some = λ e. absurd (cc e)
some_run (n ∷ ns) [] [] h some = absurd h
some_run (n ∷ ns) (r ∷ rs) [] h some = absurd h

-- a core without a name stands for a state in which none runs
none_run : (ns : List (Text × ℕ)) (rs : List RunData) (bs : List RunningData) → AreRuns ns rs bs → ns ≡ [] → bs ≡ []
none_run ns rs [] h none = refl
none_run (n ∷ ns) rs (b ∷ bs) h none = absurd (cc none)
none_run [] [] (b ∷ bs) h none = absurd h
none_run [] (r ∷ rs) (b ∷ bs) h none = absurd h

-- a turn where a build runs makes an event
abbrev pub MakesEvents : PlacesData → Type 0
MakesEvents places =
    (old new : World) (d : Done) → old.core.running ≢ [] → DoesItem places turn old d new → IsSome d.event

module _ (places : PlacesData) (makes : MakesEvents places) where
  one_made : (old : World) → old.core.running ≢ [] → (ds : List Done) (new : World)
      → Each (Serves places) (turn ∷ []) old ds new → TurnsMade places 1 old ds new
  one_made old runs [] new e = absurd e
  one_made old runs (d ∷ []) new e = (e, (makes old e.0 d runs e.1, tt))
  one_made old runs (d ∷ d2 ∷ ds) new e = absurd e.2

  one_turn : (whole : Bool) (old : World) → old.core.running ≢ [] → (ds : List Done) (new : World)
      → Items (Serves places) (turn ∷ []) old ds whole new → OneTurn places old ds whole new
  one_turn true old runs ds new e = one_made old runs ds new e
  one_turn false old runs [] new ([], rest, is, mid, e, cut) = let le : 0 ≤ 1 = omega arith in
      (0, le, mid, (e, tt), subst (λ js. IsCut (Serves places) js mid new) (sym is) cut)
  one_turn false old runs (d ∷ ds) new ([], rest, is, mid, e, cut) = absurd e
  one_turn false old runs ds new (x ∷ [], rest, is, mid, e, cut) = let le : 1 ≤ 1 = omega arith in (
    1,
    le,
    mid,
    one_made old runs ds mid (subst (λ y. Each (Serves places) (y ∷ []) old ds mid) (sym (same is)) e),
    none_begun (subst (λ js. IsCut (Serves places) js mid new) (none is) cut),
  ) where
    same : turn ∷ [] ≡ x ∷ rest → turn ≡ x
    same h = cc h

    none : turn ∷ [] ≡ x ∷ rest → rest ≡ []
    none h = cc h

    none_begun : IsCut (Serves places) [] mid new → IsCut (Serves places) (turn ∷ []) mid new
    none_begun (inl same) = inl same
    none_begun (inr begun) = absurd begun
  one_turn false old runs ds new (x ∷ y ∷ xs, rest, is, mid, e, cut) = absurd (cc is)

  several : (n m : ℕ) (old mid new : World) (ds es : List Done) → TurnsMade places n old ds mid
      → TurnsMade places m mid es new → TurnsMade places (n + m) old (ds ++ es) new
  several n m old mid new ds es a b = (
    subst (λ is. Each (Serves places) is old (ds ++ es) new) (replicate-append-replicate n m turn)
        (each-append (Serves places) (replicate n turn) (replicate m turn) old mid new ds es a.0 b.0),
    all_made-append ds es a.1 b.1,
  )

  then_whole : (n : ℕ) (old : World) (ds : List Done) (new : World)
      → Then (Turns places n) (OneTurn places) old ds true new → Turns places (n + 1) old ds true new
  then_whole n old ds new h =
      subst (λ es. TurnsMade places (n + 1) old es new) (sym h.joined)
      (several n 1 old h.mid new h.front h.back h.first h.second)

  then_cut : (n : ℕ) → n < MOST_TURNS → (old : World) (ds : List Done) (new : World)
      → Then (Turns places n) (OneTurn places) old ds false new → ToTheEnd places old ds false new
  then_cut n lt old ds new (inl h) = let le : n ≤ MOST_TURNS = omega arith in (n, le, new, h, inl refl)
  then_cut n lt old ds new (inr h) = let m = h.second.0 in let one : m ≤ 1 = h.second.1 in
      let le : n + m ≤ MOST_TURNS = omega arith in (
        n + m,
        le,
        h.second.2,
        subst (λ es. TurnsMade places (n + m) old es h.second.2) (sym h.joined)
            (several n m old h.mid h.second.2 h.front h.back h.first h.second.3),
        h.second.4,
      )

  -- one turn more of a core of which a build runs, as a part
  called_turn : (n : ℕ) {v0 v1 v2 : View} {whole : Bool} → v1.core.names ≢ []
      → Calls (Turns places n) v0 true v1 → Calls (Items (Serves places) (turn ∷ [])) v1 whole v2
      → Calls (Then (Turns places n) (OneTurn places)) v0 whole v2
  called_turn n {v0} {v1} {v2} {whole} runs a b = record {
    from = λ s h.
        let c = a.from s h in
        called_then (Turns places n) (OneTurn places) v0 v1 v2 s whole c
        (called_as (Items (Serves places) (turn ∷ [])) (OneTurn places) v1 v2 c.now.core whole
        (one_turn whole (world_of v1 c.now.core) (some_run v1.core.names v1.core.runs c.now.core.running c.stands.1.3 runs))
        (b.from c.now.core c.stands.1));
  }

  -- one turn more
  pub end_more : (n : ℕ) {v0 v1 v2 : View} → v1.core.names ≢ [] → Calls (Turns places n) v0 true v1
      → Calls (Items (Serves places) (turn ∷ [])) v1 true v2 → Calls (Turns places (n + 1)) v0 true v2
  end_more n runs a b =
      calls_as (Then (Turns places n) (OneTurn places)) (Turns places (n + 1)) (then_whole n) (called_turn n runs a b)

  -- the turns are cut short by one of them
  pub end_stop : (n : ℕ) {v0 v1 v2 : View} → n < MOST_TURNS → v1.core.names ≢ [] → Calls (Turns places n) v0 true v1
      → Calls (Items (Serves places) (turn ∷ [])) v1 false v2 → Calls (ToTheEnd places) v0 false v2
  end_stop n lt runs a b =
      calls_as (Then (Turns places n) (OneTurn places)) (ToTheEnd places) (then_cut n lt) (called_turn n runs a b)

-- no turn was taken yet
pub end_begins : (places : PlacesData) {v : View} → IsReady v → Calls (Turns places 0) v true v
end_begins places ready =
    calls_as (Items (Serves places) []) (Turns places 0) (λ old ds new e. nothing_yet old ds new e)
    (calls_none (Serves places) ready) where
      nothing_yet : (old : World) (ds : List Done) (new : World) → Each (Serves places) [] old ds new
          → TurnsMade places 0 old ds new
      nothing_yet old [] new e = (e, tt)
      nothing_yet old (d ∷ ds) new e = absurd e

module _ (places : PlacesData) (n : ℕ) {v0 v1 : View} (a : Calls (Turns places n) v0 true v1) where
  -- after so many turns no build runs
  ended : n ≤ MOST_TURNS → v1.core.names ≡ [] → Calls (ToTheEnd places) v0 true v1
  ended le none = record {
    from = λ s h. let c = a.from s h in
        called_to (Turns places n) (ToTheEnd places) v0 v1 s true c
        (n, le, c.does, none_run v1.core.names v1.core.runs c.now.core.running c.stands.1.3 none);
  }

  -- after all turns that may be taken a build runs
  used_up : n ≡ MOST_TURNS → v1.core.names ≢ [] → Calls (UsedUp places) v0 true v1
  used_up all some = record {
    from = λ s h. let c = a.from s h in
        called_to (Turns places n) (UsedUp places) v0 v1 s true c
        (n, all, c.does, some_run v1.core.names v1.core.runs c.now.core.running c.stands.1.3 some);
  }

  -- no build runs, which is told
  pub ends_early : n ≤ MOST_TURNS → (none : Bool) → none ≡ true → (none ≡ true → v1.core.names ≡ [])
      → Calls (TurnsTo places none) v0 true v1
  ends_early le true is so = ended le (so is)
  ends_early le false is so = absurd (cc is)

  -- all turns were taken; whether no build runs is told
  pub ends_late : n ≡ MOST_TURNS → (none : Bool) → (none ≡ true → v1.core.names ≡ [])
      → (v1.core.names ≡ [] → none ≡ true) → Calls (TurnsTo places none) v0 true v1
  ends_late all true so back = let le : n ≤ MOST_TURNS = omega arith in ended le (so refl)
  ends_late all false so back = used_up all (λ e. cc (back e))
