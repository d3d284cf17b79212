-- Runs, and triggered jobs: their parts, and how they end.
use Rattle.std.proofs.Common.{◌≡◌, ◌++◌, ℕ, List, [], ◌∷◌, Bool, true, false, None, IsSome, Err, refl, sym, ap, subst, ◌∙◌, inl, inr}
use Rattle.ccr_core.specs.declared.fault.CoreFault.TheVariants as core_fault
use Rattle.ccr_core.specs.declared.reply.Reply.{Reply}
use Rattle.ccr_history.specs.Text.{Text}
use Rattle.ccr_history.specs.History.{HistoryData}
use Rattle.ccr_task.specs.Places.{PlacesData, places_data}
use Rattle.ccr_task.specs.declared.places.Places.{Places}
use Rattle.ccr_serve.specs.Commanding.{IsFirstReply, trigger_status, Triggered, Commanded, Unended, WasRefused, CameOf}
use Rattle.ccr_core.specs.Commands.{run, trigger_job}
use Rattle.ccr_serve.specs.Items.{World, Done, Then}
use Rattle.ccr_serve.specs.Runs.{Rounds, ToTheEnd, UsedUp, TurnsTo, TriggerAndRun}
use Rattle.ccr_serve.specs.Views.{View, IsReady, Calls, StopsItem}
use Rattle.ccr_serve.specs.declared.fault.ServeFault.{ServeFault}
use Rattle.ccr_serve.specs.declared.fault.ServeFault.TheVariants as fault
use Rattle.ccr_serve.proofs.Composing.{called_to, called_as, calls_as, calls_first, calls_then}
use Rattle.ccr_serve.proofs.Refusing.{refused_at_once, came_stopped}
use Rattle.ccr_serve.proofs.Rounds.{moved}

-- ---- turns to the end
-- of a server with the same places; whether no build runs then is told
pub turns_at : {p q : Places} {ended told : Bool} {v0 v1 : View} → q ≡ p → ended ≡ told
    → Calls (TurnsTo (places_data q) ended) v0 true v1 → Calls (TurnsTo (places_data p) told) v0 true v1
turns_at {p} {q} {ended} {told} {v0} {v1} same is a =
    subst (λ b. Calls (TurnsTo (places_data p) b) v0 true v1) is (moved (λ places. TurnsTo places ended) same a)

-- ---- runs
-- no pipeline was set
pub run_refused : {places : PlacesData} {rounds : ℕ} {v : View} → IsReady v → v.core.pipeline ≡ None
    → WasRefused places (run rounds) (fault.Core core_fault.NoPipeline) v v
run_refused ready none = refused_at_once ready (λ s h. (sym h.1 ∙ none, refl))

module _ (places : PlacesData) (rounds : ℕ) {v0 v1 : View} where
  -- a run that is cut short in its rounds
  pub run_cut_in_rounds : (f : ServeFault) → StopsItem false f v1 → Calls (Rounds places rounds) v0 false v1
      → CameOf places (run rounds) (Err f) v0 v1
  run_cut_in_rounds f stops a =
      came_stopped places (run rounds) f v1 stops
      (calls_as (Then (Rounds places rounds) (ToTheEnd places)) (Commanded places (run rounds) 0)
      (λ old ds new d. d) (calls_first (Rounds places rounds) (ToTheEnd places) a))

  module _ {v2 : View} (a : Calls (Rounds places rounds) v0 true v1) where
    -- a run that is cut short after its rounds
    pub run_cut : (f : ServeFault) → StopsItem false f v2 → Calls (ToTheEnd places) v1 false v2
        → CameOf places (run rounds) (Err f) v0 v2
    run_cut f stops b =
        came_stopped places (run rounds) f v2 stops
        (calls_as (Then (Rounds places rounds) (ToTheEnd places)) (Commanded places (run rounds) 0)
        (λ old ds new d. d) (calls_then a b))

    -- a whole run
    pub run_done : IsSome v0.core.pipeline → Calls (TurnsTo places true) v1 true v2
        → Calls (Commanded places (run rounds) 0) v0 true v2
    run_done some b = record {
      from = λ s h.
          called_as (Then (Rounds places rounds) (ToTheEnd places)) (Commanded places (run rounds) 0) v0 v2 s true
          (λ ds new d. ((d, refl), subst (λ p. IsSome p) h.1 some)) ((calls_then a b).from s h);
    }

    -- a run after whose turns a build still runs
    pub run_unended : IsSome v0.core.pipeline → Calls (TurnsTo places false) v1 true v2
        → Calls (Unended places (run rounds)) v0 true v2
    run_unended some b = record {
      from = λ s h.
          called_as (Then (Rounds places rounds) (UsedUp places)) (Unended places (run rounds)) v0 v2 s true
          (λ ds new d. (d, subst (λ p. IsSome p) h.1 some)) ((calls_then a b).from s h);
    }

-- ---- triggered jobs
first_reply_more : (ds es : List Done) (r : Reply) → IsFirstReply ds r → IsFirstReply (ds ++ es) r
first_reply_more [] es r h = absurd h
first_reply_more (d ∷ ds) es r h = h

then_cut : (places : PlacesData) (job : Text) (r : Reply) (old : World) (ds : List Done) (new : World)
    → Then (Triggered places job r) (ToTheEnd places) old ds false new → TriggerAndRun places job old ds false new
then_cut places job r old ds new (inl d) = inl d
then_cut places job r old ds new (inr b) = inr (record {
  mid = b.mid;
  front = b.front;
  back = b.back;
  first = b.first.0;
  second = b.second;
  joined = b.joined;
})

module _ (places : PlacesData) (job : Text) (r : Reply) {v0 v1 v2 : View} (a : Calls (Triggered places job r) v0 true v1) where
  -- a triggered job's turns are cut short
  pub trigger_cut : (f : ServeFault) → StopsItem false f v2 → Calls (ToTheEnd places) v1 false v2
      → CameOf places (trigger_job job) (Err f) v0 v2
  trigger_cut f stops b =
      came_stopped places (trigger_job job) f v2 stops
      (calls_as (Then (Triggered places job r) (ToTheEnd places)) (Commanded places (trigger_job job) 0)
      (then_cut places job r)
      (calls_then a b))

  -- no build runs after a triggered job's turns
  pub trigger_done : (h : HistoryData) (status : ℕ) → h ≡ v2.core.history → status ≡ trigger_status job r h
      → Calls (TurnsTo places true) v1 true v2 → Calls (Commanded places (trigger_job job) status) v0 true v2
  trigger_done h status same is b = record {
    from = λ s stands.
        let c = (calls_then a b).from s stands in
        called_to (Then (Triggered places job r) (ToTheEnd places)) (Commanded places (trigger_job job) status) v0 v2 s
        true c (
          (
            record {
              mid = c.does.mid;
              front = c.does.front;
              back = c.does.back;
              first = c.does.first.0;
              second = c.does.second;
              joined = c.does.joined;
            },
            (
              r,
              subst (λ ds. IsFirstReply ds r) (sym c.does.joined)
                  (first_reply_more c.does.front c.does.back r c.does.first.1.1),
              is ∙ ap (λ k. trigger_status job r k) (same ∙ c.stands.1.0),
            ),
          ),
          c.does.first.1.0,
        );
  }

  -- a build still runs after a triggered job's turns
  pub trigger_unended : Calls (TurnsTo places false) v1 true v2 → Calls (Unended places (trigger_job job)) v0 true v2
  trigger_unended b =
      calls_as (Then (Triggered places job r) (UsedUp places)) (Unended places (trigger_job job)) (λ old ds new d. (
        record {
          mid = d.mid;
          front = d.front;
          back = d.back;
          first = d.first.0;
          second = d.second;
          joined = d.joined;
        },
        d.first.1.0,
      )) (calls_then a b)
