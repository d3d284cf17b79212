-- What items leave as it is, and what they surely do.
use Rattle.std.proofs.Common.{◌≡◌, ◌≢◌, ℕ, List, [], ◌∷◌, Bool, true, false, Option, Some, None, Ok, Err, IsSome, refl, sym, ◌∙◌, ap, subst}
use Rattle.std.specs.Option.{option_or}
use Rattle.ccr_history.specs.Text.{Text}
use Rattle.ccr_history.specs.TextMap.{TextMap}
use Rattle.ccr_task.specs.Places.{PlacesData}
use Rattle.ccr_core.specs.declared.reply.Reply.TheVariants.{New}
use Rattle.ccr_core.specs.Events.{checked}
use Rattle.ccr_core.specs.Holding.{IsReached}
use Rattle.ccr_core.specs.Replies.{Replied}
use Rattle.ccr_core.specs.State.{RunningData, State}
use Rattle.ccr_core.specs.Steps.{Step}
use Rattle.ccr_serve.specs.Found.{FoundData, found}
use Rattle.ccr_serve.specs.Found as what_is
use Rattle.ccr_serve.specs.Items.{World, check, Done, Each, Items}
use Rattle.ccr_serve.specs.Serving.{Reports, GoesOnBy, TakesTurn, Serves}
use Rattle.ccr_serve.specs.Turns.{rank_in, next_after}
use Rattle.ccr_serve.specs.Views.{View, world_of, Calls}
use Rattle.ccr_serve.proofs.Ending.{MakesEvents}

-- ---- turns
or_some : {A : Type 0} (o : Option A) (x : A) → option_or o (Some x) ≢ None
or_some None x e = absurd (cc e)
or_some (Some y) x e = absurd (cc e)

someone : (rank : RunningData → ℕ) (last : ℕ) (bs : List RunningData) → bs ≢ [] → next_after rank last bs ≢ None
someone rank last [] some = absurd (some refl)
someone rank last (b ∷ bs) some = or_some _ b

of_someone : (places : PlacesData) (o : Option RunningData) (old new : World) (d : Done) → o ≢ None
    → TakesTurn places o old d new → IsSome d.event
of_someone places None old new d some h = absurd (some refl)
of_someone places (Some b) old new d some h = by h.asked h.goes_on where
  by : (asked : Bool) → GoesOnBy asked places b old.core h.looked d h.reply h.calls new.core → IsSome d.event
  by true on = subst (λ e. IsSome e) (sym on.0.event) refl
  by false on = subst (λ e. IsSome e) (sym on.event) refl

-- a turn where a build runs makes an event
pub turns_make_events : (places : PlacesData) → MakesEvents places
turns_make_events places old new d some h =
    of_someone places (next_after (rank_in old.core.history) old.last old.core.running) old new d
    (someone (rank_in old.core.history) old.last old.core.running some) h

-- ---- checks
by_step : (resource : Text) (vs : List TextMap) (r : Replied) (old new : State)
    → Step old (checked resource vs) r new → new.pipeline ≡ old.pipeline
by_step resource vs (Err f) old new h = ap (λ s. s.pipeline) h.1
by_step resource vs (Ok (New n)) old new h = ap (λ s. s.pipeline) h.1.1
by_step resource vs (Ok r) old new h = absurd h.1

by_report : (resource : Text) (what : FoundData) (old new : State) (d : Done) → Reports resource what old d new
    → new.pipeline ≡ old.pipeline
by_report resource (found vs) old new d h = by_step resource vs h.reply old new h.step
by_report resource (what_is.nothing c) old new d h = ap (λ s. s.pipeline) h.2

one_check : (places : PlacesData) (name : Text) (old new : World) (ds : List Done)
    → Each (Serves places) (check name ∷ []) old ds new → new.core.pipeline ≡ old.core.pipeline
one_check places name old new [] e = absurd e
one_check places name old new (d ∷ []) e =
    ap (λ w. w.core.pipeline) e.2 ∙ by_report name e.1.what old.core e.0.core d e.1.reports
one_check places name old new (d ∷ d2 ∷ ds) e = absurd e.2

-- a check leaves the pipeline
pub check_keeps_pipeline : {v0 v1 : View} (places : PlacesData) (name : Text) → IsReached v0.core
    → Calls (Items (Serves places) (check name ∷ [])) v0 true v1 → v1.core.pipeline ≡ v0.core.pipeline
check_keeps_pipeline {v0} {v1} places name r a = let c = a.from r.3 r.7 in
    c.stands.1.1 ∙ (one_check places name (world_of v0 r.3) c.now c.dones c.does ∙ sym r.7.1)
