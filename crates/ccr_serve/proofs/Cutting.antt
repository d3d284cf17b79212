-- Turns that were cut short.
use Rattle.std.proofs.Common.{◌≡◌, ℕ, List, [], ◌∷◌, Bool, true, false, Option, Some, None, unwrap_or, refl, sym, ap, subst}
use Rattle.ccr_history.specs.Text.{Text}
use Rattle.ccr_process.specs.Runs.{Pair}
use Rattle.ccr_steps.specs.Asks.{ask_data, AnswerData, Exchange}
use Rattle.ccr_steps.specs.Runs.{HasTurn}
use Rattle.ccr_task.specs.Calls.{CallData}
use Rattle.ccr_task.specs.Faulty.{SaidData}
use Rattle.ccr_task.specs.Places.{PlacesData, abort_folder}
use Rattle.ccr_task.specs.Starting.{step_label}
use Rattle.ccr_core.specs.Events.{EventData, answer, abort}
use Rattle.ccr_core.specs.Holding.{IsAsked, Stands}
use Rattle.ccr_core.specs.State.{State, no_pipeline, resources_of}
use Rattle.ccr_core.proofs.RunningLists.{at_id}
use Rattle.ccr_serve.specs.Aborts.{AbortIsAsked}
use Rattle.ccr_serve.specs.Asked.{BeginsAnswer}
use Rattle.ccr_serve.specs.Due.{IsTurnOf, AnswersWant, BeginsWant}
use Rattle.ccr_serve.specs.Items.{Loss, Items}
use Rattle.ccr_serve.specs.Items as item
use Rattle.ccr_serve.specs.Serving.{MayAnswer, BeginsOn, BeginsTurn, BeginsBuild, Serves}
use Rattle.ccr_serve.specs.Views.{View, world_of, resources_held, IsReady, Unmade, Calls}
use Rattle.ccr_serve.specs.declared.fault.ServeFault.{ServeFault}
use Rattle.ccr_serve.proofs.Begun.{answer_begun}
use Rattle.ccr_serve.proofs.Wants.{waits_at}
use Rattle.ccr_serve.proofs.Steps.{after, printed, begun_at, MayBegin, item_begun, cut_by_memory, none_added, calls_unmade}

-- what holds under one name holds under another that is the same
renamed : (P : Text → ℕ → Type 0) (j k : Text) (m n : ℕ) → k ≡ j → n ≡ m → P j m → P k n
renamed P j k m n job number p = subst (λ t. P t n) (sym job) (subst (λ i. P j i) (sym number) p)

-- what was answered was begun to be answered
abbrev want_begun : (places : PlacesData) (v : View) (job : Text) (number turn : ℕ) (x : SaidData) (p : List Pair)
    (looked f : List CallData) → AnswersWant places v.core job number turn x v.pairs p looked f
    → BeginsWant places v.core job number v.pairs p looked f
want_begun places v job number turn x p looked f w = record {
  turn = turn;
  ask = w.ask;
  wants = w.wants;
  step = w.step;
  at = w.at;
  lost = w.pair;
  adds = w.adds;
  begins = answer_begun places (resources_held v.core) job number (step_label w.step) (ask_data w.ask) looked f w.pair x
      w.answers;
}

module _ (places : PlacesData) (v : View) (job : Text) (number rank : ℕ) (looked : List CallData)
    (due : (s : State) → Stands v.core s → IsTurnOf s v.last job number rank) where
  -- under the build's own name
  named : (s : State) (is : Stands v.core s) (P : Text → ℕ → Type 0) → P job number
      → P (due s is).build.job (due s is).build.number
  named s is P = let d = due s is in let id = at_id job number s.running d.build d.there in
      renamed P job d.build.job number d.build.number id.0 id.1

  -- a turn of the build whose turn it is was begun
  turn_begun : (asked : Bool) (f : List CallData) (lost : Loss)
      → AbortIsAsked (abort_folder places job number) asked v.calls looked
      → ((s : State) (is : Stands v.core s) → BeginsOn asked places (due s is).build s looked f lost)
      → MayBegin (Items (Serves places) (item.turn ∷ [])) v f lost
  turn_begun asked f lost is_asked begins =
      item_begun places item.turn v f lost (λ s is.
      let begun : BeginsBuild places (due s is).build (world_of v s) (begun_at v s f lost) = record {
        asked = asked;
        looked = looked;
        is_asked = named s is (λ j i. AbortIsAsked (abort_folder places j i) asked v.calls looked) is_asked;
        begins = begins s is;
        core = refl;
        last = refl;
      } in
      subst (λ o. BeginsTurn places o (world_of v s) (begun_at v s f lost)) (sym (due s is).next) begun)

  -- its abort was asked, and its event isn't made
  pub abort_unmade : {l : Text} {n : View} {stop : ServeFault}
      → AbortIsAsked (abort_folder places job number) true v.calls looked → l ≡ v.lines
      → Unmade (abort job number) stop (after v looked v.pairs []) n
      → Calls (Items (Serves places) (item.turn ∷ [])) v false (printed n l)
  abort_unmade asked lines un =
      let lost : Loss = record { pair = None; event = Some (abort job number) } in
      calls_unmade lost refl
      (turn_begun true looked lost asked (λ s is.
      (refl, named s is (λ j i. lost ≡ record { pair = None; event = Some (abort j i) }) refl)))
      (none_added v.pairs) lines un

  module _ (unasked : AbortIsAsked (abort_folder places job number) false v.calls looked) (p : List Pair)
      (f : List CallData) where
    answer_stops : (w : BeginsWant places v.core job number v.pairs p looked f) (event : Option EventData)
        → ((xs : List Exchange) → HasTurn xs w.turn → MayAnswer job number xs event)
        → MayBegin (Items (Serves places) (item.turn ∷ [])) v f (record { pair = w.lost; event = event })
    answer_stops w event may = turn_begun false f (record { pair = w.lost; event = event }) unasked (λ s is.
        let d = due s is in
        let asked : IsAsked (Some d.build) (Some (w.turn, w.ask)) =
        subst (λ o. IsAsked o (Some (w.turn, w.ask))) d.there (w.wants s is) in
        record {
          ask = ask_data w.ask;
          wanted = asked.1;
          at = w.step;
          waits_at = waits_at v.core s job number d.build w.step is d.there w.at;
          begins = named s is
              (λ j i. BeginsAnswer places (resources_of s) j i (step_label w.step) (ask_data w.ask) looked f w.lost)
              (subst
              (λ rs. BeginsAnswer places rs job number (step_label w.step) (ask_data w.ask) looked f w.lost)
              (ap (λ o. (unwrap_or o no_pipeline).resources) is.1) w.begins);
          may = named s is (λ j i. MayAnswer j i d.build.exchanges event) (may d.build.exchanges asked.0);
        })

    -- memory was wanted for the answer
    pub turn_unanswered : {l : Text} → BeginsWant places v.core job number v.pairs p looked f → IsReady v → l ≡ v.lines
        → Calls (Items (Serves places) (item.turn ∷ [])) v false (after v f p l)
    turn_unanswered w ready lines =
        cut_by_memory v (record { pair = w.lost; event = None }) (answer_stops w None (λ xs h. tt)) ready w.adds lines

    -- its event isn't made
    pub turn_unmade : {turn : ℕ} {x : SaidData} {l : Text} {n : View} {stop : ServeFault}
        → AnswersWant places v.core job number turn x v.pairs p looked f → l ≡ v.lines
        → (given : AnswerData) × Unmade (answer job number turn given) stop (after v f p []) n
        → Calls (Items (Serves places) (item.turn ∷ [])) v false (printed n l)
    turn_unmade {turn} {x} w lines (given, un) =
        let begun = want_begun places v job number turn x p looked f w in
        let event : Option EventData = Some (answer job number turn given) in
        calls_unmade (record { pair = begun.lost; event = event }) refl
        (answer_stops begun event (λ xs h. (turn, given, h, refl))) begun.adds lines un
