-- Turns that were taken.
use Rattle.std.proofs.Common.{◌≡◌, ◌++◌, ◌⊎◌, ℕ, List, [], ◌∷◌, map, Bool, true, false, Some, None, unwrap_or, Ok, Err, refl, sym, ◌∙◌, ap, subst, append-nil}
use Rattle.ccr_history.specs.Text.{Text}
use Rattle.ccr_history.specs.History.{HistoryData}
use Rattle.ccr_process.specs.Runs.{Pair}
use Rattle.ccr_steps.specs.Asks.{ask_data, AnswerData, errored}
use Rattle.ccr_task.specs.Calls.{CallData}
use Rattle.ccr_task.specs.Faulty.{SaidData}
use Rattle.ccr_task.specs.Places.{PlacesData, abort_folder}
use Rattle.ccr_task.specs.Starting.{step_label}
use Rattle.ccr_core.specs.declared.fault.CoreFault.TheVariants.{TableFull}
use Rattle.ccr_core.specs.declared.reply.Reply.{Reply}
use Rattle.ccr_core.specs.Events.{answer, abort}
use Rattle.ccr_core.specs.Holding.{IsAsked, Stands}
use Rattle.ccr_core.specs.Kept.{IsEvent}
use Rattle.ccr_core.specs.Picking.{name_of}
use Rattle.ccr_core.specs.State.{RunningData, State, no_pipeline, resources_of}
use Rattle.ccr_core.specs.Steps.{Step}
use Rattle.ccr_core.proofs.Opening.{names_are}
use Rattle.ccr_core.proofs.RunningLists.{at_id}
use Rattle.ccr_lines.specs.Lines.{lines_of}
use Rattle.ccr_serve.specs.Aborts.{AbortIsAsked, Clears}
use Rattle.ccr_serve.specs.Asked.{Answers}
use Rattle.ccr_serve.specs.Due.{IsTurnOf, AnswersWant, GivesFrom, Gives}
use Rattle.ccr_serve.specs.Items.{Done, nothing, Part, Items}
use Rattle.ccr_serve.specs.Items as item
use Rattle.ccr_serve.specs.Serving.{ServesBuild, TakesTurn, Serves}
use Rattle.ccr_serve.specs.Turns.{rank_in, next_after}
use Rattle.ccr_serve.specs.Views.{View, world_of, IsReady, Made, Calls}
use Rattle.ccr_serve.proofs.Commits.{rose_none}
use Rattle.ccr_serve.proofs.Steps.{after, calls_did}
use Rattle.ccr_serve.proofs.Wants.{waits_at}

-- ---- no build runs
unnamed : (bs : List RunningData) → map name_of bs ≡ [] → bs ≡ []
unnamed [] e = refl
unnamed (b ∷ bs) e = absurd (cc e)

-- ---- turns
-- no build runs
pub turn_of_nobody : {v : View} (places : PlacesData) → IsReady v → v.core.names ≡ []
    → Calls (Items (Serves places) (item.turn ∷ [])) v true v
turn_of_nobody {v} places ready none =
    calls_did ready (λ s is. record {
      did = nothing;
      state = s;
      stands = is;
      does = (
        world_of v s,
        subst (λ bs. TakesTurn places (next_after (rank_in s.history) v.last bs) (world_of v s) nothing (world_of v s))
            (sym (unnamed s.running (names_are v.core.names v.core.runs s.running is.3 ∙ none))) (refl, refl),
        refl,
      );
      pairs = sym (append-nil v.pairs);
      commits = rose_none v.tally.commits;
      lines = sym (append-nil v.lines);
    })

-- a server after a turn: the build's rank is noted, and its folder may be removed
abbrev pub served : View → ℕ → List CallData → Text → View
served n rank calls lines = record {
  core = n.core;
  last = rank;
  calls = calls;
  pairs = n.pairs;
  holds = n.holds;
  leaves = n.leaves;
  tally = n.tally;
  places = n.places;
  lines = lines;
  closed = n.closed;
}

-- what holds under one name holds under another that is the same
renamed : (P : Text → ℕ → Type 0) (j k : Text) (m n : ℕ) → k ≡ j → n ≡ m → P j m → P k n
renamed P j k m n job number p = subst (λ t. P t n) (sym job) (subst (λ i. P j i) (sym number) p)

module _ (places : PlacesData) (v : View) (looked : List CallData) (job : Text) (number rank turn : ℕ) (x : SaidData) (reply : Reply) (f : List CallData) (p : List Pair) (n : View) (f2 : List CallData) (m : Text)
    (unasked : AbortIsAsked (abort_folder places job number) false v.calls looked) (wanted : AnswersWant places v.core job number turn x v.pairs p looked f)
    (gives : Gives job number turn x.answer reply (after v f p []) n) (clears : Clears places job number reply f f2) where
  module _ (s : State) (is : Stands v.core s) (due : IsTurnOf s v.last job number rank)
      (g : GivesFrom job number turn x.answer reply s n.core) where
    abbrev did : Done
    did = record {
      pair = wanted.pair;
      event = Some (answer job number turn g.given, Ok reply);
      lines = lines_of (answer job number turn g.given) (Ok reply) g.after.history;
    }

    -- under the build's own name
    named : (P : Text → ℕ → Type 0) → P job number → P due.build.job due.build.number
    named P = let id = at_id job number s.running due.build due.there in
        renamed P job due.build.job number due.build.number id.0 id.1

    asked : IsAsked (Some due.build) (Some (turn, wanted.ask))
    asked = subst (λ o. IsAsked o (Some (turn, wanted.ask))) due.there (wanted.wants s is)

    serves : ServesBuild places due.build (world_of v s) did (world_of (served n rank f2 m) g.after)
    serves = record {
      asked = false;
      looked = looked;
      is_asked = named (λ j i. AbortIsAsked (abort_folder places j i) false v.calls looked) unasked;
      reply = reply;
      calls = f;
      goes_on = record {
        turn = turn;
        ask = ask_data wanted.ask;
        has_turn = asked.0;
        wanted = asked.1;
        at = wanted.step;
        waits_at = waits_at v.core s job number due.build wanted.step is due.there wanted.at;
        x = x;
        answers = named
            (λ j i. Answers places (resources_of s) j i (step_label wanted.step) (ask_data wanted.ask) looked f wanted.pair x)
            (subst
            (λ rs. Answers places rs job number (step_label wanted.step) (ask_data wanted.ask) looked f wanted.pair x)
            (ap (λ o. (unwrap_or o no_pipeline).resources) is.1) wanted.answers);
        given = g.given;
        is_given = named (λ j i. (g.given ≡ x.answer) ⊎ (Step s (answer j i turn x.answer) (Err TableFull) s × (g.given ≡ errored)))
            g.is_given;
        step = named (λ j i. Step s (answer j i turn g.given) (Ok reply) g.after) g.step;
        kept = named (λ j i. IsEvent (answer j i turn g.given)) g.kept;
        event = named (λ j i. did.event ≡ Some (answer j i turn g.given, Ok reply)) refl;
        lines = named (λ j i. did.lines ≡ lines_of (answer j i turn g.given) (Ok reply) g.after.history) refl;
      };
      clears = named (λ j i. Clears places j i reply f f2) clears;
      last = due.ranked;
      lost = refl;
    }

    takes : TakesTurn places (next_after (rank_in s.history) v.last s.running) (world_of v s) did
        (world_of (served n rank f2 m) g.after)
    takes = subst (λ o. TakesTurn places o (world_of v s) did (world_of (served n rank f2 m) g.after)) (sym due.next)
        serves

  -- the build whose turn it is was answered
  pub turn_served : ((s : State) → Stands v.core s → IsTurnOf s v.last job number rank)
      → ((t : ℕ) (y : AnswerData) (h : HistoryData) → m ≡ v.lines ++ lines_of (answer job number t y) (Ok reply) h)
      → Calls (Items (Serves places) (item.turn ∷ [])) v true (served n rank f2 m)
  turn_served due told =
      calls_did gives.ready (λ s is.
      let g = gives.takes s is in
      record {
        did = did s is (due s is) g;
        state = g.after;
        stands = g.stands;
        does = (world_of (served n rank f2 m) g.after, takes s is (due s is) g, refl);
        pairs = gives.rest.pairs ∙ wanted.adds;
        commits = gives.commits;
        lines = told turn g.given g.after.history;
      })

-- ---- aborts
module _ (places : PlacesData) (v : View) (looked : List CallData) (job : Text) (number rank : ℕ) (reply : Reply) (n : View) (f2 : List CallData) (m : Text)
    (asked : AbortIsAsked (abort_folder places job number) true v.calls looked)
    (made : Made (abort job number) (Ok reply) (after v looked v.pairs []) n)
    (clears : Clears places job number reply looked f2) where
  module _ (s : State) (is : Stands v.core s) (due : IsTurnOf s v.last job number rank) where
    abbrev next : State
    next = (made.takes s is).0

    abbrev aborted : Done
    aborted = record {
      pair = None;
      event = Some (abort job number, Ok reply);
      lines = lines_of (abort job number) (Ok reply) next.history;
    }

    -- under the build's own name
    so_named : (P : Text → ℕ → Type 0) → P job number → P due.build.job due.build.number
    so_named P = let id = at_id job number s.running due.build due.there in
        renamed P job due.build.job number due.build.number id.0 id.1

    aborts : ServesBuild places due.build (world_of v s) aborted (world_of (served n rank f2 m) next)
    aborts = record {
      asked = true;
      looked = looked;
      is_asked = so_named (λ j i. AbortIsAsked (abort_folder places j i) true v.calls looked) asked;
      reply = reply;
      calls = looked;
      goes_on = (
        record {
          pair = refl;
          step = so_named (λ j i. Step s (abort j i) (Ok reply) next) (made.takes s is).1;
          event = so_named (λ j i. aborted.event ≡ Some (abort j i, Ok reply)) refl;
          lines = so_named (λ j i. aborted.lines ≡ lines_of (abort j i) (Ok reply) next.history) refl;
        },
        refl,
      );
      clears = so_named (λ j i. Clears places j i reply looked f2) clears;
      last = due.ranked;
      lost = refl;
    }

    takes_abort : TakesTurn places (next_after (rank_in s.history) v.last s.running) (world_of v s) aborted
        (world_of (served n rank f2 m) next)
    takes_abort = subst (λ o. TakesTurn places o (world_of v s) aborted (world_of (served n rank f2 m) next))
        (sym due.next) aborts

  -- the build whose turn it is was aborted
  pub abort_served : ((s : State) → Stands v.core s → IsTurnOf s v.last job number rank)
      → ((h : HistoryData) → m ≡ v.lines ++ lines_of (abort job number) (Ok reply) h)
      → Calls (Items (Serves places) (item.turn ∷ [])) v true (served n rank f2 m)
  abort_served due told =
      calls_did made.ready (λ s is.
      record {
        did = aborted s is (due s is);
        state = next s is (due s is);
        stands = (made.takes s is).2;
        does = (world_of (served n rank f2 m) (next s is (due s is)), takes_abort s is (due s is), refl);
        pairs = made.rest.pairs ∙ sym (append-nil v.pairs);
        commits = made.commits;
        lines = told (next s is (due s is)).history;
      })

-- what was called from where these lines were printed was called from where others are that are the same
pub from_lines : {P : Part} {v : View} {l : Text} {whole : Bool} {new : View} → l ≡ v.lines
    → Calls P (after v v.calls v.pairs l) whole new → Calls P v whole new
from_lines {P} {v} {l} {whole} {new} same h = subst (λ k. Calls P (after v v.calls v.pairs k) whole new) same h
