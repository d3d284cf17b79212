use Rattle.std.proofs.Common.{◌≡◌, [], true, replicate}
use Rattle.ccr_task.specs.Places.{places_data}
use Rattle.ccr_serve.specs.Items.{Items, turn}
use Rattle.ccr_serve.specs.Serving.{Serves}
use Rattle.ccr_serve.specs.Views.{full_view, bare_view, Calls, IsReady}
use Rattle.ccr_serve.proofs.server.Server.take_turns.Given as goal

abbrev pub invariant-loop-turn : goal.invariant-loop-turn
invariant-loop-turn g l =
    let view = full_view g.R.Runner g.S.Shelf g.T.Storage g.O.Lines in
    record {
      served : Calls (Items (Serves (places_data l.fn.self.places)) (replicate l._turn turn))
          (view l.fn.self l.fn.out) true (view l.self l.out);
      ready : IsReady (bare_view g.R.Runner g.S.Shelf g.T.Storage l.self);
      places : l.self.places ≡ l.fn.self.places;
      waiting : g.O.Lines.waiting l.fn.out ≡ [] → g.O.Lines.waiting l.out ≡ [];
    }
