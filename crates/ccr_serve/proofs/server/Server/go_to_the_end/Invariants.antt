use Rattle.std.proofs.Common.{◌≡◌, [], true}
use Rattle.ccr_task.specs.Places.{places_data}
use Rattle.ccr_serve.specs.Views.{full_view, bare_view, Calls, IsReady}
use Rattle.ccr_serve.proofs.Ending.{Turns}
use Rattle.ccr_serve.proofs.server.Server.go_to_the_end.Given as goal

abbrev pub invariant-loop-turn : goal.invariant-loop-turn
invariant-loop-turn g l =
    let view = full_view g.R.Runner g.S.Shelf g.T.Storage g.O.Lines in
    record {
      served : Calls (Turns (places_data l.fn.self.places) l._turn)
          (view l.fn.self l.fn.out) true (view l.self l.out);
      ready : IsReady (bare_view g.R.Runner g.S.Shelf g.T.Storage l.self);
      places : l.self.places ≡ l.fn.self.places;
      waiting : g.O.Lines.waiting l.fn.out ≡ [] → g.O.Lines.waiting l.out ≡ [];
    }
