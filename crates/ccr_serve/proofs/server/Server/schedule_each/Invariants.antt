use Rattle.std.proofs.Common.{◌≡◌, [], true, map, take, string_bytes}
use Rattle.ccr_task.specs.Places.{places_data}
use Rattle.ccr_serve.specs.Items.{Items, schedule}
use Rattle.ccr_serve.specs.Serving.{Serves}
use Rattle.ccr_serve.specs.Views.{full_view, bare_view, Calls, IsReady}
use Rattle.ccr_serve.proofs.server.Server.schedule_each.Given as goal

abbrev pub invariant-loop-name : goal.invariant-loop-name
invariant-loop-name g l =
    let view = full_view g.R.Runner g.S.Shelf g.T.Storage g.O.Lines in
    record {
      served : Calls (Items (Serves (places_data l.fn.self.places))
          (map (λ name. schedule (string_bytes name)) (take l.name-index l.names)))
          (view l.fn.self l.fn.out) true (view l.self l.out);
      ready : IsReady (bare_view g.R.Runner g.S.Shelf g.T.Storage l.self);
      places : l.self.places ≡ l.fn.self.places;
      waiting : g.O.Lines.waiting l.fn.out ≡ [] → g.O.Lines.waiting l.out ≡ [];
    }
