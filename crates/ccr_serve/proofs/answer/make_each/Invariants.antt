use Rattle.std.proofs.Common.{List, Result, map, drop, string_bytes}
use Rattle.ccr_task.specs.Calls.{CallData, making, Does}
use Rattle.ccr_task.specs.Places.{places_data, in_build}
use Rattle.ccr_task.specs.declared.fault.ShelfFault.{ShelfFault}
use Rattle.ccr_serve.proofs.answer.make_each.Given as goal

abbrev pub invariant-loop-name : goal.invariant-loop-name
invariant-loop-name g l =
    (r : Result Unit ShelfFault) (after : List CallData)
    → Does (map (λ name. making (in_build (places_data l.places) l.job l.number name))
    (map string_bytes (drop l.name-index l.names))) (g.S.Shelf.calls l.shelf) r after
    → Does (map (λ name. making (in_build (places_data l.places) l.job l.number name)) (map string_bytes l.names))
    (g.S.Shelf.calls l.fn.shelf) r after
