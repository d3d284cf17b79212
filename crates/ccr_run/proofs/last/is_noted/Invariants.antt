use Rattle.std.proofs.Common.{◌≡◌, drop}
use Rattle.std.specs.Prelude.{map}
use Rattle.ccr_run.specs.Last.{is_noted}
use Rattle.ccr_run.proofs.last.is_noted.Given as goal

abbrev pub invariant-loop-note : goal.invariant-loop-note
invariant-loop-note l =
    is_noted (map (λ n. n.items) l.notes) l.build ≡ is_noted (map (λ n. n.items) (drop l.note-index l.notes)) l.build
