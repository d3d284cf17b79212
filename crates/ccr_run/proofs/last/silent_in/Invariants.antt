use Rattle.std.proofs.Common.{◌≡◌, drop}
use Rattle.std.specs.Prelude.{map}
use Rattle.ccr_run.specs.Last.{silent_in}
use Rattle.ccr_run.proofs.last.silent_in.Given as goal

abbrev pub invariant-loop-text : goal.invariant-loop-text
invariant-loop-text l =
    silent_in (map (λ n. n.items) l.notes) (map (λ t. t.items) l.texts)
    ≡ silent_in (map (λ n. n.items) l.notes) (map (λ t. t.items) (drop l.text-index l.texts))
