use Rattle.std.proofs.Common.{◌≡◌, drop}
use Rattle.std.specs.Prelude.{map}
use Rattle.ccr_run.specs.Kept.{has_text}
use Rattle.ccr_run.proofs.kept.has_text.Given as goal

abbrev pub invariant-loop-each : goal.invariant-loop-each
invariant-loop-each l =
    has_text l.text (map (λ t. t.items) l.texts) ≡ has_text l.text (map (λ t. t.items) (drop l.each-index l.texts))
