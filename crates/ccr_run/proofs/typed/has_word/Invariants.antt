use Rattle.std.proofs.Common.{◌≡◌, drop}
use Rattle.std.specs.Prelude.{map, string_bytes}
use Rattle.ccr_run.specs.Typed.{has_word}
use Rattle.ccr_run.proofs.typed.has_word.Given as goal

abbrev pub invariant-loop-each : goal.invariant-loop-each
invariant-loop-each l =
    has_word l.word (map string_bytes l.words) ≡ has_word l.word (map string_bytes (drop l.each-index l.words))
