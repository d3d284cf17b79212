use Rattle.std.proofs.Common.{◌≡◌, drop}
use Rattle.std.specs.Prelude.{map, string_bytes}
use Rattle.ccr_run.specs.Typed.{has_option}
use Rattle.ccr_run.proofs.typed.has_option.Given as goal

abbrev pub invariant-loop-word : goal.invariant-loop-word
invariant-loop-word l =
    has_option l.option (map string_bytes l.words) ≡ has_option l.option (map string_bytes (drop l.word-index l.words))
