use Rattle.std.proofs.Common.{◌≡◌, take, flat_map, string_bytes}
use Rattle.ccr_lines.specs.Live.{live_words}
use Rattle.ccr_lines.proofs.live.words_of.Given as goal

abbrev pub invariant-loop-k : goal.invariant-loop-k
invariant-loop-k l = string_bytes l.text ≡ flat_map (λ u. live_words l.history.tables u) (take l.k l.build.used)
