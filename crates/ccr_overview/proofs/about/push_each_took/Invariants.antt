use Rattle.std.proofs.Common.{◌≡◌, ◌++◌, drop, length, map}
use Rattle.std.specs.Prelude.{nat_lt}
use Rattle.ccr_overview.specs.Abouts.{took_word}
use Rattle.ccr_overview.specs.Each.{each_from}
use Rattle.ccr_overview.specs.PageData.{word_data}
use Rattle.ccr_overview.proofs.about.push_each_took.Given as goal

abbrev pub invariant-loop-k : goal.invariant-loop-k
invariant-loop-k l =
    map word_data l.out.items ++ each_from (took_word l.history (nat_lt 1 (length l.build.used))) l.k (drop l.k l.build.used)
    ≡ map word_data l.fn.out.items ++ each_from (took_word l.history (nat_lt 1 (length l.build.used))) 0 l.build.used
