use Rattle.std.proofs.Common.{◌≡◌, ◌++◌, drop, map}
use Rattle.ccr_overview.specs.Each.{each_from}
use Rattle.ccr_overview.specs.PageData.{word_data}
use Rattle.ccr_overview.specs.PageRows.{pair_words}
use Rattle.ccr_overview.proofs.row.push_pairs.Given as goal

abbrev pub invariant-loop-k : goal.invariant-loop-k
invariant-loop-k l =
    map word_data l.out.items ++ each_from (pair_words l.history) l.k (drop l.k l.pairs) ≡ map word_data l.fn.out.items ++ each_from (pair_words l.history) 0 l.pairs
