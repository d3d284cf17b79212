use Rattle.std.proofs.Common.{◌≡◌, ◌++◌, drop, map}
use Rattle.ccr_lines.specs.Listed.{listed_data}
use Rattle.ccr_overview.specs.Each.{each_from}
use Rattle.ccr_overview.specs.PageData.{word_data}
use Rattle.ccr_overview.specs.PageResources.{listed_words}
use Rattle.ccr_overview.proofs.resource.push_each_listed.Given as goal

abbrev pub invariant-loop-k : goal.invariant-loop-k
invariant-loop-k l =
    map word_data l.out.items ++ each_from listed_words l.k (map listed_data (drop l.k l.listed)) ≡ map word_data l.fn.out.items ++ each_from listed_words 0 (map listed_data l.listed)
