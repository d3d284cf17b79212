use Rattle.std.proofs.Common.{◌≡◌, ◌++◌, drop, map}
use Rattle.ccr_overview.specs.Abouts.{put_word}
use Rattle.ccr_overview.specs.Each.{each_from}
use Rattle.ccr_overview.specs.PageData.{word_data}
use Rattle.ccr_overview.proofs.about.push_each_put.Given as goal

abbrev pub invariant-loop-k : goal.invariant-loop-k
invariant-loop-k l =
    map word_data l.out.items ++ each_from put_word l.k (map (λ r. (r.0, r.1.now)) (drop l.k l.puts)) ≡ map word_data l.fn.out.items ++ each_from put_word 0 (map (λ r. (r.0, r.1.now)) l.puts)
