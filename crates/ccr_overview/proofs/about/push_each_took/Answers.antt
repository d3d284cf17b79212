use Rattle.std.proofs.Common.{length, map}
use Rattle.std.specs.Prelude.{nat_lt}
use Rattle.ccr_overview.specs.Abouts.{took_word}
use Rattle.ccr_overview.specs.PageData.{word_data}
use Rattle.ccr_overview.proofs.Going.{each_on}
use Rattle.ccr_overview.proofs.about.push_each_took.Goals as goal

pub loop-k-preserved : goal.loop-k-preserved
loop-k-preserved c =
    let used = c.args.build.now.used in
    each_on (took_word c.args.history.now (nat_lt 1 (length used))) used c.loop-k.k _ (map word_data c.loop-k.out.items) (map word_data c.push_took.new.out.items) _ c.used_at.ensures
    c.in_ok-push_took.ensures c.loop-k.invariant
