use Rattle.std.proofs.Common.{sym, subst, arith}
use Rattle.ccr_choice.specs.Assignment.{Assignment}
use Rattle.ccr_choice.proofs.TableLaws.{zeros, table_empty}
use Rattle.ccr_resolve.specs.Search.{AreUpper}
use Rattle.ccr_resolve.proofs.dive.good_choice.Goals as goal

pub dive-requires-clause-known : goal.dive-requires-clause-known
dive-requires-clause-known c = λ j. omega (arith, zeros 32 j)

pub dive-requires-clause-upper : goal.dive-requires-clause-upper
dive-requires-clause-upper c =
    let p = c.args.index.now.problem in
    let P : Assignment → Type 0 = λ a. AreUpper p a c.args.upper.now in
    subst P (sym (table_empty p 32)) c.requires
