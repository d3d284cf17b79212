use Rattle.std.proofs.Common.{rules, ◌<◌, arith, length}
use Rattle.ccr_run.proofs.TypesLooked.{from_here, none_looked}
use Rattle.ccr_run.proofs.lacking.+tell_from.Goals as goal

pub returns-in_err-tell_type : goal.returns-in_err-tell_type
returns-in_err-tell_type g t c =
    none_looked _ _ _ _ _ _ _ _ c.in_err-tell_type.ensures.unasked c.in_err-tell_type.ensures.untold (search rules)

pub returns : goal.returns
returns g t c =
    let h : c.args.at < length c.args.resources.now = omega arith in
    from_here _ _ _ c.index-resources-at.result _ _ _ _ _ _ _ h c.index-resources-at.is
    c.in_ok-tell_type.ensures.told c.tell_from.ensures
