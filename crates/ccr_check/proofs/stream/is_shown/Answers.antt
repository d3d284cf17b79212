use Rattle.std.proofs.Common.{refl, arith, option_copied}
use Rattle.ccr_check.proofs.Claims.{empty_table}
use Rattle.ccr_check.proofs.Streams.{shown}
use Rattle.ccr_check.proofs.stream.is_shown.Goals as goal

pub returns-in-Some-default-empty : goal.returns-in-Some-default-empty
returns-in-Some-default-empty c = λ _.
    shown c.args.problem.now c.args.claim.now (option_copied c.in-Ok.bound) _ c.in-Some-default-empty.field-0-0 c.args.text.now c.in-Some-default-empty.field-0-1.now (empty_table c.args.problem.now _ refl)
    c.in-Ok.ensures (omega (arith, c.in-Some-default-empty.len_below)) c.in-Some-default-empty.ensures
