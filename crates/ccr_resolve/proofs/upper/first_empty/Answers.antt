use Rattle.std.proofs.Common.{◌<◌, length, arith}
use Rattle.ccr_resolve.proofs.UpperLaws.{empty_at, place_at}
use Rattle.ccr_resolve.proofs.upper.first_empty.Goals as goal

pub returns-then-upper-i-eq0-clause-found : goal.returns-then-upper-i-eq0-clause-found
returns-then-upper-i-eq0-clause-found c = λ a best.
    let p = c.args.index.now.problem in
    let within : c.loop-i.i < length p.inputs = omega (arith, c.loop-i-test.true, c.input_count-count.ensures.value) in
    empty_at p a c.args.upper.now best c.input_count-count.ensures.kept c.loop-i.i within c.if-upper-i-eq0.true

pub returns-clause-found : goal.returns-clause-found
returns-clause-found c = λ a best i none.
    place_at c.args.index.now.problem a c.args.upper.now best i (c.loop-i.invariant i (omega (arith, none.0, c.loop-i-test.false, c.input_count-count.ensures.value))) none
