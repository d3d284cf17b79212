use Rattle.std.proofs.Common.{sym, arith}
use Rattle.std.proofs.lemmas.List.{take_all, length-take-le}
use Rattle.ccr_look.proofs.copied.header_of.Goals as goal

pub returns-then-log-le-HEADER : goal.returns-then-log-le-HEADER
returns-then-log-le-HEADER c = sym (take_all 32 c.args.log.now (omega (arith, c.if-log-le-HEADER.true)))

pub slice_bounds-result-end : goal.slice_bounds-result-end
slice_bounds-result-end c = sym (length-take-le 32 c.args.log.now (omega (arith, c.if-log-le-HEADER.false)))
