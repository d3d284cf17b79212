use Rattle.std.proofs.Common.{nat_eq, arith}
use Rattle.std.specs.HashSet.{contains}
use Rattle.ccr_resolve.proofs.OnceLaws.{kept_once, pushed_once, once_same}
use Rattle.ccr_resolve.proofs.once.each_once.Goals as goal

pub loop-k-preserved-then-not-branch : goal.loop-k-preserved-then-not-branch
loop-k-preserved-then-not-branch c =
    kept_once (λ q. contains nat_eq c.loop-k.seen q) (λ q. contains nat_eq c.insert.new.self q) c.args.list.now c.loop-k.k-index c.loop-k.once.items c.loop-k-test.true
    c.in_ok-insert.ensures.updates.0 (cc (c.in_ok-insert.ensures.added, c.if-not-branch.true)) c.loop-k.invariant

pub loop-k-preserved : goal.loop-k-preserved
loop-k-preserved c =
    pushed_once (λ q. contains nat_eq c.loop-k.seen q) (λ q. contains nat_eq c.insert.new.self q) c.args.list.now c.loop-k.k-index c.loop-k.once.items c.loop-k-test.true
    c.in_ok-insert.ensures.updates.0 c.push.new.self.items (cc (c.in_ok-insert.ensures.added, c.if-not-branch.false)) c.in_ok-push.ensures.items c.loop-k.invariant

pub returns-clause-same : goal.returns-clause-same
returns-clause-same c = once_same (λ q. contains nat_eq c.loop-k.seen q) c.args.list.now c.loop-k.k-index c.loop-k.once.items (omega (arith, c.loop-k-test.false)) c.loop-k.invariant
