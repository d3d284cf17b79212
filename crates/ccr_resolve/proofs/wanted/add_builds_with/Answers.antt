use Rattle.std.proofs.Common.{◌≡◌, ◌-◌, ℕ, List, length, rules, sym, ap, subst, arith}
use Rattle.std.specs.Prelude.{Contains}
use Rattle.ccr_resolve.proofs.WantedLaws.{walk_first, walk_less, walk_next}
use Rattle.ccr_resolve.proofs.wanted.add_builds_with.Goals as goal

pub loop-last-init : goal.loop-last-init
loop-last-init c = walk_first c.args.rows.now.builds (c.args.scope, c.args.place) c.last_with-last.result c.args.builds.now.items c.args.most c.last_with-last.ensures c.requires.within c.requires.few

pub returns-in_err-push-clause-kept : goal.returns-in_err-push-clause-kept
returns-in_err-push-clause-kept c = λ k h.
    let P : List ℕ → Type 0 = λ xs. Contains xs k in
    subst P (sym c.in_err-push.ensures.items) (c.loop-last.invariant.kept k h)

pub loop-last-smaller : goal.loop-last-smaller
loop-last-smaller c =
    walk_less c.args.rows.now.builds (c.args.scope, c.args.place) c.loop-last.last c.last_before-last.result (c.len-in-loop-last.result - c.loop-last.last) c.loop-last.builds.items c.args.builds.now.items c.args.most
    c.loop-last.invariant c.loop-last-test.true (ap (λ n. n - c.loop-last.last) c.len-in-loop-last.ensures) c.last_before-last.ensures

pub loop-last-preserved : goal.loop-last-preserved
loop-last-preserved c =
    let counted : c.len.result ≡ length c.loop-last.builds.items = search rules in
    walk_next c.args.rows.now.builds (c.args.scope, c.args.place) c.loop-last.last c.last_before-last.result (c.len-in-loop-last.result - c.loop-last.last) c.loop-last.builds.items c.push.new.self.items c.args.builds.now.items c.args.most
    c.loop-last.invariant c.loop-last-test.true (ap (λ n. n - c.loop-last.last) c.len-in-loop-last.ensures) c.last_before-last.ensures c.in_ok-push.ensures.items (omega (arith, c.if-len-most.false, counted))
