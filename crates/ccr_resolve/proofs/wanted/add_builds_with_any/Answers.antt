use Rattle.std.proofs.Common.{◌-◌, ℕ, Vec, Global, get_or, sym, ap, subst, arith}
use Rattle.std.specs.Prelude.{not}
use Rattle.ccr_resolve.specs.Sought.{HasAll}
use Rattle.ccr_resolve.proofs.WantedLaws.{ArePairsWalked, pairs_next, pairs_end}
use Rattle.ccr_resolve.proofs.wanted.add_builds_with_any.Goals as goal
use Rattle.ccr_resolve.proofs.wanted.add_builds_with_any.Goals.{else-at-scope-via-then-at-scope+in_ok-add_builds_with+else-branch, else-at-scope-via-else-at-scope}

pub loop-k-preserved : goal.loop-k-preserved
loop-k-preserved c =
    let bs = c.args.rows.now.builds in
    let scope = c.args.scope in
    let pairs = c.args.pairs.now in
    let k = c.loop-k.k in
    let list = c.loop-k.builds.items in
    let P : Vec ℕ Global → Type 0 = λ v. ArePairsWalked bs scope pairs c.args.most (k - 1) v.items in
    elim c.else-at-scope.branch [
      | else-at-scope-via-then-at-scope+in_ok-add_builds_with+else-branch w ↦ (
          let more = w.add_builds_with.new.builds.items in
          let Q : ℕ → Type 0 = λ n. HasAll bs (scope, n) more in
          let new : Q (get_or pairs (k - 1) (0, 0)).1 = w.in_ok-add_builds_with.ensures.all (ap not w.if-branch.false) in
          subst P (sym w.builds-is) (pairs_next bs scope pairs c.args.most k list more c.loop-k.invariant w.add_builds_with.ensures.within w.add_builds_with.ensures.few w.add_builds_with.ensures.kept
          (λ place is. subst Q (ap (λ y. y.1) is) new)))
      | else-at-scope-via-else-at-scope w ↦
          subst P (sym w.builds-is) (pairs_next bs scope pairs c.args.most k list list c.loop-k.invariant c.loop-k.invariant.within c.loop-k.invariant.few (λ n h. h)
          (λ place is. absurd (w.if-at-scope.false (ap (λ y. y.0) is))))
    ]

pub returns-clause-all : goal.returns-clause-all
returns-clause-all c = λ done. pairs_end c.args.rows.now.builds c.args.scope c.args.pairs.now c.args.most c.loop-k.k c.loop-k.builds.items c.loop-k.invariant (omega (arith, c.loop-k-test.false))
