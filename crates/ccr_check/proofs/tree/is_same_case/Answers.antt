use Rattle.std.proofs.Common.{◌≡◌, ◌<◌, length, get_or, slice_get, false, ap, ◌∙◌, subst, arith, Some}
use Rattle.std.proofs.lemmas.Option.{slice_get-get_or}
use Rattle.ccr_choice.specs.Problem.{BuildValue, builds_at}
use Rattle.ccr_choice.specs.Dominated.{IsDominated}
use Rattle.ccr_proof.specs.Tree.{tree_of, is_same}
use Rattle.ccr_check.proofs.Walk.{own_at}
use Rattle.ccr_check.proofs.tree.is_same_case.Goals as goal

pub returns-then-earlier-k : goal.returns-then-earlier-k
returns-then-earlier-k c = λ b at. (λ t. absurd (cc (t)), λ h. absurd (omega (arith, h.before)))

pub returns-then-not-is_own : goal.returns-then-not-is_own
returns-then-not-is_own c = λ b at. (
  λ t. absurd (cc (t)),
  λ h. let its = own_at c.args.children.now c.args.earlier c.index-children-earlier.result (omega arith) c.index-children-earlier.is in
      let own : is_same (tree_of c.index-children-earlier.result) ≡ false = cc (its, h.own) in
      absurd (cc (c.is_own.ensures.1 own, c.if-not-is_own.true)),
)

pub returns : goal.returns
returns c = λ b at.
    let p = c.args.problem.now in
    let j = c.args.job in
    let bs = builds_at p j in
    let q = c.args.earlier in
    let node = own_at c.args.children.now q c.index-children-earlier.result (omega arith) c.index-children-earlier.is in
    let within : q < length bs = omega (arith, c.requires.builds) in
    let other = get_or bs q b in
    let its : slice_get bs q ≡ Some other = slice_get-get_or bs q b within in
    let P : BuildValue → Type 0 = λ o. IsDominated p j b o in (
      λ t. record {
        before = omega arith;
        own = node ∙ ap Some (c.is_own.ensures.0 (cc (c.if-not-is_own.false)));
        other = other;
        its = its;
        dominated = (c.is_below.ensures b other at its).0 t;
      },
      λ h. let same : h.other ≡ other = cc (h.its, its) in (c.is_below.ensures b other at its).1 (subst P same h.dominated),
    )
