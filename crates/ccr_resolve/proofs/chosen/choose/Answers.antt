use Rattle.std.proofs.Common.{Option, replicate, subst, sym, refl, arith}
use Rattle.std.specs.Prelude.{MatchOption}
use Rattle.ccr_choice.specs.Problem.{ChoiceValue}
use Rattle.ccr_choice.specs.Preference.{order_of}
use Rattle.ccr_choice.specs.Assignment.{Assignment, nothing_fixed}
use Rattle.ccr_choice.proofs.Orders.{is_order}
use Rattle.ccr_choice.proofs.TableLaws.{zeros, table_empty}
use Rattle.ccr_proof.specs.declared.claim.Claim.TheVariants.{Best, Nothing}
use Rattle.ccr_proof.specs.Tree.{empty, bounded}
use Rattle.ccr_proof.proofs.Sound.{accepted_right}
use Rattle.ccr_resolve.specs.NodeBound.{TopFits}
use Rattle.ccr_resolve.specs.Search.{AreUpper, IsTopChoice}
use Rattle.ccr_resolve.proofs.SoughtLaws.{over_is, sought_is, over_room, none_sought, best_sought}
use Rattle.ccr_resolve.proofs.chosen.choose.Goals as goal

pub returns-in-Some : goal.returns-in-Some
returns-in-Some c =
    let p = c.args.index.now.problem in
    accepted_right (order_of p) (is_order p) p c.first_empty.ensures.rules Nothing (empty _) (c.in-Some.ensures.found nothing_fixed c.tops-upper.ensures)

pub newest_choice-requires-clause-some : goal.newest_choice-requires-clause-some
newest_choice-requires-clause-some c = c.in_default.ensures.found nothing_fixed c.tops-upper.ensures

pub returns-in-Some-newest : goal.returns-in-Some-newest
returns-in-Some-newest c =
    let p = c.args.index.now.problem in
    let P : Option ChoiceValue → Type 0 = λ o. MatchOption o (TopFits (order_of p) p → ⊥) (IsTopChoice p) in
    accepted_right (order_of p) (is_order p) p c.first_empty.ensures.rules (Best c.in-Some-newest.choice) bounded (subst P c.in-Some-newest.is c.in_ok-newest.ensures)

pub seek-requires-clause-known : goal.seek-requires-clause-known
seek-requires-clause-known c = λ j. omega (arith, zeros 32 j)

pub seek-requires-clause-upper : goal.seek-requires-clause-upper
seek-requires-clause-upper c =
    let p = c.args.index.now.problem in
    let P : Assignment → Type 0 = λ a. AreUpper p a c.tops-upper.result in
    subst P (sym (table_empty p 32)) c.tops-upper.ensures

pub returns-then-is_over : goal.returns-then-is_over
returns-then-is_over c =
    let p = c.args.index.now.problem in
    let P : Option ChoiceValue → Type 0 = λ o. MatchOption o (TopFits (order_of p) p → ⊥) (IsTopChoice p) in
    let fits : TopFits (order_of p) p → ⊥ = subst P c.in_default-newest.is c.in_ok-newest.ensures in (
      refl,
      over_room (order_of p) p c.args.budget 32 fits (c.in_default.ensures.found nothing_fixed c.tops-upper.ensures)
          (over_is (order_of p) p (replicate 32 0) c.in_ok-best.best c.seek.new.best c.args.budget c.seek.new.left c.in_ok-is_over.is_over c.in_ok-is_over.ensures c.if-is_over.true),
    )

pub returns-in-None : goal.returns-in-None
returns-in-None c =
    let p = c.args.index.now.problem in
    none_sought (order_of p) p c.in_ok-best.best c.seek.new.best c.args.budget c.seek.new.left
    (sought_is (order_of p) p (replicate 32 0) c.in_ok-best.best c.seek.new.best c.args.budget c.seek.new.left c.in_ok-is_over.is_over c.in_ok-is_over.ensures c.if-is_over.false) c.in-None.is

pub returns-in-Some-best : goal.returns-in-Some-best
returns-in-Some-best c =
    let p = c.args.index.now.problem in
    best_sought (order_of p) p c.in_ok-best.best c.seek.new.best c.args.budget c.seek.new.left c.in-Some-best.choice
    (sought_is (order_of p) p (replicate 32 0) c.in_ok-best.best c.seek.new.best c.args.budget c.seek.new.left c.in_ok-is_over.is_over c.in_ok-is_over.ensures c.if-is_over.false) c.in-Some-best.is
