use Rattle.std.proofs.Common.{Option, Some, None, replicate, subst, sym, refl, arith}
use Rattle.std.specs.Prelude.{MatchOption}
use Rattle.ccr_choice.specs.Problem.{ChoiceValue}
use Rattle.ccr_choice.specs.Preference.{order_of}
use Rattle.ccr_choice.specs.Assignment.{Assignment, nothing_fixed}
use Rattle.ccr_choice.proofs.Orders.{is_order}
use Rattle.ccr_choice.proofs.TableLaws.{zeros, table_empty}
use Rattle.ccr_proof.specs.declared.claim.Claim.TheVariants.{Best, Nothing}
use Rattle.ccr_proof.specs.Tree.{tree_of, empty, bounded}
use Rattle.ccr_proof.specs.Refutes.{Refutes, IsAccepted}
use Rattle.ccr_proof.proofs.Sound.{accepted_right}
use Rattle.ccr_resolve.specs.NodeBound.{TopFits}
use Rattle.ccr_resolve.specs.Search.{AreUpper, IsTopChoice, places_of}
use Rattle.ccr_resolve.proofs.Counting.{free_empty}
use Rattle.ccr_resolve.proofs.ClaimFits.{short_claim}
use Rattle.ccr_resolve.proofs.Steps.{kinds_root, bound_one, none_needed, room_over_found, found_in, none_found}
use Rattle.ccr_resolve.proofs.resolver.resolve_indexed.Goals as goal

pub returns-in-Some : goal.returns-in-Some
returns-in-Some c =
    let p = c.args.index.now.problem in
    let accepted : IsAccepted (order_of p) p Nothing (empty c.in-Some.i) = c.in-Some.ensures.found nothing_fixed c.tops-upper.ensures in
    let right = accepted_right (order_of p) (is_order p) p c.first_empty.ensures.rules Nothing (empty c.in-Some.i) accepted in
    (refl, record { accepted = accepted; right = right; few_nodes = omega (arith, c.requires.least); few_kinds = omega (arith, bound_one p) })

pub newest_choice-requires-clause-some : goal.newest_choice-requires-clause-some
newest_choice-requires-clause-some c = c.in_default.ensures.found nothing_fixed c.tops-upper.ensures

pub invariant_of-result-in-Some-newest : goal.invariant_of-result-in-Some-newest
invariant_of-result-in-Some-newest c =
    let p = c.args.index.now.problem in
    let P : Option ChoiceValue → Type 0 = λ o. MatchOption o (TopFits (order_of p) p → ⊥) (IsTopChoice p) in
    let top : IsTopChoice p c.in-Some-newest.choice = subst P c.in-Some-newest.is c.in_ok-newest.ensures in
    record { short = short_claim p c.first_empty.ensures.rules c.in-Some-newest.choice top.0; few_nodes = omega arith; shallow = omega arith }

pub returns-in-Some-newest : goal.returns-in-Some-newest
returns-in-Some-newest c =
    let p = c.args.index.now.problem in
    let P : Option ChoiceValue → Type 0 = λ o. MatchOption o (TopFits (order_of p) p → ⊥) (IsTopChoice p) in
    let accepted : IsAccepted (order_of p) p (Best c.in-Some-newest.choice) bounded = subst P c.in-Some-newest.is c.in_ok-newest.ensures in
    let right = accepted_right (order_of p) (is_order p) p c.first_empty.ensures.rules (Best c.in-Some-newest.choice) bounded accepted in
    ((c.in-Some-newest.choice, refl), record { accepted = accepted; right = right; few_nodes = omega (arith, c.requires.least); few_kinds = omega (arith, bound_one p) })

pub descend-requires-clause-known : goal.descend-requires-clause-known
descend-requires-clause-known c = λ j. omega (arith, zeros 32 j)

pub descend-requires-clause-upper : goal.descend-requires-clause-upper
descend-requires-clause-upper c =
    let p = c.args.index.now.problem in
    let P : Assignment → Type 0 = λ a. AreUpper p a c.tops-upper.result in
    subst P (sym (table_empty p 32)) c.tops-upper.ensures

pub returns-in_default-2 : goal.returns-in_default-2
returns-in_default-2 c =
    let p = c.args.index.now.problem in
    let P : Option ChoiceValue → Type 0 = λ o. MatchOption o (TopFits (order_of p) p → ⊥) (IsTopChoice p) in
    let fits : TopFits (order_of p) p → ⊥ = subst P c.in_default-newest.is c.in_ok-newest.ensures in
    let needed = none_needed (order_of p) p (replicate 32 0) c.in_ok-best.best c.descend.new.best c.args.budget c.descend.new.left c.in_ok-tree.field-0 c.in_ok-tree.ensures c.in_default-2.is in (
      refl,
      room_over_found (order_of p) p c.args.budget 32 (places_of c.in_ok-best.best) fits (c.in_default.ensures.found nothing_fixed c.tops-upper.ensures) needed,
    )

pub invariant_of-result-in-Some-best : goal.invariant_of-result-in-Some-best
invariant_of-result-in-Some-best c =
    let p = c.args.index.now.problem in
    let done = found_in (order_of p) p (replicate 32 0) c.in_ok-best.best c.descend.new.best c.args.budget c.descend.new.left c.in_ok-tree.field-0 c.in-Some-2.tree c.in-Some-best.choice c.in_ok-tree.ensures c.in-Some-2.is c.in-Some-best.is in
    record {
      short = short_claim p c.first_empty.ensures.rules c.in-Some-best.choice done.satisfies;
      few_nodes = omega (arith, done.counted, done.spent, c.requires.most);
      shallow = omega (arith, done.shallow, free_empty 32);
    }

pub returns-in-None : goal.returns-in-None
returns-in-None c =
    let p = c.args.index.now.problem in
    let done = none_found (order_of p) p (replicate 32 0) c.in_ok-best.best c.descend.new.best c.args.budget c.descend.new.left c.in_ok-tree.field-0 c.in-Some-2.tree c.in_ok-tree.ensures c.in-Some-2.is c.in-None.is in
    let P : Assignment → Type 0 = λ a. Refutes (order_of p) p None a (tree_of c.in-Some-2.tree) in
    let accepted : IsAccepted (order_of p) p Nothing (tree_of c.in-Some-2.tree) = subst P (table_empty p 32) done.refuted in
    let right = accepted_right (order_of p) (is_order p) p c.first_empty.ensures.rules Nothing (tree_of c.in-Some-2.tree) accepted in
    (refl, record { accepted = accepted; right = right; few_nodes = omega (arith, done.counted, done.spent); few_kinds = omega (arith, done.counted, done.needed.kinds, kinds_root p 32) })

pub returns-in-Some-best : goal.returns-in-Some-best
returns-in-Some-best c =
    let p = c.args.index.now.problem in
    let done = found_in (order_of p) p (replicate 32 0) c.in_ok-best.best c.descend.new.best c.args.budget c.descend.new.left c.in_ok-tree.field-0 c.in-Some-2.tree c.in-Some-best.choice c.in_ok-tree.ensures c.in-Some-2.is c.in-Some-best.is in
    let P : Assignment → Type 0 = λ a. Refutes (order_of p) p (Some c.in-Some-best.choice.places) a (tree_of c.in-Some-2.tree) in
    let accepted : IsAccepted (order_of p) p (Best c.in-Some-best.choice) (tree_of c.in-Some-2.tree) = (done.satisfies, subst P (table_empty p 32) done.refuted) in
    let right = accepted_right (order_of p) (is_order p) p c.first_empty.ensures.rules (Best c.in-Some-best.choice) (tree_of c.in-Some-2.tree) accepted in
    ((c.in-Some-best.choice, refl), record { accepted = accepted; right = right; few_nodes = omega (arith, done.counted, done.spent); few_kinds = omega (arith, done.counted, done.needed.kinds, kinds_root p 32) })
