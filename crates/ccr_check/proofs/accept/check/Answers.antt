use Rattle.std.proofs.Common.{refl, option_copied}
use Rattle.std.proofs.lemmas.Result.{err_from_is_err_and}
use Rattle.ccr_proof.specs.Tree.{tree_of}
use Rattle.ccr_choice.specs.Preference.{order_of}
use Rattle.ccr_choice.proofs.Orders.{is_order}
use Rattle.ccr_check.proofs.Claims.{empty_table, accepted_from, fault_from, not_accepted, refused}
use Rattle.ccr_proof.proofs.Sound.{accepted_right}
use Rattle.ccr_check.proofs.accept.check.Goals as goal

pub returns-in_err-walk-clause-exact : goal.returns-in_err-walk-clause-exact
returns-in_err-walk-clause-exact c =
    let none = empty_table c.args.problem.now _ refl in
    let r = err_from_is_err_and c.from_residual-in_err-walk.result c.from_residual-in_err-walk.ensures.1 in
    refused c.from_residual-in_err-walk.result r.0 _ r.1
    (not_accepted c.args.problem.now c.args.proof.now.claim (tree_of c.args.proof.now.tree) (option_copied c.in_ok-bound.bound) _ c.in_err-walk.field-0.0 none c.in_ok-bound.ensures c.in_err-walk.ensures)

pub returns-in_err-walk-clause-first : goal.returns-in_err-walk-clause-first
returns-in_err-walk-clause-first c =
    let none = empty_table c.args.problem.now _ refl in
    let r = err_from_is_err_and c.from_residual-in_err-walk.result c.from_residual-in_err-walk.ensures.1 in
    rw (r.1, r.2) (fault_from c.args.problem.now c.args.proof.now.claim (tree_of c.args.proof.now.tree) (option_copied c.in_ok-bound.bound) _ c.in_err-walk.field-0.0 none c.in_ok-bound.ensures c.in_err-walk.ensures)

pub returns-clause-exact : goal.returns-clause-exact
returns-clause-exact c =
    let none = empty_table c.args.problem.now _ refl in
    (λ t. accepted_from c.args.problem.now c.args.proof.now.claim (tree_of c.args.proof.now.tree) (option_copied c.in_ok-bound.bound) _ none c.in_ok-bound.ensures c.in_ok-walk.ensures.1, λ h. refl)

pub returns-clause-right : goal.returns-clause-right
returns-clause-right c =
    let none = empty_table c.args.problem.now _ refl in
    accepted_right (order_of c.args.problem.now) (is_order c.args.problem.now) c.args.problem.now c.jobs.ensures.kept c.args.proof.now.claim (tree_of c.args.proof.now.tree)
    (accepted_from c.args.problem.now c.args.proof.now.claim (tree_of c.args.proof.now.tree) (option_copied c.in_ok-bound.bound) _ none c.in_ok-bound.ensures c.in_ok-walk.ensures.1)
