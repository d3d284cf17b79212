use Rattle.std.proofs.Common.{◌≡◌, ◌+◌, ◌%◌, ◌^◌, option_map, Some, refl, sym, ap, ◌∙◌, subst}
use Rattle.ccr_pipeline.specs.Tree.{Tree, tree_of}
use Rattle.ccr_steps.specs.Asks.{Chosen, answer_data}
use Rattle.ccr_steps.specs.Gains.{gains_data}
use Rattle.ccr_steps.specs.Inputs.{inputs_data}
use Rattle.ccr_steps.specs.Frames.{goes_on, leaf_at, leaf_data, leaf_next, NextIs}
use Rattle.ccr_steps.specs.Moments.{MomentData, moment_data, step_at, GoesTo}
use Rattle.ccr_steps.specs.Play.{Play, and_then}
use Rattle.ccr_steps.specs.Runs.{RunData, run_data, TakesAnswer}
use Rattle.ccr_steps.proofs.GainLaws.{grew_same}
use Rattle.ccr_steps.proofs.Standing.{on_err, step_leaf, takes}
use Rattle.ccr_steps.proofs.Versions.{has_version}
use Rattle.ccr_steps.proofs.build.BuildRun.take.Goals as goal

pub returns-in_default-clause-refused : goal.returns-in_default-clause-refused
returns-in_default-clause-refused c = (refl, grew_same (gains_data c.args.self.now.gains))

pub returns-in_default-clause-grew : goal.returns-in_default-clause-grew
returns-in_default-clause-grew c = grew_same (gains_data c.args.self.now.gains)

pub returns-in_err-at-clause-refused : goal.returns-in_err-at-clause-refused
returns-in_err-at-clause-refused c = on_err c.from_residual-in_err-at.result (refl, c.in_ok-next.ensures.grew)

pub answer_leaf-requires : goal.answer_leaf-requires
answer_leaf-requires c =
    has_version (run_data c.args.self.now) (tree_of c.in-Some.step.now) c.args.self.now.each
    (ap (λ p. step_at (moment_data c.args.self.now.at) (tree_of p)) (sym c.deref.ensures) ∙ sym c.step_of.ensures ∙ ap (option_map (λ s. tree_of s.now)) c.in-Some.is)

pub returns-clause-taken : goal.returns-clause-taken
returns-clause-taken c =
    let at = ap (λ p. step_at (moment_data c.args.self.now.at) (tree_of p)) (sym c.deref.ensures) ∙ sym c.step_of.ensures ∙ ap (option_map (λ s. tree_of s.now)) c.in-Some.is in
    let new : MomentData → RunData = λ m. record { plan = tree_of c.args.self.now.plan.value; inputs = inputs_data c.args.self.now.inputs; at = m; gains = gains_data c.answer_leaf.new.gains; turn = (c.args.self.now.turn + 1) % 2 ^ 64 } in
    let Goes : Tree → Type 0 = λ t. (i : Chosen) (s : Tree) (p : Play) → leaf_at t c.args.self.now.at.frames.items ≡ Some s → NextIs i p s (gains_data c.answer_leaf.new.gains) c.in_ok-next.next → GoesTo i t (gains_data c.answer_leaf.new.gains) (moment_data c.in_ok-at.at) (and_then p (goes_on i t c.args.self.now.at.frames.items)) in
    let goes = subst Goes (ap tree_of c.deref-2.ensures) c.in_ok-at.ensures in
    subst (λ m. TakesAnswer (run_data c.args.self.now) (new m) (answer_data c.args.answer)) (ap moment_data (sym c.replace.ensures.after))
    (takes (run_data c.args.self.now) (new (moment_data c.in_ok-at.at)) (answer_data c.args.answer) (tree_of c.in-Some.step.now) at refl refl refl
    (goes (inputs_data c.args.self.now.inputs) (tree_of c.in-Some.step.now) (leaf_next (inputs_data c.args.self.now.inputs) (tree_of c.in-Some.step.now) (leaf_data c.args.self.now.at.leaf) (answer_data c.args.answer) (gains_data c.args.self.now.gains)) (step_leaf c.args.self.now.at.outcome (moment_data c.args.self.now.at) (tree_of c.args.self.now.plan.value) (tree_of c.in-Some.step.now) at) c.in_ok-next.ensures.ok))
