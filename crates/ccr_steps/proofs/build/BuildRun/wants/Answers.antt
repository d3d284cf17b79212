use Rattle.std.proofs.Common.{option_map, sym, ap, ◌∙◌}
use Rattle.ccr_pipeline.specs.Tree.{tree_of}
use Rattle.ccr_steps.specs.Asks.{ask_data}
use Rattle.ccr_steps.specs.Moments.{moment_data, step_at}
use Rattle.ccr_steps.specs.Runs.{run_data}
use Rattle.ccr_steps.proofs.Naming.{stands_names}
use Rattle.ccr_steps.proofs.Standing.{stands_lost, stands_wants}
use Rattle.ccr_steps.proofs.Versions.{has_version}
use Rattle.ccr_steps.proofs.build.BuildRun.wants.Goals as goal

pub returns-in_default-clause-next : goal.returns-in_default-clause-next
returns-in_default-clause-next c = λ plan inputs es s. stands_lost (run_data c.args.self.now) plan inputs es (ap (λ p. step_at (moment_data c.args.self.now.at) (tree_of p)) (sym c.deref.ensures) ∙ sym c.step_of.ensures ∙ ap (option_map (λ s. tree_of s.now)) c.in_default.is) s

pub returns-in_default-clause-named : goal.returns-in_default-clause-named
returns-in_default-clause-named c = λ plan inputs es s. tt

pub leaf_ask-requires : goal.leaf_ask-requires
leaf_ask-requires c = has_version (run_data c.args.self.now) (tree_of c.in-Some.step.now) c.args.self.now.each (ap (λ p. step_at (moment_data c.args.self.now.at) (tree_of p)) (sym c.deref.ensures) ∙ sym c.step_of.ensures ∙ ap (option_map (λ s. tree_of s.now)) c.in-Some.is)

pub returns-clause-next : goal.returns-clause-next
returns-clause-next c = λ plan inputs es s. stands_wants (run_data c.args.self.now) plan inputs es (tree_of c.in-Some.step.now) (option_map ask_data c.leaf_ask.result) (ap (λ p. step_at (moment_data c.args.self.now.at) (tree_of p)) (sym c.deref.ensures) ∙ sym c.step_of.ensures ∙ ap (option_map (λ s. tree_of s.now)) c.in-Some.is) c.leaf_ask.ensures s

pub returns-clause-named : goal.returns-clause-named
returns-clause-named c = λ plan inputs es s. stands_names (run_data c.args.self.now) plan inputs es (tree_of c.in-Some.step.now) (option_map ask_data c.leaf_ask.result) (ap (λ p. step_at (moment_data c.args.self.now.at) (tree_of p)) (sym c.deref.ensures) ∙ sym c.step_of.ensures ∙ ap (option_map (λ s. tree_of s.now)) c.in-Some.is) c.leaf_ask.ensures s
