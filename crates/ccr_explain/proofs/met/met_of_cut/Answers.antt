use Rattle.ccr_explain.proofs.CutLaws.{chosen_tells}
use Rattle.ccr_explain.proofs.met.met_of_cut.Goals as goal

pub returns-in_ok-choice-in-Best : goal.returns-in_ok-choice-in-Best
returns-in_ok-choice-in-Best c =
    let p = c.args.problem.now in
    chosen_tells c.args.demands.now p c.requires.demands c.args.budget c.in_ok-choice.field-0 _ c.in_ok-choice.ensures c.in-Best.is

pub returns-in-Nothing : goal.returns-in-Nothing
returns-in-Nothing c =
    let p = c.args.problem.now in
    chosen_tells c.args.demands.now p c.requires.demands c.args.budget c.in_ok-choice.field-0 _ c.in_ok-choice.ensures c.in-Nothing.is

pub returns-in-OverBudget : goal.returns-in-OverBudget
returns-in-OverBudget c =
    let p = c.args.problem.now in
    chosen_tells c.args.demands.now p c.requires.demands c.args.budget c.in_ok-choice.field-0 _ c.in_ok-choice.ensures c.in-OverBudget.is
