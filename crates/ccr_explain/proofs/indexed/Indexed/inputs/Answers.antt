use Rattle.ccr_choice.specs.Problem.{ProblemValue}
use Rattle.ccr_explain.proofs.CutRules.{places_ascend}
use Rattle.ccr_explain.proofs.indexed.Indexed.inputs.Goals as goal

pub returns-clause-rising : goal.returns-clause-rising
returns-clause-rising c =
    let p : ProblemValue = record c.self.inside.index.now.problem { inputs = c.self.inside.inputs.now } in
    places_ascend p c.self.invariant.rules
