use Rattle.std.proofs.Common.{arith, subst}
use Rattle.std.proofs.lemmas.List.{length-map}
use Rattle.ccr_choice.specs.Problem.{IsProblem}
use Rattle.ccr_choice.proofs.Bounds.{rules_of}
use Rattle.ccr_index.specs.Index.{IndexValue, problem_in}
use Rattle.ccr_index.proofs.index.Index.input_count.Goals as goal

pub returns-clause-few : goal.returns-clause-few
returns-clause-few c =
    let few = (rules_of (problem_in c.self.inside.inputs.items c.self.inside.jobs.items) c.self.invariant.tops.rules).few_inputs in
    omega (arith, few, length-map c.self.inside.inputs.items (λ x. x.input))

pub returns-clause-kept : goal.returns-clause-kept
returns-clause-kept c = let P : IndexValue → Type 0 = λ v. IsProblem v.problem in subst P c.self.view_is c.self.invariant.tops.rules
