use Rattle.std.proofs.Common.{◌≡◌, ◌++◌, drop}
use Rattle.ccr_choice.specs.Preference.{order_of}
use Rattle.ccr_explain.specs.WhyNot.{may_take, narrowed_from}
use Rattle.ccr_explain.proofs.why.narrowed.Given as goal

abbrev pub invariant-loop-k : goal.invariant-loop-k
invariant-loop-k l =
    l.inputs.items ++ narrowed_from (may_take (order_of l.index.problem) l.places l.input l.place) l.k (drop l.k l.index.problem.inputs)
    ≡ narrowed_from (may_take (order_of l.index.problem) l.places l.input l.place) 0 l.index.problem.inputs
