use Rattle.std.specs.Prelude.{IfSome}
use Rattle.ccr_explain.specs.Clash.{IsClash}
use Rattle.ccr_explain.proofs.grown.grown.Given as goal

abbrev pub invariant-loop : goal.invariant-loop
invariant-loop l = IfSome l.found (λ ds. IsClash l.problem ds.items)
