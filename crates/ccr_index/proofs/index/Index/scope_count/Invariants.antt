use Rattle.std.proofs.Common.{◌≡◌, ◌≤◌, drop}
use Rattle.ccr_choice.specs.Problem.{scopes_after}
use Rattle.ccr_index.proofs.index.Index.scope_count.Given as goal

abbrev pub invariant-loop-i : goal.invariant-loop-i
invariant-loop-i l = (l.scopes ≤ l.i) × (scopes_after l.scopes (drop l.i l.self.problem.inputs) ≡ scopes_after 0 l.self.problem.inputs)
