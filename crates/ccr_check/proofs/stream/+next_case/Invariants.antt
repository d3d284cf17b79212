use Rattle.std.proofs.Common.{◌≡◌, ℕ, ◌+◌, ◌-◌, ◌≤◌, List, drop, option_copied, slice_set}
use Rattle.ccr_choice.specs.Problem.{builds_at}
use Rattle.ccr_choice.specs.Table.{assigned}
use Rattle.ccr_check.specs.Streamed.{AreCases}
use Rattle.ccr_check.proofs.stream.+next_case.Given as goal

abbrev pub decreases-next_case : goal.decreases-next_case
decreases-next_case l = l.levels

abbrev pub invariant-loop-k : goal.invariant-loop-k
invariant-loop-k l = record {
  so_far : (next : ℕ) (rest : List ℕ)
      → AreCases l.problem (option_copied l.bound) (assigned l.problem l.fixed) (l.levels - 1) l.job l.k (drop l.k (builds_at l.problem l.job)) l.read next l.behind rest
      → AreCases l.problem (option_copied l.bound) (assigned l.problem l.fixed) (l.levels - 1) l.job 0 (builds_at l.problem l.job) l.initial.read next l.initial.behind rest;
  few : l.read ≤ 1000000;
  table : (v : ℕ) → slice_set l.inner l.job v ≡ slice_set l.fixed l.job v;
}
