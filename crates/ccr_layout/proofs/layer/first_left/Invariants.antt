use Rattle.std.proofs.Common.{◌≡◌, ℕ, true, find, take, drop, slice_index_or}
use Rattle.std.specs.Prelude.{Contains}
use Rattle.ccr_layout.specs.Turns.{is_left}
use Rattle.ccr_layout.proofs.layer.first_left.Given as goal

abbrev pub invariant-loop-job : goal.invariant-loop-job
invariant-loop-job l = record {
  rest : find (λ s. is_left l.done s) (drop l.job-index l.jobs) ≡ find (λ s. is_left l.done s) l.jobs;
  none : (s : ℕ) → Contains (take l.job-index l.jobs) s → slice_index_or l.done s true ≡ true;
}
