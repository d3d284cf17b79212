use Rattle.std.proofs.Common.{◌≡◌, ℕ, ◌<◌, length, slice_index, Some}
use Rattle.ccr_lines.specs.Witnesses.{witness}
use Rattle.ccr_lines.proofs.witness.witnesses.Given as goal

abbrev pub invariant-loop-job : goal.invariant-loop-job
invariant-loop-job l = record {
  each : length l.builds.items ≡ l.job;
  witness : (k : ℕ) → k < l.job → witness l.problem l.places k ≡ Some (slice_index l.builds.items k);
}
