use Rattle.std.proofs.Common.{◌≡◌, ℕ, ◌+◌, ◌≤◌, [], true, take, slice_index, slice_index_or}
use Rattle.std.specs.Prelude.{All, Contains}
use Rattle.ccr_layout.proofs.layer.layer_above.Given as goal

abbrev pub invariant-loop-job : goal.invariant-loop-job
invariant-loop-job l = record {
  low : (most : ℕ) → All (λ x. x ≤ most) l.layers → l.above ≤ most + 1;
  first : l.jobs ≡ [] → l.above ≡ 0;
  above : (s : ℕ) → Contains (take l.job-index l.jobs) s → slice_index_or l.done s true ≡ true → slice_index l.layers s + 1 ≤ l.above;
}
