use Rattle.std.proofs.Common.{◌≤◌, ℕ, take, All}
use Rattle.ccr_index.proofs.rows.top_of.Given as goal

abbrev pub invariant-loop-pair : goal.invariant-loop-pair
invariant-loop-pair l = record {
  covers : All (λ q. q.1 ≤ l.top) (take l.pair-index l.pairs);
  least : (n : ℕ) → All (λ q. q.1 ≤ n) l.pairs → l.top ≤ n;
}
