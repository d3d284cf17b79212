use Rattle.std.proofs.Common.{◌≡◌, ℕ, ◌<◌, length, take, cond, eqb}
use Rattle.std.specs.List.{list_any}
use Rattle.ccr_layout.specs.Means.{nothing, mean_in}
use Rattle.ccr_layout.proofs.wish.clear_arriving.Given as goal

abbrev pub invariant-loop-line : goal.invariant-loop-line
invariant-loop-line l = record {
  long : length l.means.items ≡ length l.fn.means.items;
  each : (k : ℕ) → k < length l.fn.means.items → mean_in l.means.items k ≡ cond (list_any (λ x. eqb x.to k) (take l.line-index l.arriving)) nothing (mean_in l.fn.means.items k);
}
