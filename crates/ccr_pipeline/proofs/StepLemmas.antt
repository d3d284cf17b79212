-- Trees of steps, level by level.
use Rattle.std.proofs.Common.{◌≡◌, ℕ, zero, suc, ◌-◌, ◌<◌, refl, arith}
use Rattle.serde_json.specs.Data.{Data}
use Rattle.ccr_pipeline.specs.Steps.{step_tree, with_hooks, with_attempts, action}

pub step_tree-below : (left : ℕ) (d : Data) → 0 < left → step_tree left d ≡ with_hooks (step_tree (left - 1)) d (with_attempts d (action (step_tree (left - 1)) d))
unfolding step_tree
step_tree-below zero d h = absurd (omega arith)
step_tree-below (suc n) d h = let e : suc n - 1 ≡ n = omega arith in rw e refl
