-- Which case a child stands for.
use Rattle.std.specs.Prelude.{ℕ}
use Rattle.ccr_proof.specs.Tree.{Tree, job, empty, bounded, same_as}

-- The child whose case this one is, where it is child q: the one that it is the same as, or else itself.
abbrev pub case_of : Tree → ℕ → ℕ
case_of (same_as r) q = r
case_of (job j ts) q = q
case_of (empty i) q = q
case_of bounded q = q
