use Rattle.std.proofs.Common.{nat_eq}
use Rattle.std.specs.HashSet.{contains}
use Rattle.ccr_resolve.proofs.OnceLaws.{AreOnce}
use Rattle.ccr_resolve.proofs.once.each_once.Given as goal

abbrev pub invariant-loop-k : goal.invariant-loop-k
invariant-loop-k l = AreOnce (λ q. contains nat_eq l.seen q) l.list l.k-index l.once.items
