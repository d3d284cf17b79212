use Rattle.std.proofs.Common.{refl}
use Rattle.sqlite_pool.specs.Pool.{state}
use Rattle.sqlite_trees.specs.View.{doubt}
use Rattle.ccr_look.proofs.found.loaded.Goals as goal

-- Memory is always clean.
pub returns-in-Ok-clause-loaded : goal.returns-in-Ok-clause-loaded
unfolding doubt state
returns-in-Ok-clause-loaded c = (c.in-Ok.ensures.shown refl, λ h rules rows. c.in-Ok.ensures.only refl h rules rows)
