use Rattle.std.proofs.Common.{take}
use Rattle.ccr_page.specs.Pieces.{Adds}
use Rattle.ccr_page.specs.Each.{each_from}
use Rattle.ccr_page.specs.Builds.{builds_pieces}
use Rattle.ccr_page.proofs.build.push_each.Given as goal

abbrev pub invariant-loop-position : goal.invariant-loop-position
invariant-loop-position l = Adds l.fn.out.items l.out.items (each_from (builds_pieces l.page) 0 (take l.position l.jobs))
