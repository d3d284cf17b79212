use Rattle.std.proofs.Common.{take}
use Rattle.ccr_page.specs.Pieces.{Adds}
use Rattle.ccr_page.specs.Each.{each_from}
use Rattle.ccr_page.specs.Drawings.{job_at}
use Rattle.ccr_page.proofs.drawing.push_job_boxes.Given as goal

abbrev pub invariant-loop-position : goal.invariant-loop-position
invariant-loop-position l = Adds l.fn.out.items l.out.items (each_from (job_at l.boxes) 0 (take l.position l.jobs))
