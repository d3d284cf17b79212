use Rattle.std.proofs.Common.{take}
use Rattle.ccr_run.specs.Explained.{told_lines}
use Rattle.ccr_run.specs.Writers.{GetsLines}
use Rattle.ccr_run.proofs.telling.say_findings.Given as goal

abbrev pub invariant-loop-finding : goal.invariant-loop-finding
invariant-loop-finding g l = GetsLines (told_lines (take l.finding-index l.findings)) l.fn.errors l.errors
