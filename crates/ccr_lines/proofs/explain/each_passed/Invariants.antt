use Rattle.std.proofs.Common.{◌≡◌, map, take}
use Rattle.ccr_lines.specs.Explained.{passed_of}
use Rattle.ccr_lines.specs.Reasons.{subject_data}
use Rattle.ccr_lines.proofs.explain.each_passed.Given as goal

abbrev pub invariant-loop-job : goal.invariant-loop-job
invariant-loop-job l = l.all.items ≡ map (passed_of (subject_data l.subject)) (take l.job-index l.jobs)
