use Rattle.std.proofs.Common.{◌≡◌, ◌++◌, ◌≤◌, length, string_bytes}
use Rattle.std.specs.List.{flat_map, AllByRecursion}
use Rattle.ccr_choice.specs.Text.{text_of}
use Rattle.ccr_choice.specs.ProblemText.{job_lines}
use Rattle.ccr_choice.proofs.write.put_jobs.Given as goal

abbrev pub invariant-loop-rest : goal.invariant-loop-rest
invariant-loop-rest l = record { written : string_bytes l.out ++ text_of (flat_map job_lines l.rest) ≡ string_bytes l.fn.out ++ text_of (flat_map job_lines l.jobs); few : AllByRecursion (λ bs. length bs ≤ 1000000) l.rest }

abbrev pub decreases-loop-rest : goal.decreases-loop-rest
decreases-loop-rest l = length l.rest
