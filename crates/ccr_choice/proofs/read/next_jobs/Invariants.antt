use Rattle.std.proofs.Common.{◌≡◌, ◌-◌}
use Rattle.ccr_choice.specs.Reading.{next_many}
use Rattle.ccr_choice.specs.ProblemText.{next_job, next_jobs}
use Rattle.ccr_choice.proofs.Many.{with_front}
use Rattle.ccr_choice.proofs.read.next_jobs.Given as goal

abbrev pub invariant-loop : goal.invariant-loop
invariant-loop l = with_front l.jobs.items (next_many next_job (λ s builds. s) (l.count - l.counter) l.scopes l.lines) ≡ next_jobs l.scopes l.count l.fn.lines
