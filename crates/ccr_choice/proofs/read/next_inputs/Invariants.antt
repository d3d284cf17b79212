use Rattle.std.proofs.Common.{◌≡◌, ◌-◌, ◌≤◌}
use Rattle.ccr_choice.specs.Problem.{scopes_after, jobs_after}
use Rattle.ccr_choice.specs.Reading.{next_many}
use Rattle.ccr_choice.specs.ProblemText.{next_input, next_counts, next_inputs}
use Rattle.ccr_choice.proofs.Many.{with_front}
use Rattle.ccr_choice.proofs.read.next_inputs.Given as goal

abbrev pub invariant-loop : goal.invariant-loop
invariant-loop l = record { read : with_front l.inputs.items (next_many (next_input l.format) next_counts (l.count - l.counter) (l.scopes, l.jobs) l.lines) ≡ next_inputs l.format l.count l.fn.lines; scopes : l.scopes ≡ scopes_after 0 l.inputs.items; jobs : l.jobs ≡ jobs_after 0 l.inputs.items; few : l.scopes ≤ l.counter }
