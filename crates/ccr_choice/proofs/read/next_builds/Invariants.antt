use Rattle.std.proofs.Common.{◌≡◌, ◌-◌}
use Rattle.ccr_choice.specs.Reading.{next_many}
use Rattle.ccr_choice.specs.ProblemText.{next_build, next_builds}
use Rattle.ccr_choice.proofs.Many.{with_front}
use Rattle.ccr_choice.proofs.read.next_builds.Given as goal

abbrev pub invariant-loop : goal.invariant-loop
invariant-loop l = with_front l.builds.items (next_many (next_build l.scopes) (λ high b. b.number) (l.count - l.counter) l.high l.lines) ≡ next_builds l.scopes l.count l.fn.lines
