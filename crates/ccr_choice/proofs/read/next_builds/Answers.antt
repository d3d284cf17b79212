use Rattle.std.proofs.Common.{◌-◌, arith, rules}
use Rattle.ccr_choice.specs.ProblemText.{next_build, next_builds}
use Rattle.ccr_choice.proofs.Many.{many_start, many_step}
use Rattle.ccr_choice.proofs.read.next_builds.Goals as goal

pub loop-init : goal.loop-init
unfolding next_builds
loop-init c = many_start (next_build c.args.scopes) (λ high b. b.number) c.args.count _ 1000001 _ c.args.lines.now (omega arith) (search rules)

pub loop-preserved : goal.loop-preserved
loop-preserved c =
    many_step (next_build c.args.scopes) (λ high b. b.number) (c.args.count - c.loop.counter) _ c.loop.high _ c.loop.builds.items _ c.loop.lines _ c.in_ok-build.build _
    (omega arith) c.in_ok-build.ensures (search rules) (search rules) c.loop.invariant
