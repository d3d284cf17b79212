use Rattle.std.proofs.Common.{refl, arith}
use Rattle.ccr_choice.proofs.TableLaws.{zeros}
use Rattle.ccr_resolve.proofs.newest.newest_builds.Goals as goal

pub loop-j-init : goal.loop-j-init
loop-j-init c = (refl, λ j. omega (arith, zeros 32 j), λ k below. absurd (omega (arith, below)), λ k other. absurd (other (zeros 32 k)))

pub returns-clause-found : goal.returns-clause-found
returns-clause-found c = record {
  known = c.loop-j.invariant.1;
  all = λ j within. c.loop-j.invariant.2 j (omega (arith, within, c.loop-j-test.false, c.job_count-j-end.ensures.value));
  newest = c.loop-j.invariant.3;
}
