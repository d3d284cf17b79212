use Rattle.std.proofs.Common.{◌-◌, arith, rules}
use Rattle.std.proofs.lemmas.Grind.{common_steps}
use Rattle.ccr_choice.specs.ProblemText.{next_input, next_inputs, next_counts}
use Rattle.ccr_choice.proofs.Many.{many_start, many_step}
use Rattle.ccr_choice.proofs.Numbering.{scopes_after-push, jobs_after-push, next_used-le}
use Rattle.ccr_choice.proofs.read.next_inputs.Goals as goal

pub loop-init : goal.loop-init
unfolding next_inputs
loop-init c = record {
  read = many_start (next_input c.args.format) next_counts c.args.count _ (0, 0) _ c.args.lines.now (omega arith) (search rules);
  scopes = search rules;
  jobs = search rules;
  few = omega arith;
}

pub loop-preserved : goal.loop-preserved
loop-preserved c =
    record {
      read = many_step (next_input c.args.format) next_counts (c.args.count - c.loop.counter) _ (c.loop.scopes, c.loop.jobs) _ c.loop.inputs.items _ c.loop.lines _ c.in_ok-input.input _
          (omega arith) c.in_ok-input.ensures.read (search rules) (grind (arith, common_steps)) c.loop.invariant.read;
      scopes = grind (arith, common_steps, scopes_after-push);
      jobs = grind (arith, common_steps, jobs_after-push);
      few = grind (arith, common_steps, next_used-le);
    }
