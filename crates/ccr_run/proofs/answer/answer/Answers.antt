use Rattle.std.proofs.Common.{◌∙◌, not, subst}
use Rattle.std.specs.Process.{exit_status}
use Rattle.ccr_run.specs.Answered.{EndsWith}
use Rattle.ccr_run.proofs.Answering.{all_lines, none_waits}
use Rattle.ccr_run.proofs.answer.answer.Goals as goal

pub returns-clause-answered : goal.returns-clause-answered
returns-clause-answered g c =
    let out = c.obey-done.new.out in
    record {
      obeyed = c.obey-done.ensures.obeyed;
      status_is = subst (λ failed. EndsWith c.obey-done.result.status (not failed) (exit_status c.code_of-code.result)) c.has_failed-is_printed.ensures.failed c.code_of-code.ensures;
      printed = λ whole. all_lines out.before out.holds out.shown out.waiting
          (c.obey-done.ensures.whole (none_waits _ _ c.requires.unwritten) whole)
          (c.has_failed-is_printed.ensures.whole (c.has_failed-is_printed.ensures.failed ∙ whole));
    }
