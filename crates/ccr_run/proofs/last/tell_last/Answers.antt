use Rattle.std.proofs.Common.{Option, option_map, subst}
use Rattle.ccr_history.specs.Text.{Text}
use Rattle.ccr_run.specs.Last.{AreRead}
use Rattle.ccr_run.proofs.Writing.{got_more}
use Rattle.ccr_run.proofs.last.tell_last.Goals as goal

pub returns : goal.returns
returns g c = (
  option_map (λ text. text.now) c.read-build.result,
  subst (λ (b : Option Text). AreRead b (option_map (λ text. text.now) c.read-build.result)) c.silent_build.ensures c.read-build.ensures,
  got_more _ _ _ _ _ c.tell_silent.ensures c.tell_untraced.ensures,
)
