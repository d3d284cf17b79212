use Rattle.std.proofs.Common.{◌++◌, map, sym, ap, ◌∙◌}
use Rattle.ccr_core.specs.Holding.{name_data}
use Rattle.ccr_core.proofs.Opening.{name_more}
use Rattle.ccr_core.proofs.Resuming.{add_one, add_none, past_end}
use Rattle.ccr_core.proofs.resumed.add_running.Goals as goal

pub returns-in_ok-push-in-Running : goal.returns-in_ok-push-in-Running
returns-in_ok-push-in-Running c =
    add_one (map name_data c.args.names.now.items) (map name_data c.push.new.self.items) c.args.history.now.builds c.args.position c.in-Some.build c.in-Some.ensures (sym c.status.ensures ∙ c.in-Running.is)
    (name_more c.args.names.now.items c.push.new.self.items c.in_ok-job-in-Running.job c.number.result c.in-Some.build.job c.in-Some.build.number c.in_ok-push-in-Running.ensures.items (c.in_ok-job-in-Running.ensures.ok ∙ c.job.ensures) c.number.ensures)

pub returns-in_default : goal.returns-in_default
returns-in_default c =
    ap (λ l. map name_data c.args.names.now.items ++ l) (add_none c.args.history.now.builds c.args.position c.in-Some.build c.in-Some.ensures (λ runs. c.in_default.not-Running (c.status.ensures ∙ runs)))

pub returns-in-None : goal.returns-in-None
returns-in-None c =
    ap (λ l. map name_data c.args.names.now.items ++ l) (past_end c.args.history.now.builds c.args.position (sym c.in-None.ensures))
