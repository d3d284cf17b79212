use Rattle.std.proofs.Common.{◌∙◌, [], ◌∷◌, map, ap, sym, append-nil}
use Rattle.ccr_steps.specs.Gains.{gains_data, moved_data}
use Rattle.ccr_steps.proofs.GainLaws.{grew_same, map_push}
use Rattle.ccr_steps.proofs.gains.Gains.add_moved.Goals as goal

pub returns-in_err-key-clause-grew : goal.returns-in_err-key-clause-grew
returns-in_err-key-clause-grew c = grew_same (gains_data c.args.self.now)

pub returns-then-has_moved-clause-grew : goal.returns-then-has_moved-clause-grew
returns-then-has_moved-clause-grew c = grew_same (gains_data c.args.self.now)

pub returns-in_err-moved-clause-grew : goal.returns-in_err-moved-clause-grew
returns-in_err-moved-clause-grew c = grew_same (gains_data c.args.self.now)

pub returns-in_err-push-clause-grew : goal.returns-in_err-push-clause-grew
returns-in_err-push-clause-grew c = let (ns, ms, n, m) = grew_same (gains_data c.args.self.now) in (ns, ms, n, ap (map moved_data) c.in_err-push.ensures.items ∙ m)

pub returns-clause-grew : goal.returns-clause-grew
returns-clause-grew c = ([], moved_data c.in_ok-moved.moved ∷ [], sym (append-nil c.args.self.now.names), ap (map moved_data) c.in_ok-push.ensures.items ∙ map_push moved_data c.args.self.now.moved.items c.in_ok-moved.moved)
