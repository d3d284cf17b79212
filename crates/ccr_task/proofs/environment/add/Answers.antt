use Rattle.std.proofs.Common.{rules, string_bytes}
use Rattle.std.specs.BTreeMap.{get_by_text}
use Rattle.ccr_task.proofs.Variables.{gains-one, none_there}
use Rattle.ccr_task.proofs.environment.add.Goals as goal

pub returns-in_ok-insert : goal.returns-in_ok-insert
returns-in_ok-insert c =
    gains-one c.args.env.now c.insert.new.self c.in_ok-clone.field-0 c.in_ok-clone-2.field-0 (string_bytes c.args.variable.now.name) (string_bytes c.args.variable.now.value)
    (search rules) (search rules) (none_there (get_by_text c.args.env.now (string_bytes c.args.variable.now.name)) c.contains_key.result (search rules) (search rules)) c.in_ok-insert.ensures.updates
