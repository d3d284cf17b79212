use Rattle.std.proofs.Common.{ap, ap₂, not, ◌∙◌}
use Rattle.ccr_run.specs.Explained.{explained, told_data}
use Rattle.ccr_run.proofs.Told.{end_alone, nothing_but_gates}
use Rattle.ccr_run.proofs.Writing.{tells_end}
use Rattle.ccr_run.proofs.look.look_at.Goals as goal

pub tell-requires : goal.tell-requires
tell-requires g c = nothing_but_gates _ c.requires.untold

pub returns-clause-looked : goal.returns-clause-looked
returns-clause-looked g c = (
  record { end = c.show_in.result; is_printed = not c.has_failed.result },
  c.show_in.ensures.looked,
  ap not c.has_failed.ensures.failed,
  end_alone c.into_order.result (record { end = c.show_in.result; is_printed = not c.has_failed.result }) _ _ c.requires.untold c.tell.ensures.told
      ∙ ap₂ (λ options command. explained (record { options = options; command = command }) (record { end = c.show_in.result; is_printed = not c.has_failed.result }))
      c.into_order.ensures.options c.into_order.ensures.command,
  c.tell.ensures.status,
)

pub returns-clause-wrote : goal.returns-clause-wrote
returns-clause-wrote g c =
    tells_end c.into_order.result (record { end = c.show_in.result; is_printed = not c.has_failed.result }) (told_data c.args.telling.now)
    (told_data c.tell.new.telling) c.args.telling.now.errors c.tell.new.telling.errors c.requires.untold c.tell.ensures.told
    c.tell.ensures.wrote
