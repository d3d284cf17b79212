use Rattle.std.proofs.Common.{None, Some}
use Rattle.sqlite.specs.Files.{over_files}
use Rattle.ccr_core.specs.Cores.{core_data}
use Rattle.ccr_run.specs.Asked.{read}
use Rattle.ccr_run.proofs.Looking.{saw, unfound, unread}
use Rattle.ccr_run.proofs.Serving.{asked_alone}
use Rattle.ccr_run.proofs.look.see.Goals as goal

pub returns-in-Err-clause-nothing : goal.returns-in-Err-clause-nothing
returns-in-Err-clause-nothing g c =
    unread over_files c.args.options.now _ c.in-Err.fault
    (asked_alone _ _ (read c.args.options.now.database.now (Some c.in-Err.fault)) c.requires.unasked c.in-Err.ensures.failed)

pub returns-in-Ok-look-clause-saw : goal.returns-in-Ok-look-clause-saw
returns-in-Ok-look-clause-saw g c =
    saw over_files c.args.options.now _ c.in-Ok.copied (core_data c.in-Ok-look.core)
    (asked_alone _ _ (read c.args.options.now.database.now None) c.requires.unasked c.in-Ok.ensures.asked)
    (c.in-Ok.ensures.path, c.in-Ok.ensures.read) c.in-Ok-look.ensures.sees

pub returns-in-Err-look-clause-nothing : goal.returns-in-Err-look-clause-nothing
returns-in-Err-look-clause-nothing g c =
    unfound over_files c.args.options.now _ c.in-Ok.copied c.in-Err-look.fault
    (asked_alone _ _ (read c.args.options.now.database.now None) c.requires.unasked c.in-Ok.ensures.asked)
    (c.in-Ok.ensures.path, c.in-Ok.ensures.read) c.in-Err-look.ensures.nothing
