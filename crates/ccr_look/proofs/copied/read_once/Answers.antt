use Rattle.std.proofs.Common.{[]}
use Rattle.std.proofs.lemmas.Result.{err_from_is_err_and}
use Rattle.ccr_look.specs.Reads.{place_named}
use Rattle.ccr_look.proofs.Tries.{came_done, came_missing, came_cut}
use Rattle.ccr_look.proofs.copied.read_once.Goals as goal

pub returns-in_err-see_it_is_there-clause-came : goal.returns-in_err-see_it_is_there-clause-came
returns-in_err-see_it_is_there-clause-came g c =
    let p = err_from_is_err_and c.from_residual.result c.from_residual.ensures.1 in
    rw (p.1, p.2) (came_missing (place_named c.args.names.now) _ _ [] _ c.in_err-see_it_is_there.ensures)

pub returns-in_err-parts-clause-came : goal.returns-in_err-parts-clause-came
returns-in_err-parts-clause-came g c =
    let p = err_from_is_err_and c.from_residual-in_err-parts.result c.from_residual-in_err-parts.ensures.1 in
    rw (p.1, p.2) (came_cut (place_named c.args.names.now) _ _ _ _ c.in_ok-see_it_is_there.ensures c.in_err-parts.ensures)

pub returns-clause-came : goal.returns-clause-came
returns-clause-came g c =
    let parts = c.in_ok-parts.parts in
    came_done (place_named c.args.names.now) _ _ _ parts.before.items parts.db.items parts.log.items parts.after.items c.judged.result
    c.in_ok-see_it_is_there.ensures c.in_ok-parts.ensures c.judged.ensures.gives
