use Rattle.std.proofs.lemmas.Result.{err_from_is_err_and}
use Rattle.ccr_look.proofs.Tries.{cut_first, cut_second, cut_third, cut_fourth, four_read}
use Rattle.ccr_look.specs.declared.fault.CopyFault.TheVariants.{Empty}
use Rattle.ccr_look.proofs.copied.read_parts.Goals as goal
use Rattle.std.proofs.Common.{[]}

pub returns-in_err-before : goal.returns-in_err-before
returns-in_err-before g c =
    let p = err_from_is_err_and c.from_residual.result c.from_residual.ensures.1 in
    rw (p.1, p.2) (cut_first c.args.names.now _ _ [] [] [] _ [] [] [] [] [] [] [] _ c.as_str.ensures.value c.in_err-before.ensures)

pub returns-in_err-db : goal.returns-in_err-db
returns-in_err-db g c =
    let p = err_from_is_err_and c.from_residual-in_err-db.result c.from_residual-in_err-db.ensures.1 in
    rw (p.1, p.2)
    (cut_second c.args.names.now _ _ _ [] [] _ _ [] [] c.in_ok-before.before.items [] [] [] _ c.as_str.ensures.value c.as_str-2.ensures.value
    c.in_ok-before.ensures c.in_err-db.ensures)

pub returns-in_err-log : goal.returns-in_err-log
returns-in_err-log g c =
    let p = err_from_is_err_and c.from_residual-in_err-log.result c.from_residual-in_err-log.ensures.1 in
    rw (p.1, p.2)
    (cut_third c.args.names.now _ _ _ _ [] _ _ _ [] c.in_ok-before.before.items c.in_ok-db.db.items [] [] _ c.as_str.ensures.value
    c.as_str-2.ensures.value c.as_str-3.ensures.value c.in_ok-before.ensures c.in_ok-db.ensures c.in_err-log.ensures)

pub returns-in_err-after : goal.returns-in_err-after
returns-in_err-after g c =
    let p = err_from_is_err_and c.from_residual-in_err-after.result c.from_residual-in_err-after.ensures.1 in
    rw (p.1, p.2)
    (cut_fourth c.args.names.now _ _ _ _ _ _ _ _ _ c.in_ok-before.before.items c.in_ok-db.db.items c.in_ok-log.log.items [] _ c.as_str.ensures.value
    c.as_str-2.ensures.value c.as_str-3.ensures.value c.as_str-4.ensures.value c.in_ok-before.ensures c.in_ok-db.ensures c.in_ok-log.ensures
    c.in_err-after.ensures)

pub returns : goal.returns
returns g c =
    four_read c.args.names.now _ _ _ _ _ _ _ _ _ c.in_ok-before.before.items c.in_ok-db.db.items c.in_ok-log.log.items c.in_ok-after.after.items Empty
    c.as_str.ensures.value c.as_str-2.ensures.value c.as_str-3.ensures.value c.as_str-4.ensures.value c.in_ok-before.ensures c.in_ok-db.ensures
    c.in_ok-log.ensures c.in_ok-after.ensures
