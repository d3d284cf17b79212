use Rattle.std.proofs.Common.{◌<◌, arith, refl, append_assoc}
use Rattle.std.proofs.lemmas.List.{append-nil}
use Rattle.ccr_pipeline.proofs.ObjectLemmas.{value_inside, inside_none}
use Rattle.ccr_findings.proofs.find_object.+finds.Goals as goal

pub find_inside-returns-in_default : goal.find_inside-returns-in_default
find_inside-returns-in_default t c =
    rw (inside_none _ _ _ _ _ c.in_default.not-Parallel c.in_default.not-Objects c.in_default.not-Object c.in_default.not-OwnName, append-nil) refl

pub find_value-returns : goal.find_value-returns
find_value-returns t c =
    let some : 0 < c.args.left = omega arith in
    rw (value_inside _ _ _ _ _ some) (rw (c.in_ok-find_broken.ensures, append_assoc) at c.find_inside.ensures)
