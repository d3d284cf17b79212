use Rattle.std.proofs.Common.{◌≡◌, ◌+◌, ◌∙◌, Err, ap, sym, drop, length, arith}
use Rattle.std.proofs.lemmas.List.{at_drop_more}
use Rattle.ccr_history.specs.Tables.{with_version, with_versions}
use Rattle.ccr_history.proofs.Results.{same_fault}
use Rattle.ccr_history.proofs.VersionLists.{with_versions-longer}
use Rattle.ccr_history.proofs.table.Table.add_each.Goals as goal

pub returns-in_err-add-clause-full : goal.returns-in_err-add-clause-full
returns-in_err-add-clause-full c = λ is.
    let vs = c.args.versions.now in
    let i = c.loop-version.version-index in
    let before = c.loop-version.self in
    let after = with_version before c.version-item.result in
    let next : with_versions before (drop i vs) ≡ with_versions after (drop (i + 1) vs) = at_drop_more (with_versions before) vs i c.version-item.result (omega arith) ∙ ap (λ v. with_versions (with_version before v) (drop (i + 1) vs)) (sym c.version-item.is) in
    let many = c.in_err-add.ensures.full (ap Err (same_fault c.from_residual.result _ _ c.from_residual.ensures.1 is)) in
    omega (arith, many, with_versions-longer after (drop (i + 1) vs), ap length next, ap length c.loop-version.invariant.0)
