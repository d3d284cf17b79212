use Rattle.std.proofs.Common.{◌==◌, ◌+◌, ◌∙◌, length, ap, arith}
use Rattle.ccr_history.specs.History.{HistoryData}
use Rattle.ccr_history.specs.Tables.{scope_number}
use Rattle.ccr_history.proofs.NewVersions.{IsEditOf, edit_of, few_versions, known_stay}
use Rattle.ccr_history.proofs.history.History.report.Goals as goal

pub copies_behind-requires : goal.copies_behind-requires
copies_behind-requires c =
    known_stay c.args.scope c.args.seen.now c.versions-known.result.now c.versions.result.now c.args.self.now c.append_versions.new.self
    c.in_ok-count.ensures.ok c.versions-known.ensures c.versions.ensures

pub overflow_cast-result : goal.overflow_cast-result
overflow_cast-result c =
    omega (arith, ap length c.versions-known.ensures, few_versions c.args.scope c.args.self.now.tables c.rules.ensures.0.2)

pub overflow_add-result : goal.overflow_add-result
overflow_add-result c =
    omega (arith, ap length c.versions-known.ensures, few_versions c.args.scope c.args.self.now.tables c.rules.ensures.0.2)

pub returns-in-Ok-clause-edit : goal.returns-in-Ok-clause-edit
returns-in-Ok-clause-edit c =
    (edit_of c.args.scope c.args.seen.now c.in-Ok.versions.items c.versions-known.result.now c.versions.result.now c.args.self.now c.append_versions.new.self
    c.in_ok-count.ensures.ok c.versions-known.ensures c.versions.ensures c.in-Ok.ensures).same

pub returns-in-Ok-clause-numbered : goal.returns-in-Ok-clause-numbered
returns-in-Ok-clause-numbered c =
    let it : IsEditOf c.args.scope c.args.seen.now c.in-Ok.versions.items c.args.self.now c.append_versions.new.self =
    edit_of c.args.scope c.args.seen.now c.in-Ok.versions.items c.versions-known.result.now c.versions.result.now c.args.self.now c.append_versions.new.self
    c.in_ok-count.ensures.ok c.versions-known.ensures c.versions.ensures c.in-Ok.ensures in (
      c.scope_number.ensures ∙ ap (λ (h : HistoryData). scope_number c.args.scope h.tables) it.same,
      ap (λ n. n == 0) c.scope_number-number.ensures,
      ap (λ n. n + 1) (ap length c.versions-known.ensures),
      it.new,
    )

pub returns-in-Ok-clause-count : goal.returns-in-Ok-clause-count
returns-in-Ok-clause-count c =
    (edit_of c.args.scope c.args.seen.now c.in-Ok.versions.items c.versions-known.result.now c.versions.result.now c.args.self.now c.append_versions.new.self
    c.in_ok-count.ensures.ok c.versions-known.ensures c.versions.ensures c.in-Ok.ensures).count

pub returns-in-Ok-clause-room : goal.returns-in-Ok-clause-room
returns-in-Ok-clause-room c =
    (edit_of c.args.scope c.args.seen.now c.in-Ok.versions.items c.versions-known.result.now c.versions.result.now c.args.self.now c.append_versions.new.self
    c.in_ok-count.ensures.ok c.versions-known.ensures c.versions.ensures c.in-Ok.ensures).room c.in_ok-count.ensures.fits
