use Rattle.std.proofs.Common.{List, ap, sym, ◌∙◌, subst}
use Rattle.ccr_history.specs.Builds.{UsedData}
use Rattle.ccr_history.specs.Changes.{build, edited, AreUsed}
use Rattle.ccr_store.proofs.ReadRows.{handed_on, weaker}
use Rattle.ccr_store.proofs.ReadBuilds.{used_given}
use Rattle.ccr_store.proofs.reading.begin_build.Goals as goal

pub returns-in_err-used-clause-read : goal.returns-in_err-used-clause-read
returns-in_err-used-clause-read c id b tables rules texts pairs room =
    handed_on _ c.from_residual.result _ c.from_residual.ensures.1 (c.in_err-used.ensures id b.used pairs)

pub returns-clause-read : goal.returns-clause-read
returns-clause-read c id b tables rules texts pairs room =
    let ts = c.args.history.now.tables in
    let used = c.deref.ensures.value ∙ c.in_ok-used.ensures id b.used pairs in
    weaker _ _ c.begin.result (λ n both. (both.0, both.1 ∙ ap (λ (us : List UsedData). edited (build c.args.job.now us) c.args.history.now) used)) (c.begin.ensures.read (subst (AreUsed ts) (sym used) (used_given ts b rules)) room)
