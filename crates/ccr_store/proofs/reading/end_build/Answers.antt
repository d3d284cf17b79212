use Rattle.std.proofs.Common.{◌≡◌, ◌≢◌, ap, sym, ◌∙◌, subst}
use Rattle.std.proofs.lemmas.Option.{same_Some}
use Rattle.sqlite.specs.Order.{Row, column}
use Rattle.ccr_history.specs.declared.build.Status.TheVariants.{Running}
use Rattle.ccr_history.specs.Changes.{AreMoved}
use Rattle.ccr_store.specs.Rows.{status_number}
use Rattle.ccr_store.proofs.ReadRows.{handed_on, weaker, same_number}
use Rattle.ccr_store.proofs.ReadBuilds.{moved_given, zero_runs, unended, last_runs, last_over}
use Rattle.ccr_store.proofs.reading.end_build.Goals as goal

pub returns-then-how-eq0-clause-read : goal.returns-then-how-eq0-clause-read
returns-then-how-eq0-clause-read c id b before tables rules at pairs job number none are =
    let how : c.columns-how.result.3 ≡ status_number b.status = same_number c.columns-how.result.3 (status_number b.status) (ap (λ (s : Row). column s 3) (sym c.columns-how.ensures ∙ at)) in
    unended c.args.history.now.tables b before c.args.history.now rules (zero_runs b.status (sym how ∙ c.if-how-eq0.true)) are

pub returns-in_err-moved-clause-read : goal.returns-in_err-moved-clause-read
returns-in_err-moved-clause-read c id b before tables rules at pairs job number none are =
    handed_on _ c.from_residual.result _ c.from_residual.ensures.1 (c.in_err-moved.ensures id b.moved pairs)

pub returns-clause-read : goal.returns-clause-read
returns-clause-read c id b before tables rules at pairs job number none are =
    let ts = c.args.history.now.tables in
    let how : c.columns-how.result.3 ≡ status_number b.status = same_number c.columns-how.result.3 (status_number b.status) (ap (λ (s : Row). column s 3) (sym c.columns-how.ensures ∙ at)) in
    let over : b.status ≢ Running = λ runs. c.if-how-eq0.false (how ∙ ap status_number runs) in
    let status : c.in-Some.status ≡ b.status = same_Some c.in-Some.status b.status (sym c.in-Some.is ∙ c.end_of.ensures.is b.status over how) in
    let moved = c.deref.ensures.value ∙ c.in_ok-moved.ensures id b.moved pairs in
    weaker _ _ c.end.result (λ u is. last_over ts b before c.args.history.now c.end.new.history c.args.job.now c.args.number c.in-Some.status _ rules none are job number status moved is)
    (c.end.ensures.read (subst (AreMoved ts) (sym moved) (moved_given ts b rules)) (last_runs c.args.job.now c.args.number b before c.args.history.now.builds job number none are))
