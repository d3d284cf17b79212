use Rattle.ccr_store.proofs.EditWrites.{edit_rows, edits_rows, edits_kept}
use Rattle.ccr_store.proofs.SameRows.{all_written-made}
use Rattle.ccr_store.proofs.law.changes_write_their_rows.Goals as goal

pub returns-clause-one : goal.returns-clause-one
returns-clause-one c = λ e h rules takes numbers. edit_rows e h rules takes numbers

pub returns-clause-all : goal.returns-clause-all
returns-clause-all c = λ es h rules accepts. edits_rows es h rules accepts

pub returns-clause-kept : goal.returns-clause-kept
returns-clause-kept c = λ es h trees rules accepts made. edits_kept es h trees rules accepts made

pub returns-clause-written : goal.returns-clause-written
returns-clause-written c = λ ws these. all_written-made ws these
