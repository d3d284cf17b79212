use Rattle.ccr_tables.proofs.Founding.{not_made}
use Rattle.sqlite.specs.Held.{state}
use Rattle.ccr_tables.proofs.Created.{refusal_on, failed_otherwise}
use Rattle.ccr_tables.proofs.creation.create_rest.Goals as goal

pub returns-in-Ok-clause-kept : goal.returns-in-Ok-clause-kept
returns-in-Ok-clause-kept g c clean inside = (c.in-Ok.ensures.step clean inside).kept

pub returns-in-Ok-clause-made : goal.returns-in-Ok-clause-made
returns-in-Ok-clause-made g c clean inside is = let it = c.in-Ok.ensures.step clean inside in (it.made.0, λ bare. it.made.1 bare)

pub returns-in-Err-clause-kept : goal.returns-in-Err-clause-kept
returns-in-Err-clause-kept g c clean inside = (c.in-Err.ensures.step clean inside).kept

pub returns-in-Err-clause-made : goal.returns-in-Err-clause-made
returns-in-Err-clause-made g c clean inside is = absurd (not_made _ c.if_refused.ensures.ok is)

pub returns-in-Err-clause-answered : goal.returns-in-Err-clause-answered
returns-in-Err-clause-answered g c clean inside =
    failed_otherwise g.S.Store (state g.S.Store c.args.tx.now.conn.now) _ c.if_refused.result c.if_refused.ensures.same (c.in-Err.ensures.answered clean inside)

pub returns-in-Err-clause-refusal : goal.returns-in-Err-clause-refusal
returns-in-Err-clause-refusal g c clean inside =
    refusal_on g.S.Store (state g.S.Store c.args.tx.now.conn.now) _ c.if_refused.result c.if_refused.ensures.refused (c.in-Err.ensures.answered clean inside)

pub returns-in-Ok-clause-sound : goal.returns-in-Ok-clause-sound
returns-in-Ok-clause-sound g c clean inside is bare = (c.in-Ok.ensures.step clean inside).sound bare

pub returns-in-Err-clause-sound : goal.returns-in-Err-clause-sound
returns-in-Err-clause-sound g c clean inside is = absurd (not_made _ c.if_refused.ensures.ok is)
