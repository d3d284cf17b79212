use Rattle.std.proofs.Common.{◌≢◌, ◌∙◌, inr, sym, subst, arith}
use Rattle.std.proofs.lemmas.Result.{on_ok_weaker, IfErr-weaker}
use Rattle.sqlite.specs.Held.{state}
use Rattle.sqlite.specs.State.{HasCleanDisk}
use Rattle.ccr_tables.specs.Contents.{Holds}
use Rattle.ccr_tables.specs.Schema.{no_schema}
use Rattle.ccr_store.specs.Rows.{HasFormat}
use Rattle.ccr_store.specs.Shown.{ShowsFormat}
use Rattle.ccr_store.specs.declared.format.Format.{Format}
use Rattle.ccr_store.specs.declared.format.Format.TheVariants.{One, Two}
use Rattle.ccr_store.proofs.Taking.{begun_behind, unraised_behind}
use Rattle.ccr_store.proofs.store.prepare.Goals as goal

pub returns-in-Ok-Two-clause-found : goal.returns-in-Ok-Two-clause-found
returns-in-Ok-Two-clause-found g c these clean holds = (
  Two,
  subst (λ (f : Format). HasFormat f these) c.in-Ok-Two.field-0-is (c.in-Ok-Two.ensures.format clean these holds),
  subst (Holds these) (sym (c.in-Ok-Two.ensures.reads.same clean).0.now_is) holds,
)

pub returns-in-Ok-One-clause-found : goal.returns-in-Ok-One-clause-found
returns-in-Ok-One-clause-found g c these clean holds =
    let mid = state g.S.Store c.read_format.new.conn in
    let clean_mid : HasCleanDisk mid = omega (arith, c.raise.ensures.crash.clean) in
    let same = (c.in-Ok-One.ensures.reads.same clean_mid).0.now_is in
    on_ok_weaker c.raise.result
    (λ it. (One, subst (λ (f : Format). HasFormat f these) c.in-Ok-One.field-0-is (c.in-Ok-One.ensures.format clean_mid these holds), it.0))
    (c.raise.ensures.raised these clean (subst (Holds these) (sym same) holds))

pub returns-in-Ok-One-clause-answered : goal.returns-in-Ok-One-clause-answered
returns-in-Ok-One-clause-answered g c clean =
    let old = state g.S.Store c.args.conn.now in
    let mid = state g.S.Store c.read_format.new.conn in
    let clean_mid : HasCleanDisk mid = omega (arith, c.raise.ensures.crash.clean) in
    let other : old.now.schema ≢ no_schema = λ blank. let yes = c.is_blank.ensures.1 (c.schema.ensures.value ∙ blank) in let no = c.if-is_blank.false in absurd cc in
    let shows = subst (λ (f : Format). ShowsFormat f old.now) c.in-Ok-One.field-0-is (c.in-Ok-One.ensures.shown clean_mid) in
    IfErr-weaker c.raise.result _ _ (λ fault unraised. inr (other, inr (shows, unraised)))
    (unraised_behind g.S.Store old mid c.raise.result (c.in-Ok-One.ensures.reads.same clean_mid).0.now_is c.in-Ok-One.ensures.reads.crash (c.raise.ensures.answered clean))

pub returns-in-Ok-One-clause-crash : goal.returns-in-Ok-One-clause-crash
returns-in-Ok-One-clause-crash g c =
    begun_behind (state g.S.Store c.args.conn.now) (state g.S.Store c.read_format.new.conn) (state g.S.Store c.raise.new.conn)
    (λ blank. let yes = c.is_blank.ensures.1 (c.schema.ensures.value ∙ blank) in let no = c.if-is_blank.false in absurd cc)
    (λ clean. (c.in-Ok-One.ensures.reads.same clean).0.now_is) c.in-Ok-One.ensures.reads.crash c.raise.ensures.crash
