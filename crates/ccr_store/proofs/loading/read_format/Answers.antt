use Rattle.std.proofs.Common.{List, refl, inl, subst}
use Rattle.sqlite.specs.Order.{Row}
use Rattle.ccr_store.specs.Shown.{BeginsWith}
use Rattle.ccr_store.proofs.loading.read_format.Goals as goal

pub returns-in-Ok-clause-answered : goal.returns-in-Ok-clause-answered
returns-in-Ok-clause-answered g c clean =
    inl (refl, (c.in-Ok.rows.items, c.in-Ok.ensures.shown clean, λ f. subst (λ (rows : List Row). ¬ BeginsWith f rows) c.deref.ensures.value (c.in-None.ensures.none f)))
