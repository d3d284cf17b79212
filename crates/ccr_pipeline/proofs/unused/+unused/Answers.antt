use Rattle.std.proofs.Common.{refl}
use Rattle.std.proofs.lemmas.List.{append-nil}
use Rattle.ccr_pipeline.proofs.ObjectLemmas.{unused_none}
use Rattle.ccr_pipeline.proofs.unused.+unused.Goals as goal

pub push_value-returns-in_default : goal.push_value-returns-in_default
push_value-returns-in_default t c =
    rw (unused_none _ _ _ _ c.in_default.not-Parallel c.in_default.not-Objects c.in_default.not-Object, append-nil) refl
