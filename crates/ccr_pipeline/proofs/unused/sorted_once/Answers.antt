use Rattle.std.proofs.lemmas.List.Filters.{dedup_is}
use Rattle.std.specs.String.{string_eq}
use Rattle.ccr_pipeline.proofs.Sorting.{sorted_once}
use Rattle.ccr_pipeline.proofs.unused.sorted_once.Goals as goal

pub returns : goal.returns
returns c = (sorted_once _ _ _ c.in_ok-sort.ensures.permutation c.in_ok-sort.ensures.sorted (dedup_is string_eq _ _ c.dedup.ensures.filtered))
