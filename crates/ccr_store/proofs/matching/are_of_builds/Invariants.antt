use Rattle.std.proofs.Common.{◌≡◌, ◌+◌, drop}
use Rattle.ccr_store.specs.Listed.{listed_pairs}
use Rattle.ccr_store.proofs.matching.are_of_builds.Given as goal

abbrev pub invariant-loop-index : goal.invariant-loop-index
invariant-loop-index l = record {
  left : l.rest ≡ listed_pairs (l.index + 1) (drop l.index l.history.builds) → l.rows ≡ listed_pairs 1 l.history.builds;
  so_far : l.rows ≡ listed_pairs 1 l.history.builds → l.rest ≡ listed_pairs (l.index + 1) (drop l.index l.history.builds);
}
