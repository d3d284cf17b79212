use Rattle.std.proofs.Common.{◌≡◌, ◌+◌, ◌≤◌, ℕ, true, false, length, slice_index_or}
use Rattle.ccr_explain.proofs.PairLaws.{IsMarkedTo}
use Rattle.ccr_explain.proofs.useful.mark_builds.Given as goal

abbrev pub invariant-loop : goal.invariant-loop
invariant-loop l = record {
  long : length l.marks.items ≡ length l.rows.builds;
  below : l.left + l.counter ≤ length l.rows.builds;
  marked : IsMarkedTo l.rows.builds (l.scope, l.place) l.marks.items l.left;
  kept : (n : ℕ) → slice_index_or l.initial.marks.items n false ≡ true → slice_index_or l.marks.items n false ≡ true;
}
