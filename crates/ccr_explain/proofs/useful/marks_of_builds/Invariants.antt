use Rattle.std.proofs.Common.{◌≡◌, length, take}
use Rattle.std.specs.Prelude.{All}
use Rattle.ccr_explain.specs.Cut.{MarksBuilds}
use Rattle.ccr_explain.proofs.useful.marks_of_builds.Given as goal

abbrev pub invariant-loop-place : goal.invariant-loop-place
invariant-loop-place l = record {
  long : length l.marks.items ≡ length l.rows.builds;
  marked : All (λ place. MarksBuilds l.rows.builds l.marks.items (l.scope, place)) (take l.place-index l.places);
}
