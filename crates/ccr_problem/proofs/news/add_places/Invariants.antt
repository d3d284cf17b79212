use Rattle.std.proofs.Common.{◌≡◌, ◌+◌, ◌<◌, true, length, drop}
use Rattle.ccr_choice.specs.Problem.{are_places_after, input_at}
use Rattle.ccr_index.specs.Rows.{last_after}
use Rattle.ccr_problem.specs.Passing.{with_more}
use Rattle.ccr_problem.proofs.news.add_places.Given as goal

abbrev pub invariant-loop-place : goal.invariant-loop-place
invariant-loop-place l = record {
  input : l.input < length l.index.problem.inputs;
  rest : with_more l.index.problem l.input (drop l.place-index l.places) ≡ with_more l.initial.index.problem l.input l.places;
  rules : are_places_after (last_after 0 (input_at l.index.problem l.input).places) (drop l.place-index l.places) ≡ true;
  room : l.initial.index.spare_places + length (drop l.place-index l.places) ≡ l.index.spare_places + length l.places;
  pairs : l.index.spare_pairs ≡ l.initial.index.spare_pairs;
}
