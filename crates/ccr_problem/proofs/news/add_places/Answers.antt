use Rattle.std.proofs.Common.{◌≡◌, ◌+◌, ◌-◌, ◌≤◌, ℕ, List, length, drop, slice_index_or, cond, ap, sym, ◌∙◌, arith}
use Rattle.std.proofs.lemmas.Bool.{le-leb}
use Rattle.std.proofs.lemmas.List.{drop_more, length-set}
use Rattle.ccr_choice.specs.Problem.{ProblemValue, are_places_after, input_at}
use Rattle.ccr_index.specs.Index.{IndexValue, with_version, left_after}
use Rattle.ccr_index.specs.Rows.{with_place, last_after}
use Rattle.ccr_index.proofs.RuleLaws.{version_kept}
use Rattle.ccr_problem.specs.Passing.{with_more}
use Rattle.ccr_problem.proofs.Each.{on_is_ok}
use Rattle.ccr_problem.proofs.IndexPlaces.{first_fits, more_next, last_more}
use Rattle.ccr_problem.proofs.news.add_places.Goals as goal

pub add_version-requires-clause-rules : goal.add_version-requires-clause-rules
add_version-requires-clause-rules c =
    let places : List ℕ = c.args.places.now in
    let k = c.loop-place.place-index in
    let q : ProblemValue = c.loop-place.index.problem in
    let next = drop_more places k 0 c.loop-place-test.true in
    let fits = first_fits (last_after 0 (input_at q c.args.input).places) (slice_index_or places k 0) (drop (k + 1) places)
    (ap (are_places_after (last_after 0 (input_at q c.args.input).places)) (sym next) ∙ c.loop-place.invariant.rules) in
    version_kept q c.args.input (slice_index_or places k 0) c.input_count-count.ensures.kept c.loop-place.invariant.input fits.0 fits.1

pub loop-place-preserved : goal.loop-place-preserved
loop-place-preserved c =
    let places : List ℕ = c.args.places.now in
    let k = c.loop-place.place-index in
    let i = c.args.input in
    let n = slice_index_or places k 0 in
    let rest : List ℕ = drop (k + 1) places in
    let q : ProblemValue = c.loop-place.index.problem in
    let inside = c.loop-place.invariant.input in
    let next = drop_more places k 0 c.loop-place-test.true in
    let fits = first_fits (last_after 0 (input_at q i).places) n rest (ap (are_places_after (last_after 0 (input_at q i).places)) (sym next) ∙ c.loop-place.invariant.rules) in
    let over = on_is_ok c.add_version.result c.add_version.ensures.ok (sym c.if-prove.ensures.value) in
    let problem : c.add_version.new.self.problem ≡ with_version q i n = ap (λ (x : IndexValue). x.problem) over in
    let many = ap length next in
    let spare : ℕ = c.loop-place.index.spare_places in
    let some : 1 ≤ spare = omega (arith, c.loop-place.invariant.room, c.requires.room, many) in
    let left : left_after spare 1 ≡ spare - 1 = ap {B = ℕ} (λ b. cond b (spare - 1) spare) (le-leb 1 spare some) in
    let spares : c.add_version.new.self.spare_places ≡ left_after spare 1 = ap (λ (x : IndexValue). x.spare_places) over in
    record {
      input = let same = ap (λ (x : ProblemValue). length x.inputs) problem in omega (arith, inside, same, length-set q.inputs i (with_place (input_at q i) n));
      rest = ap (λ (z : ProblemValue). with_more z i rest) problem ∙ more_next q i inside n rest ∙ ap (with_more q i) (sym next) ∙ c.loop-place.invariant.rest;
      rules = ap (λ (z : ProblemValue). are_places_after (last_after 0 (input_at z i).places) rest) problem ∙ ap (λ m. are_places_after m rest) (last_more q i inside n) ∙ fits.2;
      room = omega (arith, c.loop-place.invariant.room, many, spares, left, some);
      pairs = ap (λ (x : IndexValue). x.spare_pairs) over ∙ c.loop-place.invariant.pairs;
    }
