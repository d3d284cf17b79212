use Rattle.std.proofs.Common.{◌≡◌, ◌<◌, ◌+◌, ◌++◌, ◌∷◌, ℕ, List, [], length, get_or, take, ap, ◌∙◌, sym, subst, arith}
use Rattle.std.proofs.lemmas.Bool.{false≢true}
use Rattle.std.proofs.lemmas.List.{take_more}
use Rattle.std.proofs.lemmas.Option.{slice_get-get_or}
use Rattle.ccr_choice.specs.Problem.{BuildValue, builds_at}
use Rattle.ccr_choice.specs.Assignment.{Assignment, with_build}
use Rattle.ccr_choice.specs.Table.{assigned}
use Rattle.ccr_choice.proofs.TableLaws.{table_set}
use Rattle.ccr_index.specs.Rows.{no_build}
use Rattle.ccr_index.specs.Index.{IsCount, LeavesPlaces}
use Rattle.ccr_index.proofs.BestLaws.{count_yes, count_no}
use Rattle.ccr_index.proofs.index.Index.viable_at.Goals.{then-leaves_places, else-leaves_places}
use Rattle.ccr_index.proofs.index.Index.viable_at.Goals as goal

pub loop-build-preserved : goal.loop-build-preserved
loop-build-preserved c =
    let p = c.args.self.now.problem in
    let job = c.args.job in
    let k = c.loop-build.build in
    let n = c.loop-build.count in
    let bs = builds_at p job in
    let b = get_or bs k no_build in
    let Has : BuildValue → Type 0 = λ b. LeavesPlaces p (with_build (assigned p c.args.fixed.now) job b) job in
    let within : k < length bs = omega (arith, c.loop-build-test.true, c.len-build-end.ensures, ap length c.rows.ensures.value) in
    let set = table_set p c.args.fixed.now job k b (omega (arith, c.requires, c.told-fixed, c.rows.ensures.limit)) (slice_get-get_or bs k no_build within) in
    let Leaves : Assignment → Type 0 = λ a. LeavesPlaces p a job in
    let next : take (k + 1) bs ≡ take k bs ++ b ∷ [] = take_more bs k no_build within in
    let Count : ℕ → List BuildValue → Type 0 = λ m xs. IsCount Has xs m in
    elim c.if-leaves_places.branch [
      | then-leaves_places w ↦ (let has : Has b = subst Leaves set (c.leaves_places.ensures.0 w.if-leaves_places.true) in
          let C : List BuildValue → Type 0 = λ xs. Count (n + 1) xs in
          let N : ℕ → Type 0 = λ m. Count m (take (k + 1) bs) in
          (subst N (sym w.count-is) (subst C (sym next) (count_yes Has (take k bs) b n c.loop-build.invariant.0 has)), omega (arith, w.count-is, c.loop-build.invariant.1)))
      | else-leaves_places w ↦ (let lacks : Has b → ⊥ = λ h. false≢true (sym w.if-leaves_places.false ∙ c.leaves_places.ensures.1 (subst Leaves (sym set) h)) in
          let C : List BuildValue → Type 0 = λ xs. Count n xs in
          let N : ℕ → Type 0 = λ m. Count m (take (k + 1) bs) in
          (subst N (sym w.count-is) (subst C (sym next) (count_no Has (take k bs) b n c.loop-build.invariant.0 lacks)), omega (arith, w.count-is, c.loop-build.invariant.1)))
    ]
