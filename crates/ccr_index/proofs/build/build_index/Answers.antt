use Rattle.std.proofs.Common.{List, map, sym, subst}
use Rattle.ccr_choice.specs.Problem.{InputValue, BuildValue}
use Rattle.ccr_index.specs.Rows.{InputRowsValue, JobRowsValue}
use Rattle.ccr_index.specs.Alike.{AreCounted}
use Rattle.ccr_index.specs.Index.{AreTops}
use Rattle.ccr_index.proofs.build.build_index.Goals as goal

pub new-requires-clause-tops : goal.new-requires-clause-tops
new-requires-clause-tops c =
    let p = c.args.problem.now in
    let P : List InputValue → Type 0 = λ is. AreTops (record { inputs = is; jobs = p.jobs }) c.tops_of-tops.result in
    let Q : List (List BuildValue) → Type 0 = λ js. AreTops (record { inputs = map (λ (x : InputRowsValue). x.input) c.in_ok-inputs.inputs.items; jobs = js }) c.tops_of-tops.result in
    subst Q (sym c.in_ok-jobs.ensures.builds) (subst P (sym c.in_ok-inputs.ensures) c.tops_of-tops.ensures)

pub new-requires-clause-counted : goal.new-requires-clause-counted
new-requires-clause-counted c =
    let P : List InputValue → Type 0 = λ is. AreCounted is (map (λ (r : JobRowsValue). r.scopes) c.in_ok-jobs.jobs.items) in
    subst P (sym c.in_ok-inputs.ensures) c.in_ok-jobs.ensures.counted
