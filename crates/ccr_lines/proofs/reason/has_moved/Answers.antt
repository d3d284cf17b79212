use Rattle.std.proofs.Common.{◌∙◌, ℕ, List, Bool, ap}
use Rattle.std.specs.List.{list_any}
use Rattle.ccr_choice.specs.Problem.{BuildValue, builds_at}
use Rattle.ccr_lines.specs.Releases.{is_pair}
use Rattle.ccr_lines.proofs.Witnessing.{moved_test}
use Rattle.ccr_lines.proofs.reason.has_moved.Goals as goal

pub returns : goal.returns
returns c =
    let q = c.args.index.now.problem in
    let moved : ℕ → List BuildValue → Bool = λ scope bs. list_any (λ b. list_any (is_pair (scope, c.args.place)) b.pairs) bs in
    moved_test (c.scope-scope.result, c.args.place) c.rows.result.now.builds c.has_passed.result c.has_passed.ensures
    ∙ ap (moved c.scope-scope.result) c.rows.ensures.value
    ∙ ap (λ scope. moved scope (builds_at q c.args.job)) (c.scope-scope.ensures ∙ ap (λ x. x.scope) c.input.ensures.value)
