use Rattle.std.proofs.Common.{◌↔◌, IsTrue, ℕ, List, subst, All}
use Rattle.std.specs.Prelude.{Contains}
use Rattle.ccr_choice.specs.Dominated.{IsNamedIn}
use Rattle.ccr_choice.proofs.dominated.is_dominated.Goals as goal

pub returns : goal.returns
returns c =
    let P : List (ℕ × ℕ) → Type 0 = λ xs. IsTrue c.are_covered.result ↔ All (λ q. IsNamedIn c.args.problem.now c.args.job q.0 → Contains c.pairs-2.result.now q) xs in
    let Q : List (ℕ × ℕ) → Type 0 = λ ys. IsTrue c.are_covered.result ↔ All (λ q. IsNamedIn c.args.problem.now c.args.job q.0 → Contains ys q) c.args.build.now.pairs in
    subst Q c.pairs-2.ensures (subst P c.pairs.ensures c.are_covered.ensures)
