-- What an answer of the resolver promises.
use Rattle.std.specs.Prelude.{◌≡◌, ℕ, ◌≤◌}
use Rattle.ccr_choice.specs.Problem.{ProblemValue, ChoiceValue}
use Rattle.ccr_proof.specs.declared.claim.Claim.TheVariants as claim
use Rattle.ccr_choice.specs.Preference.{Preference}
use Rattle.ccr_proof.specs.Tree.{tree_of, count}
use Rattle.ccr_proof.specs.Refutes.{IsAccepted}
use Rattle.ccr_proof.specs.Right.{IsRight}
use Rattle.ccr_proof.specs.declared.proof.Proof.{Proof}
use Rattle.ccr_resolve.specs.declared.answer.Answer.{Answer}
use Rattle.ccr_resolve.specs.declared.answer.Answer.TheVariants.{Best, Nothing, OverBudget}
use Rattle.ccr_resolve.specs.Kinds.{kinds_bound}
use Rattle.ccr_resolve.specs.NodeBound.{IsBelowNodeBound}

-- A proof that may be given for a problem within a budget: it is accepted, its claim is right, and it has at most so
-- many nodes, and no more than where builds that the inputs see as one are gone into once.
pub record IsWithin (prefers : Preference) (p : ProblemValue) (budget : ℕ) (proof : Proof) : Type 0 where
  pub accepted : IsAccepted prefers p proof.claim (tree_of proof.tree)
  pub right : IsRight prefers p proof.claim
  pub few_nodes : count (tree_of proof.tree) ≤ budget
  pub few_kinds : count (tree_of proof.tree) ≤ kinds_bound p

-- An answer of the best choice, or of none, has such a proof of its claim; over budget names the budget, which is below
-- the node bound.
abbrev pub IsAnswer : Preference → ProblemValue → ℕ → Answer → Type 0
IsAnswer prefers p budget (Best proof) =
    ((c : ChoiceValue) × (proof.claim ≡ claim.Best c)) × IsWithin prefers p budget proof
IsAnswer prefers p budget (Nothing proof) = (proof.claim ≡ claim.Nothing) × IsWithin prefers p budget proof
IsAnswer prefers p budget (OverBudget n) = (n ≡ budget) × IsBelowNodeBound prefers p budget
