-- What it means that a text is accepted.
use Rattle.std.specs.Prelude.{◌≡◌, ℕ, List, ◌++◌}
use Rattle.ccr_choice.specs.Problem.{ProblemValue, IsProblem}
use Rattle.ccr_choice.specs.ProblemText.{problem_text}
use Rattle.ccr_proof.specs.declared.claim.Claim.{Claim}
use Rattle.ccr_proof.specs.Right.{IsRight}
use Rattle.ccr_choice.specs.Preference.{order_of}
use Rattle.ccr_proof.specs.Proof.{IsProof}
use Rattle.ccr_proof.specs.ProofText.{proof_text}
use Rattle.ccr_proof.specs.Refutes.{IsAccepted}
use Rattle.ccr_proof.specs.Tree.{Tree}
use Rattle.ccr_check.specs.Judged.{accepted_line}

-- What it means that a line says `accepted`: the bytes begin with the text of a problem, and of no other; and the line
-- has a claim that is right for this problem.
pub record IsRightlyAccepted (bs line : List ℕ) : Type 0 where
  pub problem : ProblemValue
  pub is_problem : IsProblem problem
  pub behind : List ℕ
  pub text : bs ≡ problem_text problem ++ behind
  pub only : (other : ProblemValue) (more : List ℕ) → IsProblem other → bs ≡ problem_text other ++ more
      → other ≡ problem
  pub claim : Claim
  pub says : line ≡ accepted_line claim
  pub right : IsRight (order_of problem) problem claim

-- The bytes are the text of a problem followed by the text of a proof with this claim, which is accepted for the
-- problem.
pub record IsAcceptedText (bs : List ℕ) (c : Claim) : Type 0 where
  pub problem : ProblemValue
  pub tree : Tree
  pub is_problem : IsProblem problem
  pub is_proof : IsProof c tree
  pub accepted : IsAccepted (order_of problem) problem c tree
  pub text : bs ≡ problem_text problem ++ proof_text c tree
