-- What is shown for the checker, the checker accepts.
use Rattle.std.proofs.Common.{◌≡◌, ◌++◌, refl, ◌∙◌, ap}
use Rattle.ccr_history.specs.Text.{Text}
use Rattle.ccr_choice.specs.Preference.{order_of}
use Rattle.ccr_choice.specs.Problem.{ProblemValue, IsProblem}
use Rattle.ccr_choice.specs.ProblemText.{problem_text}
use Rattle.ccr_proof.specs.Proof.{IsProof}
use Rattle.ccr_proof.specs.ProofText.{proof_text}
use Rattle.ccr_proof.specs.Refutes.{IsAccepted}
use Rattle.ccr_proof.specs.Tree.{tree_of}
use Rattle.ccr_proof.specs.declared.proof.Proof.{Proof}
use Rattle.ccr_check.specs.Accepted.{IsAcceptedText}
use Rattle.ccr_check.proofs.Accepting.{text_accepted}
use Rattle.ccr_lines.specs.Certificates.{IsAcceptedOf}

-- a problem's text with that of a proof that is accepted for it
pub accepted_so : (p : ProblemValue) (given : Proof) (bytes first second : Text) → IsProblem p
    → IsProof given.claim (tree_of given.tree) → IsAccepted (order_of p) p given.claim (tree_of given.tree)
    → first ≡ problem_text p → second ≡ proof_text given.claim (tree_of given.tree) → bytes ≡ first ++ second
    → IsAcceptedOf p given 0 bytes
accepted_so p given bytes first second is_problem is_proof accepted a b joined =
    (refl, text, λ said judged. text_accepted bytes said given.claim whole judged) where
      text : bytes ≡ problem_text p ++ proof_text given.claim (tree_of given.tree)
      text = joined ∙ (ap (λ x. x ++ second) a ∙ ap (λ y. problem_text p ++ y) b)

      whole : IsAcceptedText bytes given.claim
      whole = record {
        problem = p;
        tree = tree_of given.tree;
        is_problem = is_problem;
        is_proof = is_proof;
        accepted = accepted;
        text = text;
      }
