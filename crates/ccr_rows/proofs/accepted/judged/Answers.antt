use Rattle.std.proofs.Common.{◌≡◌, ℕ, List, ◌++◌, Result, Ok, Err, IfOk, arith, string_bytes}
use Rattle.std.proofs.lemmas.Grind.{common_steps}
use Rattle.ccr_choice.specs.ProblemText.{problem_text}
use Rattle.ccr_proof.specs.declared.claim.Claim.{Claim}
use Rattle.ccr_proof.specs.ProofText.{proof_text}
use Rattle.ccr_proof.specs.Tree.{tree_of}
use Rattle.ccr_check.specs.Accepted.{IsAcceptedText}
use Rattle.ccr_check.specs.Judged.{accepted_line}
use Rattle.ccr_rows.proofs.accepted.judged.Goals as goal

-- what is judged so of each claim is judged so of this one
applied : {X E : Type 0} (view : X → List ℕ × ℕ) (r : Result X E) (bs : List ℕ) (c : Claim)
    → IfOk r (λ x. (d : Claim) → IsAcceptedText bs d → ((view x).0 ≡ accepted_line d) × ((view x).1 ≡ 0)) → IsAcceptedText bs c
    → IfOk r (λ x. ((view x).0 ≡ accepted_line c) × ((view x).1 ≡ 0))
applied view (Ok x) bs c h text = h c text
applied view (Err e) bs c h text = tt

pub returns : goal.returns
returns c =
    let p = c.args.problem.now in
    let claim = c.args.proof.now.claim in
    let t = tree_of c.args.proof.now.tree in
    let text : c.as_bytes.result.now ≡ problem_text p ++ proof_text claim t = grind (arith, common_steps) in
    applied (λ x. (string_bytes x.0, x.1)) c.judge.result c.as_bytes.result.now claim c.judge.ensures.accepted (record {
      problem = p;
      tree = t;
      is_problem = (c.problem_has_one_text.ensures.written (string_bytes c.in_ok-text.text) p c.in_ok-text.ensures.again).0;
      is_proof = c.in_ok-behind.ensures.kept;
      accepted = c.requires;
      text = text;
    })
