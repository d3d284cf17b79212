-- The choice for a job's next build in one text, for the checker.
use Rattle.std.specs.Prelude.{◌≡◌, ℕ, List, [], ◌++◌}
use Rattle.ccr_history.specs.Text.{Text}
use Rattle.ccr_history.specs.History.{HistoryData}
use Rattle.ccr_pipeline.specs.Pipelines.{PipelineData}
use Rattle.ccr_choice.specs.Preference.{order_of}
use Rattle.ccr_choice.specs.Problem.{ProblemValue}
use Rattle.ccr_choice.specs.ProblemText.{problem_text}
use Rattle.ccr_proof.specs.ProofText.{proof_text}
use Rattle.ccr_proof.specs.Tree.{tree_of}
use Rattle.ccr_proof.specs.declared.claim.Claim.{Claim}
use Rattle.ccr_proof.specs.declared.proof.Proof.{Proof}
use Rattle.ccr_check.specs.Judged.{accepted_line, IsJudged}
use Rattle.ccr_problem.specs.ProblemOf.{IsProblemOf}
use Rattle.ccr_resolve.specs.declared.answer.Answer.{Answer}
use Rattle.ccr_resolve.specs.declared.answer.Answer.TheVariants.{Best, Nothing, OverBudget}
use Rattle.ccr_resolve.specs.Answer.{IsAnswer}

-- whatever the checker says of these bytes, it is `accepted` with this claim, and status 0
abbrev pub IsJudgedAccepted : Text → Claim → Type 0
IsJudgedAccepted bytes claim = (said : List ℕ × ℕ) → IsJudged bytes said → said ≡ (accepted_line claim, 0)

-- a problem with a proof, which the checker accepts
abbrev pub IsAcceptedOf : ProblemValue → Proof → ℕ → Text → Type 0
IsAcceptedOf q given status lines =
    (status ≡ 0) × (lines ≡ problem_text q ++ proof_text given.claim (tree_of given.tree))
    × IsJudgedAccepted lines given.claim

-- a problem with the proof of its answer; nothing where the budget is over, with status 3
abbrev pub IsCertificateOf : ProblemValue → Answer → ℕ → Text → Type 0
IsCertificateOf q (Best given) status lines = IsAcceptedOf q given status lines
IsCertificateOf q (Nothing given) status lines = IsAcceptedOf q given status lines
IsCertificateOf q (OverBudget n) status lines = (status ≡ 3) × (lines ≡ [])

-- THE PROBLEM OF A JOB'S NEXT BUILD, and behind it the proof of the choice for it, or that there is none, within a budget
abbrev pub IsCertificateShown : PipelineData → HistoryData → ℕ → Text → ℕ → Text → Type 0
IsCertificateShown p h budget job status lines =
    (q : ProblemValue) × (a : Answer) × IsProblemOf p h job q × IsAnswer (order_of q) q budget a
    × IsCertificateOf q a status lines
