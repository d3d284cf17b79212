-- What is said of a problem's text that is followed by a proof's or a claim's.
use Rattle.std.specs.Prelude.{◌≡◌, ◌≢◌, ◌⊎◌, ℕ, List, ◌∷◌, ◌++◌, map, take, drop, nat_eq, Result, Ok, Err, MatchBool, codes}
use Rattle.std.specs.List.{starts_with, flat_map, join_with_byte}
use Rattle.std.specs.Fmt.{decimal}
use Rattle.ccr_choice.specs.Problem.{ProblemValue, ChoiceValue}
use Rattle.ccr_choice.specs.Satisfies.{Satisfies, IsFirstVerdict}
use Rattle.ccr_choice.specs.ProblemText.{problem_in}
use Rattle.ccr_choice.specs.declared.verdict.Verdict.{Verdict}
use Rattle.ccr_choice.specs.declared.verdict.Verdict.TheVariants as verdict
use Rattle.ccr_choice.specs.Text.{spelled}
use Rattle.ccr_choice.specs.Reading.{Refusal}
use Rattle.ccr_choice.specs.Words.{problem_refusal_words}
use Rattle.ccr_proof.specs.ClaimText.{claim_in, claim_line}
use Rattle.ccr_proof.specs.ProofText.{ProofRefusal, proof_in}
use Rattle.ccr_choice.specs.Preference.{order_of}
use Rattle.ccr_proof.specs.Refutes.{IsAccepted}
use Rattle.ccr_proof.specs.Tree.{Tree}
use Rattle.ccr_proof.specs.Words.{proof_refusal_words}
use Rattle.ccr_proof.specs.declared.claim.Claim.{Claim}
use Rattle.ccr_proof.specs.declared.claim.Claim.TheVariants.{Best, Nothing}
use Rattle.ccr_check.specs.Fault.{IsFault}
use Rattle.ccr_check.specs.Words.{check_fault_words}
use Rattle.ccr_check.specs.declared.fault.CheckFault.{CheckFault}
use Rattle.ccr_check.specs.declared.fault.CheckFault.TheVariants.{BadChoice}
use Rattle.ccr_check.specs.Cut.{IsCut}

-- ---- lines
-- `accepted `, and the claim's line
abbrev pub accepted_line : Claim → List ℕ
accepted_line c = codes "accepted " ++ join_with_byte 32 (map spelled (claim_line c))

-- a blank and the number
abbrev pub spaced : ℕ → List ℕ
spaced n = 32 ∷ decimal n

-- a choice behind these words, as in the text of a claim
abbrev pub choice_line : List ℕ → ChoiceValue → List ℕ
choice_line front c = front ++ flat_map spaced c.places ++ codes " builds" ++ flat_map spaced c.builds

-- The line and the status of a refusal: `refused: ` and why, and status 1.
abbrev pub refused : List ℕ → List ℕ × ℕ
refused why = (codes "refused: " ++ why, 1)

-- ---- what is judged
-- A claim that names a choice: that it satisfies, or the choice's first verdict. A bare `none` shows nothing, and is
-- refused.
abbrev pub IsClaimJudged : ProblemValue → Result Claim Refusal → List ℕ × ℕ → Type 0
IsClaimJudged p (Err e) out = out ≡ refused (codes "claim line")
IsClaimJudged p (Ok Nothing) out = out ≡ refused (codes "a bare none")
IsClaimJudged p (Ok (Best c)) out =
    (Satisfies p c.places c.builds × (out ≡ (choice_line (codes "satisfies") c, 0)))
    ⊎ ((v : Verdict) × (v ≢ verdict.Satisfies) × IsFirstVerdict p c.places c.builds v
    × (out ≡ refused (check_fault_words (BadChoice v))))

-- A proof is accepted with its claim's line exactly where it is one, in the order of the problem; else its first fault is
-- told. A text that is no proof's is refused with what reading says.
abbrev pub IsProofJudged : ProblemValue → Result (Claim × Tree) ProofRefusal → List ℕ × ℕ → Type 0
IsProofJudged p (Err e) out = out ≡ refused (proof_refusal_words e)
IsProofJudged p (Ok (c, t)) out =
    (IsAccepted (order_of p) p c t × (out ≡ (accepted_line c, 0)))
    ⊎ ((f : CheckFault) × (IsAccepted (order_of p) p c t → ⊥) × IsFault (order_of p) p c t f
    × (out ≡ refused (check_fault_words f)))

-- The problem is read first, and its fault comes before anything that is said of the second part. A second part that begins
-- with `proof` is a proof, every other is a claim.
abbrev pub IsProblemJudged : Result ProblemValue Refusal → List ℕ → List ℕ × ℕ → Type 0
IsProblemJudged (Err e) second out = out ≡ refused (problem_refusal_words e)
IsProblemJudged (Ok p) second out =
    MatchBool (starts_with nat_eq second (codes "proof"))
    (IsProofJudged p (proof_in second) out) (IsClaimJudged p (claim_in second) out)

-- The line and the status for a text: it is cut into two parts, and these are judged.
abbrev pub IsJudged : List ℕ → List ℕ × ℕ → Type 0
IsJudged bs out = (n : ℕ) × IsCut bs n × IsProblemJudged (problem_in (take n bs)) (drop n bs) out
