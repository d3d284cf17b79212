-- A problem with a claim whose choice satisfies it: the checker says so.
use Rattle.std.proofs.Common.{◌≡◌, ◌≢◌, ℕ, inl, inr, List, [], ◌∷◌, ◌++◌, length, take, drop, false, IsTrue, nat_eq, Result, Ok, ap, ◌∙◌, refl, sym, subst, arith, length-append, codes}
use Rattle.std.specs.List.{starts_with}
use Rattle.std.proofs.lemmas.Bool.{cases_lt, MatchBool-at_false}
use Rattle.std.proofs.Math.Seq.{take-append_seam, drop-append_seam}
use Rattle.ccr_history.specs.Text.{Text}
use Rattle.ccr_choice.specs.Problem.{ProblemValue, ChoiceValue, IsProblem}
use Rattle.ccr_choice.specs.ProblemText.{problem_lines, problem_text, problem_in}
use Rattle.ccr_choice.specs.Reading.{Refusal}
use Rattle.ccr_choice.specs.Satisfies.{Satisfies, IsFirstVerdict}
use Rattle.ccr_choice.specs.declared.verdict.Verdict.{Verdict}
use Rattle.ccr_choice.specs.declared.verdict.Verdict.TheVariants as verdict
use Rattle.ccr_choice.proofs.ReadLaws.{problem_spelled, problem_text_again}
use Rattle.ccr_proof.specs.declared.claim.Claim.{Claim}
use Rattle.ccr_proof.specs.declared.claim.Claim.TheVariants.{Best}
use Rattle.ccr_proof.specs.Claim.{IsClaim}
use Rattle.ccr_proof.specs.ClaimText.{claim_text, claim_in}
use Rattle.ccr_proof.proofs.ClaimLaws.{claim_text_again}
use Rattle.ccr_check.specs.Cut.{begins, IsCut}
use Rattle.ccr_check.specs.Judged.{choice_line, IsClaimJudged, IsProofJudged, IsProblemJudged, IsJudged}
use Rattle.ccr_proof.specs.ProofText.{proof_in}
use Rattle.ccr_check.proofs.QuietLines.{lines_quiet, start_behind_lines, problem_quiet}
use Rattle.ccr_lines.specs.BuildCertificates.{IsSatisfiedOf}

-- ---- the cut
-- a text is cut at one place
cut_once : (bs : List ℕ) (m n : ℕ) → IsCut bs m → IsCut bs n → m ≡ n
cut_once bs m n a b =
    elim (cases_lt m n) [
      | inl less ↦ absurd (b.before m less (a.here (omega (arith, b.within))))
      | inr more ↦ elim (cases_lt n m) [
        | inl less ↦ absurd (a.before n less (b.here (omega (arith, a.within))))
        | inr same ↦ omega arith
      ]
    ]

-- a claim's text begins with `best`, whatever its places
claim_begins : (places builds : List ℕ) → IsTrue (begins (claim_text (Best (record { places = places; builds = builds }))))
unfolding begins
claim_begins [] builds = refl
claim_begins (n ∷ ns) builds = refl

no_proof : (places builds : List ℕ)
    → starts_with nat_eq (claim_text (Best (record { places = places; builds = builds }))) (codes "proof") ≡ false
no_proof [] builds = refl
no_proof (n ∷ ns) builds = refl

-- a problem's text that is followed by a claim's is cut between the two
between : (p : ProblemValue) (c : ChoiceValue) → IsProblem p
    → IsCut (problem_text p ++ claim_text (Best c)) (length (problem_text p))
between p c is =
    let first : List ℕ = problem_text p in
    let second : List ℕ = claim_text (Best c) in
    let P : List ℕ → Type 0 = λ bs. IsTrue (begins bs) in
    record {
      within = omega (arith, length-append first second);
      before = λ k h mark. lines_quiet (problem_lines p) second k (problem_spelled p is) (problem_quiet p) h mark;
      here = λ h. (start_behind_lines (problem_lines p) second, subst P (sym (drop-append_seam first second)) (claim_begins c.places c.builds));
    }

-- ---- what is judged
-- behind the cut, the claim is judged
claim_judged : (p : ProblemValue) (c : ChoiceValue) (out : List ℕ × ℕ) → IsProblem p → IsClaim (Best c) → (n : ℕ) → n ≡ length (problem_text p)
    → IsProblemJudged (problem_in (take n (problem_text p ++ claim_text (Best c)))) (drop n (problem_text p ++ claim_text (Best c))) out
    → IsClaimJudged p (Ok (Best c)) out
claim_judged p c out is is_claim n e h =
    let first : List ℕ = problem_text p in
    let second : List ℕ = claim_text (Best c) in
    let P : ℕ → Type 0 = λ m. IsProblemJudged (problem_in (take m (first ++ second))) (drop m (first ++ second)) out in
    let Q : List ℕ → Type 0 = λ bs. IsProblemJudged (problem_in bs) (drop (length first) (first ++ second)) out in
    let R : List ℕ → Type 0 = λ bs. IsProblemJudged (problem_in first) bs out in
    let S : Result ProblemValue Refusal → Type 0 = λ r. IsProblemJudged r second out in
    let T : Result Claim Refusal → Type 0 = λ r. IsClaimJudged p r out in
    let cut = subst S (problem_text_again p is) (subst R (drop-append_seam first second) (subst Q (take-append_seam first second) (subst P e h))) in
    subst T (claim_text_again (Best c) is_claim)
    (MatchBool-at_false (IsProofJudged p (proof_in second) out) (IsClaimJudged p (claim_in second) out) (no_proof c.places c.builds) cut)

-- no verdict but the one is first of a choice that satisfies
one_verdict : (p : ProblemValue) (c : ChoiceValue) (v : Verdict) → Satisfies p c.places c.builds → v ≢ verdict.Satisfies
    → IsFirstVerdict p c.places c.builds v → ⊥
one_verdict p c verdict.Satisfies sat other first = other refl
one_verdict p c verdict.WrongLength sat other first = first sat.lengths
one_verdict p c (verdict.NotAllowed i) sat other first = first.1.fails (sat.allowed i first.1.within)
one_verdict p c (verdict.NotSuccessful j) sat other first = first.2.fails (sat.successful j first.2.within)
one_verdict p c (verdict.NotPassed i j) sat other first = first.3.fails (sat.passed i first.3.within)

once_satisfied : (p : ProblemValue) (c : ChoiceValue) (out : List ℕ × ℕ) → Satisfies p c.places c.builds
    → IsClaimJudged p (Ok (Best c)) out → out ≡ (choice_line (codes "satisfies") c, 0)
once_satisfied p c out sat (inl h) = h.1
once_satisfied p c out sat (inr h) = absurd (one_verdict p c h.0 sat h.1 h.2)

-- whatever is said of the text, it is that the choice satisfies
text_satisfied : (p : ProblemValue) (c : ChoiceValue) (out : List ℕ × ℕ) → IsProblem p → IsClaim (Best c)
    → Satisfies p c.places c.builds → IsJudged (problem_text p ++ claim_text (Best c)) out
    → out ≡ (choice_line (codes "satisfies") c, 0)
text_satisfied p c out is is_claim sat judged =
    let cut = cut_once (problem_text p ++ claim_text (Best c)) judged.0 (length (problem_text p)) judged.1 (between p c is) in
    once_satisfied p c out sat (claim_judged p c out is is_claim judged.0 cut judged.2)

-- a problem's text with that of a claim, joined
pub satisfied_so : (p : ProblemValue) (c : ChoiceValue) (bytes first second : Text) → IsProblem p → IsClaim (Best c)
    → Satisfies p c.places c.builds → first ≡ problem_text p → second ≡ claim_text (Best c) → bytes ≡ first ++ second
    → IsSatisfiedOf p c 0 bytes
satisfied_so p c bytes first second is is_claim sat a b joined =
    let text : bytes ≡ problem_text p ++ claim_text (Best c) =
    joined ∙ (ap (λ x. x ++ second) a ∙ ap (λ y. problem_text p ++ y) b) in
    let P : Text → (List ℕ × ℕ) → Type 0 = λ x said. IsJudged x said in
    (refl, text, λ said judged. text_satisfied p c said is is_claim sat (subst (λ x. P x said) text judged))
