-- A problem's text that is followed by an accepted proof's is accepted, and nothing else is.
use Rattle.std.proofs.Common.{◌≡◌, ℕ, ◌⊎◌, inl, inr, List, [], ◌∷◌, ◌++◌, length, take, drop, Bool, true, false, IsTrue, nat_eq, Result, Ok, Err, MatchBool, IfOk, ap, ◌∙◌, refl, sym, subst, arith, length-append, take-append-drop, codes}
use Rattle.std.specs.List.{starts_with}
use Rattle.std.proofs.lemmas.Bool.{cases_lt}
use Rattle.std.proofs.lemmas.List.{append-nil}
use Rattle.std.proofs.Math.Seq.{take-append_seam, drop-append_seam}
use Rattle.ccr_choice.specs.Problem.{ProblemValue, ChoiceValue, IsProblem}
use Rattle.ccr_choice.specs.ProblemText.{problem_lines, problem_text, problem_in, IsProblemFault}
use Rattle.ccr_choice.specs.Reading.{Refusal}
use Rattle.ccr_choice.specs.declared.fault.ProblemFault.{ProblemFault}
use Rattle.ccr_choice.specs.declared.fault.ProblemFault.TheVariants as problem
use Rattle.ccr_choice.specs.Words.{problem_fault_words, problem_refusal_words}
use Rattle.ccr_choice.proofs.ReadLaws.{problem_spelled, problem_text_again, problem_text_kept, problem_text_found, nothing_follows}
use Rattle.ccr_proof.specs.declared.claim.Claim.{Claim}
use Rattle.ccr_proof.specs.declared.claim.Claim.TheVariants.{Best, Nothing}
use Rattle.ccr_proof.specs.declared.fault.ProofFault.{ProofFault}
use Rattle.ccr_proof.specs.declared.fault.ProofFault.TheVariants as proof
use Rattle.ccr_proof.specs.ClaimText.{claim_in}
use Rattle.ccr_choice.specs.Preference.{order_of}
use Rattle.ccr_proof.specs.Proof.{IsProof}
use Rattle.ccr_proof.specs.ProofText.{ProofRefusal, proof_text, proof_in, IsProofFault}
use Rattle.ccr_proof.specs.Refutes.{IsAccepted}
use Rattle.ccr_proof.specs.Tree.{Tree}
use Rattle.ccr_proof.specs.Words.{proof_fault_words, proof_refusal_words}
use Rattle.ccr_choice.proofs.Orders.{is_order}
use Rattle.ccr_proof.proofs.ProofLaws.{proof_text_again}
use Rattle.ccr_proof.proofs.Sound.{accepted_right}
use Rattle.ccr_check.specs.declared.fault.CheckFault.TheVariants.{BadChoice}
use Rattle.ccr_check.specs.Accepted.{IsAcceptedText, IsRightlyAccepted}
use Rattle.ccr_check.specs.Cut.{begins, IsCut}
use Rattle.ccr_check.specs.Judged.{accepted_line, choice_line, refused, IsClaimJudged, IsProofJudged, IsProblemJudged, IsJudged}
use Rattle.ccr_check.specs.Words.{check_fault_words}
use Rattle.ccr_check.proofs.QuietLines.{lines_quiet, start_behind_lines, problem_quiet}

-- ---- the cut
-- a text is cut at one place
cut_once : (bs : List ℕ) (m n : ℕ) → IsCut bs m → IsCut bs n → m ≡ n
cut_once bs m n a b =
    elim (cases_lt m n) [
      | inl less ↦ absurd (b.before m less (a.here (omega (arith, b.within))))
      | inr more ↦ elim (cases_lt n m) [
        | inl less ↦ absurd (a.before n less (b.here (omega (arith, a.within))))
        | inr same ↦ omega arith
      ]
    ]

proof_begins : (c : Claim) (t : Tree) → IsTrue (begins (proof_text c t))
unfolding begins
proof_begins c t = refl

-- a problem's text that is followed by a proof's is cut between the two
between : (p : ProblemValue) (c : Claim) (t : Tree) → IsProblem p → IsCut (problem_text p ++ proof_text c t) (length (problem_text p))
between p c t is =
    let first = problem_text p in
    let second = proof_text c t in
    let P : List ℕ → Type 0 = λ bs. IsTrue (begins bs) in
    record {
      within = omega (arith, length-append first second);
      before = λ k h mark. lines_quiet (problem_lines p) second k (problem_spelled p is) (problem_quiet p) h mark;
      here = λ h. (start_behind_lines (problem_lines p) second, subst P (sym (drop-append_seam first second)) (proof_begins c t));
    }

-- ---- what is judged
-- behind the cut, the proof is judged
proof_judged : (p : ProblemValue) (c : Claim) (t : Tree) (out : List ℕ × ℕ) → IsProblem p → IsProof c t → (n : ℕ) → n ≡ length (problem_text p)
    → IsProblemJudged (problem_in (take n (problem_text p ++ proof_text c t))) (drop n (problem_text p ++ proof_text c t)) out → IsProofJudged p (Ok (c, t)) out
proof_judged p c t out is is_proof n e h =
    let first = problem_text p in
    let second = proof_text c t in
    let P : ℕ → Type 0 = λ m. IsProblemJudged (problem_in (take m (first ++ second))) (drop m (first ++ second)) out in
    let Q : List ℕ → Type 0 = λ bs. IsProblemJudged (problem_in bs) (drop (length first) (first ++ second)) out in
    let R : List ℕ → Type 0 = λ bs. IsProblemJudged (problem_in first) bs out in
    let S : Result ProblemValue Refusal → Type 0 = λ r. IsProblemJudged r second out in
    let T : Result (Claim × Tree) ProofRefusal → Type 0 = λ r. IsProofJudged p r out in
    subst T (proof_text_again (c, t) is_proof)
    (subst S (problem_text_again p is) (subst R (drop-append_seam first second) (subst Q (take-append_seam first second) (subst P e h))))

once_accepted : (p : ProblemValue) (c : Claim) (t : Tree) (out : List ℕ × ℕ) → IsAccepted (order_of p) p c t → IsProofJudged p (Ok (c, t)) out → out ≡ (accepted_line c, 0)
once_accepted p c t out accepted (inl h) = h.1
once_accepted p c t out accepted (inr h) = absurd (h.1 accepted)

-- a text that is accepted is judged so, and in no other way
pub text_accepted : (bs : List ℕ) (out : List ℕ × ℕ) (c : Claim) → IsAcceptedText bs c → IsJudged bs out → out ≡ (accepted_line c, 0)
text_accepted bs out c text judged =
    let p = text.problem in
    let t = text.tree in
    let P : List ℕ → Type 0 = λ cs. IsJudged cs out in
    let judged : IsJudged (problem_text p ++ proof_text c t) out = subst P text.text judged in
    let cut = cut_once (problem_text p ++ proof_text c t) judged.0 (length (problem_text p)) judged.1 (between p c t text.is_problem) in
    once_accepted p c t out text.accepted (proof_judged p c t out text.is_problem text.is_proof judged.0 cut judged.2)

-- ---- no other line says `accepted`
abbrev says : List ℕ → Bool
says line = starts_with nat_eq line (codes "accepted ")

silent : (out other : List ℕ × ℕ) → out ≡ other → says other.0 ≡ false → IsTrue (says out.0) → ⊥
silent out other e none h = absurd (cc (sym (ap (λ y. says y.0) e) ∙ h, none))

refused_silent : (why : List ℕ) → says (refused why).0 ≡ false
refused_silent why = refl

satisfies_silent : (c : ChoiceValue) → says (choice_line (codes "satisfies") c) ≡ false
satisfies_silent c = refl

claim_silent : (p : ProblemValue) (r : Result Claim Refusal) (out : List ℕ × ℕ) → IsClaimJudged p r out → IsTrue (says out.0) → ⊥
claim_silent p (Err e) out h s = silent out (refused (codes "claim line")) h refl s
claim_silent p (Ok Nothing) out h s = silent out (refused (codes "a bare none")) h refl s
claim_silent p (Ok (Best c)) out (inl h) s = silent out (choice_line (codes "satisfies") c, 0) h.1 (satisfies_silent c) s
claim_silent p (Ok (Best c)) out (inr h) s = silent out (refused (check_fault_words (BadChoice h.0))) h.3 (refused_silent (check_fault_words (BadChoice h.0))) s

-- a proof was read, and is accepted
record ProofAccepted (p : ProblemValue) (r : Result (Claim × Tree) ProofRefusal) (line : List ℕ) : Type 0 where
  read : Claim × Tree
  found : r ≡ Ok read
  accepted : IsAccepted (order_of p) p read.0 read.1
  said : line ≡ accepted_line read.0

proof_accepted : (p : ProblemValue) (r : Result (Claim × Tree) ProofRefusal) (out : List ℕ × ℕ) → IsProofJudged p r out → IsTrue (says out.0) → ProofAccepted p r out.0
proof_accepted p (Err e) out h s = absurd (silent out (refused (proof_refusal_words e)) h (refused_silent (proof_refusal_words e)) s)
proof_accepted p (Ok x) out (inl h) s = record { read = x; found = refl; accepted = h.0; said = ap (λ y. y.0) h.1 }
proof_accepted p (Ok x) out (inr h) s = absurd (silent out (refused (check_fault_words h.0)) h.3 (refused_silent (check_fault_words h.0)) s)

-- a problem was read, and behind it a proof that is accepted
record TextAccepted (r : Result ProblemValue Refusal) (second line : List ℕ) : Type 0 where
  problem : ProblemValue
  found : r ≡ Ok problem
  proof : ProofAccepted problem (proof_in second) line

problem_accepted : (r : Result ProblemValue Refusal) (second : List ℕ) (out : List ℕ × ℕ) → IsProblemJudged r second out → IsTrue (says out.0) → TextAccepted r second out.0
problem_accepted (Err e) second out h s = absurd (silent out (refused (problem_refusal_words e)) h (refused_silent (problem_refusal_words e)) s)
problem_accepted (Ok p) second out h s =
    record { problem = p; found = refl; proof = proof_accepted p (proof_in second) out (first_one (starts_with nat_eq second (codes "proof")) h) s }
  where
    first_one : (b : Bool) → MatchBool b (IsProofJudged p (proof_in second) out) (IsClaimJudged p (claim_in second) out) → IsProofJudged p (proof_in second) out
    first_one true h = h
    first_one false h = absurd (claim_silent p (claim_in second) out h s)

-- of two lists that begin a third, one begins the other
one_begins : (xs ys more rest : List ℕ) → xs ++ more ≡ ys ++ rest → ((zs : List ℕ) × (xs ≡ ys ++ zs)) ⊎ ((zs : List ℕ) × (ys ≡ xs ++ zs))
one_begins [] ys more rest e = inr (ys, refl)
one_begins (x ∷ xs) [] more rest e = inl (x ∷ xs, refl)
one_begins (x ∷ xs) (y ∷ ys) more rest e =
    let same : x ≡ y = cc (e) in
    elim (one_begins xs ys more rest (cc (e))) [
      | inl h ↦ inl (h.0, cc (same, h.1))
      | inr h ↦ inr (h.0, cc (same, h.1))
    ]

-- problems with one text are one
same_problem : (p q : ProblemValue) → IsProblem p → IsProblem q → problem_text p ≡ problem_text q → p ≡ q
same_problem p q is_p is_q e = cc (problem_text_again p is_p, problem_text_again q is_q, ap problem_in e)

-- bytes begin with the text of one problem at the most
one_problem : (p q : ProblemValue) (more rest : List ℕ) → IsProblem p → IsProblem q → problem_text p ++ more ≡ problem_text q ++ rest → p ≡ q
one_problem p q more rest is_p is_q e =
    elim (one_begins (problem_text p) (problem_text q) more rest e) [
      | inl h ↦ let none = nothing_follows (problem_text q) q is_q refl p h.0 is_p h.1 in
          same_problem p q is_p is_q (h.1 ∙ ap (λ zs. problem_text q ++ zs) none ∙ append-nil (problem_text q))
      | inr h ↦ let none = nothing_follows (problem_text p) p is_p refl q h.0 is_q h.1 in
          sym (same_problem q p is_q is_p (h.1 ∙ ap (λ zs. problem_text p ++ zs) none ∙ append-nil (problem_text p)))
    ]

-- what says `accepted` begins with the text of one problem, and its claim is right
pub text_right : (bs : List ℕ) (out : List ℕ × ℕ) → IsJudged bs out → IsTrue (says out.0) → IsRightlyAccepted bs out.0
text_right bs out judged s =
    let first = take judged.0 bs in
    let second = drop judged.0 bs in
    let a = problem_accepted (problem_in first) second out judged.2 s in
    let p = a.problem in
    let c = a.proof.read.0 in
    let kept = problem_text_kept first p a.found in
    let text : bs ≡ problem_text p ++ second = sym (take-append-drop judged.0 bs) ∙ ap (λ x. x ++ second) (problem_text_found first p kept a.found) in
    record {
      problem = p;
      is_problem = kept;
      behind = second;
      text = text;
      only = λ q more is e. one_problem q p more second is kept (sym e ∙ text);
      claim = c;
      says = a.proof.said;
      right = accepted_right (order_of p) (is_order p) p kept c a.proof.read.1 a.proof.accepted;
    }

-- ---- refusals of readers
-- the words of the fault that was read are those of the refusal
pub problem_refused : (f : ProblemFault) (read : Result ProblemValue Refusal) (second : List ℕ) (out : List ℕ × ℕ) → IsProblemFault f read → (f ≡ problem.NoMemory → ⊥)
    → out ≡ refused (problem_fault_words f) → IsProblemJudged read second out
problem_refused problem.NoMemory read second out h some e = absurd (some refl)
problem_refused (problem.BadLine n) read second out h some e = let P : Result ProblemValue Refusal → Type 0 = λ r. IsProblemJudged r second out in subst P (sym h) e
problem_refused problem.Trailing read second out h some e = let P : Result ProblemValue Refusal → Type 0 = λ r. IsProblemJudged r second out in subst P (sym h) e

pub proof_refused : (p : ProblemValue) (f : ProofFault) (read : Result (Claim × Tree) ProofRefusal) (out : List ℕ × ℕ) → IsProofFault f read → (f ≡ proof.NoMemory → ⊥)
    → out ≡ refused (proof_fault_words f) → IsProofJudged p read out
proof_refused p proof.NoMemory read out h some e = absurd (some refl)
proof_refused p (proof.BadLine n) read out h some e = let P : Result (Claim × Tree) ProofRefusal → Type 0 = λ r. IsProofJudged p r out in subst P (sym h) e
proof_refused p proof.TooManyNodes read out h some e = let P : Result (Claim × Tree) ProofRefusal → Type 0 = λ r. IsProofJudged p r out in subst P (sym h) e
proof_refused p proof.Trailing read out h some e = let P : Result (Claim × Tree) ProofRefusal → Type 0 = λ r. IsProofJudged p r out in subst P (sym h) e

-- ---- what judge promises
pub accepted_of : {X E : Type 0} (view : X → List ℕ × ℕ) (result : Result X E) (bs : List ℕ) → IfOk result (λ x. IsJudged bs (view x))
    → IfOk result (λ x. (c : Claim) → IsAcceptedText bs c → ((view x).0 ≡ accepted_line c) × ((view x).1 ≡ 0))
accepted_of view (Ok x) bs judged = λ c text. let e = text_accepted bs (view x) c text judged in (ap (λ y. y.0) e, ap (λ y. y.1) e)
accepted_of view (Err e) bs judged = tt

pub right_of : {X E : Type 0} (view : X → List ℕ × ℕ) (result : Result X E) (bs : List ℕ) → IfOk result (λ x. IsJudged bs (view x))
    → IfOk result (λ x. IsTrue (starts_with nat_eq (view x).0 (codes "accepted ")) → IsRightlyAccepted bs (view x).0)
right_of view (Ok x) bs judged = λ s. text_right bs (view x) judged s
right_of view (Err e) bs judged = tt
