-- A claim with its tree, from the claim's bound and the walk over the tree.
use Rattle.std.proofs.Common.{◌≡◌, ◌↔◌, ℕ, zero, suc, List, inr, replicate, slice_index, refl, ap, ◌∙◌, subst, Option, Some, None, Result, Ok, Err}
use Rattle.std.specs.Prelude.{IsOk}
use mathlib.Core.Path.{fun_ext}
use Rattle.ccr_choice.specs.Problem.{ProblemValue, builds_at}
use Rattle.ccr_proof.specs.declared.claim.Claim.{Claim}
use Rattle.ccr_proof.specs.declared.claim.Claim.TheVariants.{Best, Nothing}
use Rattle.ccr_choice.specs.Preference.{order_of}
use Rattle.ccr_choice.specs.Assignment.{Assignment, nothing_fixed}
use Rattle.ccr_proof.specs.Tree.{Tree}
use Rattle.ccr_proof.specs.Refutes.{Refutes, IsAccepted}
use Rattle.ccr_check.specs.declared.fault.CheckFault.{CheckFault}
use Rattle.ccr_check.specs.Fault.{IsFirstFault, IsFault, HasBound}
use Rattle.ccr_choice.specs.Table.{build_of, assigned}
use Rattle.ccr_check.proofs.Walk.{faultless}

zeros : (n j : ℕ) → slice_index (replicate n 0) j ≡ 0
zeros zero j = refl
zeros (suc n) zero = refl
zeros (suc n) (suc j) = zeros n j

-- an empty table stands for nothing fixed
pub empty_table : (p : ProblemValue) (table : List ℕ) → table ≡ replicate 32 0 → assigned p table ≡ nothing_fixed
empty_table p table e = fun_ext (λ j. ap (λ t. build_of (builds_at p j) (slice_index t j)) e ∙ ap (build_of (builds_at p j)) (zeros 32 j))

pub accepted_from : (p : ProblemValue) (c : Claim) (t : Tree) (bound : Option (List ℕ)) (a : Assignment) → a ≡ nothing_fixed → HasBound p c bound → Refutes (order_of p) p bound a t → IsAccepted (order_of p) p c t
accepted_from p (Best c) t bound a e has h =
    let P : Option (List ℕ) → Assignment → Type 0 = λ b x. Refutes (order_of p) p b x t in
    (has.0, subst (λ x. P (Some c.places) x) e (subst (λ b. P b a) has.1 h))
accepted_from p Nothing t bound a e has h =
    let P : Option (List ℕ) → Assignment → Type 0 = λ b x. Refutes (order_of p) p b x t in
    subst (λ x. P None x) e (subst (λ b. P b a) has h)

pub fault_from : (p : ProblemValue) (c : Claim) (t : Tree) (bound : Option (List ℕ)) (a : Assignment) (f : CheckFault) → a ≡ nothing_fixed → HasBound p c bound → IsFirstFault (order_of p) p bound a 0 t f → IsFault (order_of p) p c t f
fault_from p (Best c) t bound a f e has h =
    let P : Option (List ℕ) → Assignment → Type 0 = λ b x. IsFirstFault (order_of p) p b x 0 t f in
    inr (has.0, subst (λ x. P (Some c.places) x) e (subst (λ b. P b a) has.1 h))
fault_from p Nothing t bound a f e has h =
    let P : Option (List ℕ) → Assignment → Type 0 = λ b x. IsFirstFault (order_of p) p b x 0 t f in
    subst (λ x. P None x) e (subst (λ b. P b a) has h)

-- what is refused where a fault of the tree was found isn't accepted
pub not_accepted : (p : ProblemValue) (c : Claim) (t : Tree) (bound : Option (List ℕ)) (a : Assignment) (f : CheckFault) → a ≡ nothing_fixed → HasBound p c bound → IsFirstFault (order_of p) p bound a 0 t f → IsAccepted (order_of p) p c t → ⊥
not_accepted p (Best c) t bound a f e has h accepted =
    let P : Option (List ℕ) → Assignment → Type 0 = λ b x. IsFirstFault (order_of p) p b x 0 t f in
    faultless (order_of p) p (Some c.places) nothing_fixed 0 t f accepted.1 (subst (λ x. P (Some c.places) x) e (subst (λ b. P b a) has.1 h))
not_accepted p Nothing t bound a f e has h accepted =
    let P : Option (List ℕ) → Assignment → Type 0 = λ b x. IsFirstFault (order_of p) p b x 0 t f in
    faultless (order_of p) p None nothing_fixed 0 t f accepted (subst (λ x. P None x) e (subst (λ b. P b a) has h))

pub refused : {T E : Type 0} (r : Result T E) (y : E) (A : Type 0) → r ≡ Err y → (A → ⊥) → IsOk r ↔ A
refused (Ok x) y A e never = absurd (cc (e))
refused (Err z) y A e never = (λ t. absurd (cc (t)), λ h. absurd (never h))
