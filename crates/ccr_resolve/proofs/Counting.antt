-- How the product, the sum and the number of free jobs change where one more is fixed.
use Rattle.std.proofs.Common.{◌≡◌, ◌≢◌, ℕ, zero, suc, ◌+◌, ◌*◌, ◌<◌, ◌≤◌, Bool, true, false, cond, ◌==◌, List, [], ◌∷◌, length, replicate, slice_index, slice_index_or, slice_set, refl, sym, ap, ◌∙◌, arith}
use Rattle.std.proofs.lemmas.Bool.{eq-eqb, ne_eqb, cond-true, cond-false}
use Rattle.std.proofs.Math.Nat.{mul-le-mul_left, mul_left_comm}
use Rattle.ccr_choice.specs.Problem.{BuildValue}
use Rattle.ccr_resolve.specs.NodeBound.{product, total}
use Rattle.ccr_resolve.specs.Search.{free_product, free_sum, free_jobs}

factor : ℕ → List BuildValue → ℕ
factor n job = cond (n == 0) (1 + length job) 1

-- fixing a free job divides the product
pub product_set : (jobs : List (List BuildValue)) (box : List ℕ) (j n : ℕ) → n ≢ 0 → slice_index box j ≡ 0 → j < length jobs → j < length box → free_product jobs box ≡ (1 + length (slice_index_or jobs j [])) * free_product jobs (slice_set box j n)
product_set [] box j n ne free l m = absurd (omega arith)
product_set (job ∷ jobs) [] j n ne free l m = absurd (omega arith)
product_set (job ∷ jobs) (x ∷ box) zero n ne free l m =
    let e : (x == 0) ≡ true = eq-eqb x 0 free in
    let f : (n == 0) ≡ false = ne_eqb n 0 ne in
    let lhs : cond (x == 0) (1 + length job) 1 * free_product jobs box ≡ (1 + length job) * free_product jobs box = ap (λ t. t * free_product jobs box) (cond-true (x == 0) (1 + length job) 1 e) in
    let rhs : cond (n == 0) (1 + length job) 1 * free_product jobs box ≡ 1 * free_product jobs box = ap (λ t. t * free_product jobs box) (cond-false (n == 0) (1 + length job) 1 f) in
    let one : 1 * free_product jobs box ≡ free_product jobs box = omega arith in
    lhs ∙ ap (λ t. (1 + length job) * t) (sym (rhs ∙ one))
product_set (job ∷ jobs) (x ∷ box) (suc j) n ne free l m =
    ap (λ t. cond (x == 0) (1 + length job) 1 * t) (product_set jobs box j n ne free (omega arith) (omega arith))
    ∙ mul_left_comm (cond (x == 0) (1 + length job) 1) (1 + length (slice_index_or jobs j [])) (free_product jobs (slice_set box j n))

-- fixing it by one build or by another is the same
pub product_same : (jobs : List (List BuildValue)) (box : List ℕ) (j m n : ℕ) → m ≢ 0 → n ≢ 0 → free_product jobs (slice_set box j m) ≡ free_product jobs (slice_set box j n)
product_same [] box j m n h k = refl
product_same (job ∷ jobs) [] j m n h k = refl
product_same (job ∷ jobs) (x ∷ box) zero m n h k = ap (λ t. cond t (1 + length job) 1 * free_product jobs box) (ne_eqb m 0 h ∙ sym (ne_eqb n 0 k))
product_same (job ∷ jobs) (x ∷ box) (suc j) m n h k = ap (λ t. cond (x == 0) (1 + length job) 1 * t) (product_same jobs box j m n h k)

pub sum_set : (jobs : List (List BuildValue)) (box : List ℕ) (j n : ℕ) → n ≢ 0 → slice_index box j ≡ 0 → j < length jobs → j < length box → free_sum jobs box ≡ length (slice_index_or jobs j []) + free_sum jobs (slice_set box j n)
sum_set [] box j n ne free l m = absurd (omega arith)
sum_set (job ∷ jobs) [] j n ne free l m = absurd (omega arith)
sum_set (job ∷ jobs) (x ∷ box) zero n ne free l m =
    let e = cond-true (x == 0) (length job) 0 (eq-eqb x 0 free) in
    let f = cond-false (n == 0) (length job) 0 (ne_eqb n 0 ne) in
    omega (arith, e, f)
sum_set (job ∷ jobs) (x ∷ box) (suc j) n ne free l m = omega (arith, sum_set jobs box j n ne free (omega arith) (omega arith))

pub sum_same : (jobs : List (List BuildValue)) (box : List ℕ) (j m n : ℕ) → m ≢ 0 → n ≢ 0 → free_sum jobs (slice_set box j m) ≡ free_sum jobs (slice_set box j n)
sum_same [] box j m n h k = refl
sum_same (job ∷ jobs) [] j m n h k = refl
sum_same (job ∷ jobs) (x ∷ box) zero m n h k = ap (λ t. cond t (length job) 0 + free_sum jobs box) (ne_eqb m 0 h ∙ sym (ne_eqb n 0 k))
sum_same (job ∷ jobs) (x ∷ box) (suc j) m n h k = ap (λ t. cond (x == 0) (length job) 0 + t) (sum_same jobs box j m n h k)

above_zero : (a b : ℕ) → 1 ≤ a → 1 ≤ b → 1 ≤ a * b
above_zero a b h k = let e : a * 1 ≤ a * b = mul-le-mul_left a k in omega arith

factor_one : (t : Bool) (n : ℕ) → 1 ≤ cond t (1 + n) 1
factor_one true n = omega arith
factor_one false n = omega arith

pub product_one : (jobs : List (List BuildValue)) (box : List ℕ) → 1 ≤ free_product jobs box
product_one [] box = omega arith
product_one (job ∷ jobs) [] = above_zero (1 + length job) (free_product jobs []) (omega arith) (product_one jobs [])
product_one (job ∷ jobs) (x ∷ box) = above_zero (cond (x == 0) (1 + length job) 1) (free_product jobs box) (factor_one (x == 0) (length job)) (product_one jobs box)

pub product_empty : (jobs : List (List BuildValue)) (n : ℕ) → free_product jobs (replicate n 0) ≡ product jobs
product_empty [] n = refl
product_empty (job ∷ jobs) zero = ap (λ t. (1 + length job) * t) (product_empty jobs zero)
product_empty (job ∷ jobs) (suc n) = ap (λ t. (1 + length job) * t) (product_empty jobs n)

pub sum_empty : (jobs : List (List BuildValue)) (n : ℕ) → free_sum jobs (replicate n 0) ≡ total jobs
sum_empty [] n = refl
sum_empty (job ∷ jobs) zero = ap (λ t. length job + t) (sum_empty jobs zero)
sum_empty (job ∷ jobs) (suc n) = ap (λ t. length job + t) (sum_empty jobs n)

pub free_set : (box : List ℕ) (j n : ℕ) → n ≢ 0 → slice_index box j ≡ 0 → j < length box → free_jobs (slice_set box j n) < free_jobs box
free_set [] j n ne free l = absurd (omega arith)
free_set (x ∷ xs) zero n ne free l =
    let e = cond-true {A = ℕ} (x == 0) 1 0 (eq-eqb x 0 free) in
    let f = cond-false {A = ℕ} (n == 0) 1 0 (ne_eqb n 0 ne) in
    omega (arith, e, f)
free_set (x ∷ xs) (suc j) n ne free l = omega (arith, free_set xs j n ne free (omega arith))

pub free_empty : (n : ℕ) → free_jobs (replicate n 0) ≡ n
free_empty zero = refl
free_empty (suc n) = let e = free_empty n in omega (arith, e)
