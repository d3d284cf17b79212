-- Builds of which none dominates an earlier one's kind are no more than there are kinds.
use Rattle.std.proofs.Common.{◌≡◌, ◌≢◌, ℕ, zero, suc, ◌+◌, ◌-◌, ◌*◌, ◌<◌, ◌≤◌, inl, inr, Bool, true, false, cond, ◌&&◌, ◌==◌, List, [], ◌∷◌, length, replicate, slice_index, slice_index_or, slice_get, slice_set, refl, sym, ap, ◌∙◌, subst, arith, Some}
use Rattle.std.specs.Prelude.{Contains}
use Rattle.std.specs.List.{list_any}
use Rattle.std.proofs.lemmas.Bool.{and_parts, and_from, cases_Bool, cond-true, cond-false, eq-eqb, eqb-true, ne_eqb}
use Rattle.std.proofs.lemmas.List.{get_or_default}
use Rattle.std.proofs.lemmas.Nat.{mul-le}
use Rattle.std.proofs.Math.Nat.{mul-le-mul_left, mul_left_comm}
use Rattle.ccr_choice.specs.Problem.{ProblemValue, BuildValue}
use Rattle.ccr_choice.specs.Dominated.{IsNamedIn, IsDominated}
use Rattle.ccr_choice.proofs.Members.{contains_cases, tests_any, tests_contains, same_number}
use Rattle.ccr_index.proofs.AlikeLaws.{filter_has, has_filter}
use Rattle.ccr_resolve.specs.Kinds.{is_named_in, counting, are_equal, kinds_after, kinds_from, repeats_from, product_of}
use Rattle.ccr_resolve.specs.NodeBound.{product}
use Rattle.ccr_resolve.specs.Search.{free_kinds}

-- ---- builds with the same pairs that count dominate each other
named_test : (p : ProblemValue) (j scope : ℕ) → IsNamedIn p j scope → is_named_in p j scope ≡ true
named_test p j scope =
    (tests_any (λ i. i.scope == scope && list_any (λ m. m == j) i.jobs) (λ i. (i.scope ≡ scope) × Contains i.jobs j) p.inputs (λ i. (
      λ h. let a = and_parts (i.scope == scope) (list_any (λ m. m == j) i.jobs) h in
          (eqb-true i.scope scope a.0, (tests_contains (λ m. m == j) j i.jobs (same_number j)).0 a.1),
      λ h. and_from (i.scope == scope) (list_any (λ m. m == j) i.jobs) (eq-eqb i.scope scope h.0) ((tests_contains (λ m. m == j) j i.jobs (same_number j)).1 h.1),
    ))).1

equal_is : (xs ys : List (ℕ × ℕ)) → are_equal xs ys ≡ true → xs ≡ ys
equal_is [] [] h = refl
equal_is (x ∷ xs) (y ∷ ys) h =
    let a = and_parts (x.0 == y.0) (x.1 == y.1 && are_equal xs ys) h in
    let b = and_parts (x.1 == y.1) (are_equal xs ys) a.1 in
    let first : x.0 ≡ y.0 = eqb-true x.0 y.0 a.0 in
    let second : x.1 ≡ y.1 = eqb-true x.1 y.1 b.0 in
    ap (λ n. (n, x.1) ∷ xs) first ∙ ap (λ n. (y.0, n) ∷ xs) second ∙ ap (λ zs. y ∷ zs) (equal_is xs ys b.1)
equal_is [] (y ∷ ys) h = absurd (cc (h))
equal_is (x ∷ xs) [] h = absurd (cc (h))

equal_dominates : (p : ProblemValue) (j : ℕ) (b c : BuildValue) → are_equal (counting p j b) (counting p j c) ≡ true → IsDominated p j b c
equal_dominates p j b c h k d within named =
    let q = slice_index_or b.pairs k d in
    let test : ℕ × ℕ → Bool = λ r. is_named_in p j r.0 in
    let in_b : Contains b.pairs q = (k, within, get_or_default b.pairs k q d within) in
    let P : List (ℕ × ℕ) → Type 0 = λ xs. Contains xs q in
    (has_filter test c.pairs q (subst P (equal_is (counting p j b) (counting p j c) h) (filter_has test b.pairs q in_b (named_test p j q.0 named)))).0

-- ---- marked builds, of which none is dominated by an earlier build
abbrev pub marked : List Bool → ℕ
marked [] = 0
marked (m ∷ ms) = cond m 1 0 + marked ms

abbrev pub AreFresh : ProblemValue → ℕ → List BuildValue → List BuildValue → List Bool → Type 0
AreFresh p j before bs marks = (k : ℕ) (b : BuildValue) → slice_get marks k ≡ Some true → slice_get bs k ≡ Some b
    → ((c : BuildValue) → Contains before c → IsDominated p j b c → ⊥) × ((q : ℕ) (c : BuildValue) → q < k → slice_get bs q ≡ Some c → IsDominated p j b c → ⊥)

fresh_rest : (p : ProblemValue) (j : ℕ) (before : List BuildValue) (b : BuildValue) (bs : List BuildValue) (m : Bool) (ms : List Bool) → AreFresh p j before (b ∷ bs) (m ∷ ms) → AreFresh p j (b ∷ before) bs ms
fresh_rest p j before b bs m ms fresh = λ k x mark at.
    let so = fresh (suc k) x mark at in (
      λ c among. elim (contains_cases b c before among) [
        | inl same ↦ (let P : BuildValue → Type 0 = λ y. IsDominated p j x y → ⊥ in subst P same (so.1 0 b (omega arith) refl))
        | inr old ↦ so.0 c old
      ],
      λ q c less found. so.1 (suc q) c (omega (arith, less)) found,
    )

pub marked_kinds : (p : ProblemValue) (j : ℕ) (before bs : List BuildValue) (marks : List Bool) → length marks ≤ length bs → AreFresh p j before bs marks → marked marks ≤ kinds_after p j before bs
marked_kinds p j before [] [] few fresh = omega arith
marked_kinds p j before (b ∷ bs) [] few fresh = omega arith
marked_kinds p j before [] (m ∷ ms) few fresh = absurd (omega (arith, few))
marked_kinds p j before (b ∷ bs) (false ∷ ms) few fresh =
    let rest = marked_kinds p j (b ∷ before) bs ms (omega (arith, few)) (fresh_rest p j before b bs false ms fresh) in omega (arith, rest)
marked_kinds p j before (b ∷ bs) (true ∷ ms) few fresh =
    let rest = marked_kinds p j (b ∷ before) bs ms (omega (arith, few)) (fresh_rest p j before b bs true ms fresh) in
    let test : BuildValue → Bool = λ c. are_equal (counting p j b) (counting p j c) in
    elim (cases_Bool (list_any test before)) [
      | inl e ↦ (let found = (tests_any test (λ c. test c ≡ true) before (λ c. (λ h. h, λ h. h))).0 e in
          let so = fresh 0 b refl refl in
          absurd (so.0 found.1 (found.0, found.2, found.3) (equal_dominates p j b found.1 found.4)))
      | inr e ↦ (let new = cond-false {A = ℕ} (list_any test before) 0 1 e in omega (arith, rest, new))
    ]

-- ---- the kinds of a job
pub kinds_at : (p : ProblemValue) (jobs : List (List BuildValue)) (n j : ℕ) → j < length jobs → slice_index (kinds_from p n jobs) j ≡ kinds_after p (n + j) [] (slice_index_or jobs j [])
kinds_at p [] n j within = absurd (omega arith)
kinds_at p (job ∷ jobs) n zero within = let e : n ≡ n + 0 = omega arith in ap (λ i. kinds_after p i [] job) e
kinds_at p (job ∷ jobs) n (suc j) within =
    let e : n + 1 + j ≡ n + suc j = omega arith in
    kinds_at p jobs (n + 1) j (omega arith) ∙ ap (λ i. kinds_after p i [] (slice_index_or jobs j [])) e

pub repeats_at : (p : ProblemValue) (jobs : List (List BuildValue)) (n j : ℕ) → j < length jobs
    → length (slice_index_or jobs j []) ≤ slice_index (kinds_from p n jobs) j + repeats_from p n jobs
repeats_at p [] n j within = absurd (omega arith)
repeats_at p (job ∷ jobs) n zero within = omega arith
repeats_at p (job ∷ jobs) n (suc j) within = let rest = repeats_at p jobs (n + 1) j (omega arith) in omega (arith, rest)

pub length-kinds : (p : ProblemValue) (jobs : List (List BuildValue)) (n : ℕ) → length (kinds_from p n jobs) ≡ length jobs
length-kinds p [] n = refl
length-kinds p (job ∷ jobs) n = ap suc (length-kinds p jobs (n + 1))

-- ---- the product over the free jobs
pub kinds_set : (ks box : List ℕ) (j n : ℕ) → n ≢ 0 → slice_index box j ≡ 0 → j < length ks → j < length box → free_kinds ks box ≡ (1 + slice_index ks j) * free_kinds ks (slice_set box j n)
kinds_set [] box j n ne free l m = absurd (omega arith)
kinds_set (k ∷ ks) [] j n ne free l m = absurd (omega arith)
kinds_set (k ∷ ks) (x ∷ box) zero n ne free l m =
    let lhs : cond (x == 0) (1 + k) 1 * free_kinds ks box ≡ (1 + k) * free_kinds ks box = ap (λ t. t * free_kinds ks box) (cond-true (x == 0) (1 + k) 1 (eq-eqb x 0 free)) in
    let rhs : cond (n == 0) (1 + k) 1 * free_kinds ks box ≡ 1 * free_kinds ks box = ap (λ t. t * free_kinds ks box) (cond-false (n == 0) (1 + k) 1 (ne_eqb n 0 ne)) in
    let one : 1 * free_kinds ks box ≡ free_kinds ks box = omega arith in
    lhs ∙ ap (λ t. (1 + k) * t) (sym (rhs ∙ one))
kinds_set (k ∷ ks) (x ∷ box) (suc j) n ne free l m =
    ap (λ t. cond (x == 0) (1 + k) 1 * t) (kinds_set ks box j n ne free (omega arith) (omega arith))
    ∙ mul_left_comm (cond (x == 0) (1 + k) 1) (1 + slice_index ks j) (free_kinds ks (slice_set box j n))

pub kinds_same : (ks box : List ℕ) (j m n : ℕ) → m ≢ 0 → n ≢ 0 → free_kinds ks (slice_set box j m) ≡ free_kinds ks (slice_set box j n)
kinds_same [] box j m n h k = refl
kinds_same (x ∷ ks) [] j m n h k = refl
kinds_same (x ∷ ks) (y ∷ box) zero m n h k = ap (λ t. cond t (1 + x) 1 * free_kinds ks box) (ne_eqb m 0 h ∙ sym (ne_eqb n 0 k))
kinds_same (x ∷ ks) (y ∷ box) (suc j) m n h k = ap (λ t. cond (y == 0) (1 + x) 1 * t) (kinds_same ks box j m n h k)

above_zero : (a b : ℕ) → 1 ≤ a → 1 ≤ b → 1 ≤ a * b
above_zero a b h k = let e : a * 1 ≤ a * b = mul-le-mul_left a k in omega arith

factor_one : (t : Bool) (n : ℕ) → 1 ≤ cond t (1 + n) 1
factor_one true n = omega arith
factor_one false n = omega arith

pub kinds_one : (ks box : List ℕ) → 1 ≤ free_kinds ks box
kinds_one [] box = omega arith
kinds_one (k ∷ ks) [] = above_zero (1 + k) (free_kinds ks []) (omega arith) (kinds_one ks [])
kinds_one (k ∷ ks) (x ∷ box) = above_zero (cond (x == 0) (1 + k) 1) (free_kinds ks box) (factor_one (x == 0) k) (kinds_one ks box)

pub kinds_empty : (ks : List ℕ) (n : ℕ) → free_kinds ks (replicate n 0) ≡ product_of ks
kinds_empty [] n = refl
kinds_empty (k ∷ ks) zero = ap (λ t. (1 + k) * t) (kinds_empty ks zero)
kinds_empty (k ∷ ks) (suc n) = ap (λ t. (1 + k) * t) (kinds_empty ks n)

-- ---- numbers
-- of k children, own are gone into, of at most d kinds; each of these needs B nodes at the most, each other one
pub kinds_whole : (k m own d most B : ℕ) → own ≤ d → k ≤ d + most → 1 + most ≤ B → m + own ≤ k + own * B → 1 + m ≤ (1 + d) * B
kinds_whole k m own d most B few wide one used =
    let e = d - own in
    let is : own + e ≡ d = omega (arith, few) in
    let up : e * 1 ≤ e * B = mul-le-mul_left e (omega (arith, one)) in
    let split : (own + e) * B ≡ own * B + e * B = omega arith in
    let same : (own + e) * B ≡ d * B = ap (λ n. n * B) is in
    let last : (1 + d) * B ≡ B + d * B = omega arith in
    omega (arith, used, wide, one, up, split, same, last, is)

pub kinds_more : (k m n own B : ℕ) → m + own ≤ k + own * B → n ≤ B → m + n + (own + 1) ≤ (k + 1) + (own + 1) * B
kinds_more k m n own B h l = let e : (own + 1) * B ≡ own * B + B = omega arith in omega (arith, h, l, e)

-- ---- kinds are no more than builds
kinds_length : (p : ProblemValue) (j : ℕ) (before bs : List BuildValue) → kinds_after p j before bs ≤ length bs
kinds_length p j before [] = omega arith
kinds_length p j before (b ∷ bs) =
    let rest = kinds_length p j (b ∷ before) bs in
    let test = list_any (λ c. are_equal (counting p j b) (counting p j c)) before in
    elim (cases_Bool test) [
      | inl e ↦ (let old = cond-true {A = ℕ} test 0 1 e in omega (arith, rest, old))
      | inr e ↦ (let new = cond-false {A = ℕ} test 0 1 e in omega (arith, rest, new))
    ]

pub kinds_few : (p : ProblemValue) (jobs : List (List BuildValue)) (n : ℕ) → product_of (kinds_from p n jobs) ≤ product jobs
kinds_few p [] n = omega arith
kinds_few p (job ∷ jobs) n =
    let k = kinds_after p n [] job in
    mul-le (1 + k) (product_of (kinds_from p (n + 1) jobs)) (1 + length job) (product jobs) (let few = kinds_length p n [] job in omega (arith, few)) (kinds_few p jobs (n + 1))

-- the kinds of job j
pub kinds_here : (p : ProblemValue) (j : ℕ) → j < length p.jobs → slice_index (kinds_from p 0 p.jobs) j ≡ kinds_after p j [] (slice_index_or p.jobs j [])
kinds_here p j inside = let here : 0 + j ≡ j = omega arith in kinds_at p p.jobs 0 j inside ∙ ap (λ i. kinds_after p i [] (slice_index_or p.jobs j [])) here
