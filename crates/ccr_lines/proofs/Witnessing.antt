-- A choice of places with their witnesses satisfies the problem.
use Rattle.std.proofs.Common.{◌≡◌, inl, inr, ℕ, zero, suc, ◌<◌, List, [], ◌∷◌, length, slice_index, slice_index_or, Bool, true, false, not, ◌==◌, ◌↔◌, cond, Some, option_map, refl, sym, ap, ◌∙◌, arith}
use Rattle.std.specs.Prelude.{find, Any, Contains}
use Rattle.std.specs.List.{list_any}
use Rattle.std.proofs.lemmas.Bool.{and_parts, and_from, or_cases, both_ways, not-true, eqb-true, eq-eqb, cases_Bool, false_from_ne_true, false≢true}
use Rattle.std.proofs.lemmas.List.Folds.{Any-from_list_any, list_any-from_Any}
use Rattle.std.proofs.lemmas.List.{get_or_default}
use Rattle.ccr_choice.specs.Problem.{InputValue, BuildValue, ProblemValue, input_at, builds_at, no_input, is_problem}
use Rattle.ccr_choice.specs.Satisfies.{Moved, Satisfies, IsAllowed, IsSuccessful, HasPassed, HasPassedAll}
use Rattle.ccr_choice.proofs.Members.{any_first, any_later, any_more, tests_contains, same_number}
use Rattle.ccr_choice.proofs.Numbering.{named_below}
use Rattle.ccr_lines.specs.Releases.{is_pair}
use Rattle.ccr_lines.specs.Witnesses.{names_job, passed_together, AreWitnesses}

-- ---- the first that passes
-- an element with this number, which passes the test
abbrev Passes : (BuildValue → Bool) → ℕ → BuildValue → Type 0
Passes test n b = (b.number ≡ n) × (test b ≡ true)

found_by : (test : BuildValue → Bool) (b : BuildValue) (bs : List BuildValue) (n : ℕ) (is : Bool) → test b ≡ is
    → option_map (λ x. x.number) (cond is (Some b) (find test bs)) ≡ Some n
    → (option_map (λ x. x.number) (find test bs) ≡ Some n → Any (Passes test n) bs) → Any (Passes test n) (b ∷ bs)
found_by test b bs n true passes e rest = let same : b.number ≡ n = cc (e) in any_first (Passes test n) b bs (same, passes)
found_by test b bs n false passes e rest = any_later (Passes test n) b bs (rest e)

found : (test : BuildValue → Bool) (bs : List BuildValue) (n : ℕ) → option_map (λ x. x.number) (find test bs) ≡ Some n
    → Any (Passes test n) bs
found test [] n e = absurd (cc (e))
found test (b ∷ bs) n e = found_by test b bs n (test b) refl e (found test bs n)

-- ---- what passed together
-- the place of an input that names the job passed with the build
passed_at : (j : ℕ) (xs : List InputValue) (ns : List ℕ) (b : BuildValue) (i : ℕ) → passed_together j xs ns b ≡ true
    → i < length xs → length ns ≡ length xs → names_job j (slice_index_or xs i no_input) ≡ true
    → list_any (is_pair ((slice_index_or xs i no_input).scope, slice_index ns i)) b.pairs ≡ true
passed_at j [] ns b i h within same named = absurd (omega arith)
passed_at j (x ∷ xs) [] b i h within same named = absurd (omega arith)
passed_at j (x ∷ xs) (n ∷ ns) b zero h within same named =
    elim (or_cases (not (names_job j x)) (list_any (is_pair (x.scope, n)) b.pairs) (and_parts _ _ h).0) [
      | inl unnamed ↦ absurd (both_ways (names_job j x) (not-true (names_job j x) unnamed) named)
      | inr had ↦ had
    ]
passed_at j (x ∷ xs) (n ∷ ns) b (suc i) h within same named =
    passed_at j xs ns b i (and_parts _ _ h).1 (omega arith) (omega arith) named

same_pair : (p q : ℕ × ℕ) → (is_pair p q ≡ true) ↔ (q ≡ p)
same_pair p q = (
  λ h. let parts = and_parts (p.0 == q.0) (p.1 == q.1) h in
      let first : q.0 ≡ p.0 = sym (eqb-true p.0 q.0 parts.0) in
      let second : q.1 ≡ p.1 = sym (eqb-true p.1 q.1 parts.1) in
      ap (λ x. (x, q.1)) first ∙ ap (λ y. (p.0, y)) second,
  λ h. and_from (p.0 == q.0) (p.1 == q.1) (eq-eqb p.0 q.0 (ap (λ r. r.0) (sym h))) (eq-eqb p.1 q.1 (ap (λ r. r.1) (sym h))),
)

contains_pair : (p : ℕ × ℕ) (ps : List (ℕ × ℕ)) → list_any (is_pair p) ps ≡ true → Contains ps p
contains_pair p ps h = (tests_contains (is_pair p) p ps (λ q. same_pair p q)).0 h

-- what says whether some build has the pair is the test that looks for it
pub moved_test : (p : ℕ × ℕ) (bs : List BuildValue) (is : Bool) → ((is ≡ true) ↔ Any (λ b. Contains b.pairs p) bs)
    → is ≡ list_any (λ b. list_any (is_pair p) b.pairs) bs
moved_test p bs is decides =
    let test : BuildValue → Bool = λ b. list_any (is_pair p) b.pairs in
    let Has : BuildValue → Type 0 = λ b. Contains b.pairs p in
    let Passing : BuildValue → Type 0 = λ b. test b ≡ true in
    elim (cases_Bool (list_any test bs)) [
      | inl holds ↦ decides.1 (any_more Passing Has bs (λ b h. contains_pair p b.pairs h) (Any-from_list_any test bs holds)) ∙ sym holds
      | inr fails ↦ false_from_ne_true is (λ h. false≢true (sym fails
          ∙ list_any-from_Any test bs (any_more Has Passing bs (λ b has. (tests_contains (is_pair p) p b.pairs (λ q. same_pair p q)).1 has) (decides.0 h)))) ∙ sym fails
    ]

named_at : (x : InputValue) (k : ℕ) → k < length x.jobs → names_job (slice_index x.jobs k) x ≡ true
named_at x k within =
    let j : ℕ = slice_index x.jobs k in
    (tests_contains (λ n. n == j) j x.jobs (λ n. same_number j n)).1 (k, within, get_or_default x.jobs k j 0 within)

-- ---- a choice
module _ (q : ProblemValue) (places builds : List ℕ) (is : is_problem q ≡ true) (same : length places ≡ length q.inputs)
    (are : AreWitnesses q places builds) where
  -- the witness of a job
  one : (j : ℕ) → j < length q.jobs → Any (Passes (passed_together j q.inputs places) (slice_index builds j)) (builds_at q j)
  one j within = found (passed_together j q.inputs places) (builds_at q j) (slice_index builds j) (are.witness j within)

  successful : (j : ℕ) → j < length q.jobs → IsSuccessful q builds j
  unfolding IsSuccessful
  successful j within =
      any_more (Passes (passed_together j q.inputs places) (slice_index builds j)) (λ b. b.number ≡ slice_index builds j)
      (builds_at q j) (λ b h. h.0) (one j within)

  moved : (i j : ℕ) → i < length q.inputs → j < length q.jobs → names_job j (input_at q i) ≡ true
      → Moved (builds_at q j) (slice_index builds j) ((input_at q i).scope, slice_index places i)
  moved i j within below named =
      let pair : ℕ × ℕ = ((input_at q i).scope, slice_index places i) in
      any_more (Passes (passed_together j q.inputs places) (slice_index builds j))
      (λ b. (b.number ≡ slice_index builds j) × Contains b.pairs pair) (builds_at q j)
      (λ b h. (h.0, contains_pair pair b.pairs (passed_at j q.inputs places b i h.1 within same named))) (one j below)

  has_passed : (i j : ℕ) → i < length q.inputs → j < length q.jobs → names_job j (input_at q i) ≡ true
      → HasPassed q places builds i j
  unfolding HasPassed
  has_passed i j within below named = moved i j within below named

  has_passed_all : (i : ℕ) → i < length q.inputs → HasPassedAll q places builds i
  unfolding HasPassedAll
  has_passed_all i within = λ k inside.
      has_passed i (slice_index (input_at q i).jobs k) within (named_below q is i k within inside)
      (named_at (input_at q i) k inside)

  -- it satisfies, where its places are allowed
  pub satisfied : ((i : ℕ) → i < length q.inputs → IsAllowed q places i) → Satisfies q places builds
  satisfied allowed = record {
    lengths = record { place_each = same; build_each = are.each };
    allowed = allowed;
    successful = successful;
    passed = has_passed_all;
  }
