-- Inputs with fewer places: whatever suits the inputs suits them, and such a choice satisfies the problem of them.
use Rattle.std.proofs.Common.{◌≡◌, ℕ, zero, suc, ◌+◌, ◌<◌, ◌≤◌, inl, inr, Bool, true, false, not, nat_lt, ◌==◌, ◌&&◌, ◌||◌, cond, List, [], ◌∷◌, length, map, take, slice_index, slice_index_or, slice_set, refl, sym, ap, ◌∙◌, subst, arith}
use Rattle.std.specs.Prelude.{Result, Ok, Err, IfOk, Option, All, Contains, EachIndex, filter}
use Rattle.std.specs.List.{list_any, list_all}
use Rattle.std.proofs.lemmas.Bool.{cases_Bool, cond-true, cond-false, and_parts, and_from, or_left, or_right, not_from_false, eq-eqb, eqb-true, ne_eqb}
use Rattle.std.proofs.lemmas.List.Recursion.{and_from_places}
use Rattle.std.proofs.lemmas.List.Elements.{All-nil, All-cons, All-head, All-tail, All-contains, All-get_or, All-from_get_or, All-map, All-more, All-weaker, filter_agree}
use Rattle.std.proofs.lemmas.List.Kept.{AllPairs-filter}
use Rattle.std.proofs.lemmas.List.{get_or_default}
use Rattle.ccr_choice.specs.Problem.{ProblemValue, InputValue, BuildValue, no_input, builds_at, is_problem}
use Rattle.ccr_choice.specs.Satisfies.{Satisfies, Moved, IsAllowed, HasPassed}
use Rattle.ccr_choice.specs.Ascending.{AreRising}
use Rattle.ccr_choice.proofs.Members.{any_of, contains_none}
use Rattle.ccr_choice.proofs.Numbering.{named_below}
use Rattle.ccr_choice.proofs.Exchange.{build_at}
use Rattle.ccr_choice.specs.Optimal.{HasNoChoice}
use Rattle.ccr_explain.specs.declared.demand.Demand.{Demand}
use Rattle.ccr_explain.specs.Cut.{has_place_of, names, is_of_use, builds_from, problem_with, build_in, IsTop, AreThose, SuitsInputs, IsNarrowed, IsEnough, IsInputNarrowed, AreMarked}
use Rattle.ccr_explain.specs.WhyNot.{narrowed_from}
use Rattle.ccr_explain.proofs.Lists.{any_contained, contains_filter, from_filter}
use Rattle.ccr_explain.proofs.Orders.{has_it, it_has}
use Rattle.ccr_explain.proofs.DemandLaws.{passed_of, passed_each, passed_successful, named_by}
use Rattle.ccr_explain.proofs.CutRules.{length_builds}
use Rattle.ccr_explain.proofs.WhyLaws.{narrowed_at, length_narrowed}

-- ---- places that pass two tests
filter_twice : {X : Type 0} (f g : X → Bool) (xs : List X) → filter g (filter f xs) ≡ filter (λ x. f x && g x) xs
filter_twice f g [] = refl
filter_twice f g (x ∷ xs) =
    let rest = filter_twice f g xs in
    elim (cases_Bool (f x)) [
      | inl holds ↦ ap (filter g) (cond-true (f x) (x ∷ filter f xs) (filter f xs) holds)
          ∙ ap (λ ys. cond (g x) (x ∷ ys) ys) rest
          ∙ ap (λ b. cond (b && g x) (x ∷ filter (λ y. f y && g y) xs) (filter (λ y. f y && g y) xs)) (sym holds)
      | inr fails ↦ ap (filter g) (cond-false (f x) (x ∷ filter f xs) (filter f xs) fails) ∙ rest
          ∙ ap (λ b. cond (b && g x) (x ∷ filter (λ y. f y && g y) xs) (filter (λ y. f y && g y) xs)) (sym fails)
    ]

-- the first test changes nothing, where all that pass the second pass it
pub filter_within : {X : Type 0} (f g : X → Bool) → ((x : X) → g x ≡ true → f x ≡ true) → (xs : List X) → filter g (filter f xs) ≡ filter g xs
filter_within f g within xs =
    filter_twice f g xs ∙ filter_agree (λ x. f x && g x) g (λ x. elim (cases_Bool (g x)) [
      | inl holds ↦ and_from _ _ (within x holds) holds ∙ sym holds
      | inr fails ↦ ap (λ b. f x && b) fails ∙ and_false (f x) ∙ sym fails
    ]) xs
  where
    and_false : (b : Bool) → (b && false) ≡ false
    and_false true = refl
    and_false false = refl

filter_all : (xs : List ℕ) → filter (λ x. true) xs ≡ xs
filter_all [] = refl
filter_all (x ∷ xs) = ap (λ ys. x ∷ ys) (filter_all xs)

and_true : (b : Bool) → b ≡ (b && true)
and_true true = refl
and_true false = refl

-- where an input has no place left, there is no choice
pub none_left : (ds : List Demand) (p : ProblemValue) (ys : List InputValue) (i : ℕ) → i < length ys → (slice_index_or ys i no_input).places ≡ [] → HasNoChoice (problem_with ds p ys)
unfolding problem_with IsAllowed
none_left ds p ys i within empty places builds s =
    let P : List ℕ → Type 0 = λ ps. Contains ps (slice_index places i) in
    contains_none (slice_index places i) (subst P empty (s.allowed i within))

-- ---- inputs with fewer places
narrowed_same : (f g : ℕ → ℕ → Bool) (n : ℕ) (xs : List InputValue) → ((k y : ℕ) → n ≤ k → f k y ≡ g k y) → narrowed_from f n xs ≡ narrowed_from g n xs
narrowed_same f g n [] same = refl
narrowed_same f g n (x ∷ xs) same =
    ap (λ ps. record x { places = ps } ∷ narrowed_from f (n + 1) xs) (filter_agree (f n) (g n) (λ y. same n y (omega arith)) x.places)
    ∙ ap (λ ys. record x { places = filter (g n) x.places } ∷ ys) (narrowed_same f g (n + 1) xs (λ k y more. same k y (omega arith)))

narrowed_none : (n : ℕ) (xs : List InputValue) → narrowed_from (λ k y. true) n xs ≡ xs
narrowed_none n [] = refl
narrowed_none n (x ∷ xs) =
    ap (λ ps. record x { places = ps } ∷ narrowed_from (λ k y. true) (n + 1) xs) (filter_all x.places) ∙ ap (λ ys. x ∷ ys) (narrowed_none (n + 1) xs)

narrowed_both : (f g : ℕ → ℕ → Bool) (n : ℕ) (xs : List InputValue) → narrowed_from g n (narrowed_from f n xs) ≡ narrowed_from (λ k y. f k y && g k y) n xs
narrowed_both f g n [] = refl
narrowed_both f g n (x ∷ xs) =
    ap (λ ps. record x { places = ps } ∷ narrowed_from g (n + 1) (narrowed_from f (n + 1) xs)) (filter_twice (f n) (g n) x.places)
    ∙ ap (λ ys. record x { places = filter (λ y. f n y && g n y) x.places } ∷ ys) (narrowed_both f g (n + 1) xs)

-- input m has to pass a test besides
abbrev also : (ℕ → ℕ → Bool) → ℕ → (ℕ → Bool) → ℕ → ℕ → Bool
also may m test k y = may k y && cond (k == m) (test y) true

narrowed_one : (may : ℕ → ℕ → Bool) (test : ℕ → Bool) (n i m : ℕ) (xs : List InputValue) → n + i ≡ m → i < length xs
    → slice_set (narrowed_from may n xs) i (record (slice_index_or (narrowed_from may n xs) i no_input) { places = filter test (slice_index_or (narrowed_from may n xs) i no_input).places })
    ≡ narrowed_from (also may m test) n xs
narrowed_one may test n i m [] e within = absurd (omega arith)
narrowed_one may test n zero m (x ∷ xs) e within =
    let same : n ≡ m = omega arith in
    let here : filter test (filter (may n) x.places) ≡ filter (also may m test n) x.places =
    filter_twice (may n) test x.places ∙ filter_agree (λ y. may n y && test y) (also may m test n)
    (λ y. ap (λ b. may n y && b) (sym (cond-true (n == m) (test y) true (eq-eqb n m same)))) x.places in
    let rest = narrowed_same may (also may m test) (n + 1) xs (λ k y more. and_true (may k y)
    ∙ ap (λ b. may k y && b) (sym (cond-false (k == m) (test y) true (ne_eqb k m (λ e. omega arith))))) in
    ap (λ ps. record x { places = ps } ∷ narrowed_from may (n + 1) xs) here
    ∙ ap (λ ys. record x { places = filter (also may m test n) x.places } ∷ ys) rest
narrowed_one may test n (suc i) m (x ∷ xs) e within =
    let here = filter_agree (may n) (also may m test n) (λ y. and_true (may n y)
    ∙ ap (λ b. may n y && b) (sym (cond-false (n == m) (test y) true (ne_eqb n m (λ f. omega (arith, e, f)))))) x.places in
    ap (λ ys. record x { places = filter (may n) x.places } ∷ ys) (narrowed_one may test (n + 1) i m xs (omega arith) (omega arith))
    ∙ ap (λ ps. record x { places = ps } ∷ narrowed_from (also may m test) (n + 1) xs) here

rises_from : (may : ℕ → ℕ → Bool) (n : ℕ) (xs : List InputValue) → All (λ x. AreRising x.places) xs → All (λ x. AreRising x.places) (narrowed_from may n xs)
rises_from may n [] all = All-nil (λ x. AreRising x.places)
rises_from may n (x ∷ xs) all =
    All-cons (λ y. AreRising y.places) (record x { places = filter (may n) x.places }) (narrowed_from may (n + 1) xs)
    (AllPairs-filter (λ a b. nat_lt a b ≡ true) (may n) x.places (All-head (λ y. AreRising y.places) x xs all))
    (rises_from may (n + 1) xs (All-tail (λ y. AreRising y.places) x xs all))

pub narrowed_first : (p : ProblemValue) (order : List ℕ) (xs : List InputValue) → IsNarrowed p order xs xs
narrowed_first p order xs = record { may = λ k y. true; is = sym (narrowed_none 0 xs); keeps = λ places builds s i within. refl }

module _ (p : ProblemValue) (order : List ℕ) (xs ys : List InputValue) (h : IsNarrowed p order xs ys) where
  pub narrowed_long : length ys ≡ length xs
  narrowed_long = ap length h.is ∙ length_narrowed h.may 0 xs

  pub narrowed_input : (i : ℕ) → i < length xs
      → slice_index_or ys i no_input ≡ record (slice_index_or xs i no_input) { places = filter (h.may i) (slice_index_or xs i no_input).places }
  narrowed_input i within = ap (λ zs. slice_index_or zs i no_input) h.is ∙ narrowed_at h.may 0 i i xs (omega arith) within

  pub rises_too : All (λ x. AreRising x.places) xs → All (λ x. AreRising x.places) ys
  rises_too all = let P : List InputValue → Type 0 = λ zs. All (λ x. AreRising x.places) zs in subst P (sym h.is) (rises_from h.may 0 xs all)

  pub suits_fewer : (places builds : List ℕ) → SuitsInputs p order xs places builds → SuitsInputs p order ys places builds
  suits_fewer places builds s = record {
    allowed = λ i within. (let inside : i < length xs = omega (arith, within, narrowed_long) in
        let P : InputValue → Type 0 = λ x. Contains x.places (slice_index places i) in
        subst P (sym (narrowed_input i inside)) (contains_filter (h.may i) (slice_index places i) (slice_index_or xs i no_input).places (s.allowed i inside) (h.keeps places builds s i inside)));
    passed = λ i n within. (let inside : i < length xs = omega (arith, within, narrowed_long) in
        let P : InputValue → Type 0 = λ x. Contains x.jobs n → Moved (builds_at p (slice_index order n)) (slice_index builds n) (x.scope, slice_index places i) in
        subst P (sym (narrowed_input i inside)) (s.passed i n inside));
  }

  pub suits_more : (places builds : List ℕ) → SuitsInputs p order ys places builds → SuitsInputs p order xs places builds
  suits_more places builds s = record {
    allowed = λ i within. (let inside : i < length ys = omega (arith, within, narrowed_long) in
        let P : InputValue → Type 0 = λ x. Contains x.places (slice_index places i) in
        (from_filter (h.may i) (slice_index places i) (slice_index_or xs i no_input).places (subst P (narrowed_input i within) (s.allowed i inside))).0);
    passed = λ i n within. (let inside : i < length ys = omega (arith, within, narrowed_long) in
        let P : InputValue → Type 0 = λ x. Contains x.jobs n → Moved (builds_at p (slice_index order n)) (slice_index builds n) (x.scope, slice_index places i) in
        subst P (narrowed_input i within) (s.passed i n inside));
  }

pub narrowed_twice : (p : ProblemValue) (order : List ℕ) (xs ys zs : List InputValue) → IsNarrowed p order xs ys → IsNarrowed p order ys zs → IsNarrowed p order xs zs
narrowed_twice p order xs ys zs h g = record {
  may = λ k y. h.may k y && g.may k y;
  is = g.is ∙ ap (narrowed_from g.may 0) h.is ∙ narrowed_both h.may g.may 0 xs;
  keeps = λ places builds s i within. and_from _ _ (h.keeps places builds s i within)
      (g.keeps places builds (suits_fewer p order xs ys h places builds s) i (omega (arith, within, narrowed_long p order xs ys h)));
}

pub ok_weaker : {X E : Type 0} (P Q : X → Type 0) (r : Result X E) → ((x : X) → P x → Q x) → IfOk r P → IfOk r Q
ok_weaker P Q (Ok x) weaker h = weaker x h
ok_weaker P Q (Err e) weaker h = h

-- ---- builds of use
all_true : (test : InputValue → Bool) (xs : List InputValue) → ((i : ℕ) → i < length xs → test (slice_index_or xs i no_input) ≡ true) → list_all test xs ≡ true
all_true test xs each = and_from_places (list_all test) test refl (λ x ys. refl) xs no_input each

-- what some builds moved, all of them did
moved_filter : (test : BuildValue → Bool) (bs : List BuildValue) (number : ℕ) (pair : ℕ × ℕ) → Moved (filter test bs) number pair → Moved bs number pair
moved_filter test bs number pair (k, b, within, at, both) =
    any_of (λ c. (c.number ≡ number) × Contains c.pairs pair) b bs (from_filter test b bs (k, within, at)).0 both

builds_from_at : (p : ProblemValue) (xs : List InputValue) (n i m : ℕ) (order : List ℕ) → n + i ≡ m → i < length order
    → slice_index_or (builds_from p xs n order) i [] ≡ filter (is_of_use xs m) (builds_at p (slice_index order i))
builds_from_at p xs n i m [] e within = absurd (omega arith)
builds_from_at p xs n zero m (j ∷ order) e within =
    let same : n ≡ m = omega arith in ap (λ k. filter (is_of_use xs k) (builds_at p j)) same
builds_from_at p xs n (suc i) m (j ∷ order) e within = builds_from_at p xs (n + 1) i m order (omega arith) (omega arith)

-- what is of use to inputs with fewer places is of use to all
any_wider : {X : Type 0} (f g : X → Bool) → ((x : X) → f x ≡ true → g x ≡ true) → (xs : List X) → list_any f xs ≡ true → list_any g xs ≡ true
any_wider f g wider [] h = h
any_wider f g wider (x ∷ xs) h =
    elim (cases_Bool (f x)) [
      | inl holds ↦ or_left (g x) (list_any g xs) (wider x holds)
      | inr fails ↦ or_right (g x) (list_any g xs) (any_wider f g wider xs (sym (ap (λ b. b || list_any f xs) fails) ∙ h))
    ]

use_wider : (may : ℕ → ℕ → Bool) (k : ℕ) (xs : List InputValue) (n : ℕ) (b : BuildValue) → is_of_use (narrowed_from may k xs) n b ≡ true → is_of_use xs n b ≡ true
use_wider may k [] n b h = h
use_wider may k (x ∷ xs) n b h =
    let fewer : InputValue = record x { places = filter (may k) x.places } in
    let parts = and_parts (not (names n x) || has_place_of fewer b.pairs) (is_of_use (narrowed_from may (k + 1) xs) n b) h in
    and_from (not (names n x) || has_place_of x b.pairs) (is_of_use xs n b)
    (elim (cases_Bool (names n x)) [
      | inr fails ↦ or_left (not (names n x)) (has_place_of x b.pairs) (not_from_false (names n x) fails)
      | inl holds ↦ or_right (not (names n x)) (has_place_of x b.pairs)
          (any_wider (λ r. r.0 == x.scope && list_any (λ y. y == r.1) fewer.places) (λ r. r.0 == x.scope && list_any (λ y. y == r.1) x.places)
          (λ r both. (let inner = and_parts (r.0 == x.scope) (list_any (λ y. y == r.1) fewer.places) both in
          and_from (r.0 == x.scope) (list_any (λ y. y == r.1) x.places) inner.0
          (it_has x.places r.1 (from_filter (may k) r.1 x.places (has_it fewer.places r.1 inner.1)).0)))
          b.pairs (sym (ap (λ t. not t || has_place_of fewer b.pairs) holds) ∙ parts.0))
    ])
    (use_wider may (k + 1) xs n b parts.1)

-- what was enough is enough where fewer places are left
pub enough_narrowed : (p : ProblemValue) (order : List ℕ) (xs ys : List InputValue) (n : ℕ) (ks : List ℕ) → IsNarrowed p order xs ys → IsEnough p order xs n ks → IsEnough p order ys n ks
enough_narrowed p order xs ys n ks h enough =
    let f = is_of_use xs n in
    let g = is_of_use ys n in
    let all = builds_at p (slice_index order n) in
    let within : (b : BuildValue) → g b ≡ true → f b ≡ true = λ b use_of. use_wider h.may 0 xs n b (ap (λ zs. is_of_use zs n b) (sym h.is) ∙ use_of) in
    record {
      within = enough.within;
      all = sym (filter_within f g within (map (build_in all) ks)) ∙ ap (filter g) enough.all ∙ filter_within f g within all;
    }

pub enough_first : (p : ProblemValue) (order : List ℕ) (xs : List InputValue) (n : ℕ) (ks : List ℕ)
    → AreThose (is_of_use xs n) (builds_at p (slice_index order n)) (builds_at p (slice_index order n)) ks → IsEnough p order xs n ks
enough_first p order xs n ks h =
    let f = is_of_use xs n in
    record { within = h.within; all = ap (filter f) h.are ∙ filter_within f f (λ b holds. holds) (builds_at p (slice_index order n)) }

module _ (p : ProblemValue) (rules : is_problem p ≡ true) (order : List ℕ) (known : All (λ j. j < length p.jobs) order) (xs : List InputValue) where
  -- the build that suits the inputs is of use to them
  module _ (places builds : List ℕ) (s : SuitsInputs p order xs places builds) where
    has_it_too : (x : InputValue) (place n : ℕ) (b : BuildValue) → n < length order → Contains (builds_at p (slice_index order n)) b → b.number ≡ slice_index builds n
        → Moved (builds_at p (slice_index order n)) (slice_index builds n) (x.scope, place) → list_any (λ y. y == place) x.places ≡ true → has_place_of x b.pairs ≡ true
    has_it_too x place n b inside among number (k, c, there, at, both) fine =
        let here = All-get_or (λ j. j < length p.jobs) order n 0 inside known in
        let same : c ≡ b = build_at p rules (slice_index order n) c b here (k, there, at) among (both.0 ∙ sym number) in
        let P : BuildValue → Type 0 = λ d. Contains d.pairs (x.scope, place) in
        any_contained (λ r. r.0 == x.scope && list_any (λ y. y == r.1) x.places) (x.scope, place) b.pairs (subst P same both.1)
        (and_from _ _ (eq-eqb x.scope x.scope refl) fine)

    pub of_use : (n : ℕ) (b : BuildValue) → n < length order → Contains (builds_at p (slice_index order n)) b → b.number ≡ slice_index builds n → is_of_use xs n b ≡ true
    of_use n b inside among number =
        all_true (λ x. not (list_any (λ m. m == n) x.jobs) || has_place_of x b.pairs) xs (λ i within. (let x = slice_index_or xs i no_input in
        let named = list_any (λ m. m == n) x.jobs in
        elim (cases_Bool named) [
          | inr fails ↦ or_left (not named) (has_place_of x b.pairs) (not_from_false named fails)
          | inl holds ↦ or_right (not named) (has_place_of x b.pairs)
              (has_it_too x (slice_index places i) n b inside among number (s.passed i n within (has_it x.jobs n holds)) (it_has x.places (slice_index places i) (s.allowed i within)))
        ]))

    pub moved_useful : (n : ℕ) (pair : ℕ × ℕ) → n < length order → Moved (builds_at p (slice_index order n)) (slice_index builds n) pair
        → Moved (filter (is_of_use xs n) (builds_at p (slice_index order n))) (slice_index builds n) pair
    moved_useful n pair inside (k, b, within, at, both) =
        any_of (λ c. (c.number ≡ slice_index builds n) × Contains c.pairs pair) b (filter (is_of_use xs n) (builds_at p (slice_index order n)))
        (contains_filter (is_of_use xs n) b (builds_at p (slice_index order n)) (k, within, at) (of_use n b inside (k, within, at) both.0)) both

  -- ---- the problem of the inputs
  abbrev q : ProblemValue
  q = record { inputs = xs; jobs = builds_from p xs 0 order }

  builds_there : (n : ℕ) → n < length order → builds_at q n ≡ filter (is_of_use xs n) (builds_at p (slice_index order n))
  builds_there n within = builds_from_at p xs 0 n n order (omega arith) within

  module _ (kept : is_problem q ≡ true) where
    named_inside : (i n : ℕ) → i < length xs → Contains (slice_index_or xs i no_input).jobs n → n < length order
    named_inside i n within (k, below, at) =
        let jobs = (slice_index_or xs i no_input).jobs in
        let low = named_below q kept i k within below in
        let e : slice_index jobs k ≡ n = get_or_default jobs k 0 n below ∙ at in
        omega (arith, low, e, length_builds p xs 0 order)

    pub suits : (places builds : List ℕ) → Satisfies q places builds → SuitsInputs p order xs places builds
    unfolding IsAllowed HasPassed
    suits places builds s = record {
      allowed = s.allowed;
      passed = λ i n within named. (let pair : ℕ × ℕ = ((slice_index_or xs i no_input).scope, slice_index places i) in
          let P : List BuildValue → Type 0 = λ bs. Moved bs (slice_index builds n) pair in
          moved_filter (is_of_use xs n) (builds_at p (slice_index order n)) (slice_index builds n) pair
          (subst P (builds_there n (named_inside i n within named)) (passed_of q places builds i n (s.passed i within) named)));
    }

    module _ (places builds : List ℕ) (s : SuitsInputs p order xs places builds) where
      has_passed : (i n : ℕ) → i < length xs → Contains (slice_index_or xs i no_input).jobs n → HasPassed q places builds i n
      unfolding HasPassed
      has_passed i n within named =
          let inside = named_inside i n within named in
          let P : List BuildValue → Type 0 = λ bs. Moved bs (slice_index builds n) ((slice_index_or xs i no_input).scope, slice_index places i) in
          subst P (sym (builds_there n inside)) (moved_useful places builds s n ((slice_index_or xs i no_input).scope, slice_index places i) inside (s.passed i n within named))

      pub satisfies : length places ≡ length xs → length builds ≡ length order → Satisfies q places builds
      unfolding IsAllowed
      satisfies place_each build_each = record {
        lengths = record { place_each = place_each; build_each = build_each ∙ sym (length_builds p xs 0 order) };
        allowed = s.allowed;
        successful = λ n within. (let by = named_by q kept n within in passed_successful q places builds by.input n (has_passed by.input n by.within by.named));
        passed = λ i within. passed_each q places builds i (λ n named. has_passed i n within named);
      }

  -- ---- one input fewer
  module _ (top : ℕ) (isTop : IsTop p top) (ys : List InputValue) (h : IsNarrowed p order xs ys) (n i : ℕ) (inside : n < length order) (within : i < length xs)
      (useful : List BuildValue) (are : useful ≡ filter (is_of_use xs n) (builds_at p (slice_index order n))) (named : Contains (slice_index_or ys i no_input).jobs n)
      (z : InputValue) (t : IsInputNarrowed top useful (slice_index_or ys i no_input) z) where
    abbrev x : InputValue
    x = slice_index_or xs i no_input

    kept_there : (place : ℕ) (b : BuildValue) → Contains (builds_at p (slice_index order n)) b → is_of_use xs n b ≡ true → Contains b.pairs (x.scope, place) → t.may place ≡ true
    kept_there place b among useful_one has =
        let P : List BuildValue → Type 0 = λ bs. Contains bs b in
        let Q : InputValue → Type 0 = λ v. Contains b.pairs (v.scope, place) in
        let covered = All-get_or (λ bs. All (λ c. All (λ r. r.1 ≤ top) c.pairs) bs) p.jobs (slice_index order n) [] (All-get_or (λ j. j < length p.jobs) order n 0 inside known) isTop.covers in
        let low = All-contains (λ r. r.1 ≤ top) b.pairs (x.scope, place) (All-contains (λ c. All (λ r. r.1 ≤ top) c.pairs) (builds_at p (slice_index order n)) b covered among) has in
        t.keeps b place (subst P (sym are) (contains_filter (is_of_use xs n) b (builds_at p (slice_index order n)) among useful_one))
        (subst Q (sym (narrowed_input p order xs ys h i within)) has) low

    place_kept : (places builds : List ℕ) → SuitsInputs p order xs places builds → Moved (builds_at p (slice_index order n)) (slice_index builds n) (x.scope, slice_index places i) → t.may (slice_index places i) ≡ true
    place_kept places builds s (k, b, below, at, both) =
        kept_there (slice_index places i) b (k, below, at) (of_use places builds s n b inside (k, below, at) both.0) both.1

    input_kept : (places builds : List ℕ) → SuitsInputs p order xs places builds → t.may (slice_index places i) ≡ true
    input_kept places builds s =
        let P : InputValue → Type 0 = λ v. Contains v.jobs n in
        place_kept places builds s (s.passed i n within (subst P (narrowed_input p order xs ys h i within) named))

    pub narrowed_more : IsNarrowed p order xs (slice_set ys i z)
    narrowed_more = record {
      may = also h.may i t.may;
      is = ap (slice_set ys i) t.is
          ∙ ap (λ zs. slice_set zs i (record (slice_index_or zs i no_input) { places = filter t.may (slice_index_or zs i no_input).places })) h.is
          ∙ narrowed_one h.may t.may 0 i i xs (omega arith) within;
      keeps = λ places builds s k below. and_from _ _ (h.keeps places builds s k below) (elim (cases_Bool (k == i)) [
        | inl same ↦ (let e : i ≡ k = sym (eqb-true k i same) in
            let P : ℕ → Type 0 = λ m. t.may (slice_index places m) ≡ true in
            cond-true (k == i) (t.may (slice_index places k)) true same ∙ subst P e (input_kept places builds s))
        | inr other ↦ cond-false (k == i) (t.may (slice_index places k)) true other
      ]);
    }

-- the same for what a turn of the loop has
pub narrowed_turn : (p : ProblemValue) (order : List ℕ) (top : ℕ) (xs ys zs given : List InputValue) (n i : ℕ) (useful bs : List BuildValue) (x y z : InputValue)
    → is_problem p ≡ true → EachIndex order (λ k. slice_index order k < length p.jobs) → IsTop p top → n < length order → i < length ys → IsNarrowed p order xs ys
    → useful ≡ filter (is_of_use given n) bs → given ≡ xs → bs ≡ builds_at p (slice_index order n)
    → x ≡ slice_index_or ys i x → Contains x.jobs n → y ≡ slice_index_or ys i y → IsInputNarrowed top useful y z → zs ≡ slice_set ys i z → IsNarrowed p order xs zs
narrowed_turn p order top xs ys zs given n i useful bs x y z rules known isTop inside within h are same all one named other t set =
    let N : InputValue → Type 0 = λ v. Contains v.jobs n in
    let T : InputValue → Type 0 = λ v. IsInputNarrowed top useful v z in
    let Z : List InputValue → Type 0 = λ vs. IsNarrowed p order xs vs in
    subst Z (sym set) (narrowed_more p rules order (All-from_get_or (λ j. j < length p.jobs) order 0 known) xs top isTop ys h n i inside (omega (arith, within, narrowed_long p order xs ys h))
    useful (are ∙ ap (λ vs. filter (is_of_use vs n) bs) same ∙ ap (filter (is_of_use xs n)) all)
    (subst N (one ∙ get_or_default ys i x no_input within) named) z (subst T (other ∙ get_or_default ys i y no_input within) t))

pub input_is : (x y : InputValue) (scope : ℕ) (places jobs : List ℕ) (after : Option ℕ) (may : ℕ → Bool) → y ≡ record { scope = scope; places = places; jobs = jobs; after = after }
    → scope ≡ x.scope → places ≡ filter may x.places → jobs ≡ x.jobs → after ≡ x.after → y ≡ record x { places = filter may x.places }
input_is x y scope places jobs after may e same fewer named kept =
    let A : ℕ → InputValue = λ s. record { scope = s; places = places; jobs = jobs; after = after } in
    let B : List ℕ → InputValue = λ ps. record { scope = x.scope; places = ps; jobs = jobs; after = after } in
    let C : List ℕ → InputValue = λ js. record { scope = x.scope; places = filter may x.places; jobs = js; after = after } in
    let D : Option ℕ → InputValue = λ o. record { scope = x.scope; places = filter may x.places; jobs = x.jobs; after = o } in
    e ∙ ap A same ∙ ap B fewer ∙ ap C named ∙ ap D kept

-- ---- marks
-- what is marked stays so
marked_more : (scope : ℕ) (before after : List Bool) (pairs : List (ℕ × ℕ)) → length after ≡ length before
    → ((n : ℕ) → slice_index_or before n false ≡ true → slice_index_or after n false ≡ true) → AreMarked scope before pairs → AreMarked scope after pairs
marked_more scope before after pairs long kept all =
    All-weaker (λ r. r.0 ≡ scope → r.1 < length before → slice_index_or before r.1 false ≡ true) (λ r. r.0 ≡ scope → r.1 < length after → slice_index_or after r.1 false ≡ true)
    (λ r h same below. kept r.1 (h same (omega (arith, below, long)))) pairs all

-- the next pair is marked, if it is in the scope
pub pair_marked : (scope : ℕ) (before after : List Bool) (pairs : List (ℕ × ℕ)) (i : ℕ) → i < length pairs → length after ≡ length before
    → ((n : ℕ) → slice_index_or before n false ≡ true → slice_index_or after n false ≡ true)
    → ((slice_index_or pairs i (0, 0)).0 ≡ scope → (slice_index_or pairs i (0, 0)).1 < length after → slice_index_or after (slice_index_or pairs i (0, 0)).1 false ≡ true)
    → AreMarked scope before (take i pairs) → AreMarked scope after (take (i + 1) pairs)
pair_marked scope before after pairs i within long kept here all =
    All-more (λ r. r.0 ≡ scope → r.1 < length after → slice_index_or after r.1 false ≡ true) pairs i (0, 0) within (marked_more scope before after (take i pairs) long kept all) here

-- the pairs of the next build are marked
pub build_marked : {R : Type 0} (pairs_of : R → List (ℕ × ℕ)) (scope : ℕ) (before after : List Bool) (builds : List R) (i : ℕ) (b : R) → i < length builds → length after ≡ length before
    → ((n : ℕ) → slice_index_or before n false ≡ true → slice_index_or after n false ≡ true) → AreMarked scope after (pairs_of (slice_index_or builds i b))
    → All (λ c. AreMarked scope before (pairs_of c)) (take i builds) → All (λ c. AreMarked scope after (pairs_of c)) (take (i + 1) builds)
build_marked pairs_of scope before after builds i b within long kept here all =
    All-more (λ c. AreMarked scope after (pairs_of c)) builds i b within
    (All-weaker (λ c. AreMarked scope before (pairs_of c)) (λ c. AreMarked scope after (pairs_of c)) (λ c. marked_more scope before after (pairs_of c) long kept) (take i builds) all) here

-- a place that a build has is marked
pub place_marked : {R : Type 0} (now : R → BuildValue) (scope : ℕ) (marks : List Bool) (builds : List R) (b : BuildValue) (place : ℕ)
    → All (λ c. AreMarked scope marks (now c).pairs) builds → Contains (map now builds) b → Contains b.pairs (scope, place) → place < length marks → slice_index_or marks place false ≡ true
place_marked now scope marks builds b place all among has low =
    All-contains (λ r. r.0 ≡ scope → r.1 < length marks → slice_index_or marks r.1 false ≡ true) b.pairs (scope, place)
    (All-contains (λ c. AreMarked scope marks c.pairs) (map now builds) b (All-map (λ c. AreMarked scope marks c.pairs) now builds all) among) has refl low
