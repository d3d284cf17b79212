-- What a list contains that is made of another, and a list with one element left out.
use Rattle.std.proofs.Common.{◌≡◌, ℕ, zero, suc, ◌+◌, ◌<◌, ◌≤◌, inl, inr, Bool, true, false, not, ◌&&◌, ◌||◌, cond, List, [], ◌∷◌, ◌++◌, append-nil, length, map, get_or, take, refl, sym, ap, ◌∙◌, subst, arith}
use Rattle.std.specs.Prelude.{All, Contains, filter, remove}
use Rattle.std.specs.List.{list_all, list_any}
use Rattle.std.proofs.lemmas.List.Folds.{list_any_at}
use Rattle.std.proofs.lemmas.Bool.{cases_Bool, cond-true, cond-false, false≢true}
use Rattle.std.proofs.lemmas.List.{length-map, get_or-map}
use Rattle.std.proofs.lemmas.List.Elements.{filter_more, All-nil, All-cons}
use Rattle.ccr_choice.proofs.Members.{contains_none, contains_first, contains_later, contains_cases}

pub contains_map : {X Y : Type 0} (f : X → Y) (x : X) (xs : List X) → Contains xs x → Contains (map f xs) (f x)
contains_map f x xs (k, within, at) = (k, omega (arith, within, length-map xs f), get_or-map f xs k x (f x) within ∙ ap f at)

pub contains_filter : {X : Type 0} (test : X → Bool) (x : X) (xs : List X) → Contains xs x → test x ≡ true → Contains (filter test xs) x
contains_filter {X} test x [] h passes = absurd (contains_none x h)
contains_filter {X} test x (y ∷ xs) h passes =
    let P : List X → Type 0 = λ zs. Contains zs x in
    elim (cases_Bool (test y)) [
      | inl holds ↦ subst P (sym (cond-true (test y) (y ∷ filter test xs) (filter test xs) holds)) (elim (contains_cases y x xs h) [
        | inl same ↦ (let Q : X → Type 0 = λ z. Contains (z ∷ filter test xs) x in subst Q (sym same) (contains_first x (filter test xs)))
        | inr later ↦ contains_later y x (filter test xs) (contains_filter test x xs later passes)
      ])
      | inr fails ↦ subst P (sym (cond-false (test y) (y ∷ filter test xs) (filter test xs) fails)) (elim (contains_cases y x xs h) [
        | inl same ↦ absurd (false≢true (sym fails ∙ ap test same ∙ passes))
        | inr later ↦ contains_filter test x xs later passes
      ])
    ]

pub from_filter : {X : Type 0} (test : X → Bool) (x : X) (xs : List X) → Contains (filter test xs) x → Contains xs x × (test x ≡ true)
from_filter {X} test x [] h = absurd (contains_none x h)
from_filter {X} test x (y ∷ xs) h =
    let P : List X → Type 0 = λ zs. Contains zs x in
    elim (cases_Bool (test y)) [
      | inl holds ↦ (let now = subst P (cond-true (test y) (y ∷ filter test xs) (filter test xs) holds) h in
          elim (contains_cases y x (filter test xs) now) [
            | inl same ↦ (let Q : X → Type 0 = λ z. Contains (z ∷ xs) x in
                (subst Q (sym same) (contains_first x xs), sym (ap test same) ∙ holds))
            | inr later ↦ (let rest = from_filter test x xs later in (contains_later y x xs rest.0, rest.1))
          ])
      | inr fails ↦ (let rest = from_filter test x xs (subst P (cond-false (test y) (y ∷ filter test xs) (filter test xs) fails) h) in
          (contains_later y x xs rest.0, rest.1))
    ]

pub length_filter : {X : Type 0} (test : X → Bool) (xs : List X) → length (filter test xs) ≤ length xs
length_filter test [] = omega arith
length_filter test (x ∷ xs) =
    let rest = length_filter test xs in
    elim (cases_Bool (test x)) [
      | inl holds ↦ omega (arith, rest, ap length (cond-true (test x) (x ∷ filter test xs) (filter test xs) holds))
      | inr fails ↦ omega (arith, rest, ap length (cond-false (test x) (x ∷ filter test xs) (filter test xs) fails))
    ]

-- an element that passes is found
pub any_contained : {X : Type 0} (test : X → Bool) (x : X) (xs : List X) → Contains xs x → test x ≡ true → list_any test xs ≡ true
any_contained test x xs (k, within, at) passes = list_any_at test xs k x within (ap test at ∙ passes)

-- two tests that agree find the same
pub any_same : {X : Type 0} (f g : X → Bool) → ((x : X) → f x ≡ g x) → (xs : List X) → list_any f xs ≡ list_any g xs
any_same f g same [] = refl
any_same f g same (x ∷ xs) = ap (λ b. b || list_any f xs) (same x) ∙ ap (λ b. g x || b) (any_same f g same xs)

-- what holds of each element holds of all
pub all_contained : {X : Type 0} (P : X → Type 0) (xs : List X) → ((x : X) → Contains xs x → P x) → All P xs
all_contained P [] h = All-nil P
all_contained P (x ∷ xs) h = All-cons P x xs (h x (contains_first x xs)) (all_contained P xs (λ y later. h y (contains_later x y xs later)))

-- ---- one element left out
pub remove_front : {X : Type 0} (xs ys : List X) (k : ℕ) → k < length xs → remove (xs ++ ys) k ≡ remove xs k ++ ys
remove_front [] ys k within = absurd (omega arith)
remove_front (x ∷ xs) ys zero within = refl
remove_front (x ∷ xs) ys (suc k) within = ap (λ zs. x ∷ zs) (remove_front xs ys k (omega arith))

pub remove_last : {X : Type 0} (xs : List X) (x : X) (k : ℕ) → k ≡ length xs → remove (xs ++ x ∷ []) k ≡ xs
remove_last [] x zero same = refl
remove_last [] x (suc k) same = absurd (omega arith)
remove_last (y ∷ xs) x zero same = absurd (omega arith)
remove_last (y ∷ xs) x (suc k) same = ap (λ zs. y ∷ zs) (remove_last xs x k (omega arith))

-- what holds of all that pass a test holds of each element that passes it
pub all_passing : {X : Type 0} (test f : X → Bool) (xs : List X) → list_all f (filter test xs) ≡ list_all (λ x. not (test x) || f x) xs
all_passing test f [] = refl
all_passing test f (x ∷ xs) =
    let rest = all_passing test f xs in
    elim (cases_Bool (test x)) [
      | inl holds ↦ ap (list_all f) (cond-true (test x) (x ∷ filter test xs) (filter test xs) holds) ∙ ap (λ r. f x && r) rest ∙ ap (λ t. (not t || f x) && list_all (λ y. not (test y) || f y) xs) (sym holds)
      | inr fails ↦ ap (list_all f) (cond-false (test x) (x ∷ filter test xs) (filter test xs) fails) ∙ rest ∙ ap (λ t. (not t || f x) && list_all (λ y. not (test y) || f y) xs) (sym fails)
    ]

-- the next element, if it passes
pub filter_takes : {X : Type 0} (test : X → Bool) (xs : List X) (i : ℕ) (x : X) → i < length xs → x ≡ get_or xs i x → test x ≡ true → filter test (take i xs) ++ x ∷ [] ≡ filter test (take (i + 1) xs)
filter_takes test xs i x within at passes =
    let before = filter test (take i xs) in
    sym (filter_more test xs i x within ∙ ap (λ y. before ++ cond (test y) (y ∷ []) []) (sym at) ∙ ap (λ b. before ++ cond b (x ∷ []) []) passes)

-- the next element, if it doesn't
pub filter_leaves : {X : Type 0} (test : X → Bool) (xs : List X) (i : ℕ) (x : X) → i < length xs → x ≡ get_or xs i x → test x ≡ false → filter test (take i xs) ≡ filter test (take (i + 1) xs)
filter_leaves test xs i x within at fails =
    let before = filter test (take i xs) in
    sym (filter_more test xs i x within ∙ ap (λ y. before ++ cond (test y) (y ∷ []) []) (sym at) ∙ ap (λ b. before ++ cond b (x ∷ []) []) fails ∙ append-nil before)
