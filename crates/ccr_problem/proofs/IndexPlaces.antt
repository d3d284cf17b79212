-- Places that come behind those of an input.
use Rattle.std.proofs.Common.{◌≡◌, ℕ, zero, suc, ◌+◌, ◌<◌, ◌≤◌, List, [], ◌∷◌, ◌++◌, length, take, drop, slice_index_or, slice_set, true, ◌&&◌, nat_lt, nat_le, refl, sym, ap, ◌∙◌, arith, append_assoc}
use Rattle.std.proofs.lemmas.Bool.{and_parts, ltb-true, leb-true}
use Rattle.std.proofs.lemmas.List.{append-nil, get_or-set_same, set-set, set-get_or}
use Rattle.ccr_choice.specs.Problem.{InputValue, ProblemValue, no_input, input_at, are_places_after, IsProblem}
use Rattle.ccr_choice.proofs.Places.{places_kept}
use Rattle.ccr_index.specs.Index.{with_version}
use Rattle.ccr_index.specs.Rows.{with_place, last_after}
use Rattle.ccr_problem.specs.Follows.{with_places}
use Rattle.ccr_problem.specs.Passing.{how_many, grown, with_more, with_news}

-- ---- places that ascend
-- the places behind others ascend from the last of those
pub split_after : (low : ℕ) (xs ys : List ℕ) → are_places_after low (xs ++ ys) ≡ true → are_places_after (last_after low xs) ys ≡ true
split_after low [] ys h = h
split_after low (x ∷ xs) ys h =
    let a = and_parts (nat_lt low x) (nat_le x 100000 && are_places_after x (xs ++ ys)) h in
    split_after x xs ys (and_parts (nat_le x 100000) (are_places_after x (xs ++ ys)) a.1).1

-- the first of places that ascend, and the others
pub first_fits : (low n : ℕ) (ns : List ℕ) → are_places_after low (n ∷ ns) ≡ true → (low < n) × (n ≤ 100000) × (are_places_after n ns ≡ true)
first_fits low n ns h =
    let a = and_parts (nat_lt low n) (nat_le n 100000 && are_places_after n ns) h in
    let b = and_parts (nat_le n 100000) (are_places_after n ns) a.1 in
    (ltb-true _ _ a.0, leb-true _ _ b.0, b.1)

pub last_push : (low : ℕ) (xs : List ℕ) (n : ℕ) → last_after low (xs ++ n ∷ []) ≡ n
last_push low [] n = refl
last_push low (x ∷ xs) n = last_push x xs n

-- ---- one input
module _ (q : ProblemValue) (i : ℕ) (inside : i < length q.inputs) where
  -- one place first, and then the others
  pub more_next : (n : ℕ) (ns : List ℕ) → with_more (with_version q i n) i ns ≡ with_more q i (n ∷ ns)
  more_next n ns =
      let x = input_at q i in
      let here : input_at (with_version q i n) i ≡ with_place x n = get_or-set_same q.inputs i (with_place x n) no_input inside in
      let all : grown (with_place x n) ns ≡ grown x (n ∷ ns) = ap {B = InputValue} (λ ps. record { scope = x.scope; places = ps; jobs = x.jobs; after = x.after }) (append_assoc x.places (n ∷ []) ns) in
      ap {B = ProblemValue} (λ xs. record { inputs = xs; jobs = q.jobs })
      (set-set q.inputs i (with_place x n) (grown (input_at (with_version q i n) i) ns) ∙ ap (λ y. slice_set q.inputs i y) (ap (λ y. grown y ns) here ∙ all))

  pub more_none : with_more q i [] ≡ q
  more_none =
      let x = input_at q i in
      let same : grown x [] ≡ x = ap {B = InputValue} (λ ps. record { scope = x.scope; places = ps; jobs = x.jobs; after = x.after }) (append-nil x.places) in
      ap {B = ProblemValue} (λ xs. record { inputs = xs; jobs = q.jobs }) (ap (λ y. slice_set q.inputs i y) same ∙ set-get_or q.inputs i no_input)

  pub last_more : (n : ℕ) → last_after 0 (input_at (with_version q i n) i).places ≡ n
  last_more n =
      let x = input_at q i in
      ap (λ (y : InputValue). last_after 0 y.places) (get_or-set_same q.inputs i (with_place x n) no_input inside) ∙ last_push 0 x.places n

-- ---- input by input
-- the input at a place has its further places, once they have come
pub news_there : (xs : List InputValue) (more : List (List ℕ)) (i : ℕ) → i < length xs → i < length more
    → slice_index_or (with_places xs more) i no_input ≡ grown (slice_index_or xs i no_input) (slice_index_or more i [])
news_there [] more i within inside = absurd (omega arith)
news_there (x ∷ xs) [] i within inside = absurd (omega arith)
news_there (x ∷ xs) (ns ∷ more) zero within inside = refl
news_there (x ∷ xs) (ns ∷ more) (suc i) within inside = news_there xs more i (omega arith) (omega arith)

-- and none before
pub news_later : (xs : List InputValue) (more : List (List ℕ)) (i : ℕ) → slice_index_or (with_places xs (take i more)) i no_input ≡ slice_index_or xs i no_input
news_later [] more i = refl
news_later (x ∷ xs) more zero = refl
news_later (x ∷ xs) [] (suc i) = refl
news_later (x ∷ xs) (ns ∷ more) (suc i) = news_later xs more i

-- one input more
pub news_step : (xs : List InputValue) (more : List (List ℕ)) (i : ℕ) → i < length more
    → with_places xs (take (suc i) more) ≡ slice_set (with_places xs (take i more)) i (grown (slice_index_or (with_places xs (take i more)) i no_input) (slice_index_or more i []))
news_step [] more i within = refl
news_step (x ∷ xs) [] i within = absurd (omega arith)
news_step (x ∷ xs) (ns ∷ more) zero within = ap (λ ys. grown x ns ∷ ys) (no_more xs)
  where
    no_more : (ys : List InputValue) → with_places ys [] ≡ ys
    no_more [] = refl
    no_more (y ∷ ys) = refl
news_step (x ∷ xs) (ns ∷ more) (suc i) within = ap (λ ys. grown x ns ∷ ys) (news_step xs more i (omega arith))

pub news_none : (xs : List InputValue) → with_places xs [] ≡ xs
news_none [] = refl
news_none (x ∷ xs) = refl

pub length-news : (xs : List InputValue) (more : List (List ℕ)) → length (with_places xs more) ≡ length xs
length-news [] more = refl
length-news (x ∷ xs) [] = refl
length-news (x ∷ xs) (ns ∷ more) = ap (λ n. suc n) (length-news xs more)

-- what comes to an input ascends from its last place
pub news_ascend : (q : ProblemValue) (more : List (List ℕ)) (i : ℕ) → IsProblem (with_news q more) → i < length q.inputs → i < length more
    → are_places_after (last_after 0 (input_at q i).places) (slice_index_or more i []) ≡ true
news_ascend q more i rules within inside =
    let x = input_at q i in
    let there : input_at (with_news q more) i ≡ grown x (slice_index_or more i []) = news_there q.inputs more i within inside in
    let all = places_kept (with_news q more) i rules (omega (arith, length-news q.inputs more)) in
    split_after 0 x.places (slice_index_or more i []) (ap (λ (y : InputValue). are_places_after 0 y.places) (sym there) ∙ all)

-- how many come to the inputs from one on
pub many_left : (more : List (List ℕ)) (i : ℕ) → i < length more → how_many (drop i more) ≡ length (slice_index_or more i []) + how_many (drop (suc i) more)
many_left [] i within = absurd (omega arith)
many_left (ns ∷ more) zero within = refl
many_left (ns ∷ more) (suc i) within = many_left more i (omega arith)
