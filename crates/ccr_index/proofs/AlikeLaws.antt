-- Builds that are alike have one print, and what has all pairs of a build of the greatest size is alike.
use Rattle.std.proofs.Common.{◌≡◌, ℕ, zero, suc, ◌+◌, ◌-◌, ◌*◌, ◌%◌, ◌<◌, ◌≤◌, List, [], ◌∷◌, ◌++◌, length, map, take, drop, max, get_or, Bool, true, false, cond, ◌==◌, filter, inl, inr, refl, sym, ap, ◌∙◌, subst, arith, All}
use Rattle.std.specs.Prelude.{Contains, slice_index, slice_index_or}
use Rattle.std.proofs.lemmas.Bool.{cases_Bool, cond-true, cond-false, eq-eqb}
use Rattle.std.proofs.lemmas.List.{append-nil, get_or_default, get_or-map}
use Rattle.std.proofs.Math.Seq.{drop-append_seam}
use Rattle.std.proofs.lemmas.List.Filters.{length-filter_more}
use Rattle.std.proofs.lemmas.List.Elements.{All-contains, All-cons, Contains-get_or, filter_more}
use Rattle.std.proofs.lemmas.List.Kept.{AllPairs-filter}
use Rattle.ccr_choice.specs.Problem.{BuildValue}
use Rattle.ccr_choice.specs.Ascending.{is_before, AreAscending}
use Rattle.ccr_choice.proofs.Lookups.{never_before, before_chain}
use Rattle.ccr_choice.proofs.Members.{contains_none, contains_first, contains_later, contains_cases}
use Rattle.ccr_index.specs.Rows.{no_build, is_among, last_with}
use Rattle.ccr_index.proofs.RowLaws.{last_some, among_is}
use Rattle.ccr_index.specs.Alike.{does_count, counting, AreAmong, print_of, ArePrinted, HasFirst, HasSmall}

-- ---- the print so far
abbrev mixed : ℕ → ℕ × ℕ → ℕ
mixed n q = (n * 1000003 + q.0 * 100001 + q.1) % 4294967296

print_push : (n : ℕ) (qs : List (ℕ × ℕ)) (q : ℕ × ℕ) → print_of n (qs ++ q ∷ []) ≡ mixed (print_of n qs) q
print_push n [] q = refl
print_push n (x ∷ qs) q = print_push (mixed n x) qs q

pub print_more : (scopes : List Bool) (xs : List (ℕ × ℕ)) (i : ℕ) (d : ℕ × ℕ) → i < length xs → does_count scopes (get_or xs i d).0 ≡ true
    → print_of 0 (counting scopes (take (i + 1) xs)) ≡ (print_of 0 (counting scopes (take i xs)) * 1000003 + (get_or xs i d).0 * 100001 + (get_or xs i d).1) % 4294967296
print_more scopes xs i d within t =
    let x = get_or xs i d in
    ap (print_of 0) (filter_more (λ (q : ℕ × ℕ). does_count scopes q.0) xs i d within)
    ∙ ap (λ ys. print_of 0 (counting scopes (take i xs) ++ ys)) (cond-true (does_count scopes x.0) (x ∷ []) [] t)
    ∙ print_push 0 (counting scopes (take i xs)) x

pub print_kept : (scopes : List Bool) (xs : List (ℕ × ℕ)) (i : ℕ) (d : ℕ × ℕ) → i < length xs → does_count scopes (get_or xs i d).0 ≡ false
    → counting scopes (take (i + 1) xs) ≡ counting scopes (take i xs)
print_kept scopes xs i d within f =
    let x = get_or xs i d in
    filter_more (λ (q : ℕ × ℕ). does_count scopes q.0) xs i d within
    ∙ ap (λ ys. counting scopes (take i xs) ++ ys) (cond-false (does_count scopes x.0) (x ∷ []) [] f)
    ∙ append-nil (counting scopes (take i xs))

pub size_more : (scopes : List Bool) (xs : List (ℕ × ℕ)) (i : ℕ) (d : ℕ × ℕ) → i < length xs → does_count scopes (get_or xs i d).0 ≡ true
    → length (counting scopes (take (i + 1) xs)) ≡ length (counting scopes (take i xs)) + 1
size_more scopes xs i d within t =
    let x = get_or xs i d in
    length-filter_more (λ (q : ℕ × ℕ). does_count scopes q.0) xs i d within ∙ ap (λ n. length (counting scopes (take i xs)) + n) (cond-true (does_count scopes x.0) 1 0 t)

-- ---- what a filter keeps
pub filter_has : (test : ℕ × ℕ → Bool) (xs : List (ℕ × ℕ)) (x : ℕ × ℕ) → Contains xs x → test x ≡ true → Contains (filter test xs) x
filter_has test [] x h t = absurd (contains_none x h)
filter_has test (y ∷ xs) x h t =
    let P : List (ℕ × ℕ) → Type 0 = λ zs. Contains zs x in
    elim (contains_cases y x xs h) [
      | inl e ↦ (let Q : ℕ × ℕ → Type 0 = λ z. Contains (z ∷ filter test xs) x in
          subst P (sym (cond-true (test y) (y ∷ filter test xs) (filter test xs) (ap test e ∙ t))) (subst Q (sym e) (contains_first x (filter test xs))))
      | inr more ↦ elim (cases_Bool (test y)) [
        | inl e ↦ subst P (sym (cond-true (test y) (y ∷ filter test xs) (filter test xs) e)) (contains_later y x (filter test xs) (filter_has test xs x more t))
        | inr e ↦ subst P (sym (cond-false (test y) (y ∷ filter test xs) (filter test xs) e)) (filter_has test xs x more t)
      ]
    ]

pub has_filter : (test : ℕ × ℕ → Bool) (xs : List (ℕ × ℕ)) (x : ℕ × ℕ) → Contains (filter test xs) x → Contains xs x × (test x ≡ true)
has_filter test [] x h = absurd (contains_none x h)
has_filter test (y ∷ xs) x h =
    let P : List (ℕ × ℕ) → Type 0 = λ zs. Contains zs x in
    elim (cases_Bool (test y)) [
      | inl e ↦ elim (contains_cases y x (filter test xs) (subst P (cond-true (test y) (y ∷ filter test xs) (filter test xs) e) h)) [
        | inl here ↦ (let Q : ℕ × ℕ → Type 0 = λ z. Contains (z ∷ xs) x in (subst Q (sym here) (contains_first x xs), ap test (sym here) ∙ e))
        | inr more ↦ (let rest = has_filter test xs x more in (contains_later y x xs rest.0, rest.1))
      ]
      | inr e ↦ (let rest = has_filter test xs x (subst P (cond-false (test y) (y ∷ filter test xs) (filter test xs) e) h) in (contains_later y x xs rest.0, rest.1))
    ]

-- ---- lists that ascend
abbrev AreWithin : List (ℕ × ℕ) → List (ℕ × ℕ) → Type 0
AreWithin xs ys = (z : ℕ × ℕ) → Contains xs z → Contains ys z

rest_ascends : (x : ℕ × ℕ) (xs : List (ℕ × ℕ)) → AreAscending (x ∷ xs) → AreAscending xs
rest_ascends x xs up = λ i j d less within. up (suc i) (suc j) d (omega (arith, less)) (omega (arith, within))

first_before : (x : ℕ × ℕ) (xs : List (ℕ × ℕ)) → AreAscending (x ∷ xs) → (z : ℕ × ℕ) → Contains xs z → is_before x z ≡ true
first_before x xs up z among =
    let at : is_before x (slice_index_or xs among.0 z) ≡ true = up 0 (suc among.0) z (omega arith) (let within = among.1 in omega (arith, within)) in
    ap (is_before x) (sym among.2) ∙ at

-- what is behind the first of both is within what is behind it
within_rest : (x : ℕ × ℕ) (xs ys : List (ℕ × ℕ)) → AreAscending (x ∷ xs) → AreWithin (x ∷ xs) (x ∷ ys) → AreWithin xs ys
within_rest x xs ys up within z among =
    elim (contains_cases x z ys (within z (contains_later x z xs among))) [
      | inl same ↦ absurd (never_before x (ap (is_before x) same ∙ first_before x xs up z among))
      | inr more ↦ more
    ]

-- what begins later is within what is behind the first
within_later : (x y : ℕ × ℕ) (xs ys : List (ℕ × ℕ)) → AreAscending (x ∷ xs) → AreAscending (y ∷ ys) → Contains ys x → AreWithin (x ∷ xs) (y ∷ ys) → AreWithin (x ∷ xs) ys
within_later x y xs ys up high later within z among =
    let low = first_before y ys high x later in
    elim (contains_cases y z ys (within z among)) [
      | inl same ↦ elim (contains_cases x z xs among) [
        | inl first ↦ absurd (never_before y (ap (is_before y) (same ∙ sym first) ∙ low))
        | inr more ↦ absurd (never_before y (before_chain y x y low (ap (is_before x) same ∙ first_before x xs up z more)))
      ]
      | inr more ↦ more
    ]

few_within : (xs ys : List (ℕ × ℕ)) → AreAscending xs → AreAscending ys → AreWithin xs ys → length xs ≤ length ys
few_within [] ys up high within = omega arith
few_within (x ∷ xs) [] up high within = absurd (contains_none x (within x (contains_first x xs)))
few_within (x ∷ xs) (y ∷ ys) up high within =
    elim (contains_cases y x ys (within x (contains_first x xs))) [
      | inl same ↦ (let P : ℕ × ℕ → Type 0 = λ z. AreWithin (x ∷ xs) (z ∷ ys) in
          let rest = few_within xs ys (rest_ascends x xs up) (rest_ascends y ys high) (within_rest x xs ys up (subst P same within)) in omega (arith, rest))
      | inr more ↦ (let rest = few_within (x ∷ xs) ys up (rest_ascends y ys high) (within_later x y xs ys up high more within) in omega (arith, rest))
    ]

same_within : (xs ys : List (ℕ × ℕ)) → AreAscending xs → AreAscending ys → AreWithin xs ys → length ys ≤ length xs → xs ≡ ys
same_within [] [] up high within few = refl
same_within [] (y ∷ ys) up high within few = absurd (omega (arith, few))
same_within (x ∷ xs) [] up high within few = absurd (contains_none x (within x (contains_first x xs)))
same_within (x ∷ xs) (y ∷ ys) up high within few =
    elim (contains_cases y x ys (within x (contains_first x xs))) [
      | inl same ↦ (let P : ℕ × ℕ → Type 0 = λ z. AreWithin (x ∷ xs) (z ∷ ys) in
          ap (λ z. z ∷ xs) (sym same) ∙ ap (λ zs. y ∷ zs) (same_within xs ys (rest_ascends x xs up) (rest_ascends y ys high) (within_rest x xs ys up (subst P same within)) (omega (arith, few))))
      | inr more ↦ (let rest = few_within (x ∷ xs) ys up (rest_ascends y ys high) (within_later x y xs ys up high more within) in absurd (omega (arith, rest, few)))
    ]

-- pairs that count and are among others which are no more
pub same_counting : (scopes : List Bool) (xs ys : List (ℕ × ℕ)) → AreAscending xs → AreAscending ys → AreAmong scopes xs ys
    → length (counting scopes ys) ≤ length (counting scopes xs) → counting scopes xs ≡ counting scopes ys
same_counting scopes xs ys up high among few =
    let test : ℕ × ℕ → Bool = λ q. does_count scopes q.0 in
    let R : ℕ × ℕ → ℕ × ℕ → Type 0 = λ p q. is_before p q ≡ true in
    same_within (counting scopes xs) (counting scopes ys) (AllPairs-filter R test xs up) (AllPairs-filter R test ys high)
    (λ z in_xs. let had = has_filter test xs z in_xs in filter_has test ys z (All-contains (λ q. does_count scopes q.0 ≡ true → Contains ys q) xs z among had.0 had.1) had.1) few

-- ---- what is kept of the prints
pub printed_same : (scopes : List Bool) (bs bs' : List BuildValue) (last told : ℕ → ℕ) (size sized : ℕ × ℕ → ℕ) → ArePrinted scopes bs last size → bs' ≡ bs → ((n : ℕ) → told n ≡ last n) → ((x : ℕ × ℕ) → sized x ≡ size x) → ArePrinted scopes bs' told sized
printed_same scopes bs bs' last told size sized is e tells sizes =
    let P : List BuildValue → Type 0 = λ xs. ArePrinted scopes xs told sized in
    subst P (sym e) (record {
      told = λ k q less within same. let old = is.told k q less within same in omega (arith, old, tells (print_of 0 (counting scopes (slice_index_or bs k no_build).pairs)));
      largest = λ x k d within has. let old = is.largest x k d within has in omega (arith, old, sizes x);
    })

-- the sizes, once a build is added
module _ (scopes : List Bool) (bs : List BuildValue) (b : BuildValue) (last : ℕ → ℕ) (size size' : ℕ × ℕ → ℕ) (most : ℕ) (is : ArePrinted scopes bs last size) (counted : most ≡ length (counting scopes b.pairs))
    (sizes : (x : ℕ × ℕ) → size' x ≡ cond (is_among b.pairs x) (max (size x) most) (size x)) where
  size_up : (x : ℕ × ℕ) → size x ≤ size' x
  size_up x = elim (cases_Bool (is_among b.pairs x)) [
    | inl t ↦ (let now = sizes x ∙ cond-true (is_among b.pairs x) (max (size x) most) (size x) t in omega (arith, now))
    | inr f ↦ (let now = sizes x ∙ cond-false (is_among b.pairs x) (max (size x) most) (size x) f in omega (arith, now))
  ]

  size_big : (x : ℕ × ℕ) → Contains b.pairs x → most ≤ size' x
  size_big x has = let now = sizes x ∙ cond-true (is_among b.pairs x) (max (size x) most) (size x) ((among_is b.pairs x).1 has) in omega (arith, now)

  largest_added : (x : ℕ × ℕ) → All (λ y. Contains y.pairs x → length (counting scopes y.pairs) ≤ size' x) (b ∷ bs)
  largest_added x =
      All-cons (λ y. Contains y.pairs x → length (counting scopes y.pairs) ≤ size' x) b bs (λ has. let big = size_big x has in omega (arith, big, counted)) (λ k d within has. let old = is.largest x k d within has in let up = size_up x in omega (arith, old, up))

  -- a build whose print is noted
  pub printed_noted : (bs' : List BuildValue) (told : ℕ → ℕ) (number row : ℕ) → bs' ≡ b ∷ bs → number ≡ print_of 0 (counting scopes b.pairs) → row ≡ length bs + 1 → ((n : ℕ) → told n ≡ cond (number == n) row (last n))
      → ArePrinted scopes bs' told size'
  printed_noted bs' told number row e print at tells =
      let P : List BuildValue → Type 0 = λ xs. ArePrinted scopes xs told size' in
      subst P (sym e) (record { told = tells_more; largest = largest_added })
    where
      tells_more : (k q : ℕ) → q < k → k < length (b ∷ bs) → counting scopes (slice_index_or (b ∷ bs) k no_build).pairs ≡ counting scopes (slice_index_or (b ∷ bs) q no_build).pairs
          → length (b ∷ bs) ≤ q + told (print_of 0 (counting scopes (slice_index_or (b ∷ bs) k no_build).pairs))
      tells_more zero q less within same = absurd (omega (arith, less))
      tells_more (suc k) zero less within same =
          let n = print_of 0 (counting scopes (slice_index_or bs k no_build).pairs) in
          let hit : number ≡ n = print ∙ ap (print_of 0) (sym same) in
          let now = tells n ∙ cond-true (number == n) row (last n) (eq-eqb number n hit) in omega (arith, now, at)
      tells_more (suc k) (suc q) less within same =
          let n = print_of 0 (counting scopes (slice_index_or bs k no_build).pairs) in
          let old = is.told k q (omega (arith, less)) (omega (arith, within)) same in
          elim (cases_Bool (number == n)) [
            | inl t ↦ (let now = tells n ∙ cond-true (number == n) row (last n) t in omega (arith, now, at))
            | inr f ↦ (let now = tells n ∙ cond-false (number == n) row (last n) f in omega (arith, now, old))
          ]

  -- a build with a pair that counts and that no other has: it is of a new kind, and its print need not be noted
  pub printed_first : (bs' : List BuildValue) (told : ℕ → ℕ) (x : ℕ × ℕ) → bs' ≡ b ∷ bs → ((n : ℕ) → told n ≡ last n) → Contains b.pairs x → does_count scopes x.0 ≡ true → last_with bs x ≡ 0
      → ArePrinted scopes bs' told size'
  printed_first bs' told x e tells has counts none =
      let P : List BuildValue → Type 0 = λ xs. ArePrinted scopes xs told size' in
      subst P (sym e) (record { told = tells_more; largest = largest_added })
    where
      test : ℕ × ℕ → Bool
      test q = does_count scopes q.0

      tells_more : (k q : ℕ) → q < k → k < length (b ∷ bs) → counting scopes (slice_index_or (b ∷ bs) k no_build).pairs ≡ counting scopes (slice_index_or (b ∷ bs) q no_build).pairs
          → length (b ∷ bs) ≤ q + told (print_of 0 (counting scopes (slice_index_or (b ∷ bs) k no_build).pairs))
      tells_more zero q less within same = absurd (omega (arith, less))
      tells_more (suc k) zero less within same =
          let y = slice_index_or bs k no_build in
          let Q : List (ℕ × ℕ) → Type 0 = λ ps. Contains ps x in
          let inside : k < length bs = omega (arith, within) in
          let kept = subst Q (sym same) (filter_has (λ q. does_count scopes q.0) b.pairs x has counts) in
          let had = has_filter (λ q. does_count scopes q.0) y.pairs x kept in
          absurd ((last_some bs x).1 (k, y, inside, get_or_default bs k y no_build inside, had.0) none)
      tells_more (suc k) (suc q) less within same =
          let old = is.told k q (omega (arith, less)) (omega (arith, within)) same in
          omega (arith, old, tells (print_of 0 (counting scopes (slice_index_or bs k no_build).pairs)))

-- the pair of which the rows before tell that they lack it
pub first_among : (scopes : List Bool) (more : List (ℕ × ℕ)) (earlier earlier' rest : List ℕ) (bs : List BuildValue) (newest : ℕ × ℕ → ℕ) (from : ℕ) → ((pair : ℕ × ℕ) → newest pair ≡ last_with bs pair)
    → earlier' ≡ earlier ++ map newest more → from ≡ length earlier → rest ≡ drop from earlier' → HasFirst scopes more rest
    → (x : ℕ × ℕ) × Contains more x × (does_count scopes x.0 ≡ true) × (last_with bs x ≡ 0)
first_among scopes more earlier earlier' rest bs newest from told e begins is first =
    let k = first.0 in
    let x = slice_index_or more k (0, 0) in
    let tail : rest ≡ map newest more = is ∙ ap (drop from) e ∙ ap (λ n. drop n (earlier ++ map newest more)) begins ∙ drop-append_seam earlier (map newest more) in
    (x, Contains-get_or more k (0, 0) first.1, first.2, sym (told x) ∙ sym (get_or-map newest more k (0, 0) 0 first.1) ∙ ap (λ ns. slice_index ns k) (sym tail) ∙ first.3)

-- a pair that counts and has a small size
pub small_all : (scopes : List Bool) (pairs : List (ℕ × ℕ)) (bs : List BuildValue) (last : ℕ → ℕ) (size : ℕ × ℕ → ℕ) (most : ℕ) → ArePrinted scopes bs last size → HasSmall scopes pairs size most
    → (x : ℕ × ℕ) × Contains pairs x × (does_count scopes x.0 ≡ true) × All (λ b. Contains b.pairs x → length (counting scopes b.pairs) ≤ most) bs
small_all scopes pairs bs last size most is small =
    let x = small.1 in
    let low = small.4.1 in
    (x, (small.0, small.2, small.3), small.4.0, λ k d within has. let old = is.largest x k d within has in omega (arith, old, low))

-- where the print of a build tells no newer one, and no build with one of its pairs is larger, no newer one has all its pairs that count
pub none_alike : (scopes : List Bool) (bs : List BuildValue) (last : ℕ → ℕ) (size : ℕ × ℕ → ℕ) → ArePrinted scopes bs last size
    → ((k : ℕ) → k < length bs → AreAscending (slice_index_or bs k no_build).pairs)
    → (build number most : ℕ) → build < length bs → number ≡ print_of 0 (counting scopes (slice_index_or bs build no_build).pairs) → most ≡ length (counting scopes (slice_index_or bs build no_build).pairs)
    → build ≤ length bs - last number
    → (x : ℕ × ℕ) → Contains (slice_index_or bs build no_build).pairs x → does_count scopes x.0 ≡ true → All (λ b. Contains b.pairs x → length (counting scopes b.pairs) ≤ most) bs
    → (q : ℕ) → q < build → AreAmong scopes (slice_index_or bs build no_build).pairs (slice_index_or bs q no_build).pairs → ⊥
none_alike scopes bs last size is rise build number most within print counted newest x has counts small q less among =
    let xs = (slice_index_or bs build no_build).pairs in
    let ys = (slice_index_or bs q no_build).pairs in
    let below : q < length bs = omega (arith, less, within) in
    let few = small q no_build below (All-contains (λ q. does_count scopes q.0 ≡ true → Contains ys q) xs x among has counts) in
    let same = same_counting scopes xs ys (rise build within) (rise q below) among (omega (arith, few, counted)) in
    let told = is.told build q less within same in
    omega (arith, less, newest, within, told, ap last print)
