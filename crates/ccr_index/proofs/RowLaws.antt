-- Rows that grow at the end, and the row of a number.
use Rattle.std.proofs.Common.{◌≡◌, ◌≢◌, ◌↔◌, ℕ, zero, suc, ◌+◌, ◌-◌, ◌<◌, ◌≤◌, List, [], ◌∷◌, ◌++◌, length, map, reverse, take, drop, get_or, true, false, cond, ◌==◌, nat_eq, nat_lt, inl, inr, refl, sym, ap, ap₂, ◌∙◌, subst, arith, IsTrue, All, Some, None}
use Rattle.std.specs.Prelude.{Any, Contains, slice_range, slice_index, slice_index_or}
use Rattle.std.proofs.lemmas.Bool.{cases_Bool, cases_lt, and_parts, and_from, eqb-true, eq-eqb, ltb-true, lt-ltb, false≢true, cond-true, cond-false}
use Rattle.std.proofs.lemmas.List.{take-append-le, drop-append-le, length-drop, length-append, length-map, map-append, reverse-append, length-reverse, length-take-le, get_or-map, get_or-reverse, get_or_default, get_or_append_left, get_or-append-add, get_or-take, get_or-drop, take-append-drop}
use Rattle.std.specs.List.Sorted.{IsPartitionedBy, IsPartitionPoint}
use Rattle.std.proofs.lemmas.Option.{slice_get-get_or}
use Rattle.std.proofs.Math.Seq.{drop-append_seam, take-append_seam, take-length, get_or-append_seam}
use Rattle.std.proofs.lemmas.List.Elements.{All-append, All-cons, All-nil, All-take}
use Rattle.ccr_choice.specs.Problem.{BuildValue}
use Rattle.ccr_choice.specs.Ascending.{is_before, AreAscending}
use Rattle.ccr_choice.proofs.Lookups.{never_before}
use Rattle.ccr_choice.specs.Table.{build_of}
use Rattle.ccr_choice.proofs.Members.{any_none, any_first, any_later, any_cases, tests_contains}
use Rattle.ccr_index.specs.declared.rows.Row.{Row}
use Rattle.ccr_index.specs.Rows.{no_build, build_of_row, builds_of, pair_eq, is_among, last_with, IsRow, AreRows, AreDescending, numbered}

-- ---- the pool
range_kept : (xs ys : List (ℕ × ℕ)) (a n : ℕ) → a + n ≤ length xs → slice_range (xs ++ ys) a (a + n) ≡ slice_range xs a (a + n)
range_kept xs ys a n within =
    ap (take (a + n - a)) (drop-append-le a xs ys (omega arith))
    ∙ take-append-le (a + n - a) (drop a xs) ys (omega (arith, length-drop a xs))

range_new : (xs ys : List (ℕ × ℕ)) → slice_range (xs ++ ys) (length xs) (length xs + length ys) ≡ ys
range_new xs ys =
    let n : length xs + length ys - length xs ≡ length ys = omega arith in
    ap₂ take n (drop-append_seam xs ys) ∙ take-length ys

build_kept : (pool more : List (ℕ × ℕ)) (r : Row) → IsRow pool r → build_of_row (pool ++ more) r ≡ build_of_row pool r
build_kept pool more r is = ap (λ ps. record { number = r.number; pairs = ps }) (range_kept pool more r.from r.count is.within)

maps_kept : (pool more : List (ℕ × ℕ)) (rows : List Row) → All (IsRow pool) rows → map (build_of_row (pool ++ more)) rows ≡ map (build_of_row pool) rows
maps_kept pool more [] each = refl
maps_kept pool more (r ∷ rows) each =
    ap₂ (λ b bs. b ∷ bs) (build_kept pool more r (each 0 r (omega arith))) (maps_kept pool more rows (λ k d within. each (suc k) d (omega arith)))

-- a longer pool changes no build
builds_kept : (pool more : List (ℕ × ℕ)) (rows : List Row) → All (IsRow pool) rows → builds_of (pool ++ more) rows ≡ builds_of pool rows
builds_kept pool more rows each = ap reverse (maps_kept pool more rows each)

-- a further row is a further build, the newest
builds_more : (pool more : List (ℕ × ℕ)) (rows : List Row) (number : ℕ) → All (IsRow pool) rows
    → builds_of (pool ++ more) (rows ++ record { number = number; count = length more; from = length pool } ∷ []) ≡ record { number = number; pairs = more } ∷ builds_of pool rows
builds_more pool more rows number each =
    let r : Row = record { number = number; count = length more; from = length pool } in
    let f : Row → BuildValue = build_of_row (pool ++ more) in
    let new : f r ≡ record { number = number; pairs = more } = ap (λ ps. record { number = number; pairs = ps }) (range_new pool more) in
    ap reverse (map-append f rows (r ∷ []))
    ∙ reverse-append (map f rows) (f r ∷ [])
    ∙ ap₂ (λ b bs. b ∷ bs) new (builds_kept pool more rows each)

-- ---- what the rows keep
range_long : (xs : List (ℕ × ℕ)) (a n : ℕ) → a + n ≤ length xs → length (slice_range xs a (a + n)) ≡ n
range_long xs a n within = length-take-le (a + n - a) (drop a xs) (omega (arith, length-drop a xs)) ∙ omega arith

range_at : (xs : List (ℕ × ℕ)) (a n i : ℕ) (d : ℕ × ℕ) → i < n → slice_index_or (slice_range xs a (a + n)) i d ≡ slice_index_or xs (a + i) d
range_at xs a n i d less = get_or-take (a + n - a) (drop a xs) i d (omega arith) ∙ get_or-drop a xs i d

row_kept : (pool more : List (ℕ × ℕ)) (r : Row) → IsRow pool r → IsRow (pool ++ more) r
row_kept pool more r is = record {
  within = omega (arith, is.within, length-append pool more);
  ascending = subst AreAscending (sym (range_kept pool more r.from r.count is.within)) is.ascending;
}

row_new : (pool more : List (ℕ × ℕ)) (number : ℕ) → AreAscending more → IsRow (pool ++ more) (record { number = number; count = length more; from = length pool })
row_new pool more number ascending = record {
  within = omega (arith, length-append pool more);
  ascending = subst AreAscending (sym (range_new pool more)) ascending;
}

rows_kept : (pool more : List (ℕ × ℕ)) (rows : List Row) → All (IsRow pool) rows → All (IsRow (pool ++ more)) rows
rows_kept pool more rows each = λ k d within. row_kept pool more (get_or rows k d) (each k d within)

pub equal_pairs : (pair q : ℕ × ℕ) → (pair_eq q pair ≡ true) ↔ (q ≡ pair)
equal_pairs pair q = (
  λ h. let parts = and_parts (nat_eq q.0 pair.0) (nat_eq q.1 pair.1) h in
      let first : q.0 ≡ pair.0 = eqb-true _ _ parts.0 in
      let second : q.1 ≡ pair.1 = eqb-true _ _ parts.1 in
      ap (λ x. (x, q.1)) first ∙ ap (λ y. (pair.0, y)) second,
  λ h. and_from (nat_eq q.0 pair.0) (nat_eq q.1 pair.1) (eq-eqb q.0 pair.0 (ap (λ r. r.0) h)) (eq-eqb q.1 pair.1 (ap (λ r. r.1) h)),
)

-- ---- the last build with a pair
pub among_is : (pairs : List (ℕ × ℕ)) (pair : ℕ × ℕ) → IsTrue (is_among pairs pair) ↔ Contains pairs pair
among_is pairs pair = tests_contains (λ q. pair_eq q pair) pair pairs (equal_pairs pair)

pub last_within : (bs : List BuildValue) (pair : ℕ × ℕ) → last_with bs pair ≤ length bs
last_within [] pair = omega arith
last_within (b ∷ bs) pair =
    elim (cases_Bool (is_among b.pairs pair)) [
      | inl e ↦ (let is = cond-true (is_among b.pairs pair) (length bs + 1) (last_with bs pair) e in omega (arith, is))
      | inr e ↦ (let is = cond-false (is_among b.pairs pair) (length bs + 1) (last_with bs pair) e in let less = last_within bs pair in omega (arith, is, less))
    ]

pub last_some : (bs : List BuildValue) (pair : ℕ × ℕ) → (last_with bs pair ≢ 0) ↔ Any (λ b. Contains b.pairs pair) bs
last_some [] pair = (λ h. absurd (h refl), λ h. absurd (any_none (λ b. Contains b.pairs pair) h))
last_some (b ∷ bs) pair =
    elim (cases_Bool (is_among b.pairs pair)) [
      | inl e ↦ (let is = cond-true (is_among b.pairs pair) (length bs + 1) (last_with bs pair) e in
          (λ h. any_first (λ x. Contains x.pairs pair) b bs ((among_is b.pairs pair).0 e), λ h z. omega (arith, is, z)))
      | inr e ↦ (let is = cond-false (is_among b.pairs pair) (length bs + 1) (last_with bs pair) e in (
        λ h. any_later (λ x. Contains x.pairs pair) b bs ((last_some bs pair).0 (λ z. h (is ∙ z))),
        λ h z. elim (any_cases (λ x. Contains x.pairs pair) b bs h) [
          | inl here ↦ false≢true (sym e ∙ (among_is b.pairs pair).1 here)
          | inr there ↦ (last_some bs pair).1 there (sym is ∙ z)
        ],
      ))
    ]

-- the last build has the pair
pub last_has : (bs : List BuildValue) (pair : ℕ × ℕ) (k : ℕ) (d : BuildValue) → last_with bs pair ≢ 0 → k + last_with bs pair ≡ length bs → Contains (slice_index_or bs k d).pairs pair
last_has [] pair k d some e = absurd (some refl)
last_has (b ∷ bs) pair zero d some e =
    elim (cases_Bool (is_among b.pairs pair)) [
      | inl t ↦ (among_is b.pairs pair).0 t
      | inr f ↦ (let is = cond-false (is_among b.pairs pair) (length bs + 1) (last_with bs pair) f in let less = last_within bs pair in absurd (omega (arith, less, is, e)))
    ]
last_has (b ∷ bs) pair (suc k) d some e =
    elim (cases_Bool (is_among b.pairs pair)) [
      | inl t ↦ (let is = cond-true (is_among b.pairs pair) (length bs + 1) (last_with bs pair) t in absurd (omega (arith, is, e)))
      | inr f ↦ (let is = cond-false (is_among b.pairs pair) (length bs + 1) (last_with bs pair) f in last_has bs pair k d (λ z. some (is ∙ z)) (omega (arith, e, is)))
    ]

-- and no newer one has it
pub none_newer : (bs : List BuildValue) (pair : ℕ × ℕ) (k : ℕ) (d : BuildValue) → k + last_with bs pair < length bs → Contains (slice_index_or bs k d).pairs pair → ⊥
none_newer [] pair k d less h = absurd (omega arith)
none_newer (b ∷ bs) pair zero d less h =
    let is = cond-true (is_among b.pairs pair) (length bs + 1) (last_with bs pair) ((among_is b.pairs pair).1 h) in omega (arith, less, is)
none_newer (b ∷ bs) pair (suc k) d less h =
    elim (cases_Bool (is_among b.pairs pair)) [
      | inl t ↦ (let is = cond-true (is_among b.pairs pair) (length bs + 1) (last_with bs pair) t in omega (arith, less, is))
      | inr f ↦ (let is = cond-false (is_among b.pairs pair) (length bs + 1) (last_with bs pair) f in none_newer bs pair k d (omega (arith, less, is)) h)
    ]

-- ---- rows with one more, of which the map was told
module _ (pool more : List (ℕ × ℕ)) (rows : List Row) (number : ℕ) (earlier : List ℕ) (newest told : ℕ × ℕ → ℕ) (is : AreRows pool rows earlier newest) (ascending : AreAscending more)
    (tells : (pair : ℕ × ℕ) → told pair ≡ cond (is_among more pair) (length rows + 1) (newest pair)) where
  added : Row
  added = record { number = number; count = length more; from = length pool }

  told_more : (pair : ℕ × ℕ) → told pair ≡ last_with (builds_of (pool ++ more) (rows ++ added ∷ [])) pair
  unfolding added
  told_more pair =
      let many : length (builds_of pool rows) ≡ length rows = length-reverse (map (build_of_row pool) rows) ∙ length-map rows (build_of_row pool) in
      tells pair
      ∙ ap (λ n. cond (is_among more pair) (n + 1) (newest pair)) (sym many)
      ∙ ap (λ n. cond (is_among more pair) (length (builds_of pool rows) + 1) n) (is.told pair)
      ∙ ap (λ bs. last_with bs pair) (sym (builds_more pool more rows number is.each))

  before_old : (k n : ℕ) (d : Row) → k < length rows → n < (slice_index_or rows k d).count
      → slice_index (earlier ++ map newest more) ((slice_index_or rows k d).from + n)
      ≡ last_with (builds_of (pool ++ more) (take k (rows ++ added ∷ []))) (slice_index_or (pool ++ more) ((slice_index_or rows k d).from + n) (0, 0))
  unfolding added
  before_old k n d within inside =
      let r = slice_index_or rows k d in
      let low : r.from + n < length pool = omega (arith, inside, (is.each k d within).within) in
      get_or_append_left earlier (map newest more) 0 (r.from + n) (omega (arith, low, is.long))
      ∙ is.before k n d within inside
      ∙ ap (λ bs. last_with bs (slice_index_or pool (r.from + n) (0, 0))) (sym (builds_kept pool more (take k rows) (All-take (IsRow pool) k rows is.each)))
      ∙ ap (λ rs. last_with (builds_of (pool ++ more) rs) (slice_index_or pool (r.from + n) (0, 0))) (sym (take-append-le k rows (added ∷ []) (omega (arith, within))))
      ∙ ap (last_with (builds_of (pool ++ more) (take k (rows ++ added ∷ [])))) (sym (get_or_append_left pool more (0, 0) (r.from + n) low))

  before_new : (n : ℕ) → n < length more
      → slice_index (earlier ++ map newest more) (length pool + n)
      ≡ last_with (builds_of (pool ++ more) (take (length rows) (rows ++ added ∷ []))) (slice_index_or (pool ++ more) (length pool + n) (0, 0))
  unfolding added
  before_new n inside =
      let q = slice_index_or more n (0, 0) in
      ap (λ m. slice_index (earlier ++ map newest more) (m + n)) (sym is.long)
      ∙ get_or-append-add earlier (map newest more) n 0
      ∙ get_or-map newest more n (0, 0) 0 inside
      ∙ is.told q
      ∙ ap (λ bs. last_with bs q) (sym (builds_kept pool more rows is.each))
      ∙ ap (λ rs. last_with (builds_of (pool ++ more) rs) q) (sym (take-append_seam rows (added ∷ [])))
      ∙ ap (last_with (builds_of (pool ++ more) (take (length rows) (rows ++ added ∷ [])))) (sym (get_or-append-add pool more n (0, 0)))

  before_more : (k n : ℕ) (d : Row) → k < length (rows ++ added ∷ []) → n < (slice_index_or (rows ++ added ∷ []) k d).count
      → slice_index (earlier ++ map newest more) ((slice_index_or (rows ++ added ∷ []) k d).from + n)
      ≡ last_with (builds_of (pool ++ more) (take k (rows ++ added ∷ []))) (slice_index_or (pool ++ more) ((slice_index_or (rows ++ added ∷ []) k d).from + n) (0, 0))
  unfolding added
  before_more k n d within inside =
      let G : ℕ → Row → Type 0 = λ m r. slice_index (earlier ++ map newest more) (r.from + n)
      ≡ last_with (builds_of (pool ++ more) (take m (rows ++ added ∷ []))) (slice_index_or (pool ++ more) (r.from + n) (0, 0)) in
      elim (cases_lt k (length rows)) [
        | inl less ↦ (let e = get_or_append_left rows (added ∷ []) d k less in
            let P : Row → Type 0 = λ r. G k r in
            subst P (sym e) (before_old k n d less (omega (arith, inside, ap (λ r. r.count) e))))
        | inr reached ↦ (let last : length rows ≡ k = omega (arith, reached, within, length-append rows (added ∷ [])) in
            let e : slice_index_or (rows ++ added ∷ []) k d ≡ added = ap (λ m. slice_index_or (rows ++ added ∷ []) m d) (sym last) ∙ get_or-append_seam rows added [] d in
            let P : Row → Type 0 = λ r. G k r in
            let Q : ℕ → Type 0 = λ m. G m added in
            subst P (sym e) (subst Q last (before_new n (omega (arith, inside, ap (λ r. r.count) e)))))
      ]

  rows_more : AreRows (pool ++ more) (rows ++ added ∷ []) (earlier ++ map newest more) told
  unfolding added
  rows_more = record {
    each = All-append (IsRow (pool ++ more)) rows (added ∷ []) (rows_kept pool more rows is.each) (All-cons (IsRow (pool ++ more)) added [] (row_new pool more number ascending) (All-nil (IsRow (pool ++ more))));
    long = omega (arith, length-append earlier (map newest more), length-append pool more, length-map more newest, is.long);
    told = told_more;
    before = before_more;
  }

-- the same rows, told of by another map with the same keys
pub rows_same : (pool pool' : List (ℕ × ℕ)) (rows rows' : List Row) (earlier earlier' : List ℕ) (newest told : ℕ × ℕ → ℕ) → AreRows pool rows earlier newest → pool' ≡ pool → rows' ≡ rows → earlier' ≡ earlier
    → ((pair : ℕ × ℕ) → told pair ≡ newest pair) → AreRows pool' rows' earlier' told
rows_same pool pool' rows rows' earlier earlier' newest told is e d f tells =
    let kept : AreRows pool rows earlier told = record { each = is.each; long = is.long; told = λ pair. tells pair ∙ is.told pair; before = is.before } in
    let P : List (ℕ × ℕ) → Type 0 = λ xs. AreRows xs rows' earlier' told in
    let Q : List Row → Type 0 = λ rs. AreRows pool rs earlier' told in
    let R : List ℕ → Type 0 = λ ns. AreRows pool rows ns told in
    subst P (sym e) (subst Q (sym d) (subst R (sym f) kept))

-- what `add` makes of the rows
pub rows_added : (pool more pool' : List (ℕ × ℕ)) (rows rows' : List Row) (earlier earlier' : List ℕ) (number count from row : ℕ) (newest told : ℕ × ℕ → ℕ) → AreRows pool rows earlier newest → AreAscending more
    → pool' ≡ pool ++ more → rows' ≡ rows ++ record { number = number; count = count; from = from } ∷ [] → earlier' ≡ earlier ++ map newest more → from ≡ length pool → count ≡ length more → row ≡ length rows + 1
    → ((pair : ℕ × ℕ) → told pair ≡ cond (is_among more pair) row (newest pair))
    → AreRows pool' rows' earlier' told × (builds_of pool' rows' ≡ record { number = number; pairs = more } ∷ builds_of pool rows)
unfolding added
rows_added pool more pool' rows rows' earlier earlier' number count from row newest told is ascending e d f begins counted last tells =
    let now : rows' ≡ rows ++ record { number = number; count = length more; from = length pool } ∷ [] =
    d ∙ ap (λ n. rows ++ record { number = number; count = count; from = n } ∷ []) begins ∙ ap (λ n. rows ++ record { number = number; count = n; from = length pool } ∷ []) counted in
    let P : List (ℕ × ℕ) → List Row → List ℕ → Type 0 = λ xs rs ns. AreRows xs rs ns told × (builds_of xs rs ≡ record { number = number; pairs = more } ∷ builds_of pool rows) in
    let tells' : (pair : ℕ × ℕ) → told pair ≡ cond (is_among more pair) (length rows + 1) (newest pair) = λ pair. tells pair ∙ ap (λ n. cond (is_among more pair) n (newest pair)) last in
    let made : P (pool ++ more) (rows ++ record { number = number; count = length more; from = length pool } ∷ []) (earlier ++ map newest more) =
    (rows_more pool more rows number earlier newest told is ascending tells', builds_more pool more rows number is.each) in
    let S : List ℕ → Type 0 = λ ns. P (pool ++ more) (rows ++ record { number = number; count = length more; from = length pool } ∷ []) ns in
    let Q : List Row → Type 0 = λ rs. P (pool ++ more) rs earlier' in
    let R : List (ℕ × ℕ) → Type 0 = λ xs. P xs rows' earlier' in
    subst R (sym e) (subst Q (sym now) (subst S (sym f) made))

-- ---- the rows before a row are the builds behind its build
drop_older : (pool : List (ℕ × ℕ)) (rows : List Row) (k n : ℕ) → k + n ≡ length rows → builds_of pool (take k rows) ≡ drop n (builds_of pool rows)
drop_older pool rows k n e =
    let f : Row → BuildValue = build_of_row pool in
    let a : List BuildValue = map f (take k rows) in
    let b : List BuildValue = map f (drop k rows) in
    let whole : builds_of pool rows ≡ reverse b ++ reverse a = ap (λ xs. reverse (map f xs)) (sym (take-append-drop k rows)) ∙ ap reverse (map-append f (take k rows) (drop k rows)) ∙ reverse-append a b in
    let long : length (reverse b) ≡ n = length-reverse b ∙ length-map (drop k rows) f ∙ length-drop k rows ∙ omega (arith, e) in
    sym (ap (drop n) whole ∙ ap (λ m. drop m (reverse b ++ reverse a)) (sym long) ∙ drop-append_seam (reverse b) (reverse a))

-- what `last_before` reads
pub earlier_row : (pool : List (ℕ × ℕ)) (rows : List Row) (earlier : List ℕ) (newest : ℕ × ℕ → ℕ) (k at build : ℕ) (r : Row) (pair : ℕ × ℕ) → AreRows pool rows earlier newest
    → k + (build + 1) ≡ length rows → r ≡ get_or rows k r → at < length (build_of_row pool r).pairs → slice_index_or (build_of_row pool r).pairs at (0, 0) ≡ pair
    → (slice_index earlier (r.from + at) ≡ last_with (drop (build + 1) (builds_of pool rows)) pair) × (r.from + at < length earlier)
earlier_row pool rows earlier newest k at build r pair is e here inside has =
    let within : k < length rows = omega (arith, e) in
    let row : IsRow pool r = (let P : Row → Type 0 = IsRow pool in subst P (sym here) (is.each k r within)) in
    let count : length (build_of_row pool r).pairs ≡ r.count = range_long pool r.from r.count row.within in
    let low : at < r.count = omega (arith, inside, count) in
    let read : slice_index_or pool (r.from + at) (0, 0) ≡ pair = sym (range_at pool r.from r.count at (0, 0) low) ∙ has in
    let told = is.before k at r within (omega (arith, low, ap (λ x. x.count) here)) in
    let is_last : slice_index earlier (r.from + at) ≡ last_with (drop (build + 1) (builds_of pool rows)) pair =
    ap (λ x. slice_index earlier (x.from + at)) here ∙ told
    ∙ ap (λ x. last_with (builds_of pool (take k rows)) (slice_index_or pool (x.from + at) (0, 0))) (sym here)
    ∙ ap (last_with (builds_of pool (take k rows))) read
    ∙ ap (λ bs. last_with bs pair) (drop_older pool rows k (build + 1) e) in
    (is_last, omega (arith, low, row.within, is.long))

-- ---- the row of a number
pub row_at : (pool : List (ℕ × ℕ)) (rows : List Row) (k : ℕ) (r : Row) → k < length rows → r ≡ get_or rows k r → slice_index_or (builds_of pool rows) (length rows - 1 - k) no_build ≡ build_of_row pool r
row_at pool rows k r within at =
    let xs : List BuildValue = map (build_of_row pool) rows in
    let long : length xs ≡ length rows = length-map rows (build_of_row pool) in
    let back : length xs - 1 - (length rows - 1 - k) ≡ k = omega (arith, long) in
    get_or-reverse xs (length rows - 1 - k) no_build (omega (arith, long))
    ∙ ap (λ n. slice_index_or xs n no_build) back ∙ get_or-map (build_of_row pool) rows k r no_build within ∙ ap (build_of_row pool) (sym at)

-- so the numbers of the rows rise
rising : (pool : List (ℕ × ℕ)) (rows : List Row) → AreDescending (builds_of pool rows) → (i j : ℕ) (d e : Row) → i < j → j < length rows → (get_or rows i d).number < (get_or rows j e).number
rising pool rows falls i j d e less within =
    let many : length (builds_of pool rows) ≡ length rows = length-reverse (map (build_of_row pool) rows) ∙ length-map rows (build_of_row pool) in
    let fall = falls (length rows - 1 - j) (length rows - 1 - i) (omega arith) (omega (arith, many)) in
    let first = ap (λ b. b.number) (row_at pool rows i (get_or rows i d) (omega arith) (get_or_default rows i d _ (omega arith))) in
    let second = ap (λ b. b.number) (row_at pool rows j (get_or rows j e) within (get_or_default rows j e _ within)) in
    omega (arith, fall, first, second)

pub parted_rows : (pool : List (ℕ × ℕ)) (rows : List Row) (n : ℕ) → AreDescending (builds_of pool rows) → IsPartitionedBy (λ r. nat_lt r.number n) rows
parted_rows pool rows n falls i j d le within h =
    elim (cases_lt i j) [
      | inl less ↦ (let rise = rising pool rows falls i j d d less within in let low = ltb-true _ _ h in lt-ltb _ _ (omega (arith, rise, low)))
      | inr same ↦ (let e : i ≡ j = omega arith in ap (λ k. nat_lt (get_or rows k d).number n) e ∙ h)
    ]

differ : (m n : ℕ) → (m ≡ n → ⊥) → (m == n) ≡ false
differ m n other = elim (cases_Bool (m == n)) [ inl e ↦ absurd (other (eqb-true m n e)) | inr e ↦ e ]

numbered_at : (bs : List BuildValue) (n k : ℕ) → AreDescending bs → k < length bs → (slice_index_or bs k no_build).number ≡ n → numbered bs n ≡ Some (slice_index_or bs k no_build)
numbered_at [] n k falls within e = absurd (omega arith)
numbered_at (b ∷ bs) n zero falls within e = cond-true (b.number == n) (Some b) (numbered bs n) (eq-eqb _ _ e)
numbered_at (b ∷ bs) n (suc k) falls within e =
    let fall = falls 0 (suc k) (omega arith) within in
    cond-false (b.number == n) (Some b) (numbered bs n) (differ b.number n (λ same. omega (arith, fall, same, e)))
    ∙ numbered_at bs n k (λ i j less inside. falls (suc i) (suc j) (omega arith) (omega arith)) (omega arith) e

none_numbered : (bs : List BuildValue) (n : ℕ) → ((k : ℕ) → k < length bs → (slice_index_or bs k no_build).number ≡ n → ⊥) → numbered bs n ≡ None
none_numbered [] n none = refl
none_numbered (b ∷ bs) n none =
    cond-false (b.number == n) (Some b) (numbered bs n) (differ b.number n (none 0 (omega arith)))
    ∙ none_numbered bs n (λ k within. none (suc k) (omega arith))

-- the row of the number is the build's
pub row_numbered : (pool : List (ℕ × ℕ)) (rows : List Row) (at n : ℕ) (r : Row) → AreDescending (builds_of pool rows) → at < length rows → r ≡ get_or rows at r → r.number ≡ n
    → build_of (builds_of pool rows) (length rows - at) ≡ numbered (builds_of pool rows) n
row_numbered pool rows at n r falls within is same =
    let bs = builds_of pool rows in
    let k = length rows - 1 - at in
    let next : length rows - at ≡ suc k = omega arith in
    let inside : k < length bs = omega (arith, length-reverse (map (build_of_row pool) rows), length-map rows (build_of_row pool)) in
    ap (build_of bs) next ∙ slice_get-get_or bs k no_build inside ∙ sym (numbered_at bs n k falls inside (ap (λ b. b.number) (row_at pool rows at r within is) ∙ same))

-- no row has the number
pub no_row : (pool : List (ℕ × ℕ)) (rows : List Row) (at n : ℕ) → AreDescending (builds_of pool rows)
    → IsPartitionPoint (λ r. nat_lt r.number n ≡ true) (λ r. nat_lt r.number n ≡ false) rows at
    → ((d : Row) → at < length rows → (get_or rows at d).number ≡ n → ⊥) → None ≡ numbered (builds_of pool rows) n
no_row pool rows at n falls point other = sym (none_numbered (builds_of pool rows) n none)
  where
    zero_row : Row
    zero_row = record { number = 0; count = 0; from = 0 }

    none : (k : ℕ) → k < length (builds_of pool rows) → (slice_index_or (builds_of pool rows) k no_build).number ≡ n → ⊥
    none k within e =
        let many : length (builds_of pool rows) ≡ length rows = length-reverse (map (build_of_row pool) rows) ∙ length-map rows (build_of_row pool) in
        let m = length rows - 1 - k in
        let inside : m < length rows = omega (arith, many) in
        let back : length rows - 1 - m ≡ k = omega (arith, many) in
        let is : (get_or rows m zero_row).number ≡ n =
        sym (ap (λ b. b.number) (row_at pool rows m (get_or rows m zero_row) inside (get_or_default rows m zero_row _ inside))) ∙ ap (λ i. (slice_index_or (builds_of pool rows) i no_build).number) back ∙ e in
        elim (cases_lt m at) [
          | inl before ↦ (let low = ltb-true _ _ (point.0 m zero_row (omega arith) before) in omega (arith, low, is))
          | inr reached ↦ elim (cases_lt at m) [
            | inl beyond ↦ (let rise = rising pool rows falls at m zero_row zero_row beyond inside in
                let high : n ≤ (get_or rows at zero_row).number = elim (cases_lt (get_or rows at zero_row).number n) [
                  | inl less ↦ absurd (false≢true (sym (point.1 at zero_row (omega arith) (omega arith)) ∙ lt-ltb _ _ less))
                  | inr le ↦ le
                ] in omega (arith, rise, high, is))
            | inr not_beyond ↦ (let now : m ≡ at = omega arith in other zero_row (omega arith) (ap (λ i. (get_or rows i zero_row).number) (sym now) ∙ is))
          ]
        ]

-- the pairs of each build ascend
pub builds_rise : (pool : List (ℕ × ℕ)) (rows : List Row) → All (IsRow pool) rows → (k : ℕ) → k < length (builds_of pool rows) → AreAscending (slice_index_or (builds_of pool rows) k no_build).pairs
builds_rise pool rows each k within =
    let many : length (builds_of pool rows) ≡ length rows = length-reverse (map (build_of_row pool) rows) ∙ length-map rows (build_of_row pool) in
    let m = length rows - 1 - k in
    let zero_row : Row = record { number = 0; count = 0; from = 0 } in
    let inside : m < length rows = omega (arith, many, within) in
    let back : length rows - 1 - m ≡ k = omega (arith, many, within) in
    let is = ap (λ n. slice_index_or (builds_of pool rows) n no_build) (sym back) ∙ row_at pool rows m (get_or rows m zero_row) inside (get_or_default rows m zero_row _ inside) in
    let P : BuildValue → Type 0 = λ b. AreAscending b.pairs in
    subst P (sym is) (each m zero_row inside).ascending

-- a pair isn't among those before it
pub not_among : (xs : List (ℕ × ℕ)) (i : ℕ) (d : ℕ × ℕ) → AreAscending xs → i < length xs → is_among (take i xs) (get_or xs i d) ≡ false
not_among xs i d up within =
    let x = get_or xs i d in
    elim (cases_Bool (is_among (take i xs) x)) [
      | inl t ↦ (let found = (among_is (take i xs) x).0 t in
          let k = found.0 in
          let low : k < i = omega (arith, found.1, length-take-le i xs (omega (arith, within))) in
          let at : get_or xs k x ≡ x = sym (get_or-take i xs k x low) ∙ found.2 in
          let before : is_before (get_or xs k x) (get_or xs i x) ≡ true = up k i x low within in
          let same : get_or xs i x ≡ x = get_or_default xs i x d within in
          absurd (never_before x (ap₂ is_before (sym at) (sym same) ∙ before)))
      | inr f ↦ f
    ]
