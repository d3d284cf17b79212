-- The rows of a build that ends.
use Rattle.std.proofs.Common.{◌≡◌, ℕ, suc, pos, ◌+◌, ◌<◌, ◌≤◌, ◌⊎◌, inl, inr, ⊎_elim, List, [], ◌∷◌, ◌++◌, map, take, slice_get, Bool, true, false, cond, eqb, Some, is_eq, refl, sym, ap, ap₂, ◌∙◌, subst, arith, IsPermutation}
use Rattle.std.specs.List.{AllByRecursion}
use Rattle.std.proofs.lemmas.Bool.{and_parts, cases_Bool, cases_order, eqb-true}
use Rattle.std.proofs.lemmas.Bool.Decides.{nat_tests}
use Rattle.std.proofs.lemmas.List.{append_assoc, append-nil}
use Rattle.std.proofs.lemmas.List.Sorted.{IsPermutation-sym, IsPermutation-trans, IsPermutation-map, IsPermutation-append_left, IsPermutation-append_right}
use Rattle.std.proofs.lemmas.Slice.Eq.{bytes_eq-Decides}
use Rattle.sqlite.specs.declared.types.Value.TheVariants.{Int}
use Rattle.sqlite.specs.Order.{Row, value_cmp}
use Rattle.sqlite_value.proofs.OrderLemmas.{value_cmp-Int}
use Rattle.sqlite_keyed.proofs.ListLemmas.{IsPermutation-same}
use Rattle.ccr_history.specs.declared.build.Status.{Status}
use Rattle.ccr_history.specs.Text.{Text}
use Rattle.ccr_history.specs.Builds.{BuildData, by_place, is_of, is_build_of, build_of, count_of, ended, with_end}
use Rattle.ccr_history.specs.History.{AreNumbered}
use Rattle.ccr_history.proofs.Positions.{count_rises}
use Rattle.ccr_tables.specs.Written.{begins_with, restated}
use Rattle.ccr_store.specs.Rows.{build_row, build_rows, used_row, moved_row, pair_rows, status_number}
use Rattle.ccr_store.proofs.HistoryWrites.{build_id}
use Rattle.ccr_store.proofs.SameRows.{swapped}
use Rattle.ccr_store.proofs.BuildRows.{own_rows, by_place-order}

-- ---- the only one
-- no two elements of the list pass the test
abbrev pub AtMostOne : {X : Type 0} → (X → Bool) → List X → Type 0
AtMostOne {X} test xs =
    (i j : ℕ) (x y : X) → slice_get xs i ≡ Some x → slice_get xs j ≡ Some y → test x ≡ true → test y ≡ true → i ≡ j

in_tail : {X : Type 0} (test : X → Bool) (x : X) (xs : List X) → AtMostOne test (x ∷ xs) → AtMostOne test xs
in_tail test x xs h = λ i j y z at_i at_j py pz. let same = h (suc i) (suc j) y z at_i at_j py pz in omega arith

none_after : {X : Type 0} (test : X → Bool) (x : X) (xs : List X) → AtMostOne test (x ∷ xs) → test x ≡ true → (k : ℕ) (y : X) → slice_get xs k ≡ Some y → test y ≡ false
none_after test x xs h passes k y at =
    ⊎_elim (λ t. let same = h 0 (suc k) x y refl at passes t in absurd (omega arith)) (λ f. f) (cases_Bool (test y))

map_none : {X : Type 0} (test : X → Bool) (f : X → X) (xs : List X) → ((k : ℕ) (y : X) → slice_get xs k ≡ Some y → test y ≡ false) → map (λ x. cond (test x) (f x) x) xs ≡ xs
map_none test f [] none = refl
map_none test f (x ∷ xs) none =
    ap₂ (λ y ys. y ∷ ys) (ap (λ b. cond b (f x) x) (none 0 x refl)) (map_none test f xs (λ k y at. none (suc k) y at))

number_is : (job : Text) (number : ℕ) (bs : List BuildData) → AreNumbered bs → (i : ℕ) (b : BuildData) → slice_get bs i ≡ Some b → is_build_of job number b ≡ true → number ≡ count_of job (take i bs) + 1
number_is job number bs numbered i b at test =
    let parts = and_parts (is_of job b) (eqb number b.number) test in
    let same : number ≡ b.number = eqb-true number b.number parts.1 in
    same ∙ numbered i b at ∙ ap (λ k. count_of k (take i bs) + 1) (sym ((bytes_eq-Decides job b.job).0 parts.0))

pub numbered_once : (job : Text) (number : ℕ) (bs : List BuildData) → AreNumbered bs → AtMostOne (is_build_of job number) bs
numbered_once job number bs numbered = λ i j x y at_i at_j px py. by i j x y at_i at_j px py (cases_order i j)
  where
    by : (i j : ℕ) (x y : BuildData) → slice_get bs i ≡ Some x → slice_get bs j ≡ Some y → is_build_of job number x ≡ true → is_build_of job number y ≡ true → (i ≡ j) ⊎ ((i < j) ⊎ (j < i)) → i ≡ j
    by i j x y at_i at_j px py (inl same) = same
    by i j x y at_i at_j px py (inr (inl less)) =
        let first = number_is job number bs numbered i x at_i px in
        let second = number_is job number bs numbered j y at_j py in
        let rises = count_rises (is_of job) bs i j x at_i (and_parts (is_of job x) (eqb number x.number) px).0 less in
        absurd (omega arith)
    by i j x y at_i at_j px py (inr (inr more)) =
        let first = number_is job number bs numbered i x at_i px in
        let second = number_is job number bs numbered j y at_j py in
        let rises = count_rises (is_of job) bs j i y at_j (and_parts (is_of job y) (eqb number y.number) py).0 more in
        absurd (omega arith)

-- ---- the row of a build, by its id
id_same : (id : ℕ) → is_eq (value_cmp (Int (pos id)) (Int (pos id))) ≡ true
id_same id = ap is_eq (value_cmp-Int (pos id) (pos id)) ∙ grind (arith, nat_tests)

id_other : (k id : ℕ) → (k ≡ id → ⊥) → is_eq (value_cmp (Int (pos k)) (Int (pos id))) ≡ false
id_other k id apart = ap is_eq (value_cmp-Int (pos k) (pos id)) ∙ grind (arith, nat_tests)

-- the rows where the one of this id has another status
abbrev restated_rows : ℕ → ℕ → List Row → List Row
restated_rows id how rows = map (λ r. cond (begins_with (Int (pos id)) r) (restated how r) r) rows

later_rows : (id how k : ℕ) (bs : List BuildData) → id < k → restated_rows id how (build_rows k bs) ≡ build_rows k bs
later_rows id how k [] less = refl
later_rows id how k (b ∷ bs) less =
    ap₂ (λ (r : Row) (rs : List Row). r ∷ rs)
    (ap (λ t. cond t (restated how (build_row k b)) (build_row k b)) (id_other k id (λ e. omega arith)))
    (later_rows id how (k + 1) bs (omega arith))

build_id-least : (k : ℕ) (job : Text) (number : ℕ) (bs : List BuildData) → k ≤ build_id k job number bs
build_id-least k job number [] = omega arith
build_id-least k job number (b ∷ bs) = by (is_build_of job number b) (build_id-least (k + 1) job number bs)
  where
    by : (t : Bool) → k + 1 ≤ build_id (k + 1) job number bs → k ≤ cond t k (build_id (k + 1) job number bs)
    by true more = omega arith
    by false more = omega arith

-- the build that ends has another status, and no other build
pub ended_build_rows : (job : Text) (number : ℕ) (how : Status) (moved : List (ℕ × ℕ)) (k : ℕ) (bs : List BuildData) → AtMostOne (is_build_of job number) bs
    → build_rows k (with_end job number how moved bs) ≡ restated_rows (build_id k job number bs) (status_number how) (build_rows k bs)
ended_build_rows job number how moved k [] once = refl
ended_build_rows job number how moved k (b ∷ bs) once = by (is_build_of job number b) refl (ended_build_rows job number how moved (k + 1) bs (in_tail (is_build_of job number) b bs once))
  where
    by : (t : Bool) → is_build_of job number b ≡ t
        → build_rows (k + 1) (with_end job number how moved bs) ≡ restated_rows (build_id (k + 1) job number bs) (status_number how) (build_rows (k + 1) bs)
        → build_rows k (cond t (ended how moved b) b ∷ with_end job number how moved bs) ≡ restated_rows (cond t k (build_id (k + 1) job number bs)) (status_number how) (build_rows k (b ∷ bs))
    by true passes later =
        let rest : with_end job number how moved bs ≡ bs = map_none (is_build_of job number) (ended how moved) bs (none_after (is_build_of job number) b bs once passes) in
        ap₂ (λ (r : Row) (rs : List Row). r ∷ rs)
        (sym (ap (λ t. cond t (restated (status_number how) (build_row k b)) (build_row k b)) (id_same k)))
        (ap (build_rows (k + 1)) rest ∙ sym (later_rows k (status_number how) (k + 1) bs (omega arith)))
    by false other later =
        let id : ℕ = build_id (k + 1) job number bs in
        let least = build_id-least (k + 1) job number bs in
        ap₂ (λ (r : Row) (rs : List Row). r ∷ rs)
        (sym (ap (λ t. cond t (restated (status_number how) (build_row k b)) (build_row k b)) (id_other k id (λ e. omega arith))))
        later

-- ---- the pairs of a build that ends
-- the list has the job's build of this number, and it has moved nothing
abbrev pub HasUnmoved : Text → ℕ → List BuildData → Type 0
HasUnmoved job number bs = (b : BuildData) × (build_of job number bs ≡ Some b) × (b.moved ≡ [])

moved_in : (k : ℕ) (how : Status) (moved : List (ℕ × ℕ)) (b : BuildData) (rest : List Row) → b.moved ≡ []
    → IsPermutation (own_rows k (ended how moved b) ++ rest) (map (moved_row k) moved ++ (own_rows k b ++ rest))
moved_in k how moved b rest none =
    let used : List Row = map (used_row k) b.used in
    let sorted : List Row = map (moved_row k) (by_place moved) in
    let given : List Row = map (moved_row k) moved in
    let before : own_rows k b ≡ used = ap (λ ps. map (used_row k) b.used ++ map (moved_row k) ps) none ∙ append-nil used in
    IsPermutation-trans (used ++ sorted ++ rest) (used ++ (sorted ++ rest)) (given ++ (own_rows k b ++ rest))
    (IsPermutation-same _ _ (append_assoc used sorted rest))
    (IsPermutation-trans (used ++ (sorted ++ rest)) (used ++ (given ++ rest)) (given ++ (own_rows k b ++ rest))
    (IsPermutation-append_right used (sorted ++ rest) (given ++ rest)
    (IsPermutation-append_left rest sorted given (IsPermutation-map (moved_row k) (by_place moved) moved (IsPermutation-sym moved (by_place moved) (by_place-order moved)))))
    (IsPermutation-trans (used ++ (given ++ rest)) (given ++ (used ++ rest)) (given ++ (own_rows k b ++ rest))
    (swapped used given rest)
    (IsPermutation-same _ _ (ap (λ rows. map (moved_row k) moved ++ (rows ++ rest)) (sym before)))))

pub ended_pair_rows : (job : Text) (number : ℕ) (how : Status) (moved : List (ℕ × ℕ)) (k : ℕ) (bs : List BuildData) → AtMostOne (is_build_of job number) bs → HasUnmoved job number bs
    → IsPermutation (pair_rows k (with_end job number how moved bs)) (map (moved_row (build_id k job number bs)) moved ++ pair_rows k bs)
ended_pair_rows job number how moved k [] once it = absurd (let found = it.1 in cc)
ended_pair_rows job number how moved k (b ∷ bs) once it =
    by (is_build_of job number b) refl it.1
    (λ found. ended_pair_rows job number how moved (k + 1) bs (in_tail (is_build_of job number) b bs once) (it.0, found, it.2))
  where
    by : (t : Bool) → is_build_of job number b ≡ t → cond t (Some b) (build_of job number bs) ≡ Some it.0
        → (build_of job number bs ≡ Some it.0 → IsPermutation (pair_rows (k + 1) (with_end job number how moved bs)) (map (moved_row (build_id (k + 1) job number bs)) moved ++ pair_rows (k + 1) bs))
        → IsPermutation (pair_rows k (cond t (ended how moved b) b ∷ with_end job number how moved bs)) (map (moved_row (cond t k (build_id (k + 1) job number bs))) moved ++ pair_rows k (b ∷ bs))
    by true passes found later =
        let rest : with_end job number how moved bs ≡ bs = map_none (is_build_of job number) (ended how moved) bs (none_after (is_build_of job number) b bs once passes) in
        let same : b ≡ it.0 = cc in
        let none : b.moved ≡ [] = ap (λ (c : BuildData). c.moved) same ∙ it.2 in
        IsPermutation-trans (own_rows k (ended how moved b) ++ pair_rows (k + 1) (with_end job number how moved bs)) (own_rows k (ended how moved b) ++ pair_rows (k + 1) bs) (map (moved_row k) moved ++ pair_rows k (b ∷ bs))
        (IsPermutation-same _ _ (ap (λ l. own_rows k (ended how moved b) ++ pair_rows (k + 1) l) rest))
        (moved_in k how moved b (pair_rows (k + 1) bs) none)
    by false other found later =
        let mine : List Row = own_rows k b in
        let new : List Row = map (moved_row (build_id (k + 1) job number bs)) moved in
        IsPermutation-trans (mine ++ pair_rows (k + 1) (with_end job number how moved bs)) (mine ++ (new ++ pair_rows (k + 1) bs)) (new ++ (mine ++ pair_rows (k + 1) bs))
        (IsPermutation-append_right mine _ _ (later found))
        (swapped mine new (pair_rows (k + 1) bs))

-- ---- what holds of each build holds of the one that is found
pub found_keeps : (P : BuildData → Type 0) (job : Text) (number : ℕ) (bs : List BuildData) (b : BuildData) → AllByRecursion P bs → build_of job number bs ≡ Some b → P b
found_keeps P job number [] b all found = absurd (cc)
found_keeps P job number (c ∷ bs) b all found = by (is_build_of job number c) found (λ later. found_keeps P job number bs b all.1 later)
  where
    by : (t : Bool) → cond t (Some c) (build_of job number bs) ≡ Some b → (build_of job number bs ≡ Some b → P b) → P b
    by true same next = let e : c ≡ b = cc in subst P e all.0
    by false later next = next later
