-- The numbers of builds: each job's count up from 1, so a job's build is found by its number.
use Rattle.std.proofs.Common.{◌≡◌, ℕ, zero, suc, ◌+◌, ◌<◌, ◌⊎◌, List, [], ◌∷◌, ◌++◌, map, length, take, set, get_or, slice_get, Bool, true, false, cond, Option, Some, None, option_map, refl, sym, ap, ◌∙◌, inl, inr, ⊎_elim, arith, count_by}
use Rattle.std.proofs.lemmas.List.{length-map, length-set, same_lists, get_or-map, get_or-set_same, get_or-set_other, get_or_default, take-map, take-append-le, take_at, take_all}
use Rattle.std.proofs.lemmas.List.Sums.{sum_by-cons}
use Rattle.std.proofs.lemmas.List.Recursion.{found_at}
use Rattle.std.proofs.lemmas.Option.{slice_get-map, slice_get_within, get_or_from_slice_get, slice_get-get_or}
use Rattle.std.proofs.lemmas.Bool.{and_left, and_right, and_from, cases_eq, cases_order, cases_Bool, ne_eqb, eq-eqb}
use Rattle.std.proofs.lemmas.Slice.Eq.{bytes_eq-Decides}
use Rattle.ccr_history.specs.declared.build.Status.{Status}
use Rattle.ccr_history.specs.Text.{Text}
use Rattle.ccr_history.specs.Builds.{BuildData, is_of, is_build_of, count_of, build_of, ended, with_end, positions_of}
use Rattle.ccr_history.specs.History.{AreNumbered}
use Rattle.ccr_history.specs.Orderly.{IsOnly}
use Rattle.ccr_history.proofs.Positions.{nth_position, count_rises, length-positions}

-- ---- the only one that passes a test
module _ {X : Type 0} (p : X → Bool) (xs : List X) (i : ℕ) (only : IsOnly p xs i) where
  only_within : i < length xs
  only_within = slice_get_within xs i only.it only.here

  only_at : get_or xs i only.it ≡ only.it
  only_at = get_or_from_slice_get xs i only.it only.it only.here

  only_other : (k : ℕ) → k < length xs → (k ≡ i → ⊥) → p (get_or xs k only.it) ≡ false
  only_other k lt apart = only.others k _ (slice_get-get_or xs k only.it lt) apart

  changed_at : (f : X → X) (k : ℕ) (d : X) → k < length xs → (k ≡ i) ⊎ (k ≡ i → ⊥)
      → cond (p (get_or xs k only.it)) (f (get_or xs k only.it)) (get_or xs k only.it) ≡ get_or (set xs i (f only.it)) k d
  changed_at f k d lt (inl e) =
      ap (λ y. cond (p y) (f y) y) (ap (λ n. get_or xs n only.it) e ∙ only_at)
      ∙ ap (λ b. cond b (f only.it) only.it) only.passes
      ∙ sym (ap (λ n. get_or (set xs i (f only.it)) n d) e ∙ get_or-set_same xs i (f only.it) d only_within)
  changed_at f k d lt (inr apart) =
      ap (λ b. cond b (f (get_or xs k only.it)) (get_or xs k only.it)) (only_other k lt apart)
      ∙ get_or_default xs k only.it d lt
      ∙ sym (get_or-set_other xs i k (f only.it) d apart)

  -- a map that changes what passes changes that one
  pub map_only : (f : X → X) → map (λ x. cond (p x) (f x) x) xs ≡ set xs i (f only.it)
  map_only f =
      let g : X → X = λ x. cond (p x) (f x) x in
      same_lists (map g xs) (set xs i (f only.it)) (length-map xs g ∙ sym (length-set xs i (f only.it)))
      (λ k d h.
      let lt : k < length xs = omega (arith, length-map xs g) in
      get_or-map g xs k only.it d lt ∙ changed_at f k d lt (cases_eq k i))

pub build_of-only : (job : Text) (n : ℕ) (bs : List BuildData) (i : ℕ) → IsOnly (is_build_of job n) bs i → build_of job n bs ≡ slice_get bs i
build_of-only job n bs i only =
    found_at (build_of job n) (is_build_of job n) (λ b. Some b) None refl (λ _ _. refl) bs i only.it (only_within _ bs i only)
    (λ k lt. only_other _ bs i only k (omega (arith, only_within _ bs i only)) (λ e. omega arith))
    (ap (is_build_of job n) (only_at _ bs i only) ∙ only.passes)
    ∙ ap (λ b. Some b) (only_at _ bs i only)
    ∙ sym only.here

-- ---- from numbers to builds
number_of : (job : Text) (bs : List BuildData) → AreNumbered bs → (i : ℕ) (b : BuildData) → slice_get bs i ≡ Some b → is_of job b ≡ true → b.number ≡ count_of job (take i bs) + 1
number_of job bs numbered i b at of =
    numbered i b at ∙ ap (λ j. count_of j (take i bs) + 1) (sym ((bytes_eq-Decides job b.job).0 of))

-- the build at the position of the nth of a job's builds, counted from 0, is the only one with the next number
pub numbered_only : (job : Text) (bs : List BuildData) → AreNumbered bs → (n i : ℕ) → slice_get (positions_of job bs) n ≡ Some i → IsOnly (is_build_of job (n + 1)) bs i
numbered_only job bs numbered n i e =
    let nth = nth_position (is_of job) bs n i e in
    let own : nth.it.number ≡ n + 1 = number_of job bs numbered i nth.it nth.here nth.passes ∙ ap (λ m. m + 1) nth.before in
    record {
      it = nth.it;
      here = nth.here;
      passes = and_from _ _ nth.passes (eq-eqb (n + 1) nth.it.number (sym own));
      others = λ k b at apart. by k b at apart (cases_Bool (is_of job b));
    }
  where
    by : (k : ℕ) (b : BuildData) → slice_get bs k ≡ Some b → (k ≡ i → ⊥) → (is_of job b ≡ true) ⊎ (is_of job b ≡ false) → is_build_of job (n + 1) b ≡ false
    by k b at apart (inr other) = and_left _ _ other
    by k b at apart (inl of) =
        let nth = nth_position (is_of job) bs n i e in
        let number = number_of job bs numbered k b at of in
        and_right _ _ (ne_eqb (n + 1) b.number (λ same.
        ⊎_elim (λ h. apart h)
        (⊎_elim (λ h. absurd (omega (arith, count_rises (is_of job) bs k i b at of h, nth.before)))
        (λ h. absurd (omega (arith, count_rises (is_of job) bs i k nth.it nth.here nth.passes h, nth.before))))
        (cases_order k i)))

none_passes : (job : Text) (n : ℕ) (bs : List BuildData) → ((i : ℕ) (b : BuildData) → slice_get bs i ≡ Some b → is_build_of job n b ≡ false) → build_of job n bs ≡ None
none_passes job n [] none = refl
none_passes job n (b ∷ bs) none =
    ap (λ t. cond t (Some b) (build_of job n bs)) (none 0 b refl) ∙ none_passes job n bs (λ i c e. none (suc i) c e)

-- no build has the number 0, or one above the count of its job's builds
pub numbered_none : (job : Text) (bs : List BuildData) → AreNumbered bs → (n : ℕ) → (n ≡ 0) ⊎ (length (positions_of job bs) < n) → build_of job n bs ≡ None
numbered_none job bs numbered n out = none_passes job n bs (λ i b at. by i b at (cases_Bool (is_of job b)))
  where
    by : (i : ℕ) (b : BuildData) → slice_get bs i ≡ Some b → (is_of job b ≡ true) ⊎ (is_of job b ≡ false) → is_build_of job n b ≡ false
    by i b at (inr other) = and_left _ _ other
    by i b at (inl of) =
        let number = number_of job bs numbered i b at of in
        let rises = count_rises (is_of job) bs i (length bs) b at of (slice_get_within bs i b at) in
        let whole = ap (count_by (is_of job)) (take_all (length bs) bs (omega arith)) in
        let many = length-positions (is_of job) bs in
        and_right _ _ (ne_eqb n b.number (λ same. ⊎_elim (λ h. omega arith) (λ h. omega arith) out))

-- ---- what keeps the numbers
pub slice_get_push : {X : Type 0} (xs : List X) (y : X) (i : ℕ) (x : X) → slice_get (xs ++ y ∷ []) i ≡ Some x → ((i < length xs) × (slice_get xs i ≡ Some x)) ⊎ ((i ≡ length xs) × (y ≡ x))
slice_get_push [] y zero x e = inr (refl, cc)
slice_get_push [] y (suc i) x e = absurd (cc)
slice_get_push (z ∷ zs) y zero x e = inl (omega arith, e)
slice_get_push (z ∷ zs) y (suc i) x e =
    ⊎_elim (λ h. inl (omega (arith, h.0), h.1)) (λ h. inr (ap (λ n. suc n) h.0, h.1)) (slice_get_push zs y i x e)

pub AreNumbered-push : (bs : List BuildData) (b : BuildData) → AreNumbered bs → b.number ≡ count_of b.job bs + 1 → AreNumbered (bs ++ b ∷ [])
AreNumbered-push bs b numbered number i x e = by (slice_get_push bs b i x e)
  where
    by : ((i < length bs) × (slice_get bs i ≡ Some x)) ⊎ ((i ≡ length bs) × (b ≡ x)) → x.number ≡ count_of x.job (take i (bs ++ b ∷ [])) + 1
    by (inl h) =
        numbered i x h.1 ∙ ap (λ l. count_of x.job l + 1) (sym (take-append-le i bs (b ∷ []) (omega (arith, h.0))))
    by (inr h) =
        let front : take i (bs ++ b ∷ []) ≡ bs = take_at bs (b ∷ []) i (sym h.0) in
        ap (λ c. c.number) (sym h.1) ∙ number ∙ ap (λ c. count_of c.job bs + 1) h.1 ∙ ap (λ l. count_of x.job l + 1) (sym front)

count_by-map : {X : Type 0} (p : X → Bool) (f : X → X) → ((x : X) → p (f x) ≡ p x) → (xs : List X) → count_by p (map f xs) ≡ count_by p xs
count_by-map p f same [] = refl
count_by-map p f same (x ∷ xs) =
    sum_by-cons (λ y. cond (p y) 1 0) (f x) (map f xs)
    ∙ ap (λ b. cond b 1 0 + count_by p (map f xs)) (same x)
    ∙ ap (λ n. cond (p x) 1 0 + n) (count_by-map p f same xs)
    ∙ sym (sum_by-cons (λ y. cond (p y) 1 0) x xs)

option_map_back : {X Y : Type 0} (f : X → Y) (o : Option X) (y : Y) → option_map f o ≡ Some y → (x : X) × (o ≡ Some x) × (f x ≡ y)
option_map_back f None y e = absurd (cc)
option_map_back f (Some x) y e = (x, refl, cc)

AreNumbered-map : (f : BuildData → BuildData) → ((b : BuildData) → (f b).job ≡ b.job) → ((b : BuildData) → (f b).number ≡ b.number) → (bs : List BuildData) → AreNumbered bs → AreNumbered (map f bs)
AreNumbered-map f job number bs numbered i x e =
    let back = option_map_back f (slice_get bs i) x (sym (slice_get-map f bs i) ∙ e) in
    let b = back.0 in
    let counted : count_of b.job (take i (map f bs)) ≡ count_of b.job (take i bs) =
    ap (count_of b.job) (take-map f i bs) ∙ count_by-map (is_of b.job) f (λ c. ap (Rattle.std.specs.Str.bytes_eq b.job) (job c)) (take i bs) in
    ap (λ c. c.number) (sym back.2) ∙ number b ∙ numbered i b back.1
    ∙ ap (λ n. n + 1) (sym counted) ∙ ap (λ j. count_of j (take i (map f bs)) + 1) (sym (job b) ∙ ap (λ c. c.job) back.2)

pub AreNumbered-with_end : (job : Text) (n : ℕ) (status : Status) (moved : List (ℕ × ℕ)) (bs : List BuildData) → AreNumbered bs → AreNumbered (with_end job n status moved bs)
AreNumbered-with_end job n status moved bs numbered =
    AreNumbered-map (λ b. cond (is_build_of job n b) (ended status moved b) b) (λ b. same_job (is_build_of job n b) b) (λ b. same_number (is_build_of job n b) b) bs numbered
  where
    same_job : (t : Bool) (b : BuildData) → (cond t (ended status moved b) b).job ≡ b.job
    same_job true b = refl
    same_job false b = refl

    same_number : (t : Bool) (b : BuildData) → (cond t (ended status moved b) b).number ≡ b.number
    same_number true b = refl
    same_number false b = refl
