-- The positions of those elements of a list that pass a test.
use Rattle.std.proofs.Common.{◌≡◌, ℕ, zero, suc, ◌+◌, ◌<◌, ◌≤◌, List, [], ◌∷◌, ◌++◌, map, length, take, slice_get, Bool, true, false, cond, ◌||◌, Option, Some, None, option_map, refl, sym, ap, ◌∙◌, subst, add-one, one-add, zero-add, arith, count_by, set, get_or}
use Rattle.std.specs.List.{list_any, AllByRecursion}
use Rattle.std.proofs.lemmas.List.{map-append, length-map, map-set, take-take}
use Rattle.std.proofs.lemmas.List.Sums.{sum_by-cons, sum_by-take-le, count_by_more_yes}
use Rattle.std.proofs.lemmas.Option.{slice_get-map, slice_get_within, get_or_from_slice_get}
use Rattle.ccr_history.specs.Builds.{positions}

-- ---- one more element
shifted : (b : Bool) (n : ℕ) → map (λ m. m + 1) (cond b (n ∷ []) []) ≡ cond b (suc n ∷ []) []
shifted true n = ap (λ m. m ∷ []) (add-one n)
shifted false n = refl

cons_cases : (b : Bool) (xs ys : List ℕ) → cond b (0 ∷ (xs ++ ys)) (xs ++ ys) ≡ cond b (0 ∷ xs) xs ++ ys
cons_cases true xs ys = refl
cons_cases false xs ys = refl

pub positions-push : {X : Type 0} (p : X → Bool) (xs : List X) (y : X) → positions p (xs ++ y ∷ []) ≡ positions p xs ++ cond (p y) (length xs ∷ []) []
positions-push p [] y = refl
positions-push p (x ∷ xs) y =
    let moved : map (λ n. n + 1) (positions p (xs ++ y ∷ [])) ≡ map (λ n. n + 1) (positions p xs) ++ cond (p y) (suc (length xs) ∷ []) [] =
    ap (map (λ n. n + 1)) (positions-push p xs y)
    ∙ map-append (λ n. n + 1) (positions p xs) (cond (p y) (length xs ∷ []) [])
    ∙ ap (λ l. map (λ n. n + 1) (positions p xs) ++ l) (shifted (p y) (length xs)) in
    ap (λ l. cond (p x) (0 ∷ l) l) moved ∙ cons_cases (p x) (map (λ n. n + 1) (positions p xs)) _

-- ---- by the answers of the test alone
pub positions_by_answers : {X : Type 0} (p : X → Bool) (xs : List X) → positions p xs ≡ positions (λ b. b) (map p xs)
positions_by_answers p [] = refl
positions_by_answers p (x ∷ xs) =
    ap (λ l. cond (p x) (0 ∷ map (λ n. n + 1) l) (map (λ n. n + 1) l)) (positions_by_answers p xs)

pub any_by_answers : {X : Type 0} (p : X → Bool) (xs : List X) → list_any p xs ≡ list_any (λ b. b) (map p xs)
any_by_answers p [] = refl
any_by_answers p (x ∷ xs) = ap (λ b. p x || b) (any_by_answers p xs)

pub same_answers : {X Y : Type 0} (p q : X → Y) (xs : List X) → AllByRecursion (λ x. p x ≡ q x) xs → map p xs ≡ map q xs
same_answers p q [] all = refl
same_answers p q (x ∷ xs) all = ap (λ b. b ∷ map p xs) all.0 ∙ ap (λ l. q x ∷ l) (same_answers p q xs all.1)

-- an element in the place of one that the test answers alike
pub answers-set : {X Y : Type 0} (p : X → Y) (xs : List X) (i : ℕ) (x y : X) → slice_get xs i ≡ Some x → p y ≡ p x → map p (set xs i y) ≡ map p xs
answers-set {X = X} p xs i x y at same =
    map-set p xs i y ∙ ap (set (map p xs) i) (same ∙ ap p (sym (get_or_from_slice_get xs i x x at))) ∙ again xs i
  where
    again : (xs : List X) (i : ℕ) → set (map p xs) i (p (get_or xs i x)) ≡ map p xs
    again [] i = refl
    again (z ∷ zs) zero = refl
    again (z ∷ zs) (suc i) = ap (λ l. p z ∷ l) (again zs i)

pub positions-agree : {X Y : Type 0} (p : X → Bool) (q : Y → Bool) (xs : List X) (ys : List Y) → map p xs ≡ map q ys → positions p xs ≡ positions q ys
positions-agree p q xs ys same = positions_by_answers p xs ∙ ap (positions (λ b. b)) same ∙ sym (positions_by_answers q ys)

pub any-agree : {X Y : Type 0} (p : X → Bool) (q : Y → Bool) (xs : List X) (ys : List Y) → map p xs ≡ map q ys → list_any p xs ≡ list_any q ys
any-agree p q xs ys same = any_by_answers p xs ∙ ap (list_any (λ b. b)) same ∙ sym (any_by_answers q ys)

-- ---- none, and how many
pub positions-none : {X : Type 0} (p : X → Bool) (xs : List X) → AllByRecursion (λ x. p x ≡ false) xs → positions p xs ≡ []
positions-none p [] all = refl
positions-none p (x ∷ xs) all =
    ap (λ b. cond b (0 ∷ map (λ n. n + 1) (positions p xs)) (map (λ n. n + 1) (positions p xs))) all.0
    ∙ ap (map (λ n. n + 1)) (positions-none p xs all.1)

pub any-none : {X : Type 0} (p : X → Bool) (xs : List X) → AllByRecursion (λ x. p x ≡ false) xs → list_any p xs ≡ false
any-none p [] all = refl
any-none p (x ∷ xs) all = ap (λ b. b || list_any p xs) all.0 ∙ any-none p xs all.1

length_cases : (b : Bool) (l : List ℕ) (n : ℕ) → length l ≡ n → length (cond b (0 ∷ map (λ m. m + 1) l) (map (λ m. m + 1) l)) ≡ cond b 1 0 + n
length_cases true l n e = omega (arith, length-map l (λ m. m + 1))
length_cases false l n e = omega (arith, length-map l (λ m. m + 1))

pub length-positions : {X : Type 0} (p : X → Bool) (xs : List X) → length (positions p xs) ≡ count_by p xs
length-positions p [] = refl
length-positions p (x ∷ xs) =
    length_cases (p x) (positions p xs) (count_by p xs) (length-positions p xs) ∙ sym (sum_by-cons (λ y. cond (p y) 1 0) x xs)

-- ---- the element at a position
-- the element at i passes, and k of those before it do
pub record IsNth {X : Type 0} (p : X → Bool) (xs : List X) (k i : ℕ) : Type 0 where
  pub it : X
  pub here : slice_get xs i ≡ Some it
  pub passes : p it ≡ true
  pub before : count_by p (take i xs) ≡ k

shifted_back : (o : Option ℕ) (i : ℕ) → option_map (λ n. n + 1) o ≡ Some i → (j : ℕ) × (o ≡ Some j) × (i ≡ suc j)
shifted_back None i e = absurd (cc)
shifted_back (Some j) i e = (j, refl, let f : j + 1 ≡ i = cc in sym f ∙ add-one j)

IsNth-later : {X : Type 0} (p : X → Bool) (x : X) (xs : List X) (k n i j : ℕ) → IsNth p xs k j → i ≡ suc j → n ≡ cond (p x) 1 0 + k → IsNth p (x ∷ xs) n i
IsNth-later p x xs k n i j h e f =
    subst (IsNth p (x ∷ xs) n) (sym e) (record {
      it = h.it;
      here = h.here;
      passes = h.passes;
      before = sum_by-cons (λ y. cond (p y) 1 0) x (take j xs) ∙ ap (λ m. cond (p x) 1 0 + m) h.before ∙ sym f;
    })

pub nth_position : {X : Type 0} (p : X → Bool) (xs : List X) (k i : ℕ) → slice_get (positions p xs) k ≡ Some i → IsNth p xs k i
nth_position p [] k i e = absurd (cc)
nth_position {X = X} p (x ∷ xs) k i e = by (λ n j h. nth_position p xs n j h) (p x) refl k e
  where
    later : ((n j : ℕ) → slice_get (positions p xs) n ≡ Some j → IsNth p xs n j) → (n : ℕ) → slice_get (map (λ m. m + 1) (positions p xs)) n ≡ Some i → (j : ℕ) × IsNth p xs n j × (i ≡ suc j)
    later among n h =
        let back = shifted_back (slice_get (positions p xs) n) i (sym (slice_get-map (λ m. m + 1) (positions p xs) n) ∙ h) in
        (back.0, among n back.0 back.1, back.2)

    by : ((n j : ℕ) → slice_get (positions p xs) n ≡ Some j → IsNth p xs n j) → (b : Bool) → p x ≡ b → (k : ℕ)
        → slice_get (cond b (0 ∷ map (λ m. m + 1) (positions p xs)) (map (λ m. m + 1) (positions p xs))) k ≡ Some i → IsNth p (x ∷ xs) k i
    by among true t zero h =
        let first : 0 ≡ i = cc in
        subst (IsNth p (x ∷ xs) zero) first (record { it = x; here = refl; passes = t; before = refl })
    by among true t (suc k) h =
        let l = later among k h in
        IsNth-later p x xs k (suc k) i l.0 l.1 l.2 (sym (ap (λ b. cond b 1 0 + k) t ∙ one-add k))
    by among false t k h =
        let l = later among k h in
        IsNth-later p x xs k k i l.0 l.1 l.2 (sym (ap (λ b. cond b 1 0 + k) t ∙ zero-add k))

-- of two that pass, the later has more before it
pub count_rises : {X : Type 0} (p : X → Bool) (xs : List X) (i j : ℕ) (x : X) → slice_get xs i ≡ Some x → p x ≡ true → i < j → count_by p (take i xs) + 1 ≤ count_by p (take j xs)
count_rises p xs i j x at t lt =
    let within = slice_get_within xs i x at in
    let more = count_by_more_yes p xs i x within (ap p (get_or_from_slice_get xs i x x at) ∙ t) in
    let within_j = sum_by-take-le (λ y. cond (p y) 1 0) (take j xs) (i + 1) in
    let same = ap (count_by p) (take-take (i + 1) j xs (omega arith)) in
    omega arith
