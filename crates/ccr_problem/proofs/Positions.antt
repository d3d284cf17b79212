-- The builds at the positions of a job's builds.
use Rattle.std.proofs.Common.{◌≡◌, ℕ, zero, suc, ◌+◌, ◌<◌, ◌≤◌, List, [], ◌∷◌, ◌++◌, length, map, reverse, drop, Bool, true, false, cond, refl, sym, ap, ap₂, ◌∙◌, arith, add-one, Some}
use Rattle.std.specs.Prelude.{filter, slice_get, slice_index_or, option_map}
use Rattle.std.proofs.lemmas.List.{length-map, map-append, reverse-append, append-nil, drop_more, drop_all}
use Rattle.std.proofs.lemmas.Option.{slice_get-map, slice_get-get_or, get_or_from_slice_get}
use Rattle.ccr_history.specs.Builds.{positions}

some_at : {X : Type 0} (xs : List X) (k : ℕ) → k < length xs → (x : X) × (slice_get xs k ≡ Some x)
some_at [] k within = absurd (omega arith)
some_at (x ∷ xs) zero within = (x, refl)
some_at (x ∷ xs) (suc k) within = some_at xs k (omega arith)

module _ {X : Type 0} (test : X → Bool) where
  shifted : (x : X) (xs : List X) (ns : List ℕ) → map (slice_get (x ∷ xs)) (map (λ n. n + 1) ns) ≡ map (slice_get xs) ns
  shifted x xs [] = refl
  shifted x xs (n ∷ ns) = ap₂ (λ o os. o ∷ os) (ap (slice_get (x ∷ xs)) (add-one n)) (shifted x xs ns)

  at_by : (b : Bool) (x : X) (xs : List X) (ns : List ℕ) → map (slice_get xs) ns ≡ map Some (filter test xs)
      → map (slice_get (x ∷ xs)) (cond b (0 ∷ map (λ n. n + 1) ns) (map (λ n. n + 1) ns)) ≡ map Some (cond b (x ∷ filter test xs) (filter test xs))
  at_by true x xs ns rec = ap (λ os. Some x ∷ os) (shifted x xs ns ∙ rec)
  at_by false x xs ns rec = shifted x xs ns ∙ rec

  -- at these positions stand those that pass the test, in their order
  pub at_positions : (xs : List X) → map (slice_get xs) (positions test xs) ≡ map Some (filter test xs)
  at_positions [] = refl
  at_positions (x ∷ xs) = at_by (test x) x xs (positions test xs) (at_positions xs)

  pub length-positions : (xs : List X) → length (positions test xs) ≡ length (filter test xs)
  length-positions xs =
      sym (length-map (positions test xs) (slice_get xs)) ∙ ap length (at_positions xs) ∙ length-map (filter test xs) Some

  -- what stands at the k-th of these positions
  pub at_position : (xs : List X) (ps : List ℕ) (k : ℕ) → ps ≡ positions test xs → k < length ps
      → (x : X) × (slice_get xs (slice_index_or ps k 0) ≡ Some x) × (slice_get (filter test xs) k ≡ Some x)
  at_position xs ps k e within =
      let mine : List X = filter test xs in
      let inside : k < length mine = omega (arith, length-positions xs, ap length e) in
      let found = some_at mine k inside in
      let here : slice_get ps k ≡ Some (slice_index_or ps k 0) = slice_get-get_or ps k 0 within in
      let left : slice_get (map (slice_get xs) ps) k ≡ Some (slice_get xs (slice_index_or ps k 0)) =
      slice_get-map (slice_get xs) ps k ∙ ap (option_map (slice_get xs)) here in
      let right : slice_get (map Some mine) k ≡ Some (Some found.0) = slice_get-map Some mine k ∙ ap (option_map Some) found.1 in
      let both : map (slice_get xs) ps ≡ map Some mine = ap (map (slice_get xs)) e ∙ at_positions xs in
      let same : Some (slice_get xs (slice_index_or ps k 0)) ≡ Some (Some found.0) = sym left ∙ ap (λ os. slice_get os k) both ∙ right in
      (found.0, cc, found.1)

-- ---- reading from the end
module _ {B V : Type 0} (chosen : B → Bool) (value : B → V) where
  -- those that are chosen, the last first
  abbrev pub backwards : List B → List V
  backwards bs = map value (reverse (filter chosen bs))

  more_by : (c : Bool) (b : B) (rest : List B) → map value (reverse (cond c (b ∷ rest) rest)) ≡ map value (reverse rest) ++ map value (cond c (b ∷ []) [])
  more_by true b rest = ap (map value) (reverse-append (b ∷ []) rest) ∙ map-append value (reverse rest) (b ∷ [])
  more_by false b rest = sym (append-nil (map value (reverse rest)))

  -- one more
  pub backwards_more : (bs : List B) (k n : ℕ) (b : B) → k < length bs → n ≡ k + 1 → slice_get bs k ≡ Some b
      → backwards (drop k bs) ≡ backwards (drop n bs) ++ map value (filter chosen (b ∷ []))
  backwards_more bs k n b within next is =
      let first : drop k bs ≡ b ∷ drop (k + 1) bs = drop_more bs k b within ∙ ap (λ y. y ∷ drop (k + 1) bs) (get_or_from_slice_get bs k b b is) in
      let rest : drop (k + 1) bs ≡ drop n bs = ap (λ m. drop m bs) (sym next) in
      ap backwards (first ∙ ap (λ ys. b ∷ ys) rest) ∙ more_by (chosen b) b (filter chosen (drop n bs))

  pub backwards_none : (bs : List B) (k : ℕ) → length bs ≤ k → backwards (drop k bs) ≡ []
  backwards_none bs k past = ap backwards (drop_all k bs past)
