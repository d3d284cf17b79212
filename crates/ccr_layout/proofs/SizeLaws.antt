-- How many there are of things in an order, none twice.
use Rattle.std.proofs.Common.{◌≡◌, ℕ, zero, suc, ◌+◌, ◌*◌, ◌<◌, ◌≤◌, ◌⊎◌, List, [], ◌∷◌, length, get_or, inl, inr, ap, arith}
use Rattle.std.specs.Prelude.{All, AllPairs}
use Rattle.std.proofs.Math.Nat.{mul-le-mul_left}
use Rattle.ccr_layout.specs.declared.picture.Slot.{Slot}

-- where each thing has a greater number than those before it, none has a number less than its position
rising : {X : Type 0} (key : X → ℕ) (xs : List X) (d : X) → AllPairs (λ x y. key x < key y) xs → (i : ℕ) → i < length xs → i ≤ key (get_or xs i d)
rising key xs d order zero within = omega arith
rising key xs d order (suc i) within =
    let h = rising key xs d order i (omega (arith, within)) in
    let less = order i (suc i) d (omega arith) within in
    omega (arith, h, less)

-- so there are no more than numbers below the bound of all
rising_count : {X : Type 0} (key : X → ℕ) (xs : List X) (n : ℕ) → AllPairs (λ x y. key x < key y) xs → All (λ x. key x < n) xs → length xs ≤ n
rising_count key [] n order low = omega arith
rising_count key (x ∷ xs) n order low =
    let h = rising key (x ∷ xs) x order (length xs) (omega arith) in
    let l = low (length xs) x (omega arith) in
    omega (arith, h, l)

-- one slot at most for each node and column
pub slots_few : (slots : List Slot) (nodes columns : ℕ) → AllPairs (λ s t. (s.node < t.node) ⊎ ((s.node ≡ t.node) × (s.column < t.column))) slots
    → All (λ s. (s.node < nodes) × (s.column < columns)) slots → length slots ≤ nodes * columns
slots_few slots nodes columns order low =
    let h = rising_count (λ s. columns * s.node + s.column) slots (columns * nodes) greater below in
    omega (arith, h)
  where
    step : (a b c : ℕ) → a < b → c < columns → columns * a + c < columns * b
    step a b c less within = let h : a + 1 ≤ b = omega (arith, less) in omega (arith, mul-le-mul_left columns h, within)

    rises : (s t : Slot) → s.column < columns → (s.node < t.node) ⊎ ((s.node ≡ t.node) × (s.column < t.column)) → columns * s.node + s.column < columns * t.node + t.column
    rises s t within (inl less) = omega (arith, step s.node t.node s.column less within)
    rises s t within (inr same) = let e = ap (λ n. columns * n) same.0 in omega (arith, e, same.1)

    greater : AllPairs (λ s t. columns * s.node + s.column < columns * t.node + t.column) slots
    greater i j d less within = rises (get_or slots i d) (get_or slots j d) (low i d (omega (arith, less, within))).1 (order i j d less within)

    below : All (λ s. columns * s.node + s.column < columns * nodes) slots
    below k d within = step (get_or slots k d).node nodes (get_or slots k d).column (low k d within).0 (low k d within).1
