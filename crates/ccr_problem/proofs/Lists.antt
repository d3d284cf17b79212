-- Lists, one element of which is written anew.
use Rattle.std.proofs.Common.{◌≡◌, ℕ, ◌<◌, List, length, set, get_or, inl, inr, sym, subst}
use Rattle.std.proofs.lemmas.Bool.{cases_eq}
use Rattle.std.proofs.lemmas.List.{get_or-set_same, get_or-set_other}

-- what holds of the new element and of each other one holds of each
pub at_set : {X : Type 0} (P : ℕ → X → Type 0) (xs : List X) (i k : ℕ) (y d : X) → i < length xs → P i y → ((k ≡ i → ⊥) → P k (get_or xs k d)) → P k (get_or (set xs i y) k d)
at_set P xs i k y d within here other = elim (cases_eq k i) [
  | inl e ↦ subst (λ n. P n (get_or (set xs i y) n d)) (sym e) (subst (P i) (sym (get_or-set_same xs i y d within)) here)
  | inr apart ↦ subst (P k) (sym (get_or-set_other xs i k y d apart)) (other apart)
]
