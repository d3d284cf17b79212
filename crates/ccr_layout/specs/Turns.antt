-- Which node comes next.
use Rattle.std.specs.Prelude.{◌≡◌, ℕ, zero, suc, ◌<◌, ◌⊎◌, true, false, not, Bool, List, length, find, slice_index_or, unwrap_or, Option, MatchOption, Contains}
use Rattle.std.specs.declared.vec.Vec.{Vec}
use Rattle.ccr_layout.specs.Layers.{named_in, IsNamedBack}

-- A node isn't done.
abbrev pub is_left : List Bool → ℕ → Bool
is_left done node = not (slice_index_or done node true)

-- The first node that isn't done of those that this one names; where there is none, this one.
abbrev pub step_back : {A : Type 0} → List (Vec ℕ A) → List Bool → ℕ → ℕ
step_back named done node = unwrap_or (find (λ s. is_left done s) (named_in named node)) node

-- So many such steps.
abbrev pub steps_back : {A : Type 0} → List (Vec ℕ A) → List Bool → ℕ → ℕ → ℕ
steps_back named done zero node = node
steps_back named done (suc n) node = step_back named done (steps_back named done n node)

-- Each node that isn't done names one that isn't.
abbrev pub NoneIsReady : {A : Type 0} → List (Vec ℕ A) → List Bool → Type 0
NoneIsReady named done = (t : ℕ) → t < length named → slice_index_or done t true ≡ false
    → (s : ℕ) × (Contains (named_in named t) s × (slice_index_or done s true ≡ false))

-- A node that isn't done can be next: all that it names are done, or it lies on a cycle of names.
pub record CanBeNext {A : Type 0} (named : List (Vec ℕ A)) (done : List Bool) (node : ℕ) : Type 0 where
  pub within : node < length named
  pub left : slice_index_or done node true ≡ false
  pub ready : ((s : ℕ) → Contains (named_in named node) s → slice_index_or done s true ≡ true) ⊎ IsNamedBack named node

-- The next node, if one is left.
abbrev pub IsNext : {A : Type 0} → List (Vec ℕ A) → List Bool → Option ℕ → Type 0
IsNext named done next = MatchOption next ((t : ℕ) → slice_index_or done t true ≡ true) (CanBeNext named done)
