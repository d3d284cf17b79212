-- Layers: how many jobs come before a job at least.
use Rattle.std.specs.Prelude.{◌≡◌, ℕ, zero, suc, ◌<◌, ◌≤◌, ◌⊎◌, not, ◌==◌, List, [], length, map, count_by, slice_index, slice_index_or, All, Contains}
use Rattle.std.specs.declared.vec.Vec.{Vec}

-- The nodes that a node names.
abbrev pub named_in : {A : Type 0} → List (Vec ℕ A) → ℕ → List ℕ
named_in named t = slice_index_or (map (λ v. v.items) named) t []

-- How many nodes name others.
abbrev pub naming : {A : Type 0} → List (Vec ℕ A) → ℕ
naming named = count_by (λ v. not (length v.items == 0)) named

-- So many names lead from one node back to another.
abbrev pub LeadsBack : {A : Type 0} → List (Vec ℕ A) → ℕ → ℕ → ℕ → Type 0
LeadsBack named zero t s = t ≡ s
LeadsBack named (suc n) t s = (m : ℕ) × (Contains (named_in named t) m × LeadsBack named n m s)

-- Names lead from a node back to itself.
abbrev pub IsNamedBack : {A : Type 0} → List (Vec ℕ A) → ℕ → Type 0
IsNamedBack named t = (n : ℕ) × LeadsBack named (suc n) t t

-- A layer for each node, at most 400 and at most the number of nodes that name others; a node lies in a later layer than each that it names, unless it lies on a cycle of names.
pub record AreLayers {A : Type 0} (named : List (Vec ℕ A)) (layers : List ℕ) : Type 0 where
  pub long : length layers ≡ length named
  pub low : All (λ l. l ≤ 400) layers
  pub few : All (λ l. l ≤ naming named) layers
  pub later : (t s : ℕ) → t < length named → s < length named → Contains (named_in named t) s
      → (slice_index layers s < slice_index layers t) ⊎ IsNamedBack named t
