-- The mean of heights that are added one by one.
use Rattle.std.specs.Prelude.{◌≡◌, ℕ, ◌+◌, ◌-◌, ◌/◌, ◌^◌, ◌<◌, List, length, fold, min, Bool, ◌&&◌, ◌==◌, if◌then◌else◌, Option, Some, None, slice_index_or}
use Rattle.ccr_layout.specs.declared.mean.Mean.{Mean}

-- Nothing was added.
abbrev pub nothing : Mean
nothing = record { sum = 0; count = 0 }

-- One height was added.
abbrev pub mean_of : ℕ → Mean
mean_of height = record { sum = height; count = 1 }

-- What was added to one and to another, as far as 64 bits go.
abbrev pub joined : Mean → Mean → Mean
joined m n = record { sum = min (m.sum + n.sum) (2 ^ 64 - 1); count = min (m.count + n.count) (2 ^ 64 - 1) }

-- The mean, rounded down, as far as 32 bits go; none where nothing was added.
abbrev pub mean_got : Mean → Option ℕ
mean_got m = if m.count == 0 then None else Some (min (m.sum / m.count) (2 ^ 32 - 1))

-- What was added for a node.
abbrev pub mean_in : List Mean → ℕ → Mean
mean_in means k = slice_index_or means k nothing

-- WHAT IS ADDED FOR A NODE by things, one after another: each of these adds a mean for the node to which it leads.
abbrev pub added : {X : Type 0} → (X → Bool) → (X → ℕ) → (X → Mean) → ℕ → List X → Mean
added is to of k xs = fold (λ m x. if is x && to x == k then joined m (of x) else m) nothing xs

-- For each of so many nodes what things add.
pub record AreAdded {X : Type 0} (is : X → Bool) (to : X → ℕ) (of : X → Mean) (xs : List X) (nodes : ℕ) (means : List Mean) : Type 0 where
  pub long : length means ≡ nodes
  pub each : (k : ℕ) → k < nodes → mean_in means k ≡ added is to of k xs
