-- Where builds stand in a history, in order of making.
use Rattle.std.specs.Prelude.{◌≡◌, ℕ, ◌+◌, ◌≤◌, List, [], ◌∷◌, Option, Some, None, slice_get, ⊤}
use Rattle.ccr_history.specs.Text.{Text}
use Rattle.ccr_history.specs.Builds.{BuildData, build_of}

-- where a job's build of this number stands among all builds, counted from 0; nothing where there is none
abbrev pub IsMadeAt : List BuildData → Text → ℕ → Option ℕ → Type 0
IsMadeAt builds job number None = build_of job number builds ≡ None
IsMadeAt builds job number (Some position) =
    (b : BuildData) × (slice_get builds position ≡ Some b) × (build_of job number builds ≡ Some b)

-- these builds stand in the history in this order, none of them before the least position
abbrev pub AreInOrder : List BuildData → ℕ → List (Text × ℕ) → Type 0
AreInOrder builds least [] = ⊤
AreInOrder builds least (n ∷ ns) =
    (position : ℕ) × (least ≤ position) × IsMadeAt builds n.0 n.1 (Some position) × AreInOrder builds (position + 1) ns
