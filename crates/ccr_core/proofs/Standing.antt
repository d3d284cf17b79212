-- Builds found by their numbers.
use Rattle.std.proofs.Common.{◌≡◌, ◌⊎◌, ℕ, zero, suc, ◌+◌, ◌<◌, ◌≤◌, List, [], ◌∷◌, Some, None, length, slice_get, ap, ◌∙◌, arith}
use Rattle.ccr_history.specs.Text.{Text}
use Rattle.ccr_history.specs.Builds.{BuildData, build_of, positions_of}
use Rattle.ccr_history.specs.History.{AreNumbered}
use Rattle.ccr_history.proofs.Numbered.{build_of-only, numbered_only, numbered_none}
use Rattle.ccr_core.specs.Positions.{IsMadeAt}

pub stands_at : (job : Text) (bs : List BuildData) → AreNumbered bs → (n number i : ℕ) → number ≡ n + 1 → slice_get (positions_of job bs) n ≡ Some i → IsMadeAt bs job number (Some i)
stands_at job bs numbered n number i is at =
    let only = numbered_only job bs numbered n i at in
    (only.it, only.here, ap (λ m. build_of job m bs) is ∙ build_of-only job (n + 1) bs i only ∙ only.here)

pub stands_nowhere : (job : Text) (bs : List BuildData) → AreNumbered bs → (number : ℕ) → (number ≡ 0) ⊎ (length (positions_of job bs) < number) → IsMadeAt bs job number None
stands_nowhere job bs numbered number out = numbered_none job bs numbered number out

pub none_past : (ns : List ℕ) (n : ℕ) → slice_get ns n ≡ None → length ns ≤ n
none_past [] n at = omega arith
none_past (m ∷ ns) zero at = absurd (cc at)
none_past (m ∷ ns) (suc n) at = let rest = none_past ns n at in omega (arith, rest)
