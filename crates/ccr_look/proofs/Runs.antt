-- Runs, one after another.
use Rattle.std.proofs.Common.{List, [], ◌∷◌, refl, sym, subst}
use Rattle.std.proofs.Math.Logic.{∥∥₁_elim, ∥∥₁_map}
use Rattle.sqlite_wal.specs.Recovery.{Image}
use Rattle.ccr_history.specs.History.{HistoryData}
use Rattle.ccr_look.specs.Holding.{HoldsHistory}
use Rattle.ccr_look.specs.Runs.{Run, AreRuns, LeadOn}

-- what the files hold in the end is the history to which all events lead
pub one_list : (rs : List Run) (image end : Image) (h : HistoryData) → HoldsHistory image h → AreRuns image rs end
    → ∥ ((after : HistoryData) × LeadOn h rs after × HoldsHistory end after) ∥₁
one_list [] image end h held same = ∣ (h, refl, subst (λ (i : Image). HoldsHistory i h) (sym same) held) ∣₁
one_list (r ∷ rs) image end h held runs =
    let found = runs.1.found h (subst (λ (i : Image). HoldsHistory i h) (sym runs.0) held) in
    ∥∥₁_elim runs.1.left squash₁ (λ left. ∥∥₁_map (one_list rs r.after end r.last.history left runs.2)
    (λ more. let it : (after : HistoryData) × LeadOn h (r ∷ rs) after × HoldsHistory end after = (more.0, (found, more.1), more.2) in it))
