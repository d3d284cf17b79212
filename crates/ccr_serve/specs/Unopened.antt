-- Why a server isn't opened.
use Rattle.std.specs.Prelude.{◌≡◌, List, [], ◌∷◌, Some}
use Rattle.ccr_history.specs.History.{HistoryData}
use Rattle.ccr_history.specs.Changes.{changed}
use Rattle.ccr_history.specs.Counts.{RoseBy}
use Rattle.ccr_history.specs.declared.store_fault.StoreFault.{StoreFault}
use Rattle.ccr_history.specs.declared.tally.Tally.{Tally}
use Rattle.ccr_core.specs.Resumed.{resumed}
use Rattle.ccr_serve.specs.declared.fault.ServeFault.{ServeFault}
use Rattle.ccr_serve.specs.declared.fault.ServeFault.TheVariants.{Store, NoMemory}

module _ {T : Type 0} (holds : T → HistoryData → Type 0) (leaves : T → List HistoryData → Type 0) (tally : T → Tally) (h : HistoryData)
    (old new : T) where
  -- the storage was asked for one commit, and it failed with this fault: it holds what it held, and a crash leaves that, or
  -- what the commit was to make of it
  pub record IsUnstored (fault : StoreFault) : Type 0 where
    pub counted : RoseBy (tally old).commits 1 (tally new).commits
    pub told : (tally new).fault ≡ Some fault
    pub held : holds new h
    pub left : leaves new (changed (resumed h) h ∷ h ∷ [])

  -- WHY A SERVER ISN'T OPENED: it was out of memory, and nothing was asked of the storage; or the storage failed
  abbrev pub KeepsFromOpening : ServeFault → Type 0
  KeepsFromOpening NoMemory = new ≡ old
  KeepsFromOpening (Store fault) = IsUnstored fault
  KeepsFromOpening fault = ⊥
