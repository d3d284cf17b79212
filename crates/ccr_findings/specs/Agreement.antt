-- The faults that are found, and what the reader tells.
use Rattle.std.specs.Prelude.{◌≡◌, ◌↔◌, ℕ, List, [], Some, codes, ⊤}
use Rattle.ccr_pipeline.specs.declared.fault.Rule.{Rule}
use Rattle.ccr_pipeline.specs.Faults.{Path, Faults, first}
use Rattle.ccr_pipeline.specs.Reading.{pipeline_faults, Refuses, IsReading}
use Rattle.ccr_findings.specs.Present.{AreFaults}

-- of all faults of bytes, a fault is the first exactly where the reader may refuse the bytes for it
abbrev pub IsFirstWhereRefused : List ℕ → Faults → Type 0
IsFirstWhereRefused bytes fs =
    (f : Rule × Path) → Refuses (codes "pipeline") pipeline_faults bytes (Some f) ↔ (first fs ≡ Some f)

-- there are none exactly where it may read the bytes
abbrev pub AreNoneWhereRead : List ℕ → Faults → Type 0
AreNoneWhereRead bytes fs = IsReading pipeline_faults bytes (λ d. ⊤) ↔ (fs ≡ [])

-- all faults of any bytes are those of the reader
abbrev pub AreThoseOfTheReader : Type 0
AreThoseOfTheReader = (bytes : List ℕ) (fs : Faults)
    → AreFaults (codes "pipeline") pipeline_faults bytes fs
    → IsFirstWhereRefused bytes fs × AreNoneWhereRead bytes fs
