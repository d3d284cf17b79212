-- All faults that are present in a text, as they are found.
use Rattle.std.specs.Prelude.{◌≡◌, ◌⊎◌, ℕ, List, [], ◌∷◌, map, string_bytes}
use Rattle.serde_json.specs.Data.{Data}
use Rattle.ccr_pipeline.specs.declared.fault.Rule.{Rule}
use Rattle.ccr_findings.specs.declared.present.Breach.{Breach}
use Rattle.ccr_pipeline.specs.Faults.{Path, Faults}
use Rattle.ccr_pipeline.specs.Names.{has_name}
use Rattle.ccr_pipeline.specs.Reading.{IsTextOf, IsUnread}
use Rattle.ccr_pipeline.specs.Tree.{Text}

-- faults, without where their paths lie in memory
abbrev pub faults_in : List Breach → Faults
faults_in bs = map (λ b. (b.rule, string_bytes b.path)) bs

-- the same names are among both
abbrev pub HasSame : List Text → List Text → Type 0
HasSame names others = (name : Text) → has_name names name ≡ has_name others name

-- all that is wrong with bytes: they are unread, which is one fault, or each fault that is present in their value
abbrev pub AreFaults : Path → (Data → Faults) → List ℕ → Faults → Type 0
AreFaults p faults bytes fs =
    ((f : Rule × Path) × IsUnread p bytes f × (fs ≡ f ∷ []))
    ⊎ ((d : Data) × IsTextOf bytes d × (fs ≡ faults d))
