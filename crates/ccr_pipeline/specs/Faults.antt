-- The faults that are present in a value, in the order in which they count.
use Rattle.std.specs.Prelude.{◌≡◌, ℕ, List, [], ◌∷◌, Bool, true, false, Option, Some, None, Result, Ok, Err, string_bytes, ⊤}
use Rattle.ccr_pipeline.specs.declared.fault.Rule.{Rule}
use Rattle.ccr_pipeline.specs.declared.fault.Rule.TheVariants as rule
use Rattle.ccr_pipeline.specs.declared.fault.ReadFault.{ReadFault}
use Rattle.ccr_pipeline.specs.declared.fault.ReadFault.TheVariants.{TooLong, NotJson, Missing, WrongKind, BadName, Repeated, NoStep, TwoSteps, UnknownResource, UnknownJob, BadAttempts, TooDeep, TooMany, Unsupported, NumberNotWhole, NoMemory}

-- the bytes of a path
abbrev pub Path : Type 0
Path = List ℕ

-- each the rule that is broken, and where
abbrev pub Faults : Type 0
Faults = List (Rule × Path)

-- the fault that is present where a test fails
abbrev pub unless : Bool → Rule → Path → Faults
unless true r p = []
unless false r p = (r, p) ∷ []

-- what a refusal says; of memory it says nothing
abbrev pub fault_of : ReadFault → Option (Rule × Path)
fault_of (TooLong p) = Some (rule.Length, string_bytes p)
fault_of (NotJson p) = Some (rule.Json, string_bytes p)
fault_of (Missing p) = Some (rule.Presence, string_bytes p)
fault_of (WrongKind p) = Some (rule.Kind, string_bytes p)
fault_of (BadName p) = Some (rule.Name, string_bytes p)
fault_of (Repeated p) = Some (rule.Once, string_bytes p)
fault_of (NoStep p) = Some (rule.OneStep, string_bytes p)
fault_of (TwoSteps p) = Some (rule.OnlyOneStep, string_bytes p)
fault_of (UnknownResource p) = Some (rule.KnownResource, string_bytes p)
fault_of (UnknownJob p) = Some (rule.KnownJob, string_bytes p)
fault_of (BadAttempts p) = Some (rule.Attempts, string_bytes p)
fault_of (TooDeep p) = Some (rule.Depth, string_bytes p)
fault_of (TooMany p) = Some (rule.Number, string_bytes p)
fault_of (Unsupported p) = Some (rule.Supported, string_bytes p)
fault_of (NumberNotWhole p) = Some (rule.Whole, string_bytes p)
fault_of NoMemory = None

-- the first of the faults, if there is one
abbrev pub first : Faults → Option (Rule × Path)
first [] = None
first (f ∷ fs) = Some f

-- the first of the faults is this one, if it is one of the text
abbrev pub StartsWith : Faults → Option (Rule × Path) → Type 0
StartsWith fs None = ⊤
StartsWith [] (Some f) = ⊥
StartsWith (g ∷ gs) (Some f) = g ≡ f

-- a refusal names the first fault, or says that memory ran out
abbrev pub IsFirst : Faults → ReadFault → Type 0
IsFirst fs e = StartsWith fs (fault_of e)

-- a test passes exactly where no fault is present, and else tells the first
abbrev pub Checks : {T : Type 0} → Faults → Result T ReadFault → Type 0
Checks fs (Ok t) = fs ≡ []
Checks fs (Err e) = IsFirst fs e

-- a value without a fault is read as this, seen so; else the first fault is told
abbrev pub ChecksAs : {T U : Type 0} → Faults → U → (T → U) → Result T ReadFault → Type 0
ChecksAs fs u see (Ok t) = (fs ≡ []) × (see t ≡ u)
ChecksAs fs u see (Err e) = IsFirst fs e
