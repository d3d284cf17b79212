-- Bytes that are unread have one fault.
use Rattle.std.proofs.Common.{◌≡◌, ℕ, List, [], ◌∷◌, map, refl, inl, Some, subst, Result, Ok, Err, IfOk}
use Rattle.serde_json.specs.Data.{Data}
use Rattle.ccr_pipeline.specs.declared.fault.ReadFault.{ReadFault}
use Rattle.ccr_pipeline.specs.declared.fault.ReadFault.TheVariants.{TooLong, NotJson, Missing, WrongKind, BadName, Repeated, NoStep, TwoSteps, UnknownResource, UnknownJob, BadAttempts, TooDeep, TooMany, Unsupported, NumberNotWhole, NoMemory}
use Rattle.ccr_pipeline.specs.declared.fault.Rule.{Rule}
use Rattle.ccr_pipeline.specs.Faults.{Path, Faults, fault_of}
use Rattle.ccr_pipeline.specs.Reading.{IsNoValue}
use Rattle.ccr_findings.specs.Present.{AreFaults}

-- each refusal but that of memory says what is broken
said : (e : ReadFault) → (e ≡ NoMemory → ⊥) → (f : Rule × Path) × (fault_of e ≡ Some f)
said (TooLong p) h = (_, refl)
said (NotJson p) h = (_, refl)
said (Missing p) h = (_, refl)
said (WrongKind p) h = (_, refl)
said (BadName p) h = (_, refl)
said (Repeated p) h = (_, refl)
said (NoStep p) h = (_, refl)
said (TwoSteps p) h = (_, refl)
said (UnknownResource p) h = (_, refl)
said (UnknownJob p) h = (_, refl)
said (BadAttempts p) h = (_, refl)
said (TooDeep p) h = (_, refl)
said (TooMany p) h = (_, refl)
said (Unsupported p) h = (_, refl)
said (NumberNotWhole p) h = (_, refl)
said NoMemory h = absurd (h refl)

-- one refusal but that of memory
pub told_alone : (e : ReadFault) (vs : List ReadFault) → (e ≡ NoMemory → ⊥) → vs ≡ e ∷ [] → (f : Rule × Path) × (fault_of e ≡ Some f) × (map fault_of vs ≡ Some f ∷ [])
told_alone e vs other is =
    let some = said e other in
    (some.0, some.1, rw (is, some.1) refl)

-- it is all that is wrong with unread bytes
unread_faults : (p : Path) (faults : Data → Faults) (bytes : List ℕ) (e : ReadFault) (vs : List ReadFault) → IsNoValue p bytes (fault_of e) → (f : Rule × Path) × (fault_of e ≡ Some f) × (map fault_of vs ≡ Some f ∷ []) → (fs : Faults) × (map fault_of vs ≡ map Some fs) × AreFaults p faults bytes fs
unread_faults p faults bytes e vs unread (f, is, told) = (f ∷ [], told, inl (f, subst (IsNoValue p bytes) is unread, refl))

-- the same where memory may run out
pub unread_all : {T E : Type 0} (r : Result T E) (see : T → List ReadFault) (p : Path) (faults : Data → Faults) (bytes : List ℕ) (e : ReadFault) → IsNoValue p bytes (fault_of e) → IfOk r (λ v. (f : Rule × Path) × (fault_of e ≡ Some f) × (map fault_of (see v) ≡ Some f ∷ [])) → IfOk r (λ v. (fs : Faults) × (map fault_of (see v) ≡ map Some fs) × AreFaults p faults bytes fs)
unread_all (Ok v) see p faults bytes e unread told = unread_faults p faults bytes e (see v) unread told
unread_all (Err x) see p faults bytes e unread told = tt
