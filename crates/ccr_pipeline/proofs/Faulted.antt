-- How the faults of a whole follow from those of its parts.
use Rattle.std.proofs.Common.{◌≡◌, refl, [], ◌∷◌, ◌++◌, Option, Some, None, Result, Ok, Err}
use Rattle.std.specs.Result.{IsErrAnd}
use Rattle.ccr_pipeline.specs.declared.fault.Rule.{Rule}
use Rattle.ccr_pipeline.specs.declared.fault.ReadFault.{ReadFault}
use Rattle.ccr_pipeline.specs.Faults.{Path, Faults, first, StartsWith, IsFirst, fault_of, Checks, ChecksAs}

starts_append : (fs gs : Faults) (o : Option (Rule × Path)) → StartsWith fs o → StartsWith (fs ++ gs) o
starts_append fs gs None h = tt
starts_append [] gs (Some f) h = absurd h
starts_append (g ∷ fs) gs (Some f) h = h

-- the first fault of a part is that of the whole, where no part before it has one
pub first_append : (fs gs : Faults) (e : ReadFault) → IsFirst fs e → IsFirst (fs ++ gs) e
first_append fs gs e h = starts_append fs gs (fault_of e) h

-- a fault that a call passed on is the whole's, where it is its first
pub checks_fault : {T : Type 0} (fs : Faults) (x : Result T ReadFault) (e : ReadFault) → IsErrAnd x (λ f. f ≡ e) → IsFirst fs e → Checks fs x
checks_fault fs (Ok t) e h first = absurd h
checks_fault fs (Err f) e h first = rw h first

-- the same of a call that reads
pub checks_as_fault : {T U : Type 0} (fs : Faults) (u : U) (see : T → U) (x : Result T ReadFault) (e : ReadFault) → IsErrAnd x (λ f. f ≡ e) → IsFirst fs e → ChecksAs fs u see x
checks_as_fault fs u see (Ok t) e h first = absurd h
checks_as_fault fs u see (Err f) e h first = rw h first

-- the first of the faults is the first
pub starts_first : (fs : Faults) → StartsWith fs (first fs)
starts_first [] = tt
starts_first (f ∷ fs) = refl

-- there is none where there is no first
pub no_first : (fs : Faults) → first fs ≡ None → fs ≡ []
no_first [] e = refl
no_first (f ∷ fs) e = absurd (cc (e))
