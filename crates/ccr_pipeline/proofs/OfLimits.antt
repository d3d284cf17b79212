-- Where the first fault of a pipeline breaks a rule of limits, a job of it does.
use Rattle.std.proofs.Common.{◌≡◌, ℕ, List, [], ◌∷◌, Option, Some, None, refl, subst, Result, Ok, Err, IfErr}
use Rattle.serde_json.specs.Data.{Data}
use Rattle.ccr_pipeline.specs.declared.fault.ReadFault.{ReadFault}
use Rattle.ccr_pipeline.specs.declared.fault.Rule.{Rule}
use Rattle.ccr_pipeline.specs.declared.fault.Rule.TheVariants as rule
use Rattle.ccr_pipeline.specs.Breaches.{IsDeepJob, HasBadTries, OfLimits}
use Rattle.ccr_pipeline.specs.Faults.{Path, Faults, StartsWith, Checks, fault_of}
use Rattle.ccr_pipeline.specs.Reading.{pipeline_faults, IsTextOf}
use Rattle.ccr_pipeline.proofs.BadTries.{bad_job}
use Rattle.ccr_pipeline.proofs.QuietJobs.{told_job}
use Rattle.ccr_pipeline.proofs.Told.{Tells}
use Rattle.ccr_pipeline.proofs.TooDeep.{deep_job}

tells : (r : Rule) (fs : Faults) (f : Rule × Path) → StartsWith fs (Some f) → f.0 ≡ r → Tells r fs
tells r [] f h e = absurd h
tells r (g ∷ gs) f h e = rw (h, e) refl

-- a fault of depth is told only of a plan that is too deep, one of attempts only of attempts that break their limits
of_limits : (d : Data) (o : Option (Rule × Path)) → StartsWith (pipeline_faults d) o → OfLimits d o
of_limits d None h = tt
of_limits d (Some f) h = (
  λ e. told_job rule.Depth tt IsDeepJob deep_job d (tells rule.Depth (pipeline_faults d) f h e),
  λ e. told_job rule.Attempts tt HasBadTries bad_job d (tells rule.Attempts (pipeline_faults d) f h e),
)

-- bytes are the text of one value, so that a fault of it is one of the bytes
pub read_limits : {T : Type 0} (bytes : List ℕ) (d : Data) (r : Result T ReadFault) → IsTextOf bytes d → Checks (pipeline_faults d) r → IfErr r (λ fault. (e : Data) → IsTextOf bytes e → OfLimits e (fault_of fault))
read_limits bytes d (Ok t) one h = tt
read_limits bytes d (Err f) one h = λ e two.
    let same : d ≡ e = cc (one.2, two.2) in
    subst (λ x. OfLimits x (fault_of f)) same (of_limits d (fault_of f) h)
