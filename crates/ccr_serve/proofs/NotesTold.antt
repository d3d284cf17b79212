-- What a turn tells.
use Rattle.std.proofs.Common.{◌≡◌, List, [], Option, Some, None, Result, Ok, Err, IfOk, IfSome, option_map, unwrap_or, String, string_bytes, ap, subst, inl, inr}
use Rattle.std.specs.declared.alloc.Global.{Global}
use Rattle.ccr_history.specs.Text.{Text}
use Rattle.ccr_core.specs.declared.reply.Reply.{Reply}
use Rattle.ccr_core.specs.Events.{EventData}
use Rattle.ccr_core.specs.Holding.{CoreData, TakesStep}
use Rattle.ccr_task.specs.declared.said.StepFault.{StepFault}
use Rattle.ccr_serve.specs.Noted.{NotesOf, IsFaultOf}

-- a head that was made is one that it may be
pub notes_by : (head : Option (String Global)) (IsIt : Text → Type 0) (fault : Option StepFault) (old new : List Text)
    → IfSome head (λ h. IsIt (string_bytes h))
    → NotesOf (λ text. option_map string_bytes head ≡ Some text) fault old new → NotesOf IsIt fault old new
notes_by head IsIt fault old new is (inl same) = inl same
notes_by (Some h) IsIt fault old new is (inr (text, f, made, has, told)) =
    inr (text, f, subst IsIt (ap (λ o. unwrap_or o []) made) is, has, told)
notes_by None IsIt fault old new is (inr (text, f, made, has, told)) = absurd (cc made)

-- the core took the answer
pub fault_own : (c after : CoreData) (e : EventData) (reply : Reply) (own told : Option StepFault) → told ≡ own
    → TakesStep c after e (Ok reply) → IsFaultOf c e own told
fault_own c after e reply own told same takes = inl (same, reply, after, takes)

-- ---- results
-- what holds of a good result has what follows from it
pub if_ok : {A E : Type 0} {P Q : A → Type 0} (result : Result A E) → ((a : A) → P a → Q a) → IfOk result P
    → IfOk result Q
if_ok (Ok a) so p = so a p
if_ok (Err e) so p = tt
