-- What a frame is, if one is there.
use Rattle.std.specs.Prelude.{ℕ, Bool, true, false, Option, Some, None}
use Rattle.ccr_steps.specs.declared.outcome.Outcome.{Outcome}
use Rattle.ccr_steps.specs.declared.frame.Frame.{Frame}
use Rattle.ccr_steps.specs.declared.frame.Frame.TheVariants.{At, In, Left, Hook}

-- the place in a list, and the worst outcome before
abbrev pub at_frame : Option Frame → Option (ℕ × Outcome)
at_frame None = None
at_frame (Some (At k worst)) = Some (k, worst)
at_frame (Some In) = None
at_frame (Some (Left k)) = None
at_frame (Some (Hook o)) = None

-- the only step, or the step that a hook is for
abbrev pub is_in_frame : Option Frame → Bool
is_in_frame None = false
is_in_frame (Some (At k worst)) = false
is_in_frame (Some In) = true
is_in_frame (Some (Left k)) = false
is_in_frame (Some (Hook o)) = false

-- the tries that are left
abbrev pub left_frame : Option Frame → Option ℕ
left_frame None = None
left_frame (Some (At k worst)) = None
left_frame (Some In) = None
left_frame (Some (Left k)) = Some k
left_frame (Some (Hook o)) = None

-- how the step ended whose hook it is
abbrev pub hook_frame : Option Frame → Option Outcome
hook_frame None = None
hook_frame (Some (At k worst)) = None
hook_frame (Some In) = None
hook_frame (Some (Left k)) = None
hook_frame (Some (Hook o)) = Some o
