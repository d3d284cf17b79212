-- Whether there is something new for a job.
use Rattle.std.specs.Prelude.{Bool, false, not, ◌&&◌, ◌||◌, List, ◌∷◌}
use Rattle.ccr_history.specs.Text.{Text}
use Rattle.ccr_history.specs.Builds.{UsedData, BuildData, has_used}
use Rattle.ccr_pipeline.specs.Inputs.{InputData}

-- one of the inputs with trigger has a place that it had in no earlier build of the job, of whatever status
abbrev pub is_new : Text → List BuildData → List InputData → List UsedData → Bool
is_new job builds (i ∷ is) (u ∷ us) = (i.trigger && not (has_used job u builds)) || is_new job builds is us
is_new job builds is us = false
