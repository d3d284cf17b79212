-- Where a build is.
use Rattle.std.specs.Prelude.{◌≡◌, List, Option, Some, None, ⊤}
use Rattle.ccr_pipeline.specs.Tree.{Tree}
use Rattle.ccr_steps.specs.declared.outcome.Outcome.{Outcome}
use Rattle.ccr_steps.specs.declared.frame.Frame.{Frame}
use Rattle.ccr_steps.specs.declared.moment.Moment.{Moment}
use Rattle.ccr_steps.specs.Asks.{Chosen}
use Rattle.ccr_steps.specs.Gains.{GainsData}
use Rattle.ccr_steps.specs.Play.{Play, ended}
use Rattle.ccr_steps.specs.Frames.{LeafData, leaf_data, leaf_at, waiting, Waits}

-- a path with the ask of the step at its end, or an outcome
pub record MomentData : Type 0 where
  pub frames : List Frame
  pub leaf : LeafData
  pub outcome : Option Outcome

-- where a build is, without where it lies in memory
abbrev pub moment_data : Moment → MomentData
moment_data m = record { frames = m.frames.items; leaf = leaf_data m.leaf; outcome = m.outcome }

-- no step waits where there is an outcome; else the one at the end of the path
abbrev pub step_by : Option Outcome → MomentData → Tree → Option Tree
step_by (Some o) m t = None
step_by None m t = leaf_at t m.frames

-- the step that waits, if there is one
abbrev pub step_at : MomentData → Tree → Option Tree
step_at m t = step_by m.outcome m t

-- the play from there on: it has ended, or that step waits
abbrev pub play_by : Option Outcome → Chosen → Tree → GainsData → MomentData → Play
play_by (Some o) c t g m = ended o g
play_by None c t g m = waiting c t m.frames m.leaf g

-- where there is no outcome, a step waits and asks
abbrev pub waits_by : Option Outcome → Chosen → Tree → MomentData → Type 0
waits_by (Some o) c t m = ⊤
waits_by None c t m = Waits c t m.frames m.leaf

-- the moment is that of this play: it has ended so, or a step waits and asks
abbrev pub GoesTo : Chosen → Tree → GainsData → MomentData → Play → Type 0
GoesTo c t g m p = waits_by m.outcome c t m × (p ≡ play_by m.outcome c t g m)
