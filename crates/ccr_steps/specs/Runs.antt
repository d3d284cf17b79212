-- What a build stands for.
use Rattle.std.specs.Prelude.{◌≡◌, ℕ, List, Option, option_and_then, length, take, ◌+◌, ◌%◌, ◌^◌}
use Rattle.ccr_pipeline.specs.Tree.{Tree, tree_of}
use Rattle.ccr_steps.specs.declared.before.Before.{Before}
use Rattle.ccr_steps.specs.declared.build.BuildRun.{BuildRun}
use Rattle.ccr_steps.specs.Asks.{AskData, AnswerData, Exchange, Chosen}
use Rattle.ccr_steps.specs.Gains.{GainsData, Grew, no_gains, gains_data}
use Rattle.ccr_steps.specs.Inputs.{inputs_data}
use Rattle.ccr_steps.specs.Play.{Play, asks, Leads, play}
use Rattle.ccr_steps.specs.Frames.{leaf_ask}
use Rattle.ccr_steps.specs.Moments.{MomentData, moment_data, step_at, play_by, waits_by}

-- a build's plan, the versions chosen for its inputs, where it is, what it gained, and how many answers it had
pub record RunData : Type 0 where
  pub plan : Tree
  pub inputs : Chosen
  pub at : MomentData
  pub gains : GainsData
  pub turn : ℕ

-- a build, without where its parts lie in memory
abbrev pub run_data : BuildRun → RunData
run_data r = record {
  plan = tree_of r.plan.value;
  inputs = inputs_data r.inputs;
  at = moment_data r.at;
  gains = gains_data r.gains;
  turn = r.turn;
}

-- the play from here on
abbrev pub rest_of : RunData → Play
rest_of r = play_by r.at.outcome r.inputs r.plan r.gains r.at

-- it has ended, or a step waits and asks
abbrev pub IsWell : RunData → Type 0
IsWell r = waits_by r.at.outcome r.inputs r.plan r.at

-- the build has this plan and these versions, and these exchanges have led to where it is
abbrev pub StandsFor : RunData → Tree → Chosen → List Exchange → Type 0
StandsFor r plan inputs es =
    (r.plan ≡ plan) × (r.inputs ≡ inputs) × (r.turn ≡ length es % 2 ^ 64)
    × IsWell r × Leads (play inputs plan no_gains) es (rest_of r)

-- the number of exchanges, as far as 64 bits count
abbrev pub HasTurn : List Exchange → ℕ → Type 0
HasTurn es n = n ≡ length es % 2 ^ 64

-- what a build wants: the ask of the step that waits
abbrev pub wanted : RunData → Option AskData
wanted r = option_and_then (λ s. leaf_ask r.inputs s r.at.leaf) (step_at r.at r.plan)

-- a play asks, and goes on so with an answer
abbrev pub Goes : Play → AnswerData → Play → Type 0
Goes p x q = (a : AskData) × (then : AnswerData → Play) × (p ≡ asks a then) × (q ≡ then x)

-- a build that waits goes on with an answer
abbrev pub TakesAnswer : RunData → RunData → AnswerData → Type 0
TakesAnswer old new x =
    (new.plan ≡ old.plan) × (new.inputs ≡ old.inputs) × (new.turn ≡ (old.turn + 1) % 2 ^ 64)
    × (IsWell old → IsWell new × Goes (rest_of old) x (rest_of new))

-- a build that is as it was, but that more may have come at the ends of what it gained
abbrev pub Grown : RunData → RunData → Type 0
Grown old new = (new ≡ record old { gains = new.gains }) × Grew old.gains new.gains

-- a build as it was before an answer
abbrev pub undone : Before → RunData → RunData
undone b r = record {
  plan = r.plan;
  inputs = r.inputs;
  at = moment_data b.at;
  gains = record { names = take b.names r.gains.names; moved = take b.moved r.gains.moved };
  turn = b.turn;
}
