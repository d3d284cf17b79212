-- What was answered or found was begun.
use Rattle.std.proofs.Common.{ℕ, List, Option, Some, None, Result, Ok, Err, refl, ◌∙◌, inl, inr}
use Rattle.ccr_history.specs.Text.{Text}
use Rattle.ccr_history.specs.TextMap.{TextMap}
use Rattle.ccr_pipeline.specs.JobData.{ResourceData}
use Rattle.ccr_process.specs.Runs.{Pair}
use Rattle.ccr_process.specs.declared.launch.Launch.{Launch}
use Rattle.ccr_protocol.specs.declared.fault.RequestFault.{RequestFault}
use Rattle.ccr_protocol.specs.declared.fault.RequestFault.TheVariants.{TooLong, NoMemory}
use Rattle.ccr_steps.specs.Asks.{AskData, fetch, push, read_config, run_task}
use Rattle.ccr_task.specs.Calls.{CallData, file_data}
use Rattle.ccr_task.specs.Faulty.{SaidData}
use Rattle.ccr_task.specs.Places.{PlacesData, abort_folder}
use Rattle.ccr_task.specs.Starting.{StepLabelData}
use Rattle.ccr_task.specs.declared.fault.ShelfFault.TheVariants.{Failed}
use Rattle.ccr_task.specs.declared.said.StepFault.{StepFault}
use Rattle.ccr_serve.specs.Aborts.{Looks}
use Rattle.ccr_serve.specs.Asked.{LooksAgain, Settles, AnswersByLaunch, AnswersByProgram, Answers, MayLook, BeginsByLaunch, BeginsByProgram, BeginsAnswer}
use Rattle.ccr_serve.specs.Found.{found, Finds, BeginsFind}

-- what a step comes to may have taken a second look
looked_so : (launcher : Option Text) (pair : Pair) (folder : Text) (y x : SaidData) (before after : List CallData)
    → Settles launcher folder y before after x → MayLook (Some pair) launcher folder before after
looked_so None pair folder y x before after h = h.0
looked_so (Some launcher) pair folder y x before after h = by y.fault h where
  by : (fault : Option StepFault) → LooksAgain fault folder y before after x → Looks folder before after
  by None h = inl h.0
  by (Some f) h = inr (h.0, h.1)

launch_begun : (places : PlacesData) (job : Text) (number : ℕ) (label : StepLabelData) (ask : AskData)
    (launch : Result Launch RequestFault) (before after : List CallData) (pair : Option Pair) (x : SaidData)
    → AnswersByLaunch places job number label ask launch before after pair x
    → BeginsByLaunch places job number label ask launch before after pair
launch_begun places job number label ask (Ok launch) before after (Some pair) x h = (
  h.0,
  (h.1, h.2.is_run ∙ h.2.starts),
  looked_so places.launcher pair (abort_folder places job number) h.2.said x h.0 after h.2.settles,
)
launch_begun places job number label ask (Ok launch) before after None x h = (after, (Err Failed, h.0), refl)
launch_begun places job number label ask (Err TooLong) before after pair x h = (h.0, h.1)
launch_begun places job number label ask (Err NoMemory) before after pair x h = absurd h

program_begun : (places : PlacesData) (rs : List ResourceData) (job : Text) (number : ℕ) (label : StepLabelData) (ask : AskData)
    (before after : List CallData) (pair : Option Pair) (x : SaidData)
    → AnswersByProgram places rs job number label ask before after pair x
    → BeginsByProgram places rs job number label ask before after pair
program_begun places rs job number label ask before after pair x h =
    (h.0, (h.1.0, h.1.1, launch_begun places job number label ask h.1.0 before after pair x h.1.2))

-- an ask that was answered was begun to be answered
pub answer_begun : (places : PlacesData) (rs : List ResourceData) (job : Text) (number : ℕ) (label : StepLabelData) (ask : AskData)
    (before after : List CallData) (pair : Option Pair) (x : SaidData)
    → Answers places rs job number label ask before after pair x
    → BeginsAnswer places rs job number label ask before after pair
answer_begun places rs job number label (read_config file) before after pair x h =
    (h.0, inr (file_data h.1.0, h.1.1))
answer_begun places rs job number label (fetch artifact resource version params) before after pair x h =
    program_begun places rs job number label (fetch artifact resource version params) before after pair x h
answer_begun places rs job number label (push artifact resource params) before after pair x h =
    program_begun places rs job number label (push artifact resource params) before after pair x h
answer_begun places rs job number label (run_task config env) before after pair x h =
    program_begun places rs job number label (run_task config env) before after pair x h

-- a check that found versions was begun
pub found_begun : (places : PlacesData) (r : ResourceData) (version : Option TextMap) (before after : List CallData)
    (pair : Option Pair) (vs : List TextMap) → Finds places r version before after pair (found vs)
    → BeginsFind places r version before after pair
found_begun places r version before after (Some pair) vs h = (h.1, h.2)
found_begun places r version before after None vs h = absurd h
