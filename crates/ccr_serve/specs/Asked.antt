-- How what a build asks is answered.
use Rattle.std.specs.Prelude.{◌≡◌, ◌⊎◌, ℕ, List, [], ◌∷◌, ◌++◌, map, Bool, true, Option, Some, None, Result, Ok, Err, Vec, if◌then◌else◌}
use Rattle.std.specs.declared.alloc.Global.{Global}
use Rattle.ccr_history.specs.Text.{Text}
use Rattle.ccr_pipeline.specs.JobData.{ResourceData}
use Rattle.ccr_steps.specs.Asks.{AskData, fetch, push, read_config, run_task, errored, aborted}
use Rattle.ccr_process.specs.declared.launch.Launch.{Launch}
use Rattle.ccr_process.specs.Launches.{LaunchData, launch_data}
use Rattle.ccr_process.specs.Runs.{Pair}
use Rattle.ccr_protocol.specs.declared.fault.RequestFault.{RequestFault}
use Rattle.ccr_protocol.specs.declared.fault.RequestFault.TheVariants.{TooLong, NoMemory}
use Rattle.ccr_task.specs.declared.fault.ShelfFault.{ShelfFault}
use Rattle.ccr_task.specs.declared.fault.ShelfFault.TheVariants.{Failed}
use Rattle.ccr_task.specs.declared.said.StepFault.{StepFault}
use Rattle.ccr_task.specs.declared.said.StepFault.TheVariants.{RequestTooLong, FolderFault, Aborted}
use Rattle.ccr_task.specs.Answering.{AnswersEnd, AnswersFile}
use Rattle.ccr_task.specs.Calls.{CallData, read, file_data, FolderCall, making, removing, Does}
use Rattle.ccr_task.specs.Faulty.{SaidData, bad}
use Rattle.ccr_task.specs.Launching.{can_launch, LaunchesAsk}
use Rattle.ccr_task.specs.Places.{PlacesData, below, build_folder, abort_folder}
use Rattle.ccr_task.specs.Starting.{StepLabelData, started_ask}
use Rattle.ccr_serve.specs.Aborts.{AbortIsAsked, Looks}
use Rattle.ccr_serve.specs.Pairs.{BeginsLaunch}

-- ---- what comes before a program
-- the calls for folders before the program of an ask, of a build in this folder: a fetch finds the artifact's folder made
-- anew, with the folders above it; a push and a task find the build's folder, and a task those of its outputs, made where
-- they weren't there; an ask for a file starts no program (Concourse: get step; put step; task config, outputs)
abbrev pub ask_folders : Text → AskData → List FolderCall
ask_folders build (fetch artifact resource version params) =
    removing (below build artifact) ∷ making (below build artifact) ∷ []
ask_folders build (push artifact resource params) = making build ∷ []
ask_folders build (read_config file) = making build ∷ []
ask_folders build (run_task config env) = making build ∷ map (λ output. making (below build output)) config.outputs

-- ---- what comes after a program
-- what a program answered, or that its step was aborted, where that is asked
abbrev pub unless_asked : Bool → SaidData → SaidData
unless_asked asked y = if asked then bad aborted Aborted else y

-- A SECOND LOOK, behind a program that answered so, with what was wrong: a success stands; after any other answer it is
-- looked whether the build's abort is asked by then, by the folder at this path, and the step is aborted where it is
abbrev pub LooksAgain : Option StepFault → Text → SaidData → List CallData → List CallData → SaidData → Type 0
LooksAgain None folder y before after x = (after ≡ before) × (x ≡ y)
LooksAgain (Some fault) folder y before after x =
    (asked : Bool) × AbortIsAsked folder asked before after × (x ≡ unless_asked asked y)

-- what a step comes to whose program answered so: where there is a launcher, by a second look; else it is that answer
abbrev pub Settles : Option Text → Text → SaidData → List CallData → List CallData → SaidData → Type 0
Settles None folder y before after x = (after ≡ before) × (x ≡ y)
Settles (Some launcher) folder y before after x = LooksAgain y.fault folder y before after x

-- ---- answers
-- how a task's file is answered: by what the shelf answers for the file at this path, with its calls before and after
abbrev pub AnswersByFile : Text → List CallData → List CallData → SaidData → Type 0
AnswersByFile path before after x =
    (file : Result (Vec ℕ Global) ShelfFault) × (after ≡ before ++ read path (file_data file) ∷ []) × AnswersFile file x

-- how the launch of an ask is answered, of a job's build of this number at a step with this label, whose folders were made: what
-- is started of it was started, what its end answers is that of the program that was started, and the step comes to this
pub record AnswersByRun (places : PlacesData) (job : Text) (number : ℕ) (label : StepLabelData) (ask : AskData) (l : LaunchData)
    (before after : List CallData) (pair : Pair) (x : SaidData) : Type 0 where
  pub begun : Launch
  pub starts : launch_data begun ≡ started_ask places job number label ask l
  pub is_run : pair.0 ≡ launch_data begun
  pub said : SaidData
  pub by_end : AnswersEnd begun.program ask pair.1 said
  pub settles : Settles places.launcher (abort_folder places job number) said before after x

-- how an ask with this launch is answered, of a job's build of this number at a step with this label: by its launch, before which
-- its folders were made; or errored without it, where the request is too long, or else a folder couldn't be made or removed
abbrev pub AnswersByLaunch : PlacesData → Text → ℕ → StepLabelData → AskData → Result Launch RequestFault → List CallData
    → List CallData → Option Pair → SaidData → Type 0
AnswersByLaunch places job number label ask (Ok launch) before after (Some pair) x =
    (made : List CallData) × Does (ask_folders (build_folder places job number) ask) before (Ok tt) made
    × AnswersByRun places job number label ask (launch_data launch) made after pair x
AnswersByLaunch places job number label ask (Ok launch) before after None x =
    Does (ask_folders (build_folder places job number) ask) before (Err Failed) after × (x ≡ bad errored FolderFault)
AnswersByLaunch places job number label ask (Err TooLong) before after pair x =
    (pair ≡ None) × (after ≡ before) × (x ≡ bad errored RequestTooLong)
AnswersByLaunch places job number label ask (Err NoMemory) before after pair x = ⊥

-- how an ask of a job's build of this number at a step with this label is answered that starts a program: by the launch that it is
abbrev pub AnswersByProgram : PlacesData → List ResourceData → Text → ℕ → StepLabelData → AskData → List CallData → List CallData
    → Option Pair → SaidData → Type 0
AnswersByProgram places rs job number label ask before after pair x =
    (can_launch rs ask ≡ true)
    × ((launch : Result Launch RequestFault) × LaunchesAsk places rs (build_folder places job number) ask launch
    × AnswersByLaunch places job number label ask launch before after pair x)

-- HOW AN ASK IS ANSWERED of a job's build of this number at a step with this label, with the shelf's calls before and after: by a
-- program, or by a file in the build's folder without a launch
abbrev pub Answers : PlacesData → List ResourceData → Text → ℕ → StepLabelData → AskData → List CallData → List CallData
    → Option Pair → SaidData → Type 0
Answers places rs job number label (read_config file) before after pair x =
    (pair ≡ None) × AnswersByFile (below (build_folder places job number) file) before after x
Answers places rs job number label ask before after pair x = AnswersByProgram places rs job number label ask before after pair x

-- ---- answers that are cut short
-- a task's file isn't read yet, or was read
abbrev pub BeginsByFile : Text → List CallData → List CallData → Type 0
BeginsByFile path before after =
    (after ≡ before) ⊎ ((file : Result (List ℕ) ShelfFault) × (after ≡ before ++ read path file ∷ []))

-- what may have come behind a program, if one was run: where there is a launcher, a look whether an abort is asked by the
-- folder at this path
abbrev pub MayLook : Option Pair → Option Text → Text → List CallData → List CallData → Type 0
MayLook None launcher folder before after = after ≡ before
MayLook (Some pair) None folder before after = after ≡ before
MayLook (Some pair) (Some launcher) folder before after = Looks folder before after

-- what is begun of the answer to an ask with this launch: of what is started of the launch, and of a second look behind it;
-- nothing where there is none
abbrev pub BeginsByLaunch : PlacesData → Text → ℕ → StepLabelData → AskData → Result Launch RequestFault → List CallData
    → List CallData → Option Pair → Type 0
BeginsByLaunch places job number label ask (Ok launch) before after lost =
    (mid : List CallData)
    × BeginsLaunch (ask_folders (build_folder places job number) ask)
    (λ l. l ≡ started_ask places job number label ask (launch_data launch)) before mid lost
    × MayLook lost places.launcher (abort_folder places job number) mid after
BeginsByLaunch places job number label ask (Err fault) before after lost = (lost ≡ None) × (after ≡ before)

-- what is begun of the answer to an ask that starts a program: of the launch that it is
abbrev pub BeginsByProgram : PlacesData → List ResourceData → Text → ℕ → StepLabelData → AskData → List CallData → List CallData
    → Option Pair → Type 0
BeginsByProgram places rs job number label ask before after lost =
    (can_launch rs ask ≡ true)
    × ((launch : Result Launch RequestFault) × LaunchesAsk places rs (build_folder places job number) ask launch
    × BeginsByLaunch places job number label ask launch before after lost)

-- WHAT IS BEGUN OF THE ANSWER to an ask of a job's build of this number at a step with this label that is cut short
abbrev pub BeginsAnswer : PlacesData → List ResourceData → Text → ℕ → StepLabelData → AskData → List CallData → List CallData
    → Option Pair → Type 0
BeginsAnswer places rs job number label (read_config file) before after lost =
    (lost ≡ None) × BeginsByFile (below (build_folder places job number) file) before after
BeginsAnswer places rs job number label ask before after lost =
    BeginsByProgram places rs job number label ask before after lost
