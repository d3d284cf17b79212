-- A program that was run: its pair is there, unless memory was wanted.
use Rattle.std.proofs.Common.{◌≡◌, ◌≢◌, ◌≤◌, ℕ, List, length, IfOk, OnErr, Option, Some, None, Result, Ok, Err, refl, sym, ◌∙◌, ap, subst, append-nil, inl, inr}
use Rattle.std.specs.Option.{IfSome}
use Rattle.ccr_history.specs.Text.{Text}
use Rattle.ccr_history.specs.TextMap.{TextMap}
use Rattle.ccr_pipeline.specs.JobData.{ResourceData}
use Rattle.ccr_process.specs.Ends.{EndData}
use Rattle.ccr_process.specs.Launches.{LaunchData, launch_data}
use Rattle.ccr_process.specs.Runs.{Pair, AddsPair}
use Rattle.ccr_process.specs.declared.launch.Launch.{Launch}
use Rattle.ccr_protocol.specs.declared.fault.RequestFault.{RequestFault}
use Rattle.ccr_protocol.specs.declared.request.TheConstants.{MOST_REQUEST}
use Rattle.ccr_steps.specs.Asks.{AskData, ask_data}
use Rattle.ccr_steps.specs.declared.ask.Ask.{Ask}
use Rattle.ccr_steps.specs.declared.ask.Ask.TheVariants.{Fetch, Push, ReadConfig, RunTask}
use Rattle.ccr_task.specs.Answering.{AnswersEnd}
use Rattle.ccr_task.specs.Faulty.{SaidData, said_data}
use Rattle.ccr_task.specs.declared.said.Said.{Said}
use Rattle.ccr_task.specs.Launching.{can_launch, check_launch, starts_program, LaunchesAsk}
use Rattle.ccr_task.specs.Places.{PlacesData, abort_folder, build_folder}
use Rattle.ccr_task.specs.Starting.{StepLabelData, started_ask, started_check}
use Rattle.ccr_task.specs.Calls.{CallData, FolderCall, Does}
use Rattle.ccr_task.specs.declared.fault.ShelfFault.{ShelfFault}
use Rattle.ccr_serve.specs.Asked.{ask_folders, Settles, AnswersByRun, AnswersByLaunch, Answers, MayLook, BeginsByLaunch, BeginsAnswer}
use Rattle.ccr_serve.specs.Found.{found_data, check_folders, FindsBy, Finds, BeginsFind}
use Rattle.ccr_serve.specs.Pairs.{Adds, BeginsLaunch}
use Rattle.ccr_serve.specs.declared.found.Found.{Found}

-- ---- what is lost
-- none was run
pub none_lost : (folders : List FolderCall) (IsSuch : LaunchData → Type 0) (before after : List CallData)
    (old : List Pair) (answer : Result Unit ShelfFault) → Does folders before answer after
    → (lost : Option Pair) × Adds old lost old × BeginsLaunch folders IsSuch before after lost
none_lost folders IsSuch before after old answer did = (None, sym (append-nil old), (answer, did))

-- a launch was run, of which this is so: its pair is lost, unless memory was wanted before its start
module _ (IsSuch : LaunchData → Type 0) (old new : List Pair) (l : LaunchData) (end : EndData)
    (added : AddsPair old l end new) (such : IsSuch l) where
  such_lost : (lost : Option Pair) × Adds old lost new × IfSome lost (λ p. IsSuch p.0)
  such_lost = by added where
    by : AddsPair old l end new → (lost : Option Pair) × Adds old lost new × IfSome lost (λ p. IsSuch p.0)
    by (inl more) = (Some (l, end), more, such)
    by (inr (none, kept)) = (None, kept ∙ sym (append-nil old), tt)

  pub lost_after : {A E : Type 0} (result : Result A E)
      → OnErr result ((lost : Option Pair) × Adds old lost new × IfSome lost (λ p. IsSuch p.0))
  lost_after (Ok a) = tt
  lost_after (Err e) = such_lost

-- ---- checks
-- what was started of a check's launch was run, and its end finds this
pub found_run : {E : Type 0} (IsSuch : LaunchData → Type 0) (old new : List Pair) (l : LaunchData) (end : EndData)
    → AddsPair old l end new → IsSuch l → (result : Result Found E) → IfOk result (λ f. FindsBy end (found_data f))
    → IfOk result (λ f. (pair : Pair) × Adds old (Some pair) new × IsSuch pair.0 × FindsBy pair.1 (found_data f))
found_run IsSuch old new l end added such (Err e) by = tt
found_run IsSuch old new l end added such (Ok f) by = with_pair added where
  with_pair : AddsPair old l end new
      → (pair : Pair) × Adds old (Some pair) new × IsSuch pair.0 × FindsBy pair.1 (found_data f)
  with_pair (inl more) = ((l, end), more, such, by)
  with_pair (inr (none, kept)) = absurd (subst (λ e. FindsBy e (found_data f)) none by)

-- what is started of a launch that is this check's
started_so : (places : PlacesData) (r : ResourceData) (told version : Option TextMap) (l p : LaunchData) → told ≡ version
    → l ≡ check_launch places r told → p ≡ started_check places r l
    → p ≡ started_check places r (check_launch places r version)
started_so places r told version l p is_told is e =
    e ∙ (ap (λ q. started_check places r q) is
    ∙ ap (λ v. started_check places r (check_launch places r v)) is_told)

module _ {E : Type 0} (places : PlacesData) (r : ResourceData) (told version : Option TextMap)
    (before after : List CallData) (old new : List Pair) (l : LaunchData) (is_told : told ≡ version)
    (is : l ≡ check_launch places r told) (did : Does (check_folders places) before (Ok tt) after) where
  pub found_after : (result : Result Found E) → length (check_launch places r told).input ≤ MOST_REQUEST
      → IfOk result (λ f. (pair : Pair) × Adds old (Some pair) new × (pair.0 ≡ started_check places r l)
      × FindsBy pair.1 (found_data f))
      → IfOk result (λ f. (pair : Option Pair) × Adds old pair new
      × Finds places r version before after pair (found_data f))
  found_after (Err e) short by = tt
  found_after (Ok f) short by = (
    Some by.0,
    by.1,
    (
      subst (λ v. length (check_launch places r v).input ≤ MOST_REQUEST) is_told short,
      did,
      started_so places r told version l by.0.0 is_told is by.2,
      by.3,
    ),
  )

  pub found_lost : (result : Result Found E)
      → OnErr result ((lost : Option Pair) × Adds old lost new × IfSome lost (λ p. p.0 ≡ started_check places r l))
      → OnErr result ((lost : Option Pair) × Adds old lost new × BeginsFind places r version before after lost)
  found_lost (Ok f) by = tt
  found_lost (Err e) by = with_lost by.0 by.1 by.2 where
    with_lost : (lost : Option Pair) → Adds old lost new → IfSome lost (λ p. p.0 ≡ started_check places r l)
        → (lost : Option Pair) × Adds old lost new × BeginsFind places r version before after lost
    with_lost None adds starts = (None, adds, (Ok tt, did))
    with_lost (Some pair) adds starts = (Some pair, adds, (did, started_so places r told version l pair.0 is_told is starts))

-- ---- asks
-- what was started of an ask's launch was run, and the step comes to this
module _ (places : PlacesData) (job : Text) (number : ℕ) (label : StepLabelData) (ask : AskData) (l : LaunchData) (begun : Launch)
    (before after : List CallData) (old new : List Pair) (end : EndData) (said : SaidData)
    (starts : launch_data begun ≡ started_ask places job number label ask l)
    (added : AddsPair old (launch_data begun) end new) (by : AnswersEnd begun.program ask end said) where
  pub run_answered : {E : Type 0} (result : Result Said E)
      → IfOk result (λ a. Settles places.launcher (abort_folder places job number) said before after (said_data a))
      → IfOk result (λ a. (pair : Pair) × Adds old (Some pair) new
      × AnswersByRun places job number label ask l before after pair (said_data a))
  run_answered (Err e) settles = tt
  run_answered (Ok a) settles = with_pair added where
    with_pair : AddsPair old (launch_data begun) end new → (pair : Pair) × Adds old (Some pair) new
        × AnswersByRun places job number label ask l before after pair (said_data a)
    with_pair (inl more) = (
      (launch_data begun, end),
      more,
      record {
        begun = begun;
        starts = starts;
        is_run = refl;
        said = said;
        by_end = by;
        settles = settles;
      },
    )
    with_pair (inr (none, kept)) = absurd (subst (λ e. AnswersEnd begun.program ask e said) none by)

module _ {E : Type 0} (places : PlacesData) (job : Text) (number : ℕ) (label : StepLabelData) (ask : AskData) (launch : Launch)
    (before made after : List CallData) (old new : List Pair)
    (did : Does (ask_folders (build_folder places job number) ask) before (Ok tt) made) where
  pub answered_after : (result : Result Said E)
      → IfOk result (λ a. (pair : Pair) × Adds old (Some pair) new
      × AnswersByRun places job number label ask (launch_data launch) made after pair (said_data a))
      → IfOk result (λ a. (pair : Option Pair) × Adds old pair new
      × AnswersByLaunch places job number label ask (Ok launch) before after pair (said_data a))
  answered_after (Err e) by = tt
  answered_after (Ok a) by = (Some by.0, by.1, (made, did, by.2))

  pub answered_lost : (result : Result Said E)
      → OnErr result ((lost : Option Pair) × Adds old lost new
      × IfSome lost (λ p. p.0 ≡ started_ask places job number label ask (launch_data launch)))
      → OnErr result (after ≡ made)
      → OnErr result ((lost : Option Pair) × Adds old lost new
      × BeginsByLaunch places job number label ask (Ok launch) before after lost)
  answered_lost (Ok a) by same = tt
  answered_lost (Err e) by same = with_lost by.0 by.1 by.2 where
    unlooked : (pair : Pair) (launcher : Option Text)
        → MayLook (Some pair) launcher (abort_folder places job number) made after
    unlooked pair None = same
    unlooked pair (Some l) = inl same

    with_lost : (lost : Option Pair) → Adds old lost new
        → IfSome lost (λ p. p.0 ≡ started_ask places job number label ask (launch_data launch))
        → (lost : Option Pair) × Adds old lost new
        × BeginsByLaunch places job number label ask (Ok launch) before after lost
    with_lost None adds starts = (None, adds, (made, (Ok tt, did), same))
    with_lost (Some pair) adds starts = (Some pair, adds, (made, (did, starts), unlooked pair places.launcher))

-- a folder that an ask's program finds couldn't be made, and none was run
pub none_begun : (places : PlacesData) (job : Text) (number : ℕ) (label : StepLabelData) (ask : AskData) (launch : Launch)
    (before after : List CallData) (old : List Pair) (answer : Result Unit ShelfFault)
    → Does (ask_folders (build_folder places job number) ask) before answer after
    → (lost : Option Pair) × Adds old lost old
    × BeginsByLaunch places job number label ask (Ok launch) before after lost
none_begun places job number label ask launch before after old answer did =
    (None, sym (append-nil old), (after, (answer, did), refl))

-- what isn't an ask for a file is answered by its launch, or the answer is begun by it
module _ {E : Type 0} (places : PlacesData) (rs : List ResourceData) (job : Text) (number : ℕ) (label : StepLabelData) (ask : Ask)
    (launch : Result Launch RequestFault) (before after : List CallData) (old new : List Pair)
    (other : (file : _) → ask ≢ ReadConfig file) (can : can_launch rs (ask_data ask) ≡ starts_program (ask_data ask))
    (is : LaunchesAsk places rs (build_folder places job number) (ask_data ask) launch) where
  pub by_program : (result : Result Said E)
      → IfOk result (λ a. (pair : Option Pair) × Adds old pair new
      × AnswersByLaunch places job number label (ask_data ask) launch before after pair (said_data a))
      → IfOk result (λ a. (pair : Option Pair) × Adds old pair new
      × Answers places rs job number label (ask_data ask) before after pair (said_data a))
  by_program (Err e) by = tt
  by_program (Ok a) by = one ask other can is by where
    one : (q : Ask) → ((file : _) → q ≢ ReadConfig file) → can_launch rs (ask_data q) ≡ starts_program (ask_data q)
        → LaunchesAsk places rs (build_folder places job number) (ask_data q) launch
        → (pair : Option Pair) × Adds old pair new
        × AnswersByLaunch places job number label (ask_data q) launch before after pair (said_data a)
        → (pair : Option Pair) × Adds old pair new
        × Answers places rs job number label (ask_data q) before after pair (said_data a)
    one (Fetch artifact resource version params) other can is by = (by.0, by.1, (can, (launch, is, by.2)))
    one (Push artifact resource params) other can is by = (by.0, by.1, (can, (launch, is, by.2)))
    one (RunTask config env) other can is by = (by.0, by.1, (can, (launch, is, by.2)))
    one (ReadConfig file) other can is by = absurd (other file refl)

  pub begun_by_program : (result : Result Said E)
      → OnErr result ((lost : Option Pair) × Adds old lost new
      × BeginsByLaunch places job number label (ask_data ask) launch before after lost)
      → OnErr result ((lost : Option Pair) × Adds old lost new
      × BeginsAnswer places rs job number label (ask_data ask) before after lost)
  begun_by_program (Ok a) by = tt
  begun_by_program (Err e) by = one ask other can is by where
    one : (q : Ask) → ((file : _) → q ≢ ReadConfig file) → can_launch rs (ask_data q) ≡ starts_program (ask_data q)
        → LaunchesAsk places rs (build_folder places job number) (ask_data q) launch
        → (lost : Option Pair) × Adds old lost new × BeginsByLaunch places job number label (ask_data q) launch before after lost
        → (lost : Option Pair) × Adds old lost new × BeginsAnswer places rs job number label (ask_data q) before after lost
    one (Fetch artifact resource version params) other can is by = (by.0, by.1, (can, (launch, is, by.2)))
    one (Push artifact resource params) other can is by = (by.0, by.1, (can, (launch, is, by.2)))
    one (RunTask config env) other can is by = (by.0, by.1, (can, (launch, is, by.2)))
    one (ReadConfig file) other can is by = absurd (other file refl)
