-- What comes of it that a build is asked to be aborted.
use Rattle.std.specs.Prelude.{◌≡◌, ◌⊎◌, ℕ, List, [], ◌∷◌, ◌++◌, Bool, true, false, not, Option, Some, None, option_map, Result, Ok, Err, codes, decimal}
use Rattle.ccr_history.specs.Text.{Text}
use Rattle.ccr_pipeline.specs.Kinds.{is_name}
use Rattle.ccr_task.specs.Calls.{CallData, has, making, Does}
use Rattle.ccr_task.specs.Places.{PlacesData, abort_folder, build_folder}
use Rattle.ccr_task.specs.declared.fault.ShelfFault.{ShelfFault}
use Rattle.ccr_task.specs.declared.fault.ShelfFault.TheVariants as shelf_fault
use Rattle.ccr_run.specs.declared.abort.AbortFault.{AbortFault}
use Rattle.ccr_run.specs.declared.abort.AbortFault.TheVariants.{NoJob, NotWritten, NoMemory}
use Rattle.ccr_run.specs.declared.order.AbortOrder.{AbortOrder}
use Rattle.ccr_run.specs.Explained.{ToldData, nothing_told}
use Rattle.ccr_run.specs.Hints.{HintData, about, bare}
use Rattle.ccr_run.specs.Refusals.{RefusalData, refused, broken}

-- how it reads that a build isn't asked to be aborted
abbrev pub refusal_of : AbortFault → RefusalData
refusal_of NoJob = refused (codes "no such job")
refusal_of NotWritten = broken (codes "file: cannot write")
refusal_of NoMemory = broken (codes "out of memory")

-- the server's folders are those of the options, and so is its launcher
abbrev pub places_in : AbortOrder → PlacesData
places_in order = record {
  types = order.options.types.now;
  work = order.options.work.now;
  launcher = option_map (λ l. l.now) order.options.launcher;
}

-- the folder that asks for the abort was made, which was answered so
abbrev pub IsWritten : AbortOrder → List CallData → Result Unit ShelfFault → List CallData → Type 0
IsWritten order before answer after =
    Does (making (abort_folder (places_in order) order.build.job.now order.build.number) ∷ []) before answer after

-- whether a build runs, by what is answered of its folder: it does, where that can't be told
abbrev pub runs : Result Bool ShelfFault → Bool
runs (Ok is_there) = is_there
runs (Err fault) = true

-- a shelf's calls, once it was looked whether the build's folder is there, which was answered so
abbrev pub looked : AbortOrder → Result Bool ShelfFault → List CallData → List CallData
looked order answer before =
    before ++ has (build_folder (places_in order) order.build.job.now order.build.number) answer ∷ []

-- it was looked whether the build's folder is there, and the request was written, or wasn't
abbrev pub IsAsked : AbortOrder → Result Bool ShelfFault → List CallData → Result Unit ShelfFault → List CallData → Type 0
IsAsked order there before answer after = IsWritten order (looked order there before) answer after

-- what it comes to, with a shelf's calls before and after: no job can have the name; or it was looked whether the build runs, and the
-- request was written, or the shelf failed; or it was out of memory before, or the shelf was
abbrev pub Asks : AbortOrder → List CallData → Result Bool AbortFault → List CallData → Type 0
Asks order before (Ok is_running) after =
    (is_name order.build.job.now ≡ true)
    × ((there : Result Bool ShelfFault) × (is_running ≡ runs there) × IsAsked order there before (Ok tt) after)
Asks order before (Err NoJob) after = (is_name order.build.job.now ≡ false) × (after ≡ before)
Asks order before (Err NotWritten) after =
    (is_name order.build.job.now ≡ true)
    × ((there : Result Bool ShelfFault) × IsAsked order there before (Err shelf_fault.Failed) after)
Asks order before (Err NoMemory) after =
    (is_name order.build.job.now ≡ true) × ((after ≡ before)
    ⊎ ((there : Result Bool ShelfFault) × IsAsked order there before (Err shelf_fault.NoMemory) after))

-- the line that says that a build is asked to be aborted
abbrev pub asked_line : AbortOrder → Text
asked_line order =
    codes "abort asked: " ++ (order.build.job.now ++ (codes " " ++ (decimal order.build.number ++ 10 ∷ [])))

-- what is printed of what it comes to: the line, where the build is asked to be aborted
abbrev pub IsPrinted : AbortOrder → Result Bool AbortFault → Text → Text → Type 0
IsPrinted order (Ok is_running) old new = new ≡ old ++ asked_line order
IsPrinted order (Err fault) old new = new ≡ old

-- the status of what it comes to: 0, or that of the refusal
abbrev pub abort_status : Result Bool AbortFault → ℕ
abort_status (Ok is_running) = 0
abort_status (Err fault) = (refusal_of fault).status

-- the refusal of what it comes to, if it is one
abbrev pub refusal_in : Result Bool AbortFault → Option RefusalData
refusal_in (Ok is_running) = None
refusal_in (Err fault) = Some (refusal_of fault)

-- what to do about what it comes to: about a build that doesn't run, a name that no job can have, and a directory that can't be made
abbrev pub hint_in : AbortOrder → Result Bool AbortFault → Option HintData
hint_in order (Ok true) = None
hint_in order (Ok false) = Some (about order.build.job.now (codes "by what --work shows, this build doesn't run now: builds --job JOB --look says whether it is there. It is aborted when it comes; rmdir WORK/JOB/abort-N takes that back"))
hint_in order (Err NoJob) = Some (bare (codes "a job's name has 1 to 128 bytes and no /: jobs --look shows which there are"))
hint_in order (Err NotWritten) = Some (about order.options.work.now (codes "may a directory be made in it? abort-build is for the user whose ccr_run runs the build, with the same --work"))
hint_in order (Err NoMemory) = None

-- WHAT IS TOLD on standard error of what it comes to: the refusal, what to do, and that the line didn't go out
abbrev pub told_of : AbortOrder → Result Bool AbortFault → Bool → ToldData
told_of order end is_printed =
    record nothing_told { refusal = refusal_in end; hint = hint_in order end; is_unprinted = not is_printed }
