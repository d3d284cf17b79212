-- What an item adds to the runner's pairs.
use Rattle.std.specs.Prelude.{◌≡◌, List, ◌++◌, Option, Some, None, option_to_list, Result, Ok}
use Rattle.ccr_process.specs.Launches.{LaunchData}
use Rattle.ccr_process.specs.Runs.{Pair}
use Rattle.ccr_task.specs.Calls.{CallData, FolderCall, Does}
use Rattle.ccr_task.specs.declared.fault.ShelfFault.{ShelfFault}

-- the pair is added, if there is one
abbrev pub Adds : List Pair → Option Pair → List Pair → Type 0
Adds old pair new = new ≡ old ++ option_to_list pair

-- WHAT IS BEGUN OF A LAUNCH that has these calls for folders before it, with the shelf's calls before and after: some of them
-- were made, and nothing was launched; or each was done, and such a launch was run
abbrev pub BeginsLaunch : List FolderCall → (LaunchData → Type 0) → List CallData → List CallData → Option Pair → Type 0
BeginsLaunch folders IsSuch before after None = (answer : Result Unit ShelfFault) × Does folders before answer after
BeginsLaunch folders IsSuch before after (Some pair) = Does folders before (Ok tt) after × IsSuch pair.0
