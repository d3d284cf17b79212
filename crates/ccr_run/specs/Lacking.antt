-- What is told of resource types whose directory isn't there.
use Rattle.std.specs.Prelude.{◌≡◌, ℕ, ◌+◌, List, [], ◌∷◌, ◌++◌, length, codes, decimal, Bool, false, Result, Ok, OnOk, unwrap_or}
use Rattle.std.specs.declared.alloc.AllocError.{AllocError}
use Rattle.ccr_history.specs.Text.{Text}
use Rattle.ccr_pipeline.specs.JobData.{ResourceData}
use Rattle.ccr_task.specs.Calls.{CallData, has}
use Rattle.ccr_task.specs.Places.{below}
use Rattle.ccr_task.specs.declared.fault.ShelfFault.{ShelfFault}
use Rattle.ccr_core.specs.Commands.{CommandData, set_pipeline}
use Rattle.ccr_core.specs.Holding.{CoreData}
use Rattle.ccr_core.specs.State.{no_pipeline}
use Rattle.ccr_run.specs.Writers.{WriterData, GetsLines}

-- the directory of the programs of a resource's type
abbrev pub type_folder : Text → ResourceData → Text
type_folder types r = below types r.kind

-- it is looked for the directory of each resource's type, in order, with these answers
abbrev pub looks : Text → List (Result Bool ShelfFault) → List ResourceData → List CallData
looks types (a ∷ answers) (r ∷ rs) = has (type_folder types r) a ∷ looks types answers rs
looks types answers rs = []

-- the line about the type of the resource at this position, whose directory is this
abbrev pub lacking_line : ℕ → Text → Text
lacking_line at folder =
    codes "hint: resources[" ++ (decimal at ++ (codes "].type: there is no directory "
    ++ (folder ++ codes ", where check, in and out of this type belong: is --types right?")))

-- its lines: one, if the answer is that the directory isn't there
abbrev pub answer_lines : ℕ → Text → Result Bool ShelfFault → List Text
answer_lines at folder (Ok false) = lacking_line at folder ∷ []
answer_lines at folder answer = []

-- the lines of these resources, of which the first stands at this position, by the answers
abbrev pub lacking_lines : Text → ℕ → List (Result Bool ShelfFault) → List ResourceData → List Text
lacking_lines types at (a ∷ answers) (r ∷ rs) =
    answer_lines at (type_folder types r) a ++ lacking_lines types (at + 1) answers rs
lacking_lines types at answers rs = []

-- the directory of one resource's type was looked for, with an answer, and its lines were told
pub record TellsType (types : Text) (at : ℕ) (r : ResourceData) (before after : List CallData) (old new : WriterData)
    : Type 0 where
  pub answer : Result Bool ShelfFault
  pub asked : after ≡ before ++ has (type_folder types r) answer ∷ []
  pub told : GetsLines (answer_lines at (type_folder types r) answer) old new

-- THE DIRECTORIES OF TYPES ARE LOOKED FOR, of resources of which the first stands at this position: by one call of the
-- shelf for each, in order, and by no other call; and of each that isn't there, and of no other, a line is told, in the
-- same order. Out of memory, it was done for the first ones
pub record TellsLacking (types : Text) (at : ℕ) (rs : List ResourceData) (end : Result Unit AllocError)
    (before after : List CallData) (old new : WriterData) : Type 0 where
  pub answers : List (Result Bool ShelfFault)
  pub asked : after ≡ before ++ looks types answers rs
  pub told : GetsLines (lacking_lines types at answers rs) old new
  pub whole : OnOk end (length answers ≡ length rs)

-- the resources of the pipeline, if the command has set one
abbrev pub resources_set : CommandData → CoreData → List ResourceData
resources_set (set_pipeline file) core = (unwrap_or core.pipeline no_pipeline).resources
resources_set command core = []
