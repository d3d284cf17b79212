-- What is said of a job's next build, without where it lies in memory.
use Rattle.std.specs.Prelude.{ℕ, List, Option}
use Rattle.ccr_history.specs.Text.{Text}
use Rattle.ccr_history.specs.TextMap.{TextMap}
use Rattle.ccr_history.specs.declared.build.Status.{Status}
use Rattle.ccr_lines.specs.declared.outlook.Outlook.{Outlook}

-- a place that an input doesn't take, with its version, and why not, in words
pub record RefusalData : Type 0 where
  pub place : ℕ
  pub version : Option TextMap
  pub words : Text

-- a job, and the number of a build of it
pub record PassedData : Type 0 where
  pub job : Text
  pub build : Option ℕ

-- an input and its resource, the place that it takes with its version, the builds through which that passed the jobs that the
-- input names, and the newer places that it doesn't take
pub record TakenData : Type 0 where
  pub name : Text
  pub resource : Text
  pub place : ℕ
  pub version : Option TextMap
  pub passed : List PassedData
  pub newer : List RefusalData

-- a job, what its next build would be, the build that has the same versions already, what each input takes, and why there is no
-- choice, in words
pub record ExplainedData : Type 0 where
  pub job : Text
  pub outlook : Outlook
  pub last : Option (ℕ × Status)
  pub inputs : List TakenData
  pub why : Option Text
