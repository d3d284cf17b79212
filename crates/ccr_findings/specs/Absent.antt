-- Which tasks take what no step before them gives.
use Rattle.std.specs.Prelude.{Bool, true, false, ◌||◌, List, [], ◌∷◌, ◌++◌, nat_le, codes, if◌then◌else◌}
use Rattle.ccr_pipeline.specs.JobData.{JobData}
use Rattle.ccr_pipeline.specs.Names.{has_name, with_name, with_names}
use Rattle.ccr_pipeline.specs.Tree.{Text, SourceData, config, file, Tree, Trees, get, put, task, in_order, in_parallel, tried, attempts, hook, no_trees, tree}
use Rattle.ccr_findings.specs.declared.absent.Artifacts.{Artifacts}
use Rattle.ccr_findings.specs.declared.finding.Kind.TheVariants.{Absent}
use Rattle.ccr_findings.specs.Findings.{FindingData, finding}

-- what steps may have given: whatever there is, since the outputs of a task file aren't known, or artifacts of these names
-- and no others
pub record GivenData : Type 0 where
  pub whatever : Bool
  pub names : List Text

-- what steps may have given, without where it lies in memory
abbrev pub given_data : Artifacts → GivenData
given_data g = record { whatever = g.whatever; names = g.names }

-- a job begins with nothing
abbrev pub nothing_given : GivenData
nothing_given = record { whatever = false; names = [] }

-- with an artifact of this name
abbrev pub giving : Text → GivenData → GivenData
giving name g = record { whatever = g.whatever; names = with_name g.names name }

-- with what a task may leave
abbrev pub leaving : SourceData → GivenData → GivenData
leaving (config k) g = record { whatever = g.whatever; names = with_names g.names k.outputs }
leaving (file path) g = record { whatever = true; names = g.names }

abbrev mutual
  -- what may be there after a step, however it ends: all that a get, a put or a task in it may give; a second try begins
  -- with what the first one may have given
  pub given_by : GivenData → Tree → GivenData
  given_by g (get d) = giving d.name g
  given_by g (put p) = if p.no_get then g else giving p.name g
  given_by g (task t) = leaving t.source g
  given_by g (in_order ts) = given_by_all g ts
  given_by g (in_parallel ts fast) = given_by_all g ts
  given_by g (tried t) = given_by g t
  given_by g (attempts n t) = given_by (if nat_le n 1 then g else given_by g t) t
  given_by g (hook w t h) = given_by (given_by g t) h

  -- what may be there after the steps of a list
  pub given_by_all : GivenData → Trees → GivenData
  given_by_all g no_trees = g
  given_by_all g (tree t ts) = given_by_all (given_by g t) ts

-- the line of an input that isn't given
abbrev pub absent_line : Text → Text → Text → Text
absent_line job name input =
    codes "absent " ++ (job ++ (codes " " ++ (name ++ (codes ": no step before it gives " ++ input))))

-- an input may be absent, or may have been given
abbrev pub is_given : GivenData → Text × Bool → Bool
is_given g i = i.1 || (g.whatever || has_name g.names i.0)

-- the finding of a task's input that isn't optional and can't have been given
unfoldable pub absent_input : Text → Text → GivenData → Text × Bool → List FindingData
absent_input job name g i = if is_given g i then [] else finding Absent (absent_line job name i.0) ∷ []

-- those of a task's inputs
abbrev pub absent_of : Text → Text → GivenData → List (Text × Bool) → List FindingData
absent_of job name g [] = []
absent_of job name g (i ∷ is) = absent_input job name g i ++ absent_of job name g is

-- those of a task by its source; of a task file the inputs aren't known
abbrev pub absent_in_source : Text → Text → GivenData → SourceData → List FindingData
absent_in_source job name g (config k) = absent_of job name g k.inputs
absent_in_source job name g (file path) = []

abbrev mutual
  -- the inputs that no step before their task gives, in a step that these artifacts may be given to: steps begin in the
  -- order of their lists, those of an in_parallel too, and a hook after its step
  pub absent : Text → GivenData → Tree → List FindingData
  absent job g (get d) = []
  absent job g (put p) = []
  absent job g (task t) = absent_in_source job t.name g t.source
  absent job g (in_order ts) = absent_in_all job g ts
  absent job g (in_parallel ts fast) = absent_in_all job g ts
  absent job g (tried t) = absent job g t
  absent job g (attempts n t) = absent job (if nat_le n 1 then g else given_by g t) t
  absent job g (hook w t h) = absent job g t ++ absent job (given_by g t) h

  -- those in the steps of a list
  pub absent_in_all : Text → GivenData → Trees → List FindingData
  absent_in_all job g no_trees = []
  absent_in_all job g (tree t ts) = absent job g t ++ absent_in_all job (given_by g t) ts

-- THE FINDINGS OF INPUTS THAT NO STEP BEFORE THEIR TASK GIVES: those of each job
abbrev pub absent_in_jobs : List JobData → List FindingData
absent_in_jobs [] = []
absent_in_jobs (j ∷ js) = absent j.name nothing_given j.plan ++ absent_in_jobs js
