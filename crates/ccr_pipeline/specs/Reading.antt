-- What is broken in a pipeline, and what reading of bytes answers.
use Rattle.std.specs.Prelude.{◌≡◌, ◌⊎◌, ℕ, ◌<◌, ◌≤◌, List, [], ◌++◌, length, Option, Some, None, is_some, codes, ⊤, IsUtf8}
use Rattle.serde_json.specs.Data.{Data}
use Rattle.serde_json.specs.Find.{as_object}
use Rattle.serde_json.specs.Read.{read as json}
use Rattle.ccr_pipeline.specs.declared.fault.Rule.{Rule}
use Rattle.ccr_pipeline.specs.declared.fault.Rule.TheVariants as rule
use Rattle.ccr_pipeline.specs.declared.reader.TheConstants.{MOST_BYTES}
use Rattle.ccr_pipeline.specs.Faults.{Path, Faults, unless, StartsWith}
use Rattle.ccr_pipeline.specs.JobRules.{resource_faults, job_faults, members, list_rule, list_names}
use Rattle.ccr_pipeline.specs.Keys.{list_at}
use Rattle.ccr_pipeline.specs.Unknown.{unknown_in}

-- what is broken before the jobs: a pipeline is an object, its resources are a list and keep their rules, and its jobs
-- are a list
unfoldable pub faults_before : Data → Faults
faults_before d =
    unless (is_some (as_object d)) rule.Kind (codes "pipeline")
    ++ (list_rule (codes "resources") d
    ++ (members resource_faults [] (codes "resources") 0 (list_at (codes "resources") d)
    ++ list_rule (codes "jobs") d))

-- what is broken before the jobs, in the jobs, and then in the names that they mention
unfoldable pub pipeline_faults : Data → Faults
pipeline_faults d =
    faults_before d ++ (members job_faults [] (codes "jobs") 0 (list_at (codes "jobs") d)
    ++ unknown_in (list_names (codes "resources") d) (list_names (codes "jobs") d) d)

-- the bytes are the text of a JSON value: no more than a text may have, and they spell it
abbrev pub IsTextOf : List ℕ → Data → Type 0
IsTextOf bytes d = (length bytes ≤ MOST_BYTES) × IsUtf8 bytes × (json bytes ≡ Some d)

-- bytes that are too long, or else spell no JSON value, and the fault that says so
abbrev pub IsUnread : Path → List ℕ → Rule × Path → Type 0
IsUnread p bytes f =
    ((MOST_BYTES < length bytes) × (f ≡ (rule.Length, p)))
    ⊎ ((length bytes ≤ MOST_BYTES) × (IsUtf8 bytes → json bytes ≡ None) × (f ≡ (rule.Json, p)))

-- a refusal of bytes: they are unread, or the fault is the first that is present in their value; of memory it says
-- nothing
abbrev pub Refuses : Path → (Data → Faults) → List ℕ → Option (Rule × Path) → Type 0
Refuses p faults bytes None = ⊤
Refuses p faults bytes (Some f) = IsUnread p bytes f ⊎ ((d : Data) × IsTextOf bytes d × StartsWith (faults d) (Some f))

-- a refusal to make a value of bytes
abbrev pub IsNoValue : Path → List ℕ → Option (Rule × Path) → Type 0
IsNoValue p bytes None = ⊤
IsNoValue p bytes (Some f) = IsUnread p bytes f

-- what was read is that of the bytes' value, in which no fault is present
abbrev pub IsReading : (Data → Faults) → List ℕ → (Data → Type 0) → Type 0
IsReading faults bytes Is = (d : Data) × IsTextOf bytes d × (faults d ≡ []) × Is d
