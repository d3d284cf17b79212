-- What is found in a pipeline, and in a text that is none.
use Rattle.std.specs.Prelude.{◌≡◌, ◌⊎◌, ℕ, List, [], ◌++◌, Some, None, IsUtf8}
use Rattle.serde_json.specs.Data.{Data}
use Rattle.serde_json.specs.Read.{read as json}
use Rattle.ccr_pipeline.specs.JobData.{JobData}
use Rattle.ccr_findings.specs.Absent.{absent_in_jobs}
use Rattle.ccr_findings.specs.Findings.{FindingData}
use Rattle.ccr_findings.specs.Gates.{gates_in}
use Rattle.ccr_findings.specs.Objects.{for_keys, for_gates, found_on}
use Rattle.ccr_findings.specs.Vars.{vars_in}

-- ALL FINDINGS OF A PIPELINE with these jobs whose text is this value, but for jobs that wait for each other: its gates, its
-- keys without effect, the gates that hold nothing, the variables, and the inputs that no step before their task gives
abbrev pub found_in_pipeline : List JobData → Data → List FindingData
found_in_pipeline js d =
    gates_in js ++ (found_on for_keys d ++ (found_on (for_gates js) d ++ (vars_in [] d ++ absent_in_jobs js)))

-- those of a value that is no pipeline: its keys without effect, and the variables
abbrev pub found_in_value : Data → List FindingData
found_in_value d = found_on for_keys d ++ vars_in [] d

-- those of bytes: there is nothing where they spell no JSON value
abbrev pub AreFindings : List ℕ → List FindingData → Type 0
AreFindings bytes fs =
    ((IsUtf8 bytes → json bytes ≡ None) × (fs ≡ []))
    ⊎ ((d : Data) × IsUtf8 bytes × (json bytes ≡ Some d) × (fs ≡ found_in_value d))
