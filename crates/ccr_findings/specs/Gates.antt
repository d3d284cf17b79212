-- The gates of a pipeline's inputs: what has to hold of the version that each takes.
use Rattle.std.specs.Prelude.{List, [], ◌∷◌, ◌++◌, codes, if◌then◌else◌}
use Rattle.std.specs.List.{flat_map}
use Rattle.ccr_pipeline.specs.Inputs.{InputData, inputs}
use Rattle.ccr_pipeline.specs.JobData.{JobData}
use Rattle.ccr_pipeline.specs.Tree.{Text, WantedData, latest, every, pinned}
use Rattle.ccr_findings.specs.declared.finding.Kind.TheVariants.{Gate}
use Rattle.ccr_findings.specs.Findings.{FindingData, finding}

-- what its jobs in passed say
abbrev pub passed_words : List Text → Text
passed_words [] = codes "newest"
passed_words (job ∷ jobs) = codes "passed " ++ (job ++ flat_map (λ other. codes ", passed " ++ other) jobs)

-- what is said of the versions that it wants
abbrev pub wanted_words : WantedData → Text
wanted_words latest = []
wanted_words every = codes ", every"
wanted_words (pinned p) = codes ", pinned"

-- what is said of it if a new version triggers its job
abbrev pub trigger_words : InputData → Text
trigger_words i = if i.trigger then codes ", trigger" else []

-- the gate of an input
abbrev pub gate_words : InputData → Text
gate_words i = passed_words i.passed ++ (wanted_words i.wanted ++ trigger_words i)

-- its line
abbrev pub gate_line : Text → InputData → Text
gate_line job i = codes "gate " ++ (job ++ (codes " " ++ (i.name ++ (codes ": " ++ gate_words i))))

-- the gates of a job's inputs
abbrev pub gates_of : Text → List InputData → List FindingData
gates_of job [] = []
gates_of job (i ∷ is) = finding Gate (gate_line job i) ∷ gates_of job is

-- THE GATES OF A PIPELINE, job by job, in the order of its inputs
abbrev pub gates_in : List JobData → List FindingData
gates_in [] = []
gates_in (j ∷ js) = gates_of j.name (inputs j.plan) ++ gates_in js
