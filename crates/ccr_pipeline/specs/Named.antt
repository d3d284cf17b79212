-- What a pipeline has under a name.
use Rattle.std.specs.Prelude.{List, Option, find}
use Rattle.std.specs.Str.{bytes_eq}
use Rattle.ccr_pipeline.specs.JobData.{ResourceData, JobData}
use Rattle.ccr_pipeline.specs.Tree.{Text}

-- the resource of a name; a pipeline has those that its plans name
abbrev pub resource_of : Text → List ResourceData → Option ResourceData
resource_of name resources = find (λ r. bytes_eq name r.name) resources

-- the job of a name
abbrev pub job_of : Text → List JobData → Option JobData
job_of name jobs = find (λ j. bytes_eq name j.name) jobs
