-- What the resources and jobs of a pipeline keep: they are few, no two have one name, and what a plan names is there.
use Rattle.std.specs.Prelude.{◌≤◌, List, [], ◌∷◌, length, map}
use Rattle.std.specs.List.{All, AllPass, IsDistinct}
use Rattle.std.specs.Str.{bytes_eq}
use Rattle.ccr_pipeline.specs.declared.lists.TheConstants.{MOST_MEMBERS}
use Rattle.ccr_pipeline.specs.JobData.{ResourceData, JobData}
use Rattle.ccr_pipeline.specs.Names.{has_name}
use Rattle.ccr_pipeline.specs.Tree.{Text, Tree, get, put, gathered}

-- the resource of a get or put
abbrev pub own_resource : Tree → List Text
own_resource (get g) = g.resource ∷ []
own_resource (put p) = p.resource ∷ []
own_resource _ = []

-- the resources of a step: those of its gets and puts
abbrev pub used_resources : Tree → List Text
used_resources t = gathered own_resource t

-- the jobs that a get names in passed
abbrev pub own_passed : Tree → List Text
own_passed (get g) = g.passed
own_passed _ = []

-- the jobs of a step: those that its gets name in passed
abbrev pub passed_jobs : Tree → List Text
passed_jobs t = gathered own_passed t

-- the resources of a plan are among those of these names, and its jobs among those of the others
abbrev pub IsLinked : List Text → List Text → Tree → Type 0
IsLinked resources jobs t = AllPass (has_name resources) (used_resources t) × AllPass (has_name jobs) (passed_jobs t)

-- what resources are called
abbrev pub resource_names : List ResourceData → List Text
resource_names rs = map (λ r. r.name) rs

-- what jobs are called
abbrev pub job_names : List JobData → List Text
job_names js = map (λ j. j.name) js

-- no more members than a pipeline may have
abbrev pub HasFewMembers : {M : Type 0} → List M → Type 0
HasFewMembers ms = length ms ≤ MOST_MEMBERS

-- no two resources have one name
abbrev pub HasDistinctResources : List ResourceData → Type 0
HasDistinctResources rs = IsDistinct bytes_eq (resource_names rs)

-- no two jobs have one name
abbrev pub HasDistinctJobs : List JobData → Type 0
HasDistinctJobs js = IsDistinct bytes_eq (job_names js)

-- each resource and each job that a plan names is there
abbrev pub AreLinked : List ResourceData → List JobData → Type 0
AreLinked rs js = All (λ j. IsLinked (resource_names rs) (job_names js) j.plan) js
