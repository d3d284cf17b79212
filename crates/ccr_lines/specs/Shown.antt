-- What a command shows. Each line ends with a line feed.
use Rattle.std.specs.Prelude.{◌≡◌, ℕ, List, [], ◌++◌, IsSomeAnd, Option, Some, unwrap_or, Result, Ok, Err, ⊤}
use Rattle.ccr_history.specs.Text.{Text}
use Rattle.std.specs.Option.{option_map_or}
use Rattle.ccr_history.specs.Builds.{BuildData, build_of}
use Rattle.ccr_history.specs.History.{HistoryData}
use Rattle.ccr_pipeline.specs.Pipelines.{PipelineData}
use Rattle.ccr_choice.specs.Preference.{order_of}
use Rattle.ccr_choice.specs.Problem.{ProblemValue}
use Rattle.ccr_choice.specs.ProblemText.{problem_text}
use Rattle.ccr_proof.specs.ProofText.{proof_text}
use Rattle.ccr_proof.specs.Tree.{tree_of}
use Rattle.ccr_problem.specs.ProblemOf.{resource_of, scope_of, IsProblemOf}
use Rattle.ccr_resolve.specs.declared.answer.Answer.{Answer}
use Rattle.ccr_resolve.specs.declared.answer.Answer.TheVariants.{Best, Nothing, OverBudget}
use Rattle.ccr_resolve.specs.Answer.{IsAnswer}
use Rattle.ccr_core.specs.Holding.{CoreData}
use Rattle.ccr_core.specs.State.{no_pipeline}
use Rattle.ccr_core.specs.declared.form.Form.{Form}
use Rattle.ccr_core.specs.Commands.{ShownData, builds, versions, problem, proof, certificate, explanation, pipeline, resources, jobs, red, live, graph, build, trace, build_certificate}
use Rattle.ccr_lines.specs.declared.shown.ShowFault.{ShowFault}
use Rattle.ccr_lines.specs.declared.shown.ShowFault.TheVariants as why
use Rattle.ccr_lines.specs.ExplainJson.{IsExplanationShown}
use Rattle.ccr_lines.specs.Listed.{builds_of, builds_shown, versions_listed, versions_shown}
use Rattle.ccr_lines.specs.Needs.{Need, no_need, a_pipeline, a_resource, a_job, a_known_job, a_pin, a_build, pin_in, IsMet, Lacks, LacksPin}
use Rattle.ccr_lines.specs.ResourcesJson.{resources_shown}
use Rattle.ccr_lines.specs.JobsJson.{AreJobs}
use Rattle.ccr_lines.specs.Live.{IsLiveShown}
use Rattle.ccr_lines.specs.Red.{IsRedShown}
use Rattle.ccr_lines.specs.Releases.{AreMadeBefore, all_together}
use Rattle.ccr_lines.specs.ReleaseJson.{release_shown}
use Rattle.ccr_lines.specs.Traces.{trace_of}
use Rattle.ccr_lines.specs.TraceJson.{trace_shown}
use Rattle.ccr_lines.specs.Certificates.{IsCertificateShown}
use Rattle.ccr_lines.specs.Graphs.{graph_lines}
use Rattle.ccr_lines.specs.BuildCertificates.{IsBuildCertificateShown}

-- what has to be there for it to be shown
abbrev pub needs : ShownData → Need
needs (builds form job count) = option_map_or a_known_job job no_need
needs (versions form resource) = a_resource resource
needs (problem job) = a_job job
needs (proof job) = a_job job
needs (certificate job) = a_job job
needs (explanation form job) = a_job job
needs pipeline = a_pipeline
needs (resources form) = a_pipeline
needs (jobs form) = a_pipeline
needs (red form) = a_pipeline
needs (live form job) = a_known_job job
needs graph = a_pipeline
needs (build form job number) = a_build job number
needs (trace form resource pin) = a_pin resource pin
needs (build_certificate job number) = a_build job number

-- the versions of a resource of the pipeline
abbrev pub IsVersionsShown : Form → PipelineData → HistoryData → Text → Text → Type 0
IsVersionsShown form p h resource lines =
    IsSomeAnd (resource_of resource p.resources) (λ r. lines ≡ versions_shown form (versions_listed (scope_of r) h))

-- the problem of a job's next build
abbrev pub IsProblemShown : PipelineData → HistoryData → Text → Text → Type 0
IsProblemShown p h job lines = (q : ProblemValue) × IsProblemOf p h job q × (lines ≡ problem_text q)

-- the proof of an answer, with status 0; nothing where the budget is over, with status 3
abbrev pub IsTextOf : Answer → ℕ → Text → Type 0
IsTextOf (Best given) status lines = (status ≡ 0) × (lines ≡ proof_text given.claim (tree_of given.tree))
IsTextOf (Nothing given) status lines = (status ≡ 0) × (lines ≡ proof_text given.claim (tree_of given.tree))
IsTextOf (OverBudget n) status lines = (status ≡ 3) × (lines ≡ [])

-- the proof of the choice for a job's next build, or that there is none, within a budget
abbrev pub IsProofShown : PipelineData → HistoryData → ℕ → Text → ℕ → Text → Type 0
IsProofShown p h budget job status lines =
    (q : ProblemValue) × (a : Answer) × IsProblemOf p h job q × IsAnswer (order_of q) q budget a
    × IsTextOf a status lines

-- the job's build of this number
abbrev pub IsReleaseShown : Form → PipelineData → HistoryData → Text → ℕ → Text → Type 0
IsReleaseShown form p h job number lines =
    (b : BuildData) × (before : List BuildData) × (build_of job number h.builds ≡ Some b)
    × AreMadeBefore h.builds before b × (lines ≡ release_shown form h.tables b (all_together p before b))

-- the builds that a version of a resource went through, which meets the pin that a text spells
abbrev pub IsTraceShown : Form → HistoryData → Text → Text → Text → Type 0
IsTraceShown form h resource pin lines = IsSomeAnd (pin_in pin) (λ p. lines ≡ trace_shown form (trace_of h resource p))

-- WHAT IS SHOWN, in a pipeline with a history and a budget, and with which status
abbrev pub IsShown : ShownData → PipelineData → HistoryData → ℕ → ℕ → Text → Type 0
IsShown (builds form job count) p h budget status lines = (status ≡ 0) × (lines ≡ builds_shown form (builds_of job count h))
IsShown (versions form resource) p h budget status lines = (status ≡ 0) × IsVersionsShown form p h resource lines
IsShown (problem job) p h budget status lines = (status ≡ 0) × IsProblemShown p h job lines
IsShown (proof job) p h budget status lines = IsProofShown p h budget job status lines
IsShown (certificate job) p h budget status lines = IsCertificateShown p h budget job status lines
IsShown (explanation form job) p h budget status lines = IsExplanationShown form p h budget job status lines
IsShown pipeline p h budget status lines = (status ≡ 0) × (lines ≡ p.text)
IsShown (resources form) p h budget status lines = (status ≡ 0) × (lines ≡ resources_shown form h p.resources)
IsShown (jobs form) p h budget status lines = (status ≡ 0) × AreJobs form p h budget lines
IsShown (red form) p h budget status lines = IsRedShown form p h status lines
IsShown (live form job) p h budget status lines = IsLiveShown form h job status lines
IsShown graph p h budget status lines = (status ≡ 0) × (lines ≡ graph_lines p h)
IsShown (build form job number) p h budget status lines = (status ≡ 0) × IsReleaseShown form p h job number lines
IsShown (trace form resource pin) p h budget status lines = (status ≡ 0) × IsTraceShown form h resource pin lines
IsShown (build_certificate job number) p h budget status lines = IsBuildCertificateShown p h job number status lines

-- why nothing is shown that has this need: it isn't met, as the fault says; the text of a pin spells none; or out of memory
abbrev pub IsUnshown : Need → Option PipelineData → HistoryData → ShowFault → Type 0
IsUnshown n p h (why.Lacks fault) = Lacks n p h fault
IsUnshown n p h why.BadPin = LacksPin n p
IsUnshown n p h why.NoMemory = ⊤

-- WHAT IS MADE OF A CORE to be shown: what it needs is there, and these are the lines, with the status
abbrev pub IsMade : ShownData → CoreData → ℕ → Text → Type 0
IsMade what c status lines =
    IsMet (needs what) c.pipeline c.history
    × IsShown what (unwrap_or c.pipeline no_pipeline) c.history c.budget status lines

-- WHAT COMES OF SHOWING IT from what a core holds, with all lines before and after: what it needs is there and it is
-- shown, or nothing is
abbrev pub Showing : ShownData → CoreData → Result ℕ ShowFault → Text → Text → Type 0
Showing what c (Ok status) old new =
    IsMet (needs what) c.pipeline c.history
    × ((lines : Text) × IsShown what (unwrap_or c.pipeline no_pipeline) c.history c.budget status lines
    × (new ≡ old ++ lines))
Showing what c (Err fault) old new = IsUnshown (needs what) c.pipeline c.history fault × (new ≡ old)
