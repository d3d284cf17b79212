-- The job of a name is there exactly where a job has the name.
use Rattle.std.proofs.Common.{◌≡◌, List, [], ◌∷◌, Bool, true, false, ◌||◌, cond, refl, Option, Some, None}
use Rattle.std.specs.Str.{bytes_eq}
use Rattle.ccr_history.specs.Text.{Text}
use Rattle.ccr_pipeline.specs.JobData.{JobData}
use Rattle.ccr_pipeline.specs.Links.{job_names}
use Rattle.ccr_pipeline.specs.Names.{has_name}
use Rattle.ccr_problem.specs.ProblemOf.{job_of}

unnamed_by : (b : Bool) (j : JobData) (o : Option JobData) (rest : Bool) → cond b (Some j) o ≡ None → (o ≡ None → rest ≡ false) → (b || rest) ≡ false
unnamed_by true j o rest e rec = absurd (cc)
unnamed_by false j o rest e rec = rec e

pub unnamed : (name : Text) (js : List JobData) → job_of name js ≡ None → has_name (job_names js) name ≡ false
unnamed name [] e = refl
unnamed name (j ∷ js) e = unnamed_by (bytes_eq name j.name) j (job_of name js) (has_name (job_names js) name) e (unnamed name js)

named_by : (b : Bool) (j found : JobData) (o : Option JobData) (rest : Bool) → cond b (Some j) o ≡ Some found → (o ≡ Some found → rest ≡ true) → (b || rest) ≡ true
named_by true j found o rest e rec = refl
named_by false j found o rest e rec = rec e

pub named : (name : Text) (js : List JobData) (found : JobData) → job_of name js ≡ Some found → has_name (job_names js) name ≡ true
named name [] found e = absurd (cc)
named name (j ∷ js) found e = named_by (bytes_eq name j.name) j found (job_of name js) (has_name (job_names js) name) e (named name js found)
