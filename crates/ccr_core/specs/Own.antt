-- The answers that are a build's own.
use Rattle.std.specs.Prelude.{ℕ, ◌==◌, ◌&&◌, List, [], ◌∷◌, ◌++◌, Option, Some, None, Ok, Err, if◌then◌else◌}
use Rattle.std.specs.Str.{bytes_eq}
use Rattle.ccr_history.specs.Text.{Text}
use Rattle.ccr_steps.specs.Asks.{AnswerData}
use Rattle.ccr_core.specs.Addressed.{AnswerTo, addressed}
use Rattle.ccr_core.specs.Events.{EventData}
use Rattle.ccr_core.specs.Replies.{Replied}

-- the answer of what was said, if it was said to the job's build of this number
abbrev pub said_to : Text → ℕ → Option AnswerTo → List AnswerData
said_to job number (Some a) = if bytes_eq job a.job && number == a.number then a.given ∷ [] else []
said_to job number None = []

-- the answer of an event to the job's build of this number, if it is addressed to it and not refused
abbrev pub own_of : Text → ℕ → EventData → Replied → List AnswerData
own_of job number e (Ok r) = said_to job number (addressed e)
own_of job number e (Err f) = []

-- the answers that were addressed to the job's build of this number and not refused, in order; an event counts with its
-- reply
abbrev pub own : Text → ℕ → List EventData → List Replied → List AnswerData
own job number (e ∷ es) (r ∷ rs) = own_of job number e r ++ own job number es rs
own job number es rs = []
