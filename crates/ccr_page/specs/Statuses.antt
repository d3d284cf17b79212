-- How builds stand, in a letter and in words.
use Rattle.std.specs.Prelude.{ℕ, Bool, true, false, ◌==◌, codes}
use Rattle.ccr_page.specs.Texts.{Text}
use Rattle.ccr_page.specs.declared.status.Status.{Status}
use Rattle.ccr_page.specs.declared.status.Status.TheVariants.{Failed, Errored, Aborted, Running, Succeeded, Missing}
use Rattle.ccr_page.specs.declared.data.Urgency.{Urgency}
use Rattle.ccr_page.specs.declared.data.Urgency.TheVariants.{Stopped, Held, Going}

-- The class that colours it.
abbrev pub class_text : Status → Text
class_text Failed = codes "f"
class_text Errored = codes "e"
class_text Aborted = codes "a"
class_text Running = codes "r"
class_text Succeeded = codes "s"
class_text Missing = codes "n"

-- It in a word.
abbrev pub status_text : Status → Text
status_text Failed = codes "failed"
status_text Errored = codes "errored"
status_text Aborted = codes "aborted"
status_text Running = codes "running"
status_text Succeeded = codes "succeeded"
status_text Missing = codes "without builds"

-- Its colour, as the dot of the tab has it.
abbrev pub colour_text : Status → Text
colour_text Failed = codes "d23c28"
colour_text Errored = codes "f5a623"
colour_text Aborted = codes "8b572a"
colour_text Running = codes "fad43b"
colour_text Succeeded = codes "11c560"
colour_text Missing = codes "9b9b9b"

-- The class of what stands still.
abbrev pub urgency_text : Urgency → Text
urgency_text Stopped = codes "x"
urgency_text Held = codes "p"
urgency_text Going = codes "r"

-- Statuses by their urgency.
abbrev pub rank : Status → ℕ
rank Failed = 0
rank Errored = 1
rank Aborted = 2
rank Running = 3
rank Succeeded = 4
rank Missing = 5

-- They are the same.
abbrev pub is_same : Status → Status → Bool
is_same a b = rank a == rank b

-- The same of how urgent it is that something stands still.
abbrev pub urgency_rank : Urgency → ℕ
urgency_rank Stopped = 0
urgency_rank Held = 1
urgency_rank Going = 2

-- They are the same.
abbrev pub is_as_urgent : Urgency → Urgency → Bool
is_as_urgent a b = urgency_rank a == urgency_rank b
