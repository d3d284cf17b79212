-- What is told on standard error of a step that isn't a success: one line, without its line feed.
use Rattle.std.specs.Prelude.{ℕ, [], ◌++◌, codes, decimal, string_bytes, String}
use Rattle.std.specs.declared.alloc.Global.{Global}
use Rattle.ccr_pipeline.specs.Tree.{Text, Tree, get, put, task}
use Rattle.ccr_pipeline.specs.declared.fault.ReadFault.{ReadFault}
use Rattle.ccr_pipeline.specs.declared.fault.ReadFault.TheVariants as text
use Rattle.ccr_protocol.specs.declared.fault.ReplyFault.{ReplyFault}
use Rattle.ccr_protocol.specs.declared.fault.ReplyFault.TheVariants as reply
use Rattle.ccr_steps.specs.Asks.{AskData, read_config}
use Rattle.ccr_task.specs.declared.fault.ShelfFault.{ShelfFault}
use Rattle.ccr_task.specs.declared.fault.ShelfFault.TheVariants as shelf
use Rattle.ccr_task.specs.declared.said.StepFault.{StepFault}
use Rattle.ccr_task.specs.declared.said.StepFault.TheVariants.{Status, Signal, NotStarted, InputFault, ReadFault as OutputUnread, OutputTooLong, RequestTooLong, FolderFault, BadReply, NoFile, NoTask, TableFull, Aborted}

-- ---- which step
-- a step by what the pipeline calls it; a step that holds others asks nothing
abbrev pub step_words : Tree → Text
step_words (get g) = codes "get " ++ g.name
step_words (put p) = codes "put " ++ p.name
step_words (task t) = codes "task " ++ t.name
step_words t = codes "step"

-- a step of a job's build of this number
abbrev pub step_head : Text → ℕ → Tree → Text
step_head job number step = job ++ (codes " " ++ (decimal number ++ (codes ": " ++ step_words step)))

-- the file that an ask names, as the pipeline spells it
abbrev pub file_words : AskData → Text
file_words (read_config file) = codes ": " ++ file
file_words ask = []

-- an ask of a step of a job's build of this number
abbrev pub ask_head : Text → ℕ → Tree → AskData → Text
ask_head job number step ask = step_head job number step ++ file_words ask

-- ---- what was wrong
-- why a program's output is no reply
abbrev pub reply_words : ReplyFault → Text
reply_words reply.NotJson = codes "not JSON"
reply_words reply.WrongKind = codes "wrong kind"
reply_words reply.VersionNotText = codes "version not text"
reply_words reply.MissingVersion = codes "missing version"
reply_words reply.NoMemory = codes "out of memory"

-- why a task's file can't be read
abbrev pub file_fault_words : ShelfFault → Text
file_fault_words shelf.Failed = codes "cannot read"
file_fault_words shelf.TooLong = codes "too long"
file_fault_words shelf.NoMemory = codes "out of memory"

-- a fault at a path in a task's file
abbrev pub at : Text → String Global → Text
at words path = words ++ (codes " at " ++ string_bytes path)

-- why a task's file is no task; what is wrong with the whole has no path
abbrev pub task_words : ReadFault → Text
task_words (text.TooLong path) = codes "too long"
task_words (text.NotJson path) = codes "not JSON"
task_words (text.Missing path) = at (codes "missing") path
task_words (text.WrongKind path) = at (codes "wrong kind") path
task_words (text.BadName path) = at (codes "bad name") path
task_words (text.Repeated path) = at (codes "repeated") path
task_words (text.NoStep path) = at (codes "no step") path
task_words (text.TwoSteps path) = at (codes "two steps") path
task_words (text.UnknownResource path) = at (codes "unknown resource") path
task_words (text.UnknownJob path) = at (codes "unknown job") path
task_words (text.BadAttempts path) = at (codes "bad attempts") path
task_words (text.TooDeep path) = at (codes "too deep") path
task_words (text.TooMany path) = at (codes "too many") path
task_words (text.Unsupported path) = at (codes "unsupported") path
task_words (text.NumberNotWhole path) = at (codes "number not whole") path
task_words text.NoMemory = codes "out of memory"

-- what was wrong, in words
abbrev pub fault_words : StepFault → Text
fault_words (Status status) = codes "exit status " ++ decimal status
fault_words (Signal signal) = codes "signal " ++ decimal signal
fault_words (NotStarted path) = codes "not started: " ++ string_bytes path
fault_words InputFault = codes "input fault"
fault_words OutputUnread = codes "read fault"
fault_words OutputTooLong = codes "output too long"
fault_words RequestTooLong = codes "request too long"
fault_words FolderFault = codes "folder fault"
fault_words (BadReply fault) = reply_words fault
fault_words (NoFile fault) = file_fault_words fault
fault_words (NoTask fault) = task_words fault
fault_words TableFull = codes "table full"
fault_words Aborted = codes "aborted"

-- WHAT IS TOLD of a step, or of its ask, at which this was wrong
abbrev pub note_text : Text → StepFault → Text
note_text head fault = head ++ (codes ": " ++ fault_words fault)

-- what is told of a build that a restart has cut short
abbrev pub cut_text : Text → ℕ → Text
cut_text job number =
    job ++ (codes " " ++ (decimal number ++ (codes ": cut short by a restart; trigger-job " ++ (job
    ++ codes " makes another build"))))
