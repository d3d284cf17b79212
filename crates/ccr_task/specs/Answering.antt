-- What ends and task files answer, with what was wrong where that is no success.
use Rattle.std.specs.Prelude.{◌≡◌, ◌⊎◌, ◌==◌, ℕ, List, Bool, true, false, IsSome, Result, Ok, Err, Vec, String, codes}
use Rattle.std.specs.declared.alloc.Global.{Global}
use Rattle.ccr_history.specs.TextMap.{TextMap}
use Rattle.ccr_pipeline.specs.Faults.{fault_of}
use Rattle.ccr_pipeline.specs.Meaning.{config_from}
use Rattle.ccr_pipeline.specs.Reading.{IsReading, Refuses}
use Rattle.ccr_pipeline.specs.JobRules.{config_faults}
use Rattle.ccr_pipeline.specs.Tree.{ConfigData}
use Rattle.ccr_pipeline.specs.declared.fault.ReadFault.{ReadFault}
use Rattle.ccr_steps.specs.Asks.{AskData, fetch, push, read_config, run_task, AnswerData, done, pushed, configured, failed, errored}
use Rattle.ccr_protocol.specs.Replies.{Reading, IsReply, step_reply}
use Rattle.ccr_process.specs.Ends.{EndData, exited, killed, not_started, input_fault, read_fault, output_too_long, no_memory}
use Rattle.ccr_task.specs.Faulty.{SaidData, well, bad}
use Rattle.ccr_task.specs.declared.said.StepFault.TheVariants.{Status, Signal, NotStarted, InputFault, ReadFault as OutputUnread, OutputTooLong, BadReply, NoFile, NoTask}
use Rattle.ccr_task.specs.declared.fault.ShelfFault.{ShelfFault}
use Rattle.ccr_task.specs.declared.fault.ShelfFault.TheVariants.{Failed, TooLong, NoMemory}

-- what a reading answers: what its version does, and errored where there is none, for the reading's fault
abbrev pub replied : (TextMap → AnswerData) → Reading TextMap → SaidData
replied of (Ok v) = well (of v)
replied of (Err fault) = bad errored (BadReply fault)

-- an answer by an output: by what the reply is (Concourse: implementing a resource type, in and out)
abbrev pub AnswersReply : (TextMap → AnswerData) → List ℕ → SaidData → Type 0
AnswersReply of output x = (reading : Reading TextMap) × IsReply step_reply output reading × (x ≡ replied of reading)

-- what a program that ended with status 0 answers: a fetch is done and a push gives its version, where the reply has
-- one; a task is done; an ask for a file starts no program
abbrev pub AnswersOutput : AskData → List ℕ → SaidData → Type 0
AnswersOutput (fetch artifact resource version params) output x = AnswersReply (λ v. done) output x
AnswersOutput (push artifact resource params) output x = AnswersReply pushed output x
AnswersOutput (read_config file) output x = x ≡ well errored
AnswersOutput (run_task config env) output x = x ≡ well done

-- with another status it failed, for that status
abbrev pub AnswersExit : Bool → AskData → ℕ → List ℕ → SaidData → Type 0
AnswersExit true ask status output x = AnswersOutput ask output x
AnswersExit false ask status output x = x ≡ bad failed (Status status)

-- what the end of an ask's program answers, which was launched at this path; out of memory answers nothing
abbrev pub AnswersEnd : String Global → AskData → EndData → SaidData → Type 0
AnswersEnd path ask (exited status output) x = AnswersExit (status == 0) ask status output x
AnswersEnd path ask (killed signal) x = x ≡ bad errored (Signal signal)
AnswersEnd path ask not_started x = x ≡ bad errored (NotStarted path)
AnswersEnd path ask input_fault x = x ≡ bad errored InputFault
AnswersEnd path ask read_fault x = x ≡ bad errored OutputUnread
AnswersEnd path ask output_too_long x = x ≡ bad errored OutputTooLong
AnswersEnd path ask no_memory x = ⊥

-- what a task file's bytes answer: the config that they are read as, or errored for a fault of the file, which is told
-- (Concourse: tasks)
abbrev pub AnswersConfig : List ℕ → SaidData → Type 0
AnswersConfig bytes x =
    ((config : ConfigData) × IsReading (config_faults (codes "task")) bytes (λ d. config ≡ config_from d)
    × (x ≡ well (configured config)))
    ⊎ ((fault : ReadFault) × IsSome (fault_of fault)
    × Refuses (codes "task") (config_faults (codes "task")) bytes (fault_of fault) × (x ≡ bad errored (NoTask fault)))

-- what an answer of a shelf to a task's file answers; out of memory answers nothing
abbrev pub AnswersFile : Result (Vec ℕ Global) ShelfFault → SaidData → Type 0
AnswersFile (Ok bytes) x = AnswersConfig bytes.items x
AnswersFile (Err Failed) x = x ≡ bad errored (NoFile Failed)
AnswersFile (Err TooLong) x = x ≡ bad errored (NoFile TooLong)
AnswersFile (Err NoMemory) x = ⊥
