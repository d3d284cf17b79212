-- Of which lines it is told what to do.
use Rattle.std.specs.Prelude.{List, [], ◌∷◌, ◌++◌, codes, Bool, not, Option, None, Some}
use Rattle.ccr_history.specs.Text.{Text}
use Rattle.ccr_run.specs.Typed.{has_word, has_option}
use Rattle.ccr_run.specs.declared.topic.Topic.{Topic}
use Rattle.ccr_run.specs.declared.topic.Topic.TheVariants as t

-- words of a line, others that stand beside them, those beside which nothing is told, and those behind which nothing is any more;
-- and what to do
pub record TopicData : Type 0 where
  pub words : Text
  pub beside : Text
  pub but : Option Text
  pub unless : Option Text
  pub hint : Text

-- what to do about words
abbrev pub on : Text → Text → TopicData
on words hint = record { words = words; beside = []; but = None; unless = None; hint = hint }

-- what to do about words at the end of a line
abbrev pub at_end : Text → Text → TopicData
at_end words hint = on (words ++ 10 ∷ []) hint

-- the same, of a task
abbrev pub of_task : TopicData → TopicData
of_task topic = record topic { beside = codes ": task " }

-- the same, but of no task
abbrev pub of_resource : TopicData → TopicData
of_resource topic = record topic { but = Some (codes ": task ") }

-- what to do about a clash with this demand
abbrev pub clash : Text → Text → TopicData
clash demand hint = record (on (10 ∷ codes "clash: ") hint) { beside = demand }

-- a check that prints something else than a list
abbrev pub list_hint : Text
list_hint = codes "a check prints a list of versions on standard output, as [{\"ref\":\"61cbef\"}], and nothing else there"

-- what is missing
abbrev pub none_hint : Text
none_hint = codes "nothing is there that passed the jobs before it, and that no pin leaves out and nobody disabled: explain JOB says more, check-resource NAME looks for new versions"

-- what an allowed version is
abbrev pub allowed_hint : Text
allowed_hint = codes "an allowed version meets each pin, and nobody disabled it; with passed beside it, none of these has passed. resource-versions NAME shows versions, resources the pins; check-resource NAME looks for more"

-- about a demand that a version has passed a job
abbrev pub passed_hint : Text
passed_hint = codes "no build of the job behind passed has succeeded with a version that is allowed here: explain that job, too. If two jobs wait for each other, ccr_run validate-pipeline FILE names them"

-- what an output has to be
abbrev pub reply_hint : Text
reply_hint = codes "a get's or put's program prints an object with its version on standard output, as {\"version\":{\"ref\":\"61cbef\"}}, and nothing else there"

-- about a version that has a number
abbrev pub text_hint : Text
text_hint = codes "a version's values are texts: {\"number\":\"4\"}, not {\"number\":4}"

-- about a task's file that is no JSON
abbrev pub file_hint : Text
file_hint = codes "a task's file is JSON: examples/operating/pipeline-json --task FILE makes it of YAML"

-- about a task's file that isn't there
abbrev pub path_hint : Text
path_hint = codes "a task's file is named by its path in the build's directory, as repo/unit.json, and is that of the version that the build got: is it in there?"

-- about a task's file that is no task
abbrev pub task_hint : Text
task_hint = codes "a task's file has what a task's config has, as {\"inputs\":[{\"name\":\"repo\"}],\"run\":{\"path\":\"make\",\"args\":[\"test\"]}}"

-- about a get's or put's program that doesn't start
abbrev pub start_hint : Text
start_hint = codes "is it there, and executable, and is the program of its first line (#!) there?"

-- about a task's program that doesn't start
abbrev pub run_hint : Text
run_hint = codes "is it there, and executable? Is run.dir there, and the program of its first line (#!)? run.path is one program; its arguments belong into run.args"

-- about a build that is shown and errored
abbrev pub why_hint : Text
why_hint = codes "what was said of it as it ended isn't in the database: trigger-job JOB has it said again; where ccr keeps logs, ccr log JOB N shows it"

-- about a program that ends with a status
abbrev pub status_hint : Text
status_hint = codes "what a program prints on standard output isn't shown; what it prints on standard error is (>&2)"

-- about the directory of builds
abbrev pub work_hint : Text
work_hint = codes "builds run below --work DIR: may it be made and written?"

-- WHAT IS TOLD, and of which words
abbrev pub topic_data : Topic → TopicData
topic_data t.CheckNotJson = at_end (codes ": refused: not JSON") list_hint
topic_data t.CheckWrongKind = at_end (codes ": refused: wrong kind") list_hint
topic_data t.CheckNotText = at_end (codes ": refused: version not text") text_hint
topic_data t.CheckFolder = at_end (codes ": refused: folder fault") work_hint
topic_data t.NoneSatisfies = record (at_end (codes ": none satisfies") none_hint) { unless = Some (codes "check ") }
topic_data t.NoneAllowed = clash (codes " takes an allowed version") allowed_hint
topic_data t.NonePassed = record (clash (codes " passed ") passed_hint) { but = Some (codes " takes an allowed version") }
topic_data t.BuildErrored = at_end (codes " errored") why_hint
topic_data t.StepNotJson = of_resource (at_end (codes ": not JSON") reply_hint)
topic_data t.StepWrongKind = at_end (codes ": wrong kind") reply_hint
topic_data t.StepNoVersion = at_end (codes ": missing version") reply_hint
topic_data t.StepNotText = at_end (codes ": version not text") text_hint
topic_data t.FileNotJson = of_task (at_end (codes ": not JSON") file_hint)
topic_data t.FileUnread = of_task (at_end (codes ": cannot read") path_hint)
topic_data t.NoTask = of_task (on (codes " at task") task_hint)
topic_data t.StepNotStarted = of_resource (on (codes ": not started: ") start_hint)
topic_data t.TaskNotStarted = of_task (on (codes ": not started: ") run_hint)
topic_data t.StepStatus =
    record (of_task (on (codes ": exit status ") status_hint)) { but = Some (codes ": exit status 124" ++ 10 ∷ []) }
topic_data t.StepFolder = at_end (codes ": folder fault") work_hint

-- THE WORDS WITH WHICH NOTHING IS TOLD of a topic: `explain` says more than hints do, but for those about its clash; why a build
-- errored is told where one is shown; and a launcher may show what a program prints
abbrev pub is_silent : Topic → List Text → Bool
is_silent t.NoneAllowed words = not (has_word (codes "explain") words)
is_silent t.NonePassed words = not (has_word (codes "explain") words)
is_silent t.BuildErrored words = not (has_word (codes "build") words)
is_silent t.StepStatus words = has_option (codes "--launcher") words
is_silent topic words = has_word (codes "explain") words
