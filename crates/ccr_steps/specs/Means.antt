-- What a step means: which lists of exchanges it allows, with which outcome, and what the build has gained at its end.
use Rattle.std.specs.Prelude.{◌≡◌, ℕ, zero, suc, ◌-◌, Bool, true, false, List, [], ◌∷◌, ◌++◌}
use Rattle.ccr_history.specs.TextMap.{TextMap}
use Rattle.ccr_pipeline.specs.declared.step.When.{When}
use Rattle.ccr_pipeline.specs.declared.step.When.TheVariants.{OnSuccess, OnFailure, OnError, OnAbort, Ensure}
use Rattle.ccr_pipeline.specs.Tree.{Text, ConfigData, GetData, PutData, SourceData, config, file, Tree, Trees, get, put, task, in_order, in_parallel, tried, attempts, hook, no_trees, tree}
use Rattle.ccr_steps.specs.declared.outcome.Outcome.{Outcome}
use Rattle.ccr_steps.specs.declared.outcome.Outcome.TheVariants.{Succeeded, Failed, Errored, Aborted}
use Rattle.ccr_steps.specs.Asks.{AskData, read_config, run_task, AnswerData, done, pushed, configured, failed, errored, aborted, Exchange, exchange, Chosen, version_of, get_ask, put_ask, pushed_ask}
use Rattle.ccr_steps.specs.Gains.{GainsData, register, register_all, move, same, has_inputs}

-- from best to worst: succeeded, failed, errored, aborted
abbrev pub worse : Outcome → Outcome → Outcome
worse Succeeded o = o
worse Failed Succeeded = Failed
worse Failed Failed = Failed
worse Failed Errored = Errored
worse Failed Aborted = Aborted
worse Errored Succeeded = Errored
worse Errored Failed = Errored
worse Errored Errored = Errored
worse Errored Aborted = Aborted
worse Aborted o = Aborted

-- a hook runs after the outcome that it names; ensure after each
abbrev pub runs_after : When → Outcome → Bool
runs_after OnSuccess Succeeded = true
runs_after OnFailure Failed = true
runs_after OnError Errored = true
runs_after OnAbort Aborted = true
runs_after Ensure o = true
runs_after w o = false

-- begun with these gains, these exchanges in order lead to this outcome and these gains
abbrev pub Meaning : Type 1
Meaning = GainsData → List Exchange → Outcome → GainsData → Type 0

-- THE PARTS

-- nothing is asked: this outcome, with these gains
abbrev pub Ends : Outcome → (GainsData → GainsData) → Meaning
Ends end gain g es o g' = (es ≡ []) × (o ≡ end) × (g' ≡ gain g)

-- this is asked, and any answer may come
abbrev pub Asks : AskData → (AnswerData → Meaning) → Meaning
Asks ask then g es o g' = (x : AnswerData) × (rest : List Exchange) × (es ≡ exchange ask x ∷ rest) × then x g rest o g'

-- one part, and then another by how the first ended, with the gains that it left
abbrev pub Joined : Meaning → (Outcome → Meaning) → Meaning
Joined A B g es o g' =
    (front back : List Exchange) × (mid : Outcome) × (between : GainsData)
    × (es ≡ front ++ back) × A g front mid between × B mid between back o g'

-- THE STEPS

-- a fetch that is done succeeds and gains; one that is aborted gains nothing; an answer of another kind is an error
abbrev pub AfterFetch : (GainsData → GainsData) → AnswerData → Meaning
AfterFetch gain done = Ends Succeeded gain
AfterFetch gain (pushed v) = Ends Errored same
AfterFetch gain (configured k) = Ends Errored same
AfterFetch gain failed = Ends Failed same
AfterFetch gain errored = Ends Errored same
AfterFetch gain aborted = Ends Aborted same

-- what a get of a version gains: its artifact, and the version
abbrev pub got_version : GetData → TextMap → GainsData → GainsData
got_version d v g = move d.resource v (register d.name g)

-- what a get gains with the version that was chosen for its input
abbrev pub got : Chosen → GetData → GainsData → GainsData
got c d = got_version d (version_of c d.name)

-- the pushed version is fetched under the put's name, unless no_get says otherwise; it is moved however the fetch ends
abbrev pub AfterPushed : Bool → PutData → TextMap → Meaning
AfterPushed true p v g = Ends Succeeded (move p.resource v) g
AfterPushed false p v g = Asks (pushed_ask p v) (AfterFetch (register p.name)) (move p.resource v g)

-- a push that gave a version is followed by its fetch; one that is aborted moves nothing; an answer of another kind is
-- an error
abbrev pub AfterPush : PutData → AnswerData → Meaning
AfterPush p done = Ends Errored same
AfterPush p (pushed v) = AfterPushed p.no_get p v
AfterPush p (configured k) = Ends Errored same
AfterPush p failed = Ends Failed same
AfterPush p errored = Ends Errored same
AfterPush p aborted = Ends Aborted same

-- a program that ran leaves its outputs, though it failed; one that is aborted leaves none
abbrev pub AfterRun : List Text → AnswerData → Meaning
AfterRun outputs done = Ends Succeeded (register_all outputs)
AfterRun outputs (pushed v) = Ends Errored same
AfterRun outputs (configured k) = Ends Errored same
AfterRun outputs failed = Ends Failed (register_all outputs)
AfterRun outputs errored = Ends Errored same
AfterRun outputs aborted = Ends Aborted same

-- the program runs if its inputs are there; else it is an error
abbrev pub RunsIf : Bool → ConfigData → List (Text × Text) → Meaning
RunsIf true k env = Asks (run_task k env) (AfterRun k.outputs)
RunsIf false k env = Ends Errored same

-- the program runs, unless an input that isn't optional is absent: then nothing is started
abbrev pub Runs : ConfigData → List (Text × Text) → Meaning
Runs k env g = RunsIf (has_inputs k.inputs g) k env g

-- a task file that was read is run; a reading that is aborted aborts the task; without a file the task is an error
abbrev pub AfterRead : List (Text × Text) → AnswerData → Meaning
AfterRead env done = Ends Errored same
AfterRead env (pushed v) = Ends Errored same
AfterRead env (configured k) = Runs k env
AfterRead env failed = Ends Errored same
AfterRead env errored = Ends Errored same
AfterRead env aborted = Ends Aborted same

-- a task file is read first
abbrev pub TaskBy : SourceData → List (Text × Text) → Meaning
TaskBy (config k) env = Runs k env
TaskBy (file path) env = Asks (read_config path) (AfterRead env)

-- the next step follows a success
abbrev pub AfterDo : Meaning → Outcome → Meaning
AfterDo more Succeeded = more
AfterDo more Failed = Ends Failed same
AfterDo more Errored = Ends Errored same
AfterDo more Aborted = Ends Aborted same

-- the rest follows however the step ended; the worse of both
abbrev pub AndWorse : Meaning → Outcome → Meaning
AndWorse more o = Joined more (λ rest. Ends (worse o rest) same)

-- after a step of an in_parallel the rest follows, unless the step was aborted; the worse of both
abbrev pub AfterParallel : Meaning → Outcome → Meaning
AfterParallel more Succeeded = AndWorse more Succeeded
AfterParallel more Failed = AndWorse more Failed
AfterParallel more Errored = AndWorse more Errored
AfterParallel more Aborted = Ends Aborted same

-- every outcome but aborted becomes succeeded
abbrev pub AfterTry : Outcome → Meaning
AfterTry Succeeded = Ends Succeeded same
AfterTry Failed = Ends Succeeded same
AfterTry Errored = Ends Succeeded same
AfterTry Aborted = Ends Aborted same

-- another try follows one that failed or errored
abbrev pub AfterAttempt : Meaning → Outcome → Meaning
AfterAttempt more Succeeded = Ends Succeeded same
AfterAttempt more Failed = more
AfterAttempt more Errored = more
AfterAttempt more Aborted = Ends Aborted same

-- one try, and at most so many more
abbrev pub Tries : ℕ → Meaning → Meaning
Tries zero A = A
Tries (suc n) A = Joined A (AfterAttempt (Tries n A))

-- a hook that runs, and the worse of both; or the outcome alone
abbrev pub HookIf : Bool → Meaning → Outcome → Meaning
HookIf true more o = AndWorse more o
HookIf false more o = Ends o same

-- after a step that ended so, its hook, if it runs then
abbrev pub AfterHooked : When → Meaning → Outcome → Meaning
AfterHooked w more o = HookIf (runs_after w o) more o

-- with fail_fast as a do
abbrev pub Either : Bool → Meaning → Meaning → Meaning
Either true fast all = fast
Either false fast all = all

-- what a step means, where these versions were chosen for the job's inputs
abbrev mutual
  pub Means : Chosen → Tree → Meaning
  Means c (get d) = Asks (get_ask c d) (AfterFetch (got c d))
  Means c (put p) = Asks (put_ask p) (AfterPush p)
  Means c (task t) = TaskBy t.source t.params
  Means c (in_order ts) = InOrder c ts
  Means c (in_parallel ts fast) = Either fast (InOrder c ts) (AllOf c ts)
  Means c (tried t) = Joined (Means c t) AfterTry
  Means c (attempts n t) = Tries (n - 1) (Means c t)
  Means c (hook w t h) = Joined (Means c t) (AfterHooked w (Means c h))

  -- in list order, up to the first that doesn't succeed, whose outcome it has
  pub InOrder : Chosen → Trees → Meaning
  InOrder c no_trees = Ends Succeeded same
  InOrder c (tree t ts) = Joined (Means c t) (AfterDo (InOrder c ts))

  -- all in list order, up to the first that is aborted, with the worst outcome
  pub AllOf : Chosen → Trees → Meaning
  AllOf c no_trees = Ends Succeeded same
  AllOf c (tree t ts) = Joined (Means c t) (AfterParallel (AllOf c ts))
