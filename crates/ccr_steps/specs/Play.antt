-- A build as a play of asks and answers: it has ended, or it asks and goes on by the answer.
use Rattle.std.specs.Prelude.{◌≡◌, ℕ, zero, suc, ◌-◌, Bool, true, false, List, [], ◌∷◌}
use Rattle.ccr_history.specs.TextMap.{TextMap}
use Rattle.ccr_pipeline.specs.declared.step.When.{When}
use Rattle.ccr_pipeline.specs.Tree.{Text, ConfigData, PutData, SourceData, config, file, Tree, Trees, get, put, task, in_order, in_parallel, tried, attempts, hook, no_trees, tree}
use Rattle.ccr_steps.specs.declared.outcome.Outcome.{Outcome}
use Rattle.ccr_steps.specs.declared.outcome.Outcome.TheVariants.{Succeeded, Failed, Errored, Aborted}
use Rattle.ccr_steps.specs.Asks.{AskData, read_config, run_task, AnswerData, done, pushed, configured, failed, errored, aborted, Exchange, Chosen, get_ask, put_ask, pushed_ask}
use Rattle.ccr_steps.specs.Gains.{GainsData, register, register_all, move, has_inputs}
use Rattle.ccr_steps.specs.Means.{worse, runs_after, got}

-- it has ended with an outcome and gains, or it asks and goes on by the answer
pub data Play : Type 0 where
  ended : (outcome : Outcome) (gains : GainsData) → Play
  asks : (ask : AskData) (then : AnswerData → Play) → Play

-- a play by the gains with which it begins
abbrev pub Going : Type 0
Going = GainsData → Play

-- one play, and then another by how the first ended
abbrev pub and_then : Play → (Outcome → Going) → Play
and_then (ended o g) next = next o g
and_then (asks a then) next = asks a (λ x. and_then (then x) next)

-- these exchanges lead from one play to another
abbrev pub Leads : Play → List Exchange → Play → Type 0
Leads p [] q = q ≡ p
Leads (ended o g) (e ∷ es) q = ⊥
Leads (asks a then) (e ∷ es) q = (e.ask ≡ a) × Leads (then e.answer) es q

-- THE STEPS, each as its meaning

-- as `AfterFetch`: a fetch that is done succeeds and gains; one that is aborted gains nothing
abbrev pub after_fetch : (GainsData → GainsData) → AnswerData → Going
after_fetch gain done g = ended Succeeded (gain g)
after_fetch gain (pushed v) g = ended Errored g
after_fetch gain (configured k) g = ended Errored g
after_fetch gain failed g = ended Failed g
after_fetch gain errored g = ended Errored g
after_fetch gain aborted g = ended Aborted g

-- as `AfterPushed`: the pushed version is moved, and fetched unless no_get says otherwise
abbrev pub after_pushed : Bool → PutData → TextMap → Going
after_pushed true p v g = ended Succeeded (move p.resource v g)
after_pushed false p v g = asks (pushed_ask p v) (λ x. after_fetch (register p.name) x (move p.resource v g))

-- as `AfterPush`: a push that gave a version is followed by its fetch; one that is aborted moves nothing
abbrev pub after_push : PutData → AnswerData → Going
after_push p done g = ended Errored g
after_push p (pushed v) g = after_pushed p.no_get p v g
after_push p (configured k) g = ended Errored g
after_push p failed g = ended Failed g
after_push p errored g = ended Errored g
after_push p aborted g = ended Aborted g

-- as `AfterRun`: a program that ran leaves its outputs, though it failed; one that is aborted leaves none
abbrev pub after_run : List Text → AnswerData → Going
after_run outputs done g = ended Succeeded (register_all outputs g)
after_run outputs (pushed v) g = ended Errored g
after_run outputs (configured k) g = ended Errored g
after_run outputs failed g = ended Failed (register_all outputs g)
after_run outputs errored g = ended Errored g
after_run outputs aborted g = ended Aborted g

-- as `RunsIf`: the program runs if its inputs are there
abbrev pub runs_if : Bool → ConfigData → List (Text × Text) → Going
runs_if true k env g = asks (run_task k env) (λ x. after_run k.outputs x g)
runs_if false k env g = ended Errored g

-- as `Runs`: the program runs, unless an input that isn't optional is absent
abbrev pub runs : ConfigData → List (Text × Text) → Going
runs k env g = runs_if (has_inputs k.inputs g) k env g

-- as `AfterRead`: a task file that was read is run; a reading that is aborted aborts the task
abbrev pub after_read : List (Text × Text) → AnswerData → Going
after_read env done g = ended Errored g
after_read env (pushed v) g = ended Errored g
after_read env (configured k) g = runs k env g
after_read env failed g = ended Errored g
after_read env errored g = ended Errored g
after_read env aborted g = ended Aborted g

-- as `TaskBy`: a task file is read first
abbrev pub task_by : SourceData → List (Text × Text) → Going
task_by (config k) env g = runs k env g
task_by (file path) env g = asks (read_config path) (λ x. after_read env x g)

-- as `AfterDo`: the next step follows a success
abbrev pub after_do : Going → Outcome → Going
after_do more Succeeded g = more g
after_do more Failed g = ended Failed g
after_do more Errored g = ended Errored g
after_do more Aborted g = ended Aborted g

-- the worse of an outcome and the one that came before
abbrev pub and_worse_end : Outcome → Outcome → Going
and_worse_end o rest g = ended (worse o rest) g

-- as `AndWorse`: the rest follows however the step ended; the worse of both
abbrev pub and_worse : Going → Outcome → Going
and_worse more o g = and_then (more g) (and_worse_end o)

-- as `AfterParallel`: the rest follows, unless the step was aborted; the worse of both
abbrev pub after_parallel : Going → Outcome → Going
after_parallel more Succeeded g = and_worse more Succeeded g
after_parallel more Failed g = and_worse more Failed g
after_parallel more Errored g = and_worse more Errored g
after_parallel more Aborted g = ended Aborted g

-- the worst of what came before, a step's outcome, and the rest
abbrev pub and_worst : Outcome → Going → Outcome → Going
and_worst worst rest o g = and_then (after_parallel rest o g) (and_worse_end worst)

-- as `AfterTry`: every outcome but aborted becomes succeeded
abbrev pub after_try : Outcome → Going
after_try Succeeded g = ended Succeeded g
after_try Failed g = ended Succeeded g
after_try Errored g = ended Succeeded g
after_try Aborted g = ended Aborted g

-- as `AfterAttempt`: another try follows one that failed or errored
abbrev pub after_attempt : Going → Outcome → Going
after_attempt more Succeeded g = ended Succeeded g
after_attempt more Failed g = more g
after_attempt more Errored g = more g
after_attempt more Aborted g = ended Aborted g

-- as `Tries`: one try, and at most so many more
abbrev pub tries : ℕ → Going → Going
tries zero now g = now g
tries (suc n) now g = and_then (now g) (after_attempt (tries n now))

-- as `HookIf`: a hook that runs, and the worse of both; or the outcome alone
abbrev pub hook_if : Bool → Going → Outcome → Going
hook_if true more o g = and_worse more o g
hook_if false more o g = ended o g

-- as `AfterHooked`: after a step that ended so, its hook, if it runs then
abbrev pub after_hooked : When → Going → Outcome → Going
after_hooked w more o g = hook_if (runs_after w o) more o g

-- as `Either`: with fail_fast as a do
abbrev pub either : Bool → Going → Going → Going
either true fast all g = fast g
either false fast all g = all g

-- as `Means`: a step as a play
abbrev mutual
  pub play : Chosen → Tree → Going
  play c (get d) g = asks (get_ask c d) (λ x. after_fetch (got c d) x g)
  play c (put p) g = asks (put_ask p) (λ x. after_push p x g)
  play c (task t) g = task_by t.source t.params g
  play c (in_order ts) g = play_in_order c ts g
  play c (in_parallel ts fast) g = either fast (play_in_order c ts) (play_all c ts) g
  play c (tried t) g = and_then (play c t g) after_try
  play c (attempts n t) g = tries (n - 1) (play c t) g
  play c (hook w t h) g = and_then (play c t g) (after_hooked w (play c h))

  -- as `InOrder`: in list order, up to the first that doesn't succeed, whose outcome it has
  pub play_in_order : Chosen → Trees → Going
  play_in_order c no_trees g = ended Succeeded g
  play_in_order c (tree t ts) g = and_then (play c t g) (after_do (play_in_order c ts))

  -- as `AllOf`: all in list order, up to the first that is aborted, with the worst outcome
  pub play_all : Chosen → Trees → Going
  play_all c no_trees g = ended Succeeded g
  play_all c (tree t ts) g = and_then (play c t g) (after_parallel (play_all c ts))
