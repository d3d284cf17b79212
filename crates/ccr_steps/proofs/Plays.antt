-- A step's play is its meaning.
use Rattle.std.proofs.Common.{ℕ, zero, suc, ◌-◌, Bool, true, false, List, [], ◌∷◌, refl, sym, ap, subst}
use Rattle.ccr_history.specs.TextMap.{TextMap}
use Rattle.ccr_pipeline.specs.declared.step.When.{When}
use Rattle.ccr_pipeline.specs.Tree.{Text, ConfigData, PutData, SourceData, config, file, Tree, Trees, get, put, task, in_order, in_parallel, tried, attempts, hook, no_trees, tree}
use Rattle.ccr_steps.specs.declared.outcome.Outcome.{Outcome}
use Rattle.ccr_steps.specs.declared.outcome.Outcome.TheVariants.{Succeeded, Failed, Errored, Aborted}
use Rattle.ccr_steps.specs.Asks.{AskData, read_config, run_task, AnswerData, done, pushed, configured, failed, errored, aborted, Exchange, exchange, Chosen, get_ask, put_ask, pushed_ask}
use Rattle.ccr_steps.specs.Gains.{GainsData, register, register_all, move, same, has_inputs}
use Rattle.ccr_steps.specs.Means.{Meaning, Ends, Asks, Joined, worse, runs_after, got, AfterFetch, AfterPushed, AfterPush, AfterRun, RunsIf, Runs, AfterRead, TaskBy, AfterDo, AndWorse, AfterParallel, AfterTry, AfterAttempt, Tries, HookIf, AfterHooked, Either, Means, InOrder, AllOf}
use Rattle.ccr_steps.specs.Play.{Play, ended, asks, Going, and_then, Leads, after_fetch, after_pushed, after_push, after_run, runs_if, runs, after_read, task_by, after_do, and_worse_end, and_worse, after_parallel, after_try, after_attempt, tries, hook_if, after_hooked, either, play, play_in_order, play_all}
use Rattle.ccr_steps.proofs.Leading.{leads_join, leads_split}

-- the exchanges that a meaning allows are those that lead to the play's end
abbrev pub PlaysAt : GainsData → (List Exchange → Outcome → GainsData → Type 0) → Play → Type 0
PlaysAt g A p = (es : List Exchange) (o : Outcome) (g' : GainsData) → (A es o g' → Leads p es (ended o g')) × (Leads p es (ended o g') → A es o g')

abbrev pub Plays : Meaning → Going → Type 0
Plays A p = (g : GainsData) → PlaysAt g (A g) (p g)

ends : (end : Outcome) (gain : GainsData → GainsData) → Plays (Ends end gain) (λ g. ended end (gain g))
ends end gain g [] o g' = (λ h. cc (h.1, h.2), λ h. (refl, cc (h), cc (h)))
ends end gain g (e ∷ es) o g' = (λ h. absurd (cc (h.0)), λ h. absurd h)

ask_to : (a : AskData) (A : AnswerData → Meaning) (p : AnswerData → Going) → ((x : AnswerData) → Plays (A x) (p x)) → (g : GainsData) (es : List Exchange) (o : Outcome) (g' : GainsData) → Asks a A g es o g' → Leads (asks a (λ x. p x g)) es (ended o g')
ask_to a A p h g es o g' (x, rest, e, m) = subst (λ l. Leads (asks a (λ x. p x g)) l (ended o g')) (sym e) (refl, (h x g rest o g').0 m)

ask_from : (a : AskData) (A : AnswerData → Meaning) (p : AnswerData → Going) → ((x : AnswerData) → Plays (A x) (p x)) → (g : GainsData) (es : List Exchange) (o : Outcome) (g' : GainsData) → Leads (asks a (λ x. p x g)) es (ended o g') → Asks a A g es o g'
ask_from a A p h g [] o g' l = absurd (cc (l))
ask_from a A p h g (e ∷ es) o g' l = (e.answer, es, ap (λ y. exchange y e.answer ∷ es) l.0, (h e.answer g es o g').1 l.1)

asked : (a : AskData) (A : AnswerData → Meaning) (p : AnswerData → Going) → ((x : AnswerData) → Plays (A x) (p x)) → Plays (Asks a A) (λ g. asks a (λ x. p x g))
asked a A p h g es o g' = (ask_to a A p h g es o g', ask_from a A p h g es o g')

joined : (A : Meaning) (B : Outcome → Meaning) (p : Going) (n : Outcome → Going) → Plays A p → ((o : Outcome) → Plays (B o) (n o)) → Plays (Joined A B) (λ g. and_then (p g) n)
joined A B p n a b g es o g' = (
  λ (front, back, mid, between, e, l, r). subst (λ l. Leads (and_then (p g) n) l (ended o g')) (sym e) (leads_join (p g) n front back mid between (ended o g') ((a g front mid between).0 l) ((b mid between back o g').0 r)),
  λ h. let (front, back, mid, between, e, l, r) = leads_split (p g) n es o g' h in
      (front, back, mid, between, e, (a g front mid between).1 l, (b mid between back o g').1 r),
)

fetched : (gain : GainsData → GainsData) (x : AnswerData) → Plays (AfterFetch gain x) (after_fetch gain x)
fetched gain done = ends Succeeded gain
fetched gain (pushed v) = ends Errored same
fetched gain (configured k) = ends Errored same
fetched gain failed = ends Failed same
fetched gain errored = ends Errored same
fetched gain aborted = ends Aborted same

pushed_on : (b : Bool) (p : PutData) (v : TextMap) → Plays (AfterPushed b p v) (after_pushed b p v)
pushed_on true p v g = ends Succeeded same (move p.resource v g)
pushed_on false p v g = asked (pushed_ask p v) (AfterFetch (register p.name)) (after_fetch (register p.name)) (fetched (register p.name)) (move p.resource v g)

push_ended : (p : PutData) (x : AnswerData) → Plays (AfterPush p x) (after_push p x)
push_ended p done = ends Errored same
push_ended p (pushed v) = pushed_on p.no_get p v
push_ended p (configured k) = ends Errored same
push_ended p failed = ends Failed same
push_ended p errored = ends Errored same
push_ended p aborted = ends Aborted same

ran : (outputs : List Text) (x : AnswerData) → Plays (AfterRun outputs x) (after_run outputs x)
ran outputs done = ends Succeeded (register_all outputs)
ran outputs (pushed v) = ends Errored same
ran outputs (configured k) = ends Errored same
ran outputs failed = ends Failed (register_all outputs)
ran outputs errored = ends Errored same
ran outputs aborted = ends Aborted same

runs_when : (b : Bool) (k : ConfigData) (env : List (Text × Text)) → Plays (RunsIf b k env) (runs_if b k env)
runs_when true k env = asked (run_task k env) (AfterRun k.outputs) (after_run k.outputs) (ran k.outputs)
runs_when false k env = ends Errored same

running_of : (k : ConfigData) (env : List (Text × Text)) → Plays (Runs k env) (runs k env)
running_of k env g = runs_when (has_inputs k.inputs g) k env g

read_ended : (env : List (Text × Text)) (x : AnswerData) → Plays (AfterRead env x) (after_read env x)
read_ended env done = ends Errored same
read_ended env (pushed v) = ends Errored same
read_ended env (configured k) = running_of k env
read_ended env failed = ends Errored same
read_ended env errored = ends Errored same
read_ended env aborted = ends Aborted same

task_of : (s : SourceData) (env : List (Text × Text)) → Plays (TaskBy s env) (task_by s env)
task_of (config k) env = running_of k env
task_of (file path) env = asked (read_config path) (AfterRead env) (after_read env) (read_ended env)

did : (A : Meaning) (p : Going) → Plays A p → (o : Outcome) → Plays (AfterDo A o) (after_do p o)
did A p h Succeeded = h
did A p h Failed = ends Failed same
did A p h Errored = ends Errored same
did A p h Aborted = ends Aborted same

worse_of : (A : Meaning) (p : Going) → Plays A p → (o : Outcome) → Plays (AndWorse A o) (and_worse p o)
worse_of A p h o = joined A (λ rest. Ends (worse o rest) same) p (and_worse_end o) h (λ rest. ends (worse o rest) same)

did_parallel : (A : Meaning) (p : Going) → Plays A p → (o : Outcome) → Plays (AfterParallel A o) (after_parallel p o)
did_parallel A p h Succeeded = worse_of A p h Succeeded
did_parallel A p h Failed = worse_of A p h Failed
did_parallel A p h Errored = worse_of A p h Errored
did_parallel A p h Aborted = ends Aborted same

did_try : (o : Outcome) → Plays (AfterTry o) (after_try o)
did_try Succeeded = ends Succeeded same
did_try Failed = ends Succeeded same
did_try Errored = ends Succeeded same
did_try Aborted = ends Aborted same

did_attempt : (A : Meaning) (p : Going) → Plays A p → (o : Outcome) → Plays (AfterAttempt A o) (after_attempt p o)
did_attempt A p h Succeeded = ends Succeeded same
did_attempt A p h Failed = h
did_attempt A p h Errored = h
did_attempt A p h Aborted = ends Aborted same

tries_of : (n : ℕ) (A : Meaning) (p : Going) → Plays A p → Plays (Tries n A) (tries n p)
tries_of zero A p h = h
tries_of (suc n) A p h = joined A (AfterAttempt (Tries n A)) p (after_attempt (tries n p)) h (did_attempt (Tries n A) (tries n p) (tries_of n A p h))

hooked_if : (b : Bool) (A : Meaning) (p : Going) → Plays A p → (o : Outcome) → Plays (HookIf b A o) (hook_if b p o)
hooked_if true A p h o = worse_of A p h o
hooked_if false A p h o = ends o same

hooked : (w : When) (A : Meaning) (p : Going) → Plays A p → (o : Outcome) → Plays (AfterHooked w A o) (after_hooked w p o)
hooked w A p h o = hooked_if (runs_after w o) A p h o

either_of : (b : Bool) (A B : Meaning) (p q : Going) → Plays A p → Plays B q → Plays (Either b A B) (either b p q)
either_of true A B p q a b = a
either_of false A B p q a b = b

-- the law
mutual
  pub plays : (c : Chosen) (t : Tree) → Plays (Means c t) (play c t)
  plays c (get d) = asked (get_ask c d) (AfterFetch (got c d)) (after_fetch (got c d)) (fetched (got c d))
  plays c (put p) = asked (put_ask p) (AfterPush p) (after_push p) (push_ended p)
  plays c (task t) = task_of t.source t.params
  plays c (in_order ts) = plays_in_order c ts
  plays c (in_parallel ts fast) = either_of fast (InOrder c ts) (AllOf c ts) (play_in_order c ts) (play_all c ts) (plays_in_order c ts) (plays_all c ts)
  plays c (tried t) = joined (Means c t) AfterTry (play c t) after_try (plays c t) did_try
  plays c (attempts n t) = tries_of (n - 1) (Means c t) (play c t) (plays c t)
  plays c (hook w t h) = joined (Means c t) (AfterHooked w (Means c h)) (play c t) (after_hooked w (play c h)) (plays c t) (hooked w (Means c h) (play c h) (plays c h))

  plays_in_order : (c : Chosen) (ts : Trees) → Plays (InOrder c ts) (play_in_order c ts)
  plays_in_order c no_trees = ends Succeeded same
  plays_in_order c (tree t ts) = joined (Means c t) (AfterDo (InOrder c ts)) (play c t) (after_do (play_in_order c ts)) (plays c t) (did (InOrder c ts) (play_in_order c ts) (plays_in_order c ts))

  plays_all : (c : Chosen) (ts : Trees) → Plays (AllOf c ts) (play_all c ts)
  plays_all c no_trees = ends Succeeded same
  plays_all c (tree t ts) = joined (Means c t) (AfterParallel (AllOf c ts)) (play c t) (after_parallel (play_all c ts)) (plays c t) (did_parallel (AllOf c ts) (play_all c ts) (plays_all c ts))
