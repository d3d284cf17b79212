-- What a build moves: versions of its inputs, and versions that it pushed.
use Rattle.std.proofs.Common.{ℕ, zero, suc, ◌-◌, Bool, true, false, List, [], ◌∷◌, ◌++◌, Option, IfSome, sym, subst}
use Rattle.std.specs.List.{AllByRecursion}
use Rattle.ccr_history.specs.TextMap.{TextMap}
use Rattle.ccr_pipeline.specs.declared.step.When.{When}
use Rattle.ccr_pipeline.specs.declared.step.When.TheVariants.{OnError, OnAbort}
use Rattle.ccr_pipeline.specs.Inputs.{InputData, inputs, inputs_in}
use Rattle.ccr_pipeline.specs.Links.{own_resource, used_resources}
use Rattle.ccr_pipeline.specs.Tree.{Text, ConfigData, PutData, SourceData, config, file, Tree, Trees, get, put, task, in_order, in_parallel, tried, attempts, hook, no_trees, tree, gathered_in}
use Rattle.ccr_steps.specs.declared.outcome.Outcome.{Outcome}
use Rattle.ccr_steps.specs.declared.outcome.Outcome.TheVariants.{Succeeded, Failed, Errored, Aborted}
use Rattle.ccr_steps.specs.Asks.{AskData, read_config, run_task, AnswerData, done, pushed, configured, failed, errored, aborted, Exchange, exchange, Chosen, version_of, get_ask, put_ask, pushed_ask}
use Rattle.ccr_steps.specs.Gains.{MovedData, GainsData, with_moved, register, register_all, move, same, has_inputs}
use Rattle.ccr_steps.specs.Means.{worse, runs_after, Meaning, Ends, Asks, Joined, AfterFetch, got, AfterPushed, AfterPush, AfterRun, RunsIf, Runs, AfterRead, TaskBy, AfterDo, AndWorse, AfterParallel, AfterTry, AfterAttempt, Tries, HookIf, AfterHooked, Either, Means, InOrder, AllOf}
use Rattle.ccr_core.specs.Seen.{pushed_by}

-- a version of a resource
abbrev pub moved_of : Text → TextMap → MovedData
moved_of resource version = record { resource = resource; version = version }

-- what is pushed is so, if the resource is known
abbrev pub IsPushed : (Text → Type 0) → (MovedData → Type 0) → Option (Text × TextMap) → Type 0
IsPushed U P o = IfSome o (λ m. U m.0 → P (moved_of m.0 m.1))

-- what these exchanges pushed is so
abbrev pub ArePushed : (Text → Type 0) → (MovedData → Type 0) → List Exchange → Type 0
ArePushed U P es = AllByRecursion (λ e. IsPushed U P (pushed_by e.ask e.answer)) es

-- what was chosen for an input is so
abbrev pub IsGot : (MovedData → Type 0) → Chosen → InputData → Type 0
IsGot P c i = P (moved_of i.resource (version_of c i.name))

pub all_split : {X : Type 0} → (P : X → Type 0) → (xs ys : List X) → AllByRecursion P (xs ++ ys) → AllByRecursion P xs × AllByRecursion P ys
all_split P [] ys h = (tt, h)
all_split P (x ∷ xs) ys h = let (p, q) = all_split P xs ys h.1 in ((h.0, p), q)

pub all_join : {X : Type 0} → (P : X → Type 0) → (xs ys : List X) → AllByRecursion P xs → AllByRecursion P ys → AllByRecursion P (xs ++ ys)
all_join P [] ys h k = k
all_join P (x ∷ xs) ys h k = (h.0, all_join P xs ys h.1 k)

-- the inputs of a step with a hook are those of both
hook_split : (Q : InputData → Type 0) → (w : When) (t h : Tree) → AllByRecursion Q (inputs (hook w t h)) → AllByRecursion Q (inputs t) × AllByRecursion Q (inputs h)
hook_split Q OnError (hook OnAbort t aborts) h all =
    let (p, q) = all_split Q (inputs t) (inputs h ++ inputs aborts) all in
    let (r, s) = all_split Q (inputs h) (inputs aborts) q in
    (all_join Q (inputs t) (inputs aborts) p s, r)
hook_split Q w t h all = all_split Q (inputs t) (inputs h) all

module _ (c : Chosen) (U : Text → Type 0) (P : MovedData → Type 0) (R : List MovedData → Type 0) (more : (ms : List MovedData) (m : MovedData) → P m → R ms → R (with_moved ms m)) where
  -- what holds of the versions moved before holds of those moved after
  abbrev Keeps : Meaning → Type 0
  Keeps A = (g : GainsData) (es : List Exchange) (o : Outcome) (g' : GainsData) → ArePushed U P es → A g es o g' → R g.moved → R g'.moved

  ends : (end : Outcome) (gain : GainsData → GainsData) → ((g : GainsData) → R g.moved → R (gain g).moved) → Keeps (Ends end gain)
  ends end gain so g es o g' pushes (e, f, is) h = subst (λ y. R y.moved) (sym is) (so g h)

  stays : (end : Outcome) → Keeps (Ends end same)
  stays end = ends end same (λ g h. h)

  asked : (ask : AskData) (then : AnswerData → Meaning) → ((x : AnswerData) → IsPushed U P (pushed_by ask x) → Keeps (then x)) → Keeps (Asks ask then)
  asked ask then keep g es o g' pushes (x, rest, is, after) h =
      let now : ArePushed U P (exchange ask x ∷ rest) = subst (ArePushed U P) is pushes in
      keep x now.0 g rest o g' now.1 after h

  joined : (A : Meaning) (B : Outcome → Meaning) → Keeps A → ((o : Outcome) → Keeps (B o)) → Keeps (Joined A B)
  joined A B first then g es o g' pushes (front, back, mid, between, is, a, b) h =
      let both = all_split (λ e. IsPushed U P (pushed_by e.ask e.answer)) front back (subst (ArePushed U P) is pushes) in
      then mid between back o g' both.1 b (first g front mid between both.0 a h)

  fetched : (gain : GainsData → GainsData) → ((g : GainsData) → R g.moved → R (gain g).moved) → (x : AnswerData) → Keeps (AfterFetch gain x)
  fetched gain so done = ends Succeeded gain so
  fetched gain so (pushed v) = stays Errored
  fetched gain so (configured k) = stays Errored
  fetched gain so failed = stays Failed
  fetched gain so errored = stays Errored
  fetched gain so aborted = stays Aborted

  after_pushed : (b : Bool) (p : PutData) (v : TextMap) → P (moved_of p.resource v) → Keeps (AfterPushed b p v)
  after_pushed true p v new g es o g' pushes (e, f, is) h = subst (λ y. R y.moved) (sym is) (more g.moved (moved_of p.resource v) new h)
  after_pushed false p v new g es o g' pushes after h =
      asked (pushed_ask p v) (AfterFetch (register p.name)) (λ x none. fetched (register p.name) (λ g h. h) x) (move p.resource v g) es o g' pushes after (more g.moved (moved_of p.resource v) new h)

  after_push : (p : PutData) → U p.resource → (x : AnswerData) → IsPushed U P (pushed_by (put_ask p) x) → Keeps (AfterPush p x)
  after_push p known done new = stays Errored
  after_push p known (pushed v) new = after_pushed p.no_get p v (new known)
  after_push p known (configured k) new = stays Errored
  after_push p known failed new = stays Failed
  after_push p known errored new = stays Errored
  after_push p known aborted new = stays Aborted

  after_run : (outputs : List Text) (x : AnswerData) → Keeps (AfterRun outputs x)
  after_run outputs done = ends Succeeded (register_all outputs) (λ g h. h)
  after_run outputs (pushed v) = stays Errored
  after_run outputs (configured k) = stays Errored
  after_run outputs failed = ends Failed (register_all outputs) (λ g h. h)
  after_run outputs errored = stays Errored
  after_run outputs aborted = stays Aborted

  runs_if : (b : Bool) (k : ConfigData) (env : List (Text × Text)) → Keeps (RunsIf b k env)
  runs_if true k env = asked (run_task k env) (AfterRun k.outputs) (λ x none. after_run k.outputs x)
  runs_if false k env = stays Errored

  runs : (k : ConfigData) (env : List (Text × Text)) → Keeps (Runs k env)
  runs k env g = runs_if (has_inputs k.inputs g) k env g

  after_read : (env : List (Text × Text)) (x : AnswerData) → Keeps (AfterRead env x)
  after_read env done = stays Errored
  after_read env (pushed v) = stays Errored
  after_read env (configured k) = runs k env
  after_read env failed = stays Errored
  after_read env errored = stays Errored
  after_read env aborted = stays Aborted

  task_by : (source : SourceData) (env : List (Text × Text)) → Keeps (TaskBy source env)
  task_by (config k) env = runs k env
  task_by (file path) env = asked (read_config path) (AfterRead env) (λ x none. after_read env x)

  after_do : (A : Meaning) → Keeps A → (o : Outcome) → Keeps (AfterDo A o)
  after_do A keep Succeeded = keep
  after_do A keep Failed = stays Failed
  after_do A keep Errored = stays Errored
  after_do A keep Aborted = stays Aborted

  and_worse : (A : Meaning) → Keeps A → (o : Outcome) → Keeps (AndWorse A o)
  and_worse A keep o = joined A (λ rest. Ends (worse o rest) same) keep (λ rest. stays (worse o rest))

  after_parallel : (A : Meaning) → Keeps A → (o : Outcome) → Keeps (AfterParallel A o)
  after_parallel A keep Succeeded = and_worse A keep Succeeded
  after_parallel A keep Failed = and_worse A keep Failed
  after_parallel A keep Errored = and_worse A keep Errored
  after_parallel A keep Aborted = stays Aborted

  after_try : (o : Outcome) → Keeps (AfterTry o)
  after_try Succeeded = stays Succeeded
  after_try Failed = stays Succeeded
  after_try Errored = stays Succeeded
  after_try Aborted = stays Aborted

  after_attempt : (A : Meaning) → Keeps A → (o : Outcome) → Keeps (AfterAttempt A o)
  after_attempt A keep Succeeded = stays Succeeded
  after_attempt A keep Failed = keep
  after_attempt A keep Errored = keep
  after_attempt A keep Aborted = stays Aborted

  tries : (n : ℕ) (A : Meaning) → Keeps A → Keeps (Tries n A)
  tries zero A keep = keep
  tries (suc n) A keep = joined A (AfterAttempt (Tries n A)) keep (after_attempt (Tries n A) (tries n A keep))

  hook_if : (b : Bool) (A : Meaning) → Keeps A → (o : Outcome) → Keeps (HookIf b A o)
  hook_if true A keep o = and_worse A keep o
  hook_if false A keep o = stays o

  either : (b : Bool) (A B : Meaning) → Keeps A → Keeps B → Keeps (Either b A B)
  either true A B first then = first
  either false A B first then = then

  mutual
    pub means_keep : (t : Tree) → AllByRecursion (IsGot P c) (inputs t) → AllByRecursion U (used_resources t) → Keeps (Means c t)
    means_keep (get d) gots known = asked (get_ask c d) (AfterFetch (got c d)) (λ x none. fetched (got c d) (λ g h. more g.moved (moved_of d.resource (version_of c d.name)) gots.0 h) x)
    means_keep (put p) gots known = asked (put_ask p) (AfterPush p) (after_push p known.0)
    means_keep (task t) gots known = task_by t.source t.params
    means_keep (in_order ts) gots known = in_order_keep ts gots known
    means_keep (in_parallel ts fast) gots known = either fast (InOrder c ts) (AllOf c ts) (in_order_keep ts gots known) (all_of_keep ts gots known)
    means_keep (tried t) gots known = joined (Means c t) AfterTry (means_keep t gots known) after_try
    means_keep (attempts n t) gots known = tries (n - 1) (Means c t) (means_keep t gots known)
    means_keep (hook w t h) gots known =
        let (p, q) = hook_split (IsGot P c) w t h gots in
        let (r, s) = all_split U (used_resources t) (used_resources h) known in
        joined (Means c t) (AfterHooked w (Means c h)) (means_keep t p r) (λ o. hook_if (runs_after w o) (Means c h) (means_keep h q s) o)

    in_order_keep : (ts : Trees) → AllByRecursion (IsGot P c) (inputs_in ts) → AllByRecursion U (gathered_in own_resource ts) → Keeps (InOrder c ts)
    in_order_keep no_trees gots known = stays Succeeded
    in_order_keep (tree t ts) gots known =
        let (p, q) = all_split (IsGot P c) (inputs t) (inputs_in ts) gots in
        let (r, s) = all_split U (used_resources t) (gathered_in own_resource ts) known in
        joined (Means c t) (AfterDo (InOrder c ts)) (means_keep t p r) (after_do (InOrder c ts) (in_order_keep ts q s))

    all_of_keep : (ts : Trees) → AllByRecursion (IsGot P c) (inputs_in ts) → AllByRecursion U (gathered_in own_resource ts) → Keeps (AllOf c ts)
    all_of_keep no_trees gots known = stays Succeeded
    all_of_keep (tree t ts) gots known =
        let (p, q) = all_split (IsGot P c) (inputs t) (inputs_in ts) gots in
        let (r, s) = all_split U (used_resources t) (gathered_in own_resource ts) known in
        joined (Means c t) (AfterParallel (AllOf c ts)) (means_keep t p r) (after_parallel (AllOf c ts) (all_of_keep ts q s))
