-- Where a build waits: a path of frames down to a step that asks, and what is left to do when that step has ended.
use Rattle.std.specs.Prelude.{◌≡◌, ℕ, zero, suc, ◌+◌, Bool, true, false, List, ◌∷◌, ◌++◌, take, drop, map, slice_get, Option, Some, None, IsSome}
use Rattle.ccr_history.specs.TextMap.{TextMap}
use Rattle.ccr_pipeline.specs.declared.step.Step.{Step}
use Rattle.ccr_pipeline.specs.Tree.{Text, ConfigData, config_data, SourceData, config, file, TaskData, Tree, Trees, get, put, task, in_order, in_parallel, tried, attempts, hook, no_trees, tree, tree_of, trees_of}
use Rattle.ccr_steps.specs.declared.outcome.Outcome.{Outcome}
use Rattle.ccr_steps.specs.declared.outcome.Outcome.TheVariants.{Succeeded, Failed, Errored, Aborted}
use Rattle.ccr_steps.specs.declared.frame.Frame.{Frame}
use Rattle.ccr_steps.specs.declared.frame.Frame.TheVariants.{At, In, Left, Hook}
use Rattle.ccr_steps.specs.declared.frame.Leaf.{Leaf}
use Rattle.ccr_steps.specs.declared.frame.Leaf.TheVariants.{First, Fetching, Running}
use Rattle.ccr_steps.specs.declared.leaf.Next.{Next}
use Rattle.ccr_steps.specs.Asks.{AskData, read_config, run_task, AnswerData, Chosen, get_ask, put_ask, pushed_ask}
use Rattle.ccr_steps.specs.Gains.{GainsData, register, has_inputs}
use Rattle.ccr_steps.specs.Means.{got}
use Rattle.ccr_steps.specs.Play.{Play, ended, asks, Going, and_then, after_fetch, after_push, after_run, after_read, after_do, and_worse_end, and_worst, after_try, after_attempt, tries, after_hooked, play, play_in_order, play_all}

-- which ask of its own a step waits for: its first, the fetch of what it pushed, or the run of the config that it read
pub data LeafData : Type 0 where
  first : LeafData
  fetching : TextMap → LeafData
  running : ConfigData → LeafData

-- which ask it waits for, without where it lies in memory
abbrev pub leaf_data : Leaf → LeafData
leaf_data First = first
leaf_data (Fetching v) = fetching v
leaf_data (Running k) = running (config_data k)

-- what a task asks first: its program, or its file
abbrev pub source_ask : SourceData → List (Text × Text) → AskData
source_ask (config k) env = run_task k env
source_ask (file path) env = read_config path

-- what a step that asks waits for
abbrev pub leaf_ask : Chosen → Tree → LeafData → Option AskData
leaf_ask c (get d) first = Some (get_ask c d)
leaf_ask c (put p) first = Some (put_ask p)
leaf_ask c (put p) (fetching v) = Some (pushed_ask p v)
leaf_ask c (task t) first = Some (source_ask t.source t.params)
leaf_ask c (task t) (running k) = Some (run_task k t.params)
leaf_ask c t l = None

-- how a task goes on with the answer to its first ask
abbrev pub source_next : SourceData → List (Text × Text) → AnswerData → Going
source_next (config k) env x g = after_run k.outputs x g
source_next (file path) env x g = after_read env x g

-- how it goes on with an answer
abbrev pub leaf_next : Chosen → Tree → LeafData → AnswerData → Going
leaf_next c (get d) first x g = after_fetch (got c d) x g
leaf_next c (put p) first x g = after_push p x g
leaf_next c (put p) (fetching v) x g = after_fetch (register p.name) x g
leaf_next c (task t) first x g = source_next t.source t.params x g
leaf_next c (task t) (running k) x g = after_run k.outputs x g
leaf_next c t l x g = ended Errored g

-- a play that asks this, where it asks at all
abbrev pub asks_if : Option AskData → (AnswerData → Play) → Going
asks_if None then g = ended Errored g
asks_if (Some a) then g = asks a then

-- a step that waits
abbrev pub leaf_play : Chosen → Tree → LeafData → Going
leaf_play c t l g = asks_if (leaf_ask c t l) (λ x. leaf_next c t l x g) g

-- so many more tries
abbrev pub more_tries : ℕ → Going → Outcome → Going
more_tries zero now o g = ended o g
more_tries (suc n) now o g = after_attempt (tries n now) o g

-- the step at the end of a path
abbrev mutual
  pub leaf_at : Tree → List Frame → Option Tree
  leaf_at (get d) fs = Some (get d)
  leaf_at (put p) fs = Some (put p)
  leaf_at (task t) fs = Some (task t)
  leaf_at (in_order ts) (At k worst ∷ fs) = leaf_in ts k fs
  leaf_at (in_parallel ts fast) (At k worst ∷ fs) = leaf_in ts k fs
  leaf_at (tried t) (In ∷ fs) = leaf_at t fs
  leaf_at (attempts n t) (Left k ∷ fs) = leaf_at t fs
  leaf_at (hook w t h) (In ∷ fs) = leaf_at t fs
  leaf_at (hook w t h) (Hook end ∷ fs) = leaf_at h fs
  leaf_at t fs = None

  -- the same, from the step at a place of a list
  pub leaf_in : Trees → ℕ → List Frame → Option Tree
  leaf_in no_trees k fs = None
  leaf_in (tree t ts) zero fs = leaf_at t fs
  leaf_in (tree t ts) (suc k) fs = leaf_in ts k fs

-- how a step goes on when the one at the end of a path has ended so
abbrev mutual
  pub goes_on : Chosen → Tree → List Frame → Outcome → Going
  goes_on c (get d) fs o g = ended o g
  goes_on c (put p) fs o g = ended o g
  goes_on c (task t) fs o g = ended o g
  goes_on c (in_order ts) (At k worst ∷ fs) o g = goes_on_in_order c ts k fs o g
  goes_on c (in_parallel ts true) (At k worst ∷ fs) o g = goes_on_in_order c ts k fs o g
  goes_on c (in_parallel ts false) (At k worst ∷ fs) o g = goes_on_all c worst ts k fs o g
  goes_on c (tried t) (In ∷ fs) o g = and_then (goes_on c t fs o g) after_try
  goes_on c (attempts n t) (Left k ∷ fs) o g = and_then (goes_on c t fs o g) (more_tries k (play c t))
  goes_on c (hook w t h) (In ∷ fs) o g = and_then (goes_on c t fs o g) (after_hooked w (play c h))
  goes_on c (hook w t h) (Hook end ∷ fs) o g = and_then (goes_on c h fs o g) (and_worse_end end)
  goes_on c t fs o g = ended Errored g

  -- a list in order goes on in the step at a place, and then with those after it
  pub goes_on_in_order : Chosen → Trees → ℕ → List Frame → Outcome → Going
  goes_on_in_order c no_trees k fs o g = ended Errored g
  goes_on_in_order c (tree t ts) zero fs o g = and_then (goes_on c t fs o g) (after_do (play_in_order c ts))
  goes_on_in_order c (tree t ts) (suc k) fs o g = goes_on_in_order c ts k fs o g

  -- a list of which all steps run, up to one that is aborted, goes on so; the outcome is the worst, with what came
  -- before
  pub goes_on_all : Chosen → Outcome → Trees → ℕ → List Frame → Outcome → Going
  goes_on_all c worst no_trees k fs o g = ended Errored g
  goes_on_all c worst (tree t ts) zero fs o g = and_then (goes_on c t fs o g) (and_worst worst (play_all c ts))
  goes_on_all c worst (tree t ts) (suc k) fs o g = goes_on_all c worst ts k fs o g

-- the step that is there waits, and then this follows
abbrev pub waiting_in : Chosen → Option Tree → LeafData → (Outcome → Going) → Going
waiting_in c None l next g = ended Errored g
waiting_in c (Some t) l next g = and_then (leaf_play c t l g) next

-- the whole step, where the one at the end of a path waits
abbrev pub waiting : Chosen → Tree → List Frame → LeafData → Going
waiting c t fs l g = waiting_in c (leaf_at t fs) l (goes_on c t fs) g

-- a step is there, and it asks
abbrev pub Waits : Chosen → Tree → List Frame → LeafData → Type 0
Waits c t fs l = (s : Tree) × (leaf_at t fs ≡ Some s) × IsSome (leaf_ask c s l)

-- a play has come to its end, with the frames as they were, or waits at the frames added
abbrev pub Came : (Chosen → Play) → Tree → GainsData → List Frame → List Frame → Option Outcome → Type 0
Came p t g old new (Some o) = (new ≡ old) × ((c : Chosen) → p c ≡ ended o g)
Came p t g old new None =
    (added : List Frame) × (new ≡ old ++ added)
    × ((c : Chosen) → Waits c t added first × (p c ≡ waiting c t added first g))

-- the same, where what waits lies under a frame
abbrev pub CameUnder :
    Frame → (Chosen → Play) → Tree → GainsData → List Frame → List Frame → Option Outcome → Type 0
CameUnder f p t g old new (Some o) = (new ≡ old) × ((c : Chosen) → p c ≡ ended o g)
CameUnder f p t g old new None =
    (added : List Frame) × (new ≡ old ++ f ∷ added)
    × ((c : Chosen) → Waits c t added first × (p c ≡ waiting c t added first g))

-- a step was begun: it has ended, or waits at the frames added
abbrev pub Begun : Tree → GainsData → List Frame → List Frame → Option Outcome → Type 0
Begun t g old new r = Came (λ c. play c t g) t g old new r

-- the same, under a frame
abbrev pub BegunUnder : Frame → Tree → GainsData → List Frame → List Frame → Option Outcome → Type 0
BegunUnder f t g old new r = CameUnder f (λ c. play c t g) t g old new r

-- the step at the end of a path ended so, and the one at this level of the path went on: it has ended, or waits again
abbrev pub WentOn : Tree → GainsData → ℕ → Outcome → List Frame → List Frame → Option Outcome → Type 0
WentOn t g level end old new r = Came (λ c. goes_on c t (drop level old) end g) t g (take level old) new r

-- the same of the step below the frame at this level
abbrev pub WentOnUnder : Tree → GainsData → ℕ → Outcome → List Frame → List Frame → Option Outcome → Type 0
WentOnUnder t g level end old new r =
    (f : Frame) → slice_get old level ≡ Some f
    → CameUnder f (λ c. goes_on c t (drop (level + 1) old) end g) t g (take level old) new r

-- the steps of a list as trees
abbrev pub trees : List Step → Trees
trees steps = trees_of (map tree_of steps)

-- the outcome of a try whose step ended so
abbrev pub tried_outcome : Outcome → Outcome
tried_outcome Succeeded = Succeeded
tried_outcome Failed = Succeeded
tried_outcome Errored = Succeeded
tried_outcome Aborted = Aborted

-- a try that failed or errored is followed by another
abbrev pub is_tried_again : Outcome → Bool
is_tried_again Succeeded = false
is_tried_again Failed = true
is_tried_again Errored = true
is_tried_again Aborted = false

-- what a task whose inputs aren't all registered ends with; none for one that asks
abbrev pub ends_if : Bool → Option Outcome
ends_if true = None
ends_if false = Some Errored

-- the same, by where the task's config comes from
abbrev pub begins_by : SourceData → GainsData → Option Outcome
begins_by (config k) g = ends_if (has_inputs k.inputs g)
begins_by (file path) g = None

-- the same, of a task
abbrev pub begins_task : TaskData → GainsData → Option Outcome
begins_task t g = begins_by t.source g

-- a step that asked goes on so: it has ended, or it waits for an ask of its own
abbrev pub NextIs : Chosen → Play → Tree → GainsData → Next → Type 0
NextIs c p t g (Next.Ended o) = p ≡ ended o g
NextIs c p t g (Next.Waits l) = IsSome (leaf_ask c t (leaf_data l)) × (p ≡ leaf_play c t (leaf_data l) g)

-- an in_parallel stops after it
abbrev pub is_aborted : Outcome → Bool
is_aborted Succeeded = false
is_aborted Failed = false
is_aborted Errored = false
is_aborted Aborted = true

-- a do goes on after it
abbrev pub is_succeeded : Outcome → Bool
is_succeeded Succeeded = true
is_succeeded Failed = false
is_succeeded Errored = false
is_succeeded Aborted = false
