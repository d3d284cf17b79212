-- What the builds of a core want, and which answers to it are refused.
use Rattle.std.proofs.Common.{◌≡◌, ℕ, suc, ◌+◌, ◌==◌, ◌&&◌, List, [], ◌∷◌, Bool, true, false, cond, slice_get, is_some, IsSome, Option, Some, None, option_and_then, option_map, option_copied, Bor, unwrap_or, bytes_eq, refl, sym, ◌∙◌, ap, subst, arith}
use Rattle.std.proofs.lemmas.Bool.{false≢true}
use Rattle.ccr_history.specs.Text.{Text}
use Rattle.ccr_pipeline.specs.Pipelines.{PipelineData}
use Rattle.ccr_pipeline.specs.Tree.{Tree}
use Rattle.ccr_steps.specs.Moments.{step_at}
use Rattle.ccr_steps.specs.Progress.{IsAllowed}
use Rattle.ccr_steps.specs.Runs.{RunData, StandsFor}
use Rattle.ccr_steps.proofs.Standing.{stands_lost}
use Rattle.ccr_steps.specs.Asks.{AskData, fetch, push, read_config, run_task}
use Rattle.ccr_task.proofs.Known.{is_found}
use Rattle.ccr_task.specs.Launching.{can_launch, starts_program}
use Rattle.ccr_core.specs.Holding.{CoreData, AreRuns, IsCore, NamesResource, Stands, name_index, step_in}
use Rattle.ccr_core.specs.State.{RunningData, State, no_pipeline, resources_of, is_run_of, running_at}
use Rattle.ccr_core.proofs.Reaching.{firm, idle}
use Rattle.ccr_serve.specs.Serving.{WaitsAt}

-- ---- a build that runs wants something, of a pipeline
-- the job's build of this number runs, in each state that the core stands for
abbrev pub Runs : CoreData → Text → ℕ → Type 0
Runs c job number = (s : State) → Stands c s → IsSome (running_at job number s.running)

none_runs : (job : Text) (number : ℕ) (bs : List RunningData) → bs ≡ [] → IsSome (running_at job number bs) → ⊥
none_runs job number [] e some = absurd (cc some)
none_runs job number (b ∷ bs) e some = absurd (cc e)

pub has_pipeline : (c : CoreData) (job : Text) (number : ℕ) → IsCore c → Runs c job number → IsSome c.pipeline
has_pipeline c job number core runs = by c.pipeline refl where
  by : (o : Option PipelineData) → c.pipeline ≡ o → IsSome c.pipeline
  by (Some p) is = ap is_some is
  by None is =
      let t = firm c core in
      absurd (none_runs job number t.state.running (idle c core is t.state t.stands) (runs t.state t.stands))

-- what is mapped to something is something
pub some_mapped : {X Y : Type 0} (f : X → Y) (o : Option (Bor X)) (p : Option Y) → option_map f (option_copied o) ≡ p
    → IsSome p → IsSome o
some_mapped f None p e some = let none : false ≡ true = ap is_some e ∙ some in absurd (false≢true none)
some_mapped f (Some x) p e some = refl

-- ---- what it names is there
names_there : (s : State) (a : AskData) → NamesResource s a → can_launch (resources_of s) a ≡ starts_program a
names_there s (fetch artifact resource version params) names = is_found resource (resources_of s) names
names_there s (push artifact resource params) names = is_found resource (resources_of s) names
names_there s (read_config file) names = refl
names_there s (run_task config env) names = refl

pub launches : (c : CoreData) (a : AskData) (p : PipelineData) → IsCore c → c.pipeline ≡ Some p
    → ((s : State) → Stands c s → NamesResource s a) → can_launch p.resources a ≡ starts_program a
launches c a p core is names =
    let t = firm c core in
    let same : resources_of t.state ≡ p.resources =
    ap (λ o. (unwrap_or o no_pipeline).resources) (sym t.stands.1 ∙ is) in
    subst (λ rs. can_launch rs a ≡ starts_program a) same (names_there t.state a (names t.state t.stands))

-- ---- the step at which it waits
one_value : {X : Type 0} (o : Option X) (x y : X) → o ≡ Some x → o ≡ Some y → x ≡ y
one_value o x y p q = let same : Some x ≡ Some y = sym p ∙ q in cc same

-- a machine whose build isn't at its end waits at a step
waits_there : (r : RunData) (b : RunningData) → StandsFor r b.plan b.inputs b.exchanges
    → (IsAllowed b.inputs b.plan b.exchanges → ⊥) → (step : Tree) × (step_at r.at r.plan ≡ Some step)
waits_there r b stands waits = by (step_at r.at r.plan) refl where
  by : (o : Option Tree) → step_at r.at r.plan ≡ o → (step : Tree) × (step_at r.at r.plan ≡ Some step)
  by (Some step) e = (step, e)
  by None e = absurd (waits (stands_lost r b.plan b.inputs b.exchanges e stands))

-- the machine at this place of a list waits at a step, as the build does
abbrev At : List RunData → ℕ → RunningData → Type 0
At rs k b = (step : Tree) × (option_and_then (λ r. step_at r.at r.plan) (slice_get rs k) ≡ Some step) × WaitsAt b step

at_first : (t : Bool) (r : RunData) (rs : List RunData) (x b : RunningData) (k : ℕ) (rest : Option RunningData)
    → StandsFor r x.plan x.inputs x.exchanges → (IsAllowed x.inputs x.plan x.exchanges → ⊥)
    → cond t (Some x) rest ≡ Some b → (rest ≡ Some b → At rs k b) → At (r ∷ rs) (cond t 0 (1 + k)) b
at_first true r rs x b k rest stands waits e more =
    let same : x ≡ b = one_value (Some x) x b refl e in
    let (step, is) = waits_there r x stands waits in
    (step, is, subst (λ y. WaitsAt y step) same (r, stands, is))
at_first false r rs x b k rest stands waits e more =
    let next : suc k ≡ 1 + k = omega arith in
    subst (λ n. At (r ∷ rs) n b) next (more e)

at_name : (job : Text) (number : ℕ) (ns : List (Text × ℕ)) (rs : List RunData) (bs : List RunningData) (b : RunningData)
    → AreRuns ns rs bs → running_at job number bs ≡ Some b → At rs (name_index job number ns) b
at_name job number [] [] [] b h e = absurd (cc e)
at_name job number [] [] (x ∷ xs) b h e = absurd h
at_name job number (n ∷ ns) [] bs b h e = absurd h
at_name job number [] (r ∷ rs) bs b h e = absurd h
at_name job number (n ∷ ns) (r ∷ rs) [] b h e = absurd h
at_name job number (n ∷ ns) (r ∷ rs) (x ∷ xs) b (same, stands, waits, rest) e =
    subst (λ t. At (r ∷ rs) (cond t 0 (1 + name_index job number ns)) b)
    (ap (λ m. bytes_eq job m.0 && number == m.1) (sym same))
    (at_first (is_run_of job number x) r rs x b (name_index job number ns) (running_at job number xs) stands waits e
    (λ more. at_name job number ns rs xs b rest more))

-- the step that the core names is the one at which the build waits
pub waits_at : (c : CoreData) (s : State) (job : Text) (number : ℕ) (b : RunningData) (step : Tree) → Stands c s
    → running_at job number s.running ≡ Some b → step_in c job number ≡ Some step → WaitsAt b step
waits_at c s job number b step is there named =
    let at = at_name job number c.names c.runs s.running b is.3 there in
    subst (λ t. WaitsAt b t) (one_value (step_in c job number) at.0 step at.1 named) at.2

-- a build that runs waits at a step
pub step_there : (c : CoreData) (job : Text) (number : ℕ) → IsCore c → Runs c job number
    → IsSome (step_in c job number)
step_there c job number core runs =
    by (running_at job number (firm c core).state.running) refl (runs (firm c core).state (firm c core).stands) where
      by : (o : Option RunningData) → running_at job number (firm c core).state.running ≡ o → IsSome o
          → IsSome (step_in c job number)
      by (Some b) there some =
          let t = firm c core in
          ap is_some (at_name job number c.names c.runs t.state.running b t.stands.3 there).1
      by None there some = absurd (cc some)

-- what is mapped to something is something
pub some_of : {X Y : Type 0} (f : X → Y) (o : Option X) (p : Option Y) → option_map f o ≡ p → IsSome p → IsSome o
some_of f None p e some = let none : false ≡ true = ap is_some e ∙ some in absurd (false≢true none)
some_of f (Some x) p e some = refl
