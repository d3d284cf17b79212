-- What stands at the keys of a step without its unused keys.
use Rattle.std.proofs.Common.{◌≡◌, Bool, true, false, not, ◌&&◌, Option, Some, None, refl, ap, ◌∙◌, option_map, is_some, codes, if◌then◌else◌, List, ℕ}
use Rattle.serde_json.specs.Data.{Data, object, no_items}
use Rattle.ccr_pipeline.specs.declared.schema.Kind.{Kind}
use Rattle.ccr_pipeline.specs.declared.schema.Kind.TheVariants as kind
use Rattle.ccr_pipeline.specs.declared.schema.Schema.{Schema}
use Rattle.ccr_pipeline.specs.declared.schema.Schema.TheVariants as schema
use Rattle.ccr_pipeline.specs.declared.step.When.{When}
use Rattle.ccr_pipeline.specs.declared.step.When.TheVariants.{OnSuccess, OnFailure, OnError, OnAbort, Ensure}
use Rattle.ccr_pipeline.specs.Tree.{hook_key}
use Rattle.ccr_pipeline.specs.Keys.{at_key, or_else, items_in, list_at}
use Rattle.ccr_pipeline.specs.Schema.{schema_of}
use Rattle.ccr_pipeline.specs.Used.{kind_at, used, used_items}
use Rattle.ccr_pipeline.proofs.UsedKeys.{at_unused, at_used, is_plain, at_same, step_object, steps_used, list_used}

-- of each schema that a step may have
pub record OfSteps (P : Schema → Type 0) : Type 0 where
  pub get : P schema.Get
  pub put : P schema.Put
  pub holder : P schema.Holder
  pub file : P schema.FileTask
  pub task : P schema.Task

by_tests : (P : Schema → Type 0) → OfSteps P → (get put task config file : Bool) → P (if get then schema.Get else (if put then schema.Put else (if not task then schema.Holder else (if not config && file then schema.FileTask else schema.Task))))
by_tests P h true put task config file = h.get
by_tests P h false true task config file = h.put
by_tests P h false false false config file = h.holder
by_tests P h false false true true file = h.task
by_tests P h false false true false true = h.file
by_tests P h false false true false false = h.task

pub of_step : (P : Schema → Type 0) → OfSteps P → (d : Data) → P (schema_of d)
of_step P h d = by_tests P h (is_some (at_key (codes "get") d)) (is_some (at_key (codes "put") d)) (is_some (at_key (codes "task") d)) (is_some (at_key (codes "config") d)) (is_some (at_key (codes "file") d))

-- the config of a task stays where it is, and so does a file where there is no config
record SameSource (e d : Data) (c f : Bool) : Type 0 where
  config : is_some (at_key (codes "config") e) ≡ c
  file : c ≡ false → is_some (at_key (codes "file") e) ≡ f

same_task : (config file config' file' : Bool) → config' ≡ config → (config ≡ false → file' ≡ file) → (if not config' && file' then schema.FileTask else schema.Task) ≡ (if not config && file then schema.FileTask else schema.Task)
same_task true file config' file' c f = rw c refl
same_task false file config' file' c f = rw (c, f refl) refl

-- a task of a file keeps no config, and one of a config no file
pub no_config : (timed : Bool) (d : Data) → at_key (codes "config") (used timed (kind.Object schema.FileTask) d) ≡ None
unfolding kind_at
no_config true d = at_unused true schema.FileTask (codes "config") refl d
no_config false d = at_unused false schema.FileTask (codes "config") refl d

pub no_file : (timed : Bool) (d : Data) → at_key (codes "file") (used timed (kind.Object schema.Task) d) ≡ None
unfolding kind_at
no_file true d = at_unused true schema.Task (codes "file") refl d
no_file false d = at_unused false schema.Task (codes "file") refl d

module _ (timed : Bool) where
  pub some_used : (k : Kind) (o : Option Data) → is_some (option_map (used timed k) o) ≡ is_some o
  some_used k None = refl
  some_used k (Some d) = refl

  step_same : (k : List ℕ) → OfSteps (λ s. is_plain (kind_at timed s k) ≡ true) → (d : Data) → at_key k (used timed kind.Step d) ≡ at_key k d
  step_same k h d =
      ap (at_key k) (step_object timed d) ∙ at_same timed (schema_of d) k d (of_step (λ s. is_plain (kind_at timed s k) ≡ true) h d)

  step_used : (k : List ℕ) (found : Kind) → OfSteps (λ s. kind_at timed s k ≡ Some found) → (d : Data) → at_key k (used timed kind.Step d) ≡ option_map (used timed found) (at_key k d)
  step_used k found h d =
      ap (at_key k) (step_object timed d) ∙ at_used timed (schema_of d) k found (of_step (λ s. kind_at timed s k ≡ Some found) h d) d

  pub get_same : (d : Data) → at_key (codes "get") (used timed kind.Step d) ≡ at_key (codes "get") d
  unfolding kind_at
  get_same = step_same (codes "get") (record { get = refl; put = refl; holder = refl; file = refl; task = refl })

  pub put_same : (d : Data) → at_key (codes "put") (used timed kind.Step d) ≡ at_key (codes "put") d
  unfolding kind_at
  put_same = step_same (codes "put") (record { get = refl; put = refl; holder = refl; file = refl; task = refl })

  pub task_same : (d : Data) → at_key (codes "task") (used timed kind.Step d) ≡ at_key (codes "task") d
  unfolding kind_at
  task_same = step_same (codes "task") (record { get = refl; put = refl; holder = refl; file = refl; task = refl })

  pub attempts_same : (d : Data) → at_key (codes "attempts") (used timed kind.Step d) ≡ at_key (codes "attempts") d
  unfolding kind_at
  attempts_same = step_same (codes "attempts") (record { get = refl; put = refl; holder = refl; file = refl; task = refl })

  pub do_used : (d : Data) → at_key (codes "do") (used timed kind.Step d) ≡ option_map (used timed kind.Steps) (at_key (codes "do") d)
  unfolding kind_at
  do_used = step_used (codes "do") kind.Steps (record { get = refl; put = refl; holder = refl; file = refl; task = refl })

  pub in_parallel_used : (d : Data) → at_key (codes "in_parallel") (used timed kind.Step d) ≡ option_map (used timed kind.Parallel) (at_key (codes "in_parallel") d)
  unfolding kind_at
  in_parallel_used = step_used (codes "in_parallel") kind.Parallel (record { get = refl; put = refl; holder = refl; file = refl; task = refl })

  pub try_used : (d : Data) → at_key (codes "try") (used timed kind.Step d) ≡ option_map (used timed kind.Step) (at_key (codes "try") d)
  unfolding kind_at
  try_used = step_used (codes "try") kind.Step (record { get = refl; put = refl; holder = refl; file = refl; task = refl })

  -- the steps in the object of an in_parallel
  pub parallel_steps : (d : Data) → list_at (codes "steps") (used timed kind.Parallel d) ≡ used_items timed kind.Step (list_at (codes "steps") d)
  unfolding kind_at
  parallel_steps (object ms) =
      ap (λ o. or_else o no_items items_in) (at_used timed schema.Parallel (codes "steps") kind.Steps refl (object ms))
      ∙ list_used timed kind.Steps kind.Step (steps_used timed) (at_key (codes "steps") (object ms))
  parallel_steps _ = refl

  -- each hook of one is a step that stands there in the other
  abbrev pub Hooked : Data → Data → Type 0
  Hooked e d = (w : When) → at_key (hook_key w) e ≡ option_map (used timed kind.Step) (at_key (hook_key w) d)

  step_hook : (w : When) → OfSteps (λ s. kind_at timed s (hook_key w) ≡ Some kind.Step)
  unfolding kind_at
  step_hook OnSuccess = record { get = refl; put = refl; holder = refl; file = refl; task = refl }
  step_hook OnFailure = record { get = refl; put = refl; holder = refl; file = refl; task = refl }
  step_hook OnError = record { get = refl; put = refl; holder = refl; file = refl; task = refl }
  step_hook OnAbort = record { get = refl; put = refl; holder = refl; file = refl; task = refl }
  step_hook Ensure = record { get = refl; put = refl; holder = refl; file = refl; task = refl }

  pub step_hooked : (d : Data) → Hooked (used timed kind.Step d) d
  step_hooked d = λ w. step_used (hook_key w) kind.Step (step_hook w) d

  job_hook : (w : When) → kind_at timed schema.Job (hook_key w) ≡ Some kind.Step
  unfolding kind_at
  job_hook OnSuccess = refl
  job_hook OnFailure = refl
  job_hook OnError = refl
  job_hook OnAbort = refl
  job_hook Ensure = refl

  pub job_hooked : (d : Data) → Hooked (used timed (kind.Object schema.Job) d) d
  job_hooked d = λ w. at_used timed schema.Job (hook_key w) kind.Step (job_hook w) d

  source_same : (d : Data) (config file : Bool) → is_some (at_key (codes "config") d) ≡ config → is_some (at_key (codes "file") d) ≡ file → SameSource (used timed (kind.Object (if not config && file then schema.FileTask else schema.Task)) d) d config file
  unfolding kind_at
  source_same d true file c f = record {
    config = ap is_some (at_used timed schema.Task (codes "config") (kind.Object schema.Config) refl d) ∙ some_used (kind.Object schema.Config) (at_key (codes "config") d) ∙ c;
    file = λ e. absurd (cc (e));
  }
  source_same d false true c f = record {
    config = ap is_some (no_config timed d);
    file = λ e. ap is_some (at_same timed schema.FileTask (codes "file") d refl) ∙ f;
  }
  source_same d false false c f = record {
    config = ap is_some (at_used timed schema.Task (codes "config") (kind.Object schema.Config) refl d) ∙ some_used (kind.Object schema.Config) (at_key (codes "config") d) ∙ c;
    file = λ e. ap is_some (no_file timed d);
  }

  schema_by : (d : Data) (get put task : Bool) → is_some (at_key (codes "get") d) ≡ get → is_some (at_key (codes "put") d) ≡ put → is_some (at_key (codes "task") d) ≡ task → schema_of (used timed kind.Step d) ≡ schema_of d
  schema_by d true put task g p t = rw (get_same d, g) refl
  schema_by d false true task g p t = rw (get_same d, put_same d, g, p) refl
  schema_by d false false false g p t = rw (get_same d, put_same d, task_same d, g, p, t) refl
  schema_by d false false true g p t =
      let is : schema_of d ≡ (if not (is_some (at_key (codes "config") d)) && is_some (at_key (codes "file") d) then schema.FileTask else schema.Task) = rw (g, p, t) refl in
      let own : used timed kind.Step d ≡ used timed (kind.Object (if not (is_some (at_key (codes "config") d)) && is_some (at_key (codes "file") d) then schema.FileTask else schema.Task)) d = step_object timed d ∙ ap (λ s. used timed (kind.Object s) d) is in
      let s = source_same d _ _ refl refl in
      rw (get_same d, put_same d, task_same d, g, p, t) (same_task _ _ _ _ (ap (λ e. is_some (at_key (codes "config") e)) own ∙ s.config) (λ no. ap (λ e. is_some (at_key (codes "file") e)) own ∙ s.file no))

  pub schema_same : (d : Data) → schema_of (used timed kind.Step d) ≡ schema_of d
  schema_same d = schema_by d _ _ _ refl refl refl
