-- Where no fault is present in a plan, what it names has names.
use Rattle.std.proofs.Common.{◌≡◌, ℕ, suc, ◌+◌, List, [], ◌∷◌, ◌++◌, map, Bool, true, false, not, ◌&&◌, refl, Option, Some, None, is_some, codes, if◌then◌else◌}
use Rattle.std.specs.List.{AllPass}
use Rattle.serde_json.specs.Data.{Data, Items, no_items, item}
use Rattle.serde_json.specs.Find.{as_object}
use Rattle.ccr_pipeline.specs.declared.fault.Rule.TheVariants as rule
use Rattle.ccr_pipeline.specs.declared.schema.Kind.TheVariants as kind
use Rattle.ccr_pipeline.specs.declared.schema.Need.TheVariants.{Must, May}
use Rattle.ccr_pipeline.specs.declared.schema.Schema.TheVariants as schema
use Rattle.ccr_pipeline.specs.Faults.{Path, unless}
use Rattle.ccr_pipeline.specs.JobRules.{job_rest}
use Rattle.ccr_pipeline.specs.Keys.{at_key, or_else, items_in, path_below, path_at}
use Rattle.ccr_pipeline.specs.Kinds.{is_name}
use Rattle.ccr_pipeline.specs.Limits.{artifact_names, own_names, names}
use Rattle.ccr_pipeline.specs.Meaning.{text_or, source_from, config_from, inputs_in, outputs_in}
use Rattle.ccr_pipeline.specs.Objects.{absent, broken, new_names, row_faults, key_faults, object_faults, each_object, value_faults}
use Rattle.ccr_pipeline.specs.Places.{Opening, spot_of}
use Rattle.ccr_pipeline.specs.Plans.{plan_from}
use Rattle.ccr_pipeline.specs.Schema.{opening}
use Rattle.ccr_pipeline.specs.StepRules.{shape_faults, kind_faults, own_keys, opening_faults}
use Rattle.ccr_pipeline.specs.Tree.{config, file}
use Rattle.ccr_pipeline.proofs.Gathered.{none, more, one, and, InStep, plan_passes}
use Rattle.ccr_pipeline.proofs.Kept.{Leaves}
use Rattle.ccr_pipeline.proofs.Rows.{nil_left, nil_right, IsNamed, new_name, must_name, input_named, output_named}
use Rattle.ccr_pipeline.proofs.Unfaulted.{IsUnfaulted, unfaulted_parts, unfaulted_plan, unfaulted_hooks}

-- what is named has names
abbrev Named : List (List ℕ) → Type 0
Named ss = AllPass is_name ss

-- the inputs and the outputs of a task
inputs_named : (before : List (List ℕ)) (p : Path) (i : ℕ) (ds : Items) → each_object (value_faults 1) before schema.Input p i ds ≡ [] → Named (map (λ x. x.0) (inputs_in ds))
inputs_named before p i no_items e = none is_name
inputs_named before p i (item d ds) e =
    more is_name _ _ (input_named before (path_at p i) d (nil_left (object_faults (value_faults 1) before schema.Input (path_at p i) d) _ e)).name
    (inputs_named (before ++ new_names (opening schema.Input) d) p (i + 1) ds (nil_right (object_faults (value_faults 1) before schema.Input (path_at p i) d) _ e))

outputs_named : (before : List (List ℕ)) (p : Path) (i : ℕ) (ds : Items) → each_object (value_faults 1) before schema.Output p i ds ≡ [] → Named (outputs_in ds)
outputs_named before p i no_items e = none is_name
outputs_named before p i (item d ds) e =
    more is_name _ _ (output_named before (path_at p i) d (nil_left (object_faults (value_faults 1) before schema.Output (path_at p i) d) _ e)).name
    (outputs_named (before ++ new_names (opening schema.Output) d) p (i + 1) ds (nil_right (object_faults (value_faults 1) before schema.Output (path_at p i) d) _ e))

at_inputs : (p : Path) (whole : Data) (o : Option Data) → or_else o [] (λ found. value_faults 2 (kind.Objects schema.Input) p whole found ++ []) ≡ [] → Named (map (λ x. x.0) (inputs_in (or_else o no_items items_in)))
unfolding value_faults
at_inputs p whole None e = none is_name
at_inputs p whole (Some found) e =
    inputs_named [] p 0 (items_in found) (nil_right (broken (kind.Objects schema.Input) p found) _ (nil_left (value_faults 2 (kind.Objects schema.Input) p whole found) [] e))

at_outputs : (p : Path) (whole : Data) (o : Option Data) → or_else o [] (λ found. value_faults 2 (kind.Objects schema.Output) p whole found ++ []) ≡ [] → Named (outputs_in (or_else o no_items items_in))
unfolding value_faults
at_outputs p whole None e = none is_name
at_outputs p whole (Some found) e =
    outputs_named [] p 0 (items_in found) (nil_right (broken (kind.Objects schema.Output) p found) _ (nil_left (value_faults 2 (kind.Objects schema.Output) p whole found) [] e))

config_named : (p : Path) (d : Data) → object_faults (value_faults 2) [] schema.Config p d ≡ [] → Named (artifact_names (config (config_from d)))
unfolding object_faults
config_named p d e =
    let keys = nil_right (unless (is_some (as_object d)) rule.Kind p) _ e in
    let rest = nil_right (row_faults (value_faults 2) [] (Must, kind.Object schema.Run, codes "run") p d) _ keys in
    let inputs = nil_left _ _ rest in
    let outputs = nil_left _ _ (nil_right (row_faults (value_faults 2) [] (May, kind.Objects schema.Input, codes "inputs") p d) _ rest) in
    and is_name _ _ (at_inputs (path_below p (codes "inputs")) d (at_key (codes "inputs") d) inputs)
    (at_outputs (path_below p (codes "outputs")) d (at_key (codes "outputs") d) outputs)

at_config : (p : Path) (whole : Data) (path : List ℕ) (o : Option Data) → or_else o (absent Must p) (λ found. value_faults 3 (kind.Object schema.Config) p whole found ++ []) ≡ [] → Named (artifact_names (or_else o (file path) (λ found. config (config_from found))))
unfolding value_faults
at_config p whole path None e = none is_name
at_config p whole path (Some found) e =
    config_named p found (nil_right (broken (kind.Object schema.Config) p found) _ (nil_left (value_faults 3 (kind.Object schema.Config) p whole found) [] e))

task_named : (before : List (List ℕ)) (p : Path) (d : Data) → key_faults (value_faults 3) before (opening schema.Task) p d ≡ [] → Named (artifact_names (source_from d))
task_named before p d e =
    let rest = nil_right (row_faults (value_faults 3) before (Must, kind.Text, codes "task") p d) _ e in
    at_config (path_below p (codes "config")) d _ (at_key (codes "config") d) (nil_left _ _ rest)

no_config : (path : List ℕ) (o : Option Data) → is_some o ≡ false → Named (artifact_names (or_else o (file path) (λ found. config (config_from found))))
no_config path None e = none is_name
no_config path (Some found) e = absurd (cc (e))

pub opened_own : (before : List (List ℕ)) (p : Path) (n : ℕ) (d : Data) → opening_faults before p n d ≡ [] → own_keys before p d ≡ []
unfolding opening_faults
opened_own before p n d e = nil_right (kind_faults p d) _ (nil_right (shape_faults p n d) _ e)

pub get_named : (before : List (List ℕ)) (p : Path) (d : Data) → own_keys before p d ≡ [] → is_some (at_key (codes "get") d) ≡ true → IsNamed before (codes "get") d
get_named before p d e a =
    let own : key_faults (value_faults 3) before (opening schema.Get) p d ≡ [] = rw a at e in
    new_name 2 before p (codes "get") d (nil_left _ _ own)

put_named : (before : List (List ℕ)) (p : Path) (d : Data) → own_keys before p d ≡ [] → is_some (at_key (codes "get") d) ≡ false → is_some (at_key (codes "put") d) ≡ true → is_name (text_or [] (codes "put") d) ≡ true
put_named before p d e a b =
    let own : key_faults (value_faults 3) before (opening schema.Put) p d ≡ [] = rw (a, b) at e in
    must_name 2 before p (codes "put") d (nil_left _ _ own)

-- a task has its config, or a file that says it
of_task : (before : List (List ℕ)) (p : Path) (d : Data) (b c : Bool) → is_some (at_key (codes "config") d) ≡ b → is_some (at_key (codes "file") d) ≡ c → key_faults (value_faults 3) before (opening (if not b && c then schema.FileTask else schema.Task)) p d ≡ [] → Named (artifact_names (source_from d))
of_task before p d true c is there e = task_named before p d e
of_task before p d false true is there e = no_config _ (at_key (codes "config") d) is
of_task before p d false false is there e = task_named before p d e

done_named : (before : List (List ℕ)) (p : Path) (d : Data) → own_keys before p d ≡ [] → is_some (at_key (codes "get") d) ≡ false → is_some (at_key (codes "put") d) ≡ false → is_some (at_key (codes "task") d) ≡ true → Named (artifact_names (source_from d))
done_named before p d e a b c =
    of_task before p d (is_some (at_key (codes "config") d)) (is_some (at_key (codes "file") d)) refl refl (rw (a, b, c) at e)

leaves : (n t : ℕ) (d : Data) (p : Path) → IsUnfaulted (spot_of Opening p (suc n) t d ∷ []) → Leaves (InStep is_name own_names) d
leaves n t d p u =
    let e : own_keys u.0 p d ≡ [] = opened_own u.0 p (suc n) d (nil_left (opening_faults u.0 p (suc n) d) [] u.1) in
    record {
      getting = λ a. one is_name _ (get_named u.0 p d e a).name;
      putting = λ a b. one is_name _ (put_named u.0 p d e a b);
      doing = λ a b c. done_named u.0 p d e a b c;
    }

pub well_named : (p : Path) (d : Data) → job_rest p d ≡ [] → AllPass is_name (names (plan_from d))
well_named p d e = plan_passes is_name own_names IsUnfaulted unfaulted_parts leaves p d (unfaulted_plan p d e) (unfaulted_hooks p d e)
