-- A resource, a get, a put and a task, printed as JSON values, are read as the same.
use Rattle.std.proofs.Common.{◌≡◌, ℕ, suc, ◌+◌, List, [], ◌∷◌, ◌++◌, Bool, true, false, not, ◌&&◌, refl, sym, ap, Option, Some, None, option_map, option_and_then, unwrap_or, is_some, codes, if◌then◌else◌}
use Rattle.std.proofs.lemmas.List.Elements.{All-head, All-tail}
use Rattle.std.specs.List.{AllPass}
use Rattle.std.specs.Option.{IfSome}
use Rattle.serde_json.specs.Data.{Data, null, boolean, number, string, array, object, Items, no_items, item, Members}
use Rattle.serde_json.specs.Find.{as_str, as_object}
use Rattle.serde_json.specs.Written.{members_have_float}
use Rattle.ccr_history.specs.Objects.{object_of}
use Rattle.ccr_history.specs.TextMap.{TextMap, texts_of, text_map_of, members_of}
use Rattle.ccr_pipeline.specs.declared.fault.Rule.TheVariants as rule
use Rattle.ccr_pipeline.specs.declared.schema.Kind.{Kind}
use Rattle.ccr_pipeline.specs.declared.schema.Kind.TheVariants as kind
use Rattle.ccr_pipeline.specs.declared.schema.Need.TheVariants.{New, Must, May}
use Rattle.ccr_pipeline.specs.declared.schema.Schema.TheVariants as schema
use Rattle.ccr_pipeline.specs.Faults.{Path, unless}
use Rattle.ccr_pipeline.specs.JobData.{ResourceData}
use Rattle.ccr_pipeline.specs.JobRules.{resource_faults}
use Rattle.ccr_pipeline.specs.Keys.{unless_null, at_key, or_else, items_in, path_below, path_at}
use Rattle.ccr_pipeline.specs.Kinds.{is_name, broken_texts, broken_fields}
use Rattle.ccr_pipeline.specs.Meaning.{text_or, variables_in, run_of, inputs_in, outputs_in, config_from, source_from, get_from, put_from, task_from, wanted_in}
use Rattle.ccr_pipeline.specs.Names.{has_name, text_at, names_at, texts_in}
use Rattle.ccr_pipeline.specs.Objects.{absent, broken, once, new_names, row_faults, key_faults, object_faults, each_object, value_faults}
use Rattle.ccr_pipeline.specs.Pipelines.{resource_from}
use Rattle.ccr_pipeline.specs.Printed.{Around, made, or_null, strings, text_list, text_object, wanted_value, get_value, put_value, run_value, input_value, input_values, output_values, config_value, task_value, resource_value}
use Rattle.ccr_pipeline.specs.Schema.{opening}
use Rattle.ccr_pipeline.specs.StepRules.{own_keys}
use Rattle.ccr_pipeline.specs.Tree.{Text, WantedData, latest, every, pinned, GetData, PutData, RunData, ConfigData, SourceData, config, file}
use Rattle.ccr_pipeline.specs.Unknown.{unknown_resource, unknown_texts, unknown_passed, unknown_names}
use Rattle.ccr_pipeline.proofs.Joined.{both_nil}
use Rattle.ccr_pipeline.proofs.Linked.{get_resource, get_passed, put_resource}
use Rattle.ccr_pipeline.proofs.Named.{get_named as named_get}
use Rattle.ccr_pipeline.proofs.Rows.{nil_left, nil_right, IsNamed, must_name, input_named, output_named, resource_named as named_resource}
use Rattle.ccr_pipeline.proofs.TableNames.{input_names_are, output_names_are}

-- the parts of what is printed are read as the same

pub texts_again : (ss : List Text) → texts_in (strings ss) ≡ ss
texts_again [] = refl
texts_again (s ∷ ss) = ap (λ ts. s ∷ ts) (texts_again ss)

variables_again : (fields : List (Text × Text)) → variables_in (members_of fields) ≡ fields
variables_again [] = refl
variables_again (f ∷ fs) = ap (λ gs. f ∷ gs) (variables_again fs)

fields_again : (fields : TextMap) → texts_of (members_of fields) ≡ Some fields
fields_again [] = refl
fields_again (f ∷ fs) = rw (fields_again fs) refl

inputs_again : (is : List (Text × Bool)) → inputs_in (input_values is) ≡ is
inputs_again [] = refl
inputs_again (i ∷ is) = ap (λ js. i ∷ js) (inputs_again is)

outputs_again : (ss : List Text) → outputs_in (output_values ss) ≡ ss
outputs_again [] = refl
outputs_again (s ∷ ss) = ap (λ ts. s ∷ ts) (outputs_again ss)

pub optional_again : (o : Option Text) → option_and_then as_str (unless_null (or_null (option_map string o))) ≡ o
optional_again None = refl
optional_again (Some s) = refl

pin_again : (o : Option TextMap) → option_and_then text_map_of (unless_null (or_null (option_map text_object o))) ≡ o
pin_again None = refl
pin_again (Some fields) = fields_again fields

version_again : (w : WantedData) → or_else (unless_null (wanted_value w)) latest wanted_in ≡ w
version_again latest = refl
version_again every = refl
version_again (pinned fields) = rw (fields_again fields) refl

-- an object without floats, or none, is one
abbrev IsObject : Option Data → Type 0
IsObject o = option_and_then object_of (unless_null (or_null o)) ≡ o

members_again : (ms : Members) (b : Bool) → members_have_float ms ≡ b → IsObject (object_of (object ms))
members_again ms true e = rw e refl
members_again ms false e = rw e (rw e refl)

object_again : (o : Option Data) → IsObject (option_and_then object_of o)
object_again None = refl
object_again (Some null) = refl
object_again (Some (boolean b)) = refl
object_again (Some (number n)) = refl
object_again (Some (string s)) = refl
object_again (Some (array ds)) = refl
object_again (Some (object ms)) = members_again ms (members_have_float ms) refl

-- they are read as the same

get_shown : (a : Around) (g : GetData) → IsObject g.params → get_from (get_value a g) ≡ g
get_shown a g params = rw (texts_again g.passed, params, version_again g.wanted, optional_again g.timeout) refl

put_shown : (a : Around) (p : PutData) → IsObject p.params → IsObject p.get_params → put_from (put_value a p) ≡ p
put_shown a p params get_params = rw (params, get_params, optional_again p.timeout) refl

run_shown : (r : RunData) → run_of (run_value r) ≡ r
run_shown r = rw (texts_again r.args, optional_again r.dir) refl

config_shown : (c : ConfigData) → config_from (config_value c) ≡ c
config_shown c = rw (run_shown c.run, inputs_again c.inputs, outputs_again c.outputs, variables_again c.params) refl

task_shown : (a : Around) (name : Text) (params : List (Text × Text)) (limit : Option Text) (s : SourceData) → task_from (task_value a (record { name = name; source = s; params = params; timeout = limit })) ≡ record { name = name; source = s; params = params; timeout = limit }
task_shown a name params limit (config c) = rw (config_shown c, variables_again params, optional_again limit) refl
task_shown a name params limit (file path) = rw (variables_again params, optional_again limit) refl

pub get_again : (a : Around) (d : Data) → get_from (get_value a (get_from d)) ≡ get_from d
get_again a d = get_shown a (get_from d) (object_again (at_key (codes "params") d))

pub put_again : (a : Around) (d : Data) → put_from (put_value a (put_from d)) ≡ put_from d
put_again a d = put_shown a (put_from d) (object_again (at_key (codes "params") d)) (object_again (at_key (codes "get_params") d))

pub task_again : (a : Around) (d : Data) → task_from (task_value a (task_from d)) ≡ task_from d
task_again a d = task_shown a _ _ _ (source_from d)

pub resource_again : (d : Data) → resource_from (resource_value (resource_from d)) ≡ resource_from d
resource_again d =
    rw (object_again (at_key (codes "source") d), pin_again (option_and_then text_map_of (at_key (codes "version") d))) refl

-- the rows of what is printed say of nothing that it is broken

texts_quiet : (p : Path) (i : ℕ) (ss : List Text) → broken_texts p i (strings ss) ≡ []
texts_quiet p i [] = refl
texts_quiet p i (s ∷ ss) = texts_quiet p (i + 1) ss

fields_quiet : (p : Path) (fields : TextMap) → broken_fields p (members_of fields) ≡ []
fields_quiet p [] = refl
fields_quiet p (f ∷ fs) = fields_quiet p fs

no_float : (fields : TextMap) → members_have_float (members_of fields) ≡ false
no_float [] = refl
no_float (f ∷ fs) = no_float fs

module _ (n : ℕ) (p : Path) (whole : Data) where
  name_row : (s : Text) → is_name s ≡ true → value_faults (suc n) kind.Name p whole (string s) ++ [] ≡ []
  unfolding value_faults broken
  name_row s e = rw e refl

  pub new_row : (names : List Text) (s : Text) → is_name s ≡ true → has_name names s ≡ false → value_faults (suc n) kind.Name p whole (string s) ++ once New names p (string s) ≡ []
  unfolding value_faults broken
  new_row names s e new = rw (e, new) refl

  text_row : (s : Text) → value_faults (suc n) kind.Text p whole (string s) ++ [] ≡ []
  unfolding value_faults broken
  text_row s = refl

  pub texts_row : (ss : List Text) → value_faults (suc n) kind.Texts p whole (text_list ss) ++ [] ≡ []
  unfolding value_faults broken
  texts_row ss = rw (texts_quiet p 0 ss) refl

  pub truth_row : (b : Bool) → value_faults (suc n) kind.Truth p whole (boolean b) ++ [] ≡ []
  unfolding value_faults broken
  truth_row b = refl

  variables_row : (fields : List (Text × Text)) → value_faults (suc n) kind.Params p whole (text_object fields) ++ [] ≡ []
  unfolding value_faults broken
  variables_row fields = rw (no_float fields) refl

  -- what stands at a key that may be absent
  abbrev May_row : Kind → Data → Type 0
  May_row k d = or_else (unless_null d) [] (λ found. value_faults (suc n) k p whole found ++ []) ≡ []

  members_row : (ms : Members) (b : Bool) → members_have_float ms ≡ b → May_row kind.Params (or_null (object_of (object ms)))
  unfolding value_faults broken
  members_row ms true e = rw e refl
  members_row ms false e = rw e (rw e refl)

  params_row : (o : Option Data) → May_row kind.Params (or_null (option_and_then object_of o))
  params_row None = refl
  params_row (Some null) = refl
  params_row (Some (boolean b)) = refl
  params_row (Some (number n)) = refl
  params_row (Some (string s)) = refl
  params_row (Some (array ds)) = refl
  params_row (Some (object ms)) = members_row ms (members_have_float ms) refl

  pub optional_row : (o : Option Text) → May_row kind.Text (or_null (option_map string o))
  optional_row None = refl
  optional_row (Some s) = text_row s

  pin_row : (o : Option TextMap) → May_row kind.Fields (or_null (option_map text_object o))
  unfolding value_faults broken
  pin_row None = refl
  pin_row (Some fields) = rw (fields_quiet p fields) refl

  wanted_row : (w : WantedData) → May_row kind.Wanted (wanted_value w)
  unfolding value_faults broken
  wanted_row latest = refl
  wanted_row every = refl
  wanted_row (pinned fields) = rw (fields_quiet p fields) refl

-- the name that an object has where no earlier one has it
new_text : (names : List Text) (o : Option Text) → IfSome o (λ s. has_name names s ≡ false) → is_some o ≡ true → has_name names (unwrap_or o []) ≡ false
new_text names None new there = absurd (cc (there))
new_text names (Some s) new there = new

pub is_new : (names : List Text) (k : List ℕ) (d : Data) → IsNamed names k d → has_name names (text_or [] k d) ≡ false
is_new names k d named = new_text names (text_at k d) named.new named.there

-- the config of a task

run_quiet : (q : Path) (r : RunData) → object_faults (value_faults 1) [] schema.Run q (run_value r) ≡ []
unfolding object_faults
run_quiet q r =
    both_nil _ _ (text_row 0 (path_below q (codes "path")) (run_value r) r.path)
    (both_nil _ _ (texts_row 0 (path_below q (codes "args")) (run_value r) r.args)
    (both_nil _ [] (optional_row 0 (path_below q (codes "dir")) (run_value r) r.dir) refl))

input_quiet : (before : List Text) (q : Path) (i : Text × Bool) → is_name i.0 ≡ true → has_name before i.0 ≡ false → object_faults (value_faults 1) before schema.Input q (input_value i) ≡ []
unfolding object_faults
input_quiet before q i e new =
    both_nil _ _ (new_row 0 (path_below q (codes "name")) (input_value i) before i.0 e new)
    (both_nil _ [] (truth_row 0 (path_below q (codes "optional")) (input_value i) i.1) refl)

output_quiet : (before : List Text) (q : Path) (s : Text) → is_name s ≡ true → has_name before s ≡ false → object_faults (value_faults 1) before schema.Output q (made ((codes "name", string s) ∷ [])) ≡ []
unfolding object_faults
output_quiet before q s e new = both_nil _ [] (new_row 0 (path_below q (codes "name")) (made ((codes "name", string s) ∷ [])) before s e new) refl

inputs_quiet : (before : List Text) (p q : Path) (i : ℕ) (ds : Items) → each_object (value_faults 1) before schema.Input p i ds ≡ [] → each_object (value_faults 1) before schema.Input q i (input_values (inputs_in ds)) ≡ []
inputs_quiet before p q i no_items e = refl
inputs_quiet before p q i (item d ds) e =
    let one = input_named before (path_at p i) d (nil_left (object_faults (value_faults 1) before schema.Input (path_at p i) d) _ e) in
    let more = inputs_quiet (before ++ new_names (opening schema.Input) d) p q (i + 1) ds (nil_right (object_faults (value_faults 1) before schema.Input (path_at p i) d) _ e) in
    both_nil _ _ (input_quiet before (path_at q i) _ one.name (is_new before (codes "name") d one)) (rw (input_names_are d, one.one) at more)

outputs_quiet : (before : List Text) (p q : Path) (i : ℕ) (ds : Items) → each_object (value_faults 1) before schema.Output p i ds ≡ [] → each_object (value_faults 1) before schema.Output q i (output_values (outputs_in ds)) ≡ []
outputs_quiet before p q i no_items e = refl
outputs_quiet before p q i (item d ds) e =
    let one = output_named before (path_at p i) d (nil_left (object_faults (value_faults 1) before schema.Output (path_at p i) d) _ e) in
    let more = outputs_quiet (before ++ new_names (opening schema.Output) d) p q (i + 1) ds (nil_right (object_faults (value_faults 1) before schema.Output (path_at p i) d) _ e) in
    both_nil _ _ (output_quiet before (path_at q i) _ one.name (is_new before (codes "name") d one)) (rw (output_names_are d, one.one) at more)

module _ (p q : Path) (d whole : Data) where
  run_row : (r : RunData) → value_faults 2 (kind.Object schema.Run) q whole (run_value r) ++ [] ≡ []
  unfolding value_faults broken
  run_row r = both_nil _ [] (run_quiet q r) refl

  inputs_row : (o : Option Data) → or_else o [] (λ found. value_faults 2 (kind.Objects schema.Input) p d found ++ []) ≡ [] → value_faults 2 (kind.Objects schema.Input) q whole (array (input_values (inputs_in (or_else o no_items items_in)))) ++ [] ≡ []
  unfolding value_faults broken
  inputs_row None e = refl
  inputs_row (Some found) e =
      let each = nil_right (broken (kind.Objects schema.Input) p found) _ (nil_left (value_faults 2 (kind.Objects schema.Input) p d found) [] e) in
      both_nil _ [] (inputs_quiet [] p q 0 (items_in found) each) refl

  outputs_row : (o : Option Data) → or_else o [] (λ found. value_faults 2 (kind.Objects schema.Output) p d found ++ []) ≡ [] → value_faults 2 (kind.Objects schema.Output) q whole (array (output_values (outputs_in (or_else o no_items items_in)))) ++ [] ≡ []
  unfolding value_faults broken
  outputs_row None e = refl
  outputs_row (Some found) e =
      let each = nil_right (broken (kind.Objects schema.Output) p found) _ (nil_left (value_faults 2 (kind.Objects schema.Output) p d found) [] e) in
      both_nil _ [] (outputs_quiet [] p q 0 (items_in found) each) refl

config_quiet : (p q : Path) (d : Data) → object_faults (value_faults 2) [] schema.Config p d ≡ [] → object_faults (value_faults 2) [] schema.Config q (config_value (config_from d)) ≡ []
unfolding object_faults
config_quiet p q d e =
    let keys = nil_right (unless (is_some (as_object d)) rule.Kind p) _ e in
    let rest = nil_right (row_faults (value_faults 2) [] (Must, kind.Object schema.Run, codes "run") p d) _ keys in
    let inputs = nil_left _ _ rest in
    let outputs = nil_left _ _ (nil_right (row_faults (value_faults 2) [] (May, kind.Objects schema.Input, codes "inputs") p d) _ rest) in
    let c : ConfigData = config_from d in
    both_nil _ _ (run_row p (path_below q (codes "run")) d (config_value c) c.run)
    (both_nil _ _ (inputs_row (path_below p (codes "inputs")) (path_below q (codes "inputs")) d (config_value c) (at_key (codes "inputs") d) inputs)
    (both_nil _ _ (outputs_row (path_below p (codes "outputs")) (path_below q (codes "outputs")) d (config_value c) (at_key (codes "outputs") d) outputs)
    (both_nil _ [] (variables_row 1 (path_below q (codes "params")) (config_value c) c.params) refl)))

-- what says how a task runs: both_nil is broken in a config
abbrev IsQuiet : SourceData → Type 0
IsQuiet (config c) = (q : Path) (whole : Data) → value_faults 3 (kind.Object schema.Config) q whole (config_value c) ++ [] ≡ []
IsQuiet (file path) = Unit {0}

at_config : (p : Path) (d : Data) (path : Text) (o : Option Data) → or_else o (absent Must p) (λ found. value_faults 3 (kind.Object schema.Config) p d found ++ []) ≡ [] → IsQuiet (or_else o (file path) (λ found. config (config_from found)))
unfolding value_faults broken
at_config p d path None e = tt
at_config p d path (Some found) e = λ q whole.
    both_nil _ [] (config_quiet p q found (nil_right (broken (kind.Object schema.Config) p found) _ (nil_left (value_faults 3 (kind.Object schema.Config) p d found) [] e))) refl

no_config : (path : Text) (o : Option Data) → is_some o ≡ false → IsQuiet (or_else o (file path) (λ found. config (config_from found)))
no_config path None e = tt
no_config path (Some found) e = absurd (cc (e))

task_config : (names : List Text) (p : Path) (d : Data) → key_faults (value_faults 3) names (opening schema.Task) p d ≡ [] → IsQuiet (source_from d)
task_config names p d e =
    at_config (path_below p (codes "config")) d _ (at_key (codes "config") d) (nil_left _ _ (nil_right (row_faults (value_faults 3) names (Must, kind.Text, codes "task") p d) _ e))

task_source : (names : List Text) (p : Path) (d : Data) (b c : Bool) → is_some (at_key (codes "config") d) ≡ b → is_some (at_key (codes "file") d) ≡ c → key_faults (value_faults 3) names (opening (if not b && c then schema.FileTask else schema.Task)) p d ≡ [] → IsQuiet (source_from d)
task_source names p d true c is there e = task_config names p d e
task_source names p d false true is there e = no_config _ (at_key (codes "config") d) is
task_source names p d false false is there e = task_config names p d e

task_keys : (a : Around) (names : List Text) (q : Path) (name : Text) (params : List (Text × Text)) (limit : Option Text) (s : SourceData) → IsQuiet s → own_keys names q (task_value a (record { name = name; source = s; params = params; timeout = limit })) ≡ []
task_keys a names q name params limit (config c) quiet =
    let whole : Data = task_value a (record { name = name; source = config c; params = params; timeout = limit }) in
    both_nil _ _ (text_row 2 (path_below q (codes "task")) whole name)
    (both_nil _ _ (quiet (path_below q (codes "config")) whole)
    (both_nil _ [] (variables_row 2 (path_below q (codes "params")) whole params) refl))
task_keys a names q name params limit (file path) quiet =
    let whole : Data = task_value a (record { name = name; source = file path; params = params; timeout = limit }) in
    both_nil _ _ (text_row 2 (path_below q (codes "task")) whole name)
    (both_nil _ _ (text_row 2 (path_below q (codes "file")) whole path)
    (both_nil _ [] (variables_row 2 (path_below q (codes "params")) whole params) refl))

-- where no fault is present in what was read, none is in what is printed, and it has the same name

pub get_quiet : (a : Around) (names : List Text) (p q : Path) (d : Data) → own_keys names p d ≡ [] → is_some (at_key (codes "get") d) ≡ true → own_keys names q (get_value a (get_from d)) ≡ []
get_quiet a names p q d e is =
    let named = named_get names p d e is in
    let g : GetData = get_from d in
    let whole : Data = get_value a g in
    both_nil _ _ (new_row 2 (path_below q (codes "get")) whole names g.name named.name (is_new names (codes "get") d named))
    (both_nil _ _ (text_row 2 (path_below q (codes "resource")) whole g.resource)
    (both_nil _ _ (texts_row 2 (path_below q (codes "passed")) whole g.passed)
    (both_nil _ _ (truth_row 2 (path_below q (codes "trigger")) whole g.trigger)
    (both_nil _ _ (params_row 2 (path_below q (codes "params")) whole (at_key (codes "params") d))
    (both_nil _ [] (wanted_row 2 (path_below q (codes "version")) whole g.wanted) refl)))))

pub get_named : (a : Around) (names : List Text) (p : Path) (d : Data) → own_keys names p d ≡ [] → is_some (at_key (codes "get") d) ≡ true → names_at (codes "get") (get_value a (get_from d)) ≡ names_at (codes "get") d
get_named a names p d e is = sym (named_get names p d e is).one

pub put_quiet : (a : Around) (names : List Text) (p q : Path) (d : Data) → own_keys names p d ≡ [] → is_some (at_key (codes "get") d) ≡ false → is_some (at_key (codes "put") d) ≡ true → own_keys names q (put_value a (put_from d)) ≡ []
put_quiet a names p q d e lacks is =
    let own : key_faults (value_faults 3) names (opening schema.Put) p d ≡ [] = rw (lacks, is) at e in
    let u : PutData = put_from d in
    let whole : Data = put_value a u in
    both_nil _ _ (name_row 2 (path_below q (codes "put")) whole u.name (must_name 2 names p (codes "put") d (nil_left _ _ own)))
    (both_nil _ _ (text_row 2 (path_below q (codes "resource")) whole u.resource)
    (both_nil _ _ (params_row 2 (path_below q (codes "params")) whole (at_key (codes "params") d))
    (both_nil _ _ (params_row 2 (path_below q (codes "get_params")) whole (at_key (codes "get_params") d))
    (both_nil _ [] (truth_row 2 (path_below q (codes "no_get")) whole u.no_get) refl))))

pub task_quiet : (a : Around) (names : List Text) (p q : Path) (d : Data) → own_keys names p d ≡ [] → is_some (at_key (codes "get") d) ≡ false → is_some (at_key (codes "put") d) ≡ false → is_some (at_key (codes "task") d) ≡ true → own_keys names q (task_value a (task_from d)) ≡ []
task_quiet a names p q d e lacks none is =
    task_keys a names q _ _ _ (source_from d) (task_source names p d _ _ refl refl (rw (lacks, none, is) at e))

pub resource_quiet : (names : List Text) (p q : Path) (d : Data) → resource_faults names p d ≡ [] → resource_faults names q (resource_value (resource_from d)) ≡ []
unfolding object_faults
resource_quiet names p q d e =
    let keys = nil_right (unless (is_some (as_object d)) rule.Kind p) _ e in
    let named = named_resource names p d e in
    let typed = must_name 2 [] p (codes "type") d (nil_left _ _ (nil_right (row_faults (value_faults 3) names (New, kind.Name, codes "name") p d) _ keys)) in
    let r : ResourceData = resource_from d in
    let whole : Data = resource_value r in
    both_nil _ _ (new_row 2 (path_below q (codes "name")) whole names r.name named.name (is_new names (codes "name") d named))
    (both_nil _ _ (name_row 2 (path_below q (codes "type")) whole r.kind typed)
    (both_nil _ _ (params_row 2 (path_below q (codes "source")) whole (at_key (codes "source") d))
    (both_nil _ [] (pin_row 2 (path_below q (codes "version")) whole r.version) refl)))

pub resource_named : (names : List Text) (p : Path) (d : Data) → resource_faults names p d ≡ [] → names_at (codes "name") (resource_value (resource_from d)) ≡ names_at (codes "name") d
resource_named names p d e = sym (named_resource names p d e).one

-- where the names that it mentions are there, so are those that what is printed mentions

texts_known : (jobs : List Text) (q : Path) (i : ℕ) (ss : List Text) → AllPass (has_name jobs) ss → unknown_texts jobs q i (strings ss) ≡ []
texts_known jobs q i [] h = refl
texts_known jobs q i (s ∷ ss) h =
    rw (All-head (λ s. has_name jobs s ≡ true) s ss h) (texts_known jobs q (i + 1) ss (All-tail (λ s. has_name jobs s ≡ true) s ss h))

get_mentions : (resources jobs : List Text) (a : Around) (q : Path) (g : GetData) → has_name resources g.resource ≡ true → AllPass (has_name jobs) g.passed → unknown_names resources jobs q (get_value a g) ≡ []
unfolding unknown_resource unknown_passed
get_mentions resources jobs a q g resource passed = rw resource (texts_known jobs (path_below q (codes "passed")) 0 g.passed passed)

put_mentions : (resources jobs : List Text) (a : Around) (q : Path) (u : PutData) → has_name resources u.resource ≡ true → unknown_names resources jobs q (put_value a u) ≡ []
unfolding unknown_resource unknown_passed
put_mentions resources jobs a q u resource = rw resource refl

pub get_known : (resources jobs : List Text) (a : Around) (names : List Text) (p q : Path) (d : Data) → own_keys names p d ≡ [] → is_some (at_key (codes "get") d) ≡ true → unknown_names resources jobs p d ≡ [] → unknown_names resources jobs q (get_value a (get_from d)) ≡ []
get_known resources jobs a names p q d e is known =
    get_mentions resources jobs a q (get_from d) (get_resource resources jobs names p d e known is) (get_passed resources jobs names p d e known is)

pub put_known : (resources jobs : List Text) (a : Around) (names : List Text) (p q : Path) (d : Data) → own_keys names p d ≡ [] → is_some (at_key (codes "get") d) ≡ false → is_some (at_key (codes "put") d) ≡ true → unknown_names resources jobs p d ≡ [] → unknown_names resources jobs q (put_value a (put_from d)) ≡ []
put_known resources jobs a names p q d e lacks is known =
    put_mentions resources jobs a q (put_from d) (put_resource resources jobs names p d e known lacks is)
