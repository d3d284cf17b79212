-- Where no fault is present in a plan, no two of its gets have one name.
use Rattle.std.proofs.Common.{◌≡◌, ℕ, List, [], ◌∷◌, ◌++◌, map, true, false, Option, Some, None, refl, sym, option_and_then, is_some, codes, if◌then◌else◌}
use Rattle.std.proofs.lemmas.List.{append-nil, map-append}
use Rattle.std.specs.List.{flat_map}
use Rattle.std.specs.Option.{IfSome}
use Rattle.serde_json.specs.Data.{Data}
use Rattle.serde_json.specs.Find.{as_str}
use Rattle.ccr_pipeline.specs.declared.schema.Schema.TheVariants as schema
use Rattle.ccr_pipeline.specs.Faults.{Path}
use Rattle.ccr_pipeline.specs.Inputs.{InputData, input_from}
use Rattle.ccr_pipeline.specs.JobRules.{job_rest, after_plan}
use Rattle.ccr_pipeline.specs.Keys.{at_key, or_else}
use Rattle.ccr_pipeline.specs.Limits.{HasDistinctInputs}
use Rattle.ccr_pipeline.specs.Meaning.{get_from}
use Rattle.ccr_pipeline.specs.Names.{has_name, text_at}
use Rattle.ccr_pipeline.specs.Objects.{key_faults, value_faults}
use Rattle.ccr_pipeline.specs.Places.{Part, Opening, Closing, Spot, gets_by, gets_at, plan_steps, job_hooks}
use Rattle.ccr_pipeline.specs.Plans.{plan_from, input_by, input_at}
use Rattle.ccr_pipeline.specs.Schema.{closing}
use Rattle.ccr_pipeline.specs.StepRules.{visit_by, visit_faults, visits, own_keys}
use Rattle.ccr_pipeline.specs.Tree.{Text}
use Rattle.ccr_pipeline.proofs.Named.{opened_own, get_named}
use Rattle.ccr_pipeline.proofs.Ordered.{ordered_inputs}
use Rattle.ccr_pipeline.proofs.Repeats.{NoRepeat, distinct, with_text}
use Rattle.ccr_pipeline.proofs.Rows.{nil_left, nil_right}
use Rattle.ccr_pipeline.proofs.Visits.{visits-append}

if_there : (P : Text → Type 0) (o : Option Data) → (is_some o ≡ true → IfSome (option_and_then as_str o) P) → IfSome (option_and_then as_str o) P
if_there P None h = tt
if_there P (Some d) h = h refl

-- what a get's visit says of its name
get_once : (names : List Text) (p : Path) (d : Data) → own_keys names p d ≡ [] → IfSome (text_at (codes "get") d) (λ s. has_name names s ≡ false)
get_once names p d e =
    if_there (λ s. has_name names s ≡ false) (at_key (codes "get") d) (λ a. (get_named names p d e a).new)

-- the names of gets don't repeat in visits without a fault

with_visit : (x : Part) (names : List Text) (p : Path) (n t : ℕ) (d : Data) (rest : List Text) → visit_by x names p n t d ≡ [] → NoRepeat (names ++ gets_by x d) rest → NoRepeat names (gets_by x d ++ rest)
with_visit Opening names p n t d rest e h =
    with_text names rest (text_at (codes "get") d) (get_once names p d (opened_own names p n d e)) h
with_visit Closing names p n t d rest e h = rw (append-nil names) at h

no_repeat : (names : List Text) (xs : List Spot) → visits names xs ≡ [] → NoRepeat names (flat_map gets_at xs)
no_repeat names [] e = tt
no_repeat names (x ∷ xs) e =
    with_visit x.part names x.path x.levels x.tries x.step (flat_map gets_at xs)
    (nil_left (visit_faults names x) _ e) (no_repeat (names ++ gets_at x) xs (nil_right (visit_faults names x) _ e))

-- the names of gets are those of the inputs that they make

name_there : (o : Option Data) (i : InputData) → (is_some o ≡ true → or_else (option_and_then as_str o) [] (λ s. s ∷ []) ≡ i.name ∷ []) → or_else (option_and_then as_str o) [] (λ s. s ∷ []) ≡ map (λ i. i.name) (if is_some o then i ∷ [] else [])
name_there None i h = refl
name_there (Some d) i h = h refl

name_by : (x : Part) (names : List Text) (p : Path) (n t : ℕ) (d : Data) → visit_by x names p n t d ≡ [] → gets_by x d ≡ map (λ i. i.name) (input_by x d)
name_by Opening names p n t d e =
    let own = opened_own names p n d e in
    name_there (at_key (codes "get") d) (input_from (get_from d)) (λ a. (get_named names p d own a).one)
name_by Closing names p n t d e = refl

input_names_are : (names : List Text) (xs : List Spot) → visits names xs ≡ [] → flat_map gets_at xs ≡ map (λ i. i.name) (flat_map input_at xs)
input_names_are names [] e = refl
input_names_are names (x ∷ xs) e =
    let one = name_by x.part names x.path x.levels x.tries x.step (nil_left (visit_faults names x) _ e) in
    let rest = input_names_are (names ++ gets_at x) xs (nil_right (visit_faults names x) _ e) in
    rw (map-append, one, rest) refl

whole_job : (p : Path) (d : Data) → job_rest p d ≡ [] → visits [] (plan_steps p d ++ job_hooks p d) ≡ []
unfolding job_rest after_plan
whole_job p d e =
    let after = nil_right (visits [] (plan_steps p d)) _ e in
    let rest = nil_right (key_faults (value_faults 3) [] (closing schema.Job) p d) _ after in
    let hooks = nil_left (visits _ (job_hooks p d)) _ rest in
    rw (visits-append [] (plan_steps p d) (job_hooks p d), nil_left (visits [] (plan_steps p d)) _ e, hooks) refl

pub distinct_inputs : (p : Path) (d : Data) → job_rest p d ≡ [] → HasDistinctInputs (plan_from d)
distinct_inputs p d e =
    let xs : List Spot = plan_steps p d ++ job_hooks p d in
    let none : visits [] xs ≡ [] = whole_job p d e in
    rw (ordered_inputs p d e, sym (input_names_are [] xs none)) (distinct [] (flat_map gets_at xs) (no_repeat [] xs none))
