-- Where no fault is present in a plan, the resources and jobs that it names are there.
use Rattle.std.proofs.Common.{◌≡◌, ℕ, suc, ◌+◌, List, [], ◌∷◌, ◌++◌, Bool, true, false, Option, Some, None, refl, if◌then◌else◌, option_and_then, unwrap_or, is_some, codes}
use Rattle.std.specs.List.{AllPass}
use Rattle.serde_json.specs.Data.{Data, Items, no_items, item}
use Rattle.serde_json.specs.Find.{as_str}
use Rattle.ccr_pipeline.specs.declared.fault.Rule.TheVariants as rule
use Rattle.ccr_pipeline.specs.declared.schema.Kind.TheVariants as kind
use Rattle.ccr_pipeline.specs.declared.schema.Need.TheVariants.{New, Must}
use Rattle.ccr_pipeline.specs.declared.schema.Schema.TheVariants as schema
use Rattle.ccr_pipeline.specs.Faults.{Path, Faults, unless}
use Rattle.ccr_pipeline.specs.JobRules.{job_rest}
use Rattle.ccr_pipeline.specs.Keys.{at_key, or_else, list_at, path_below, path_at}
use Rattle.ccr_pipeline.specs.Links.{own_resource, own_passed, IsLinked}
use Rattle.ccr_pipeline.specs.Meaning.{text_or, texts_from}
use Rattle.ccr_pipeline.specs.Names.{has_name, text_at, texts_in}
use Rattle.ccr_pipeline.specs.Objects.{row_faults, key_faults, value_faults}
use Rattle.ccr_pipeline.specs.Places.{Opening, Spot, spot_of, plan_steps, job_hooks}
use Rattle.ccr_pipeline.specs.Plans.{plan_from}
use Rattle.ccr_pipeline.specs.Schema.{opening}
use Rattle.ccr_pipeline.specs.StepRules.{own_keys, opening_faults}
use Rattle.ccr_pipeline.specs.Tree.{Text}
use Rattle.ccr_pipeline.specs.Unknown.{name_key, unknown_resource, unknown_texts, unknown_passed, unknown_spots}
use Rattle.ccr_pipeline.proofs.Gathered.{none, one, and, InStep, plan_passes}
use Rattle.ccr_pipeline.proofs.Kept.{Leaves}
use Rattle.ccr_pipeline.proofs.Named.{opened_own}
use Rattle.ccr_pipeline.proofs.Rows.{nil_left, nil_right, passes, new_name, must_text, may_text}
use Rattle.ccr_pipeline.proofs.NoteLemmas.{unknown_append}
use Rattle.ccr_pipeline.proofs.Unfaulted.{IsUnfaulted, unfaulted_parts, unfaulted_plan, unfaulted_hooks}

-- a text that is there is known, where no fault says otherwise

text_known : (known : List Text) (p : Path) (absent : Text) (o : Option Text) → is_some o ≡ true → or_else o [] (λ name. unless (has_name known name) rule.KnownResource p) ≡ [] → has_name known (unwrap_or o absent) ≡ true
text_known known p absent None there f = absurd (cc (there))
text_known known p absent (Some s) there f = passes (has_name known s) rule.KnownResource p f

no_text : (absent : Text) (o : Option Data) → is_some o ≡ false → unwrap_or (option_and_then as_str o) absent ≡ absent
no_text absent None e = refl
no_text absent (Some d) e = absurd (cc (e))

-- a get or put whose own name stands at a key means a resource that is known
module _ (known : List Text) (p : Path) (d : Data) where
  meant : (k : List ℕ) → (b : Bool) → is_some (at_key (codes "resource") d) ≡ b → (b ≡ false → name_key d ≡ k) → is_some (text_at k d) ≡ true → (is_some (at_key (codes "resource") d) ≡ true → is_some (text_at (codes "resource") d) ≡ true) → or_else (text_at (name_key d) d) [] (λ name. unless (has_name known name) rule.KnownResource (path_below p (name_key d))) ≡ [] → has_name known (text_or (text_or [] k d) (codes "resource") d) ≡ true
  meant k true is from there text e =
      let by : name_key d ≡ codes "resource" = rw is refl in
      text_known known (path_below p (codes "resource")) (text_or [] k d) (text_at (codes "resource") d) (text is) (rw by at e)
  meant k false is from there text e =
      let own : has_name known (text_or [] k d) ≡ true = text_known known (path_below p k) [] (text_at k d) there (rw (from refl) at e) in
      rw (no_text (text_or [] k d) (at_key (codes "resource") d) is) own

-- what a list names is known

in_text : (known : List Text) (p : Path) (o : Option Text) → or_else o [] (λ name. unless (has_name known name) rule.KnownJob p) ≡ [] → AllPass (has_name known) (or_else o [] (λ s. s ∷ []))
in_text known p None e = none (has_name known)
in_text known p (Some s) e = one (has_name known) s (passes (has_name known s) rule.KnownJob p e)

in_texts : (known : List Text) (p : Path) (i : ℕ) (ds : Items) → unknown_texts known p i ds ≡ [] → AllPass (has_name known) (texts_in ds)
in_texts known p i no_items e = none (has_name known)
in_texts known p i (item d ds) e =
    and (has_name known) _ _ (in_text known (path_at p i) (as_str d) (nil_left _ (unknown_texts known p (i + 1) ds) e))
    (in_texts known p (i + 1) ds (nil_right (or_else (as_str d) [] (λ name. unless (has_name known name) rule.KnownJob (path_at p i))) _ e))

-- what no fault in a step's own keys and none among its names say of the step

when : (b : Bool) (xs : Faults) → b ≡ true → (if b then xs else []) ≡ [] → xs ≡ []
when true xs is e = e
when false xs is e = absurd (cc (is))

module _ (resources jobs : List Text) (names : List Text) (p : Path) (d : Data) (own : own_keys names p d ≡ []) (known : unknown_resource resources p d ++ unknown_passed jobs p d ≡ []) where
  pub get_resource : is_some (at_key (codes "get") d) ≡ true → has_name resources (text_or (text_or [] (codes "get") d) (codes "resource") d) ≡ true
  unfolding unknown_resource
  get_resource a =
      let keys : key_faults (value_faults 3) names (opening schema.Get) p d ≡ [] = rw a at own in
      let named = new_name 2 names p (codes "get") d (nil_left _ _ keys) in
      let text = may_text 2 [] p (codes "resource") d (nil_left _ _ (nil_right (row_faults (value_faults 3) names (New, kind.Name, codes "get") p d) _ keys)) in
      let there : unknown_resource resources p d ≡ [] = nil_left (unknown_resource resources p d) _ known in
      meant resources p d (codes "get") (is_some (at_key (codes "resource") d)) refl (λ is. rw (is, a) refl) named.there text (when _ _ (rw a refl) there)

  pub get_passed : is_some (at_key (codes "get") d) ≡ true → AllPass (has_name jobs) (texts_from (codes "passed") d)
  unfolding unknown_passed
  get_passed a =
      let there : unknown_passed jobs p d ≡ [] = nil_right (unknown_resource resources p d) _ known in
      in_texts jobs (path_below p (codes "passed")) 0 (list_at (codes "passed") d) (when _ _ a there)

  pub put_resource : is_some (at_key (codes "get") d) ≡ false → is_some (at_key (codes "put") d) ≡ true → has_name resources (text_or (text_or [] (codes "put") d) (codes "resource") d) ≡ true
  unfolding unknown_resource
  put_resource a b =
      let keys : key_faults (value_faults 3) names (opening schema.Put) p d ≡ [] = rw (a, b) at own in
      let named = must_text 2 names p (codes "put") d (nil_left _ _ keys) in
      let text = may_text 2 [] p (codes "resource") d (nil_left _ _ (nil_right (row_faults (value_faults 3) names (Must, kind.Name, codes "put") p d) _ keys)) in
      let there : unknown_resource resources p d ≡ [] = nil_left (unknown_resource resources p d) _ known in
      meant resources p d (codes "put") (is_some (at_key (codes "resource") d)) refl (λ is. rw (is, a) refl) named text (when _ _ (rw (a, b) refl) there)

-- the plans of a pipeline with these resources and jobs
module _ (resources jobs : List Text) where
  -- in visits, no fault is present and no name is unknown
  abbrev Fine : List Spot → Type 0
  Fine xs = IsUnfaulted xs × (unknown_spots resources jobs xs ≡ [])

  parts : (xs ys : List Spot) → Fine (xs ++ ys) → Fine xs × Fine ys
  parts xs ys f =
      let known : unknown_spots resources jobs xs ++ unknown_spots resources jobs ys ≡ [] = rw (unknown_append resources jobs xs ys) at f.1 in
      let faults = unfaulted_parts xs ys f.0 in
      ((faults.0, nil_left _ _ known), (faults.1, nil_right _ _ known))

  own : (n t : ℕ) (d : Data) (p : Path) → (f : Fine (spot_of Opening p (suc n) t d ∷ [])) → own_keys f.0.0 p d ≡ []
  own n t d p f = opened_own f.0.0 p (suc n) d (nil_left (opening_faults f.0.0 p (suc n) d) [] f.0.1)

  resource_leaves : (n t : ℕ) (d : Data) (p : Path) → Fine (spot_of Opening p (suc n) t d ∷ []) → Leaves (InStep (has_name resources) own_resource) d
  resource_leaves n t d p f = record {
    getting = λ a. one (has_name resources) _ (get_resource resources jobs f.0.0 p d (own n t d p f) (nil_left _ [] f.1) a);
    putting = λ a b. one (has_name resources) _ (put_resource resources jobs f.0.0 p d (own n t d p f) (nil_left _ [] f.1) a b);
    doing = λ a b c. none (has_name resources);
  }

  job_leaves : (n t : ℕ) (d : Data) (p : Path) → Fine (spot_of Opening p (suc n) t d ∷ []) → Leaves (InStep (has_name jobs) own_passed) d
  job_leaves n t d p f = record {
    getting = λ a. get_passed resources jobs f.0.0 p d (own n t d p f) (nil_left _ [] f.1) a;
    putting = λ a b. none (has_name jobs);
    doing = λ a b c. none (has_name jobs);
  }

  pub linked_plan : (p : Path) (d : Data) → job_rest p d ≡ [] → unknown_spots resources jobs (plan_steps p d ++ job_hooks p d) ≡ [] → IsLinked resources jobs (plan_from d)
  linked_plan p d e u =
      let known : unknown_spots resources jobs (plan_steps p d) ++ unknown_spots resources jobs (job_hooks p d) ≡ [] = rw (unknown_append resources jobs (plan_steps p d) (job_hooks p d)) at u in
      let steps : Fine (plan_steps p d) = (unfaulted_plan p d e, nil_left _ _ known) in
      let hooks : Fine (job_hooks p d) = (unfaulted_hooks p d e, nil_right (unknown_spots resources jobs (plan_steps p d)) _ known) in (
        plan_passes (has_name resources) own_resource Fine parts resource_leaves p d steps hooks,
        plan_passes (has_name jobs) own_passed Fine parts job_leaves p d steps hooks,
      )
