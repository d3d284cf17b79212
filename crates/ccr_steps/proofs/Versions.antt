-- The step that waits, if it is a get, has the name of an input of the plan, and so a version.
use Rattle.std.proofs.Common.{◌≡◌, Bool, true, false, List, ◌++◌, ◌||◌, map, Some, refl, sym, ◌∙◌, subst}
use Rattle.std.proofs.lemmas.List.{map-append}
use Rattle.std.proofs.lemmas.List.Folds.{list_any-append}
use Rattle.ccr_pipeline.specs.declared.step.When.{When}
use Rattle.ccr_pipeline.specs.declared.step.When.TheVariants.{OnError, OnAbort}
use Rattle.ccr_pipeline.specs.Inputs.{InputData, inputs, inputs_in}
use Rattle.ccr_pipeline.specs.Names.{has_name}
use Rattle.ccr_pipeline.specs.Tree.{Text, Tree, get, hook}
use Rattle.ccr_steps.specs.Inputs.{HasEach, HasVersion}
use Rattle.ccr_steps.specs.Moments.{step_at}
use Rattle.ccr_steps.specs.Runs.{RunData}
use Rattle.ccr_steps.proofs.Naming.{in_left, in_right, only}
use Rattle.ccr_steps.proofs.Standing.{step_leaf}
use Rattle.ccr_steps.proofs.Upwards.{GoesUp, goes_up}

-- one of the inputs has this name
abbrev Names : Text → List InputData → Type 0
Names n is = has_name (map (λ i. i.name) is) n ≡ true

at_left : (n : Text) (xs ys : List InputData) → Names n xs → Names n (xs ++ ys)
at_left n xs ys h = subst (λ l. has_name l n ≡ true) (sym (map-append (λ i. i.name) xs ys)) (in_left (map (λ i. i.name) xs) (map (λ i. i.name) ys) n h)

at_right : (n : Text) (xs ys : List InputData) → Names n ys → Names n (xs ++ ys)
at_right n xs ys h = subst (λ l. has_name l n ≡ true) (sym (map-append (λ i. i.name) xs ys)) (in_right (map (λ i. i.name) xs) (map (λ i. i.name) ys) n h)

-- one of two lists side by side has it
abbrev Either : Text → List InputData → List InputData → Type 0
Either n xs ys = (p : Bool) × ((p ≡ true → Names n xs) × (p ≡ false → Names n ys))

by_side : (a b : Bool) → (a || b) ≡ true → (p : Bool) × ((p ≡ true → a ≡ true) × (p ≡ false → b ≡ true))
by_side true b e = (true, (λ h. refl, λ h. absurd (cc (h))))
by_side false b e = (false, (λ h. absurd (cc (h)), λ h. e))

of_two : (n : Text) (xs ys : List InputData) → Names n (xs ++ ys) → Either n xs ys
of_two n xs ys h =
    let split : (has_name (map (λ i. i.name) xs) n || has_name (map (λ i. i.name) ys) n) ≡ true = sym (list_any-append _ (map (λ i. i.name) xs) (map (λ i. i.name) ys)) ∙ subst (λ l. has_name l n ≡ true) (map-append (λ i. i.name) xs ys) h in
    by_side _ _ split

-- the inputs of the step and of the outer hook stand round those of the inner hook
between : (n : Text) (xs ys zs : List InputData) → Names n (xs ++ ys) → Names n (xs ++ (zs ++ ys))
between n xs ys zs h = pick (of_two n xs ys h)
  where
    pick : Either n xs ys → Names n (xs ++ (zs ++ ys))
    pick (true, (l, r)) = at_left n xs (zs ++ ys) (l refl)
    pick (false, (l, r)) = at_right n xs (zs ++ ys) (at_right n zs ys (r refl))

step_up : (n : Text) (w : When) (t h : Tree) → Names n (inputs t) → Names n (inputs (hook w t h))
step_up n OnError (hook OnAbort t aborted) errored is = between n (inputs t) (inputs aborted) (inputs errored) is
step_up n w t h is = at_left n (inputs t) (inputs h) is

hook_up : (n : Text) (w : When) (t h : Tree) → Names n (inputs h) → Names n (inputs (hook w t h))
hook_up n OnError (hook OnAbort t aborted) errored is = at_right n (inputs t) (inputs errored ++ inputs aborted) (at_left n (inputs errored) (inputs aborted) is)
hook_up n w t h is = at_right n (inputs t) (inputs h) is

-- that an input of a step has a name goes up to the steps round it
name_up : (n : Text) → GoesUp (λ t. Names n (inputs t)) (λ ts. Names n (inputs_in ts))
name_up n = record {
  ordered = λ ts h. h;
  parallel = λ ts fast h. h;
  trying = λ t h. h;
  again = λ k t h. h;
  hooked = step_up n;
  hooks = hook_up n;
  here = λ t ts is. at_left n (inputs t) (inputs_in ts) is;
  later = λ t ts is. at_right n (inputs t) (inputs_in ts) is;
}

-- the step that waits has a version, if it is a get
pub has_version : (r : RunData) (s : Tree) → HasEach r.inputs r.plan → step_at r.at r.plan ≡ Some s → HasVersion r.inputs s
has_version r (get d) each at =
    subst (λ l. has_name l d.name ≡ true) (sym each)
    (goes_up _ _ (name_up d.name) r.plan r.at.frames (get d) (step_leaf r.at.outcome r.at r.plan (get d) at) (only d.name))
has_version r s each at = tt
