-- The inputs of a plan have names.
use Rattle.std.proofs.Common.{◌≡◌, ◌≢◌, true, false, [], ◌++◌, refl, sym, ap, ◌∙◌}
use Rattle.std.specs.List.{AllByRecursion}
use Rattle.ccr_pipeline.specs.declared.step.When.{When}
use Rattle.ccr_pipeline.specs.declared.step.When.TheVariants.{OnError, OnAbort}
use Rattle.ccr_pipeline.specs.Inputs.{InputData, inputs, inputs_in}
use Rattle.ccr_pipeline.specs.Kinds.{is_name}
use Rattle.ccr_pipeline.specs.Limits.{own_names, names}
use Rattle.ccr_pipeline.specs.Tree.{Text, Tree, Trees, get, put, task, in_order, in_parallel, tried, attempts, hook, no_trees, tree, gathered_in}
use Rattle.ccr_core.proofs.Moving.{all_split, all_join}

no_name : is_name [] ≡ false
unfolding is_name
no_name = refl

not_empty : (name : Text) → is_name name ≡ true → name ≢ []
not_empty name is e = let both : true ≡ false = sym is ∙ ap is_name e ∙ no_name in cc both

hook_join : (Q : InputData → Type 0) → (w : When) (t h : Tree) → AllByRecursion Q (inputs t) → AllByRecursion Q (inputs h) → AllByRecursion Q (inputs (hook w t h))
hook_join Q OnError (hook OnAbort t aborts) h first then =
    let (p, q) = all_split Q (inputs t) (inputs aborts) first in
    all_join Q (inputs t) (inputs h ++ inputs aborts) p (all_join Q (inputs h) (inputs aborts) then q)
hook_join Q w t h first then = all_join Q (inputs t) (inputs h) first then

mutual
  pub inputs_named : (t : Tree) → AllByRecursion (λ n. is_name n ≡ true) (names t) → AllByRecursion (λ i. i.name ≢ []) (inputs t)
  inputs_named (get d) h = (not_empty d.name h.0, tt)
  inputs_named (put p) h = tt
  inputs_named (task t) h = tt
  inputs_named (in_order ts) h = all_named ts h
  inputs_named (in_parallel ts fast) h = all_named ts h
  inputs_named (tried t) h = inputs_named t h
  inputs_named (attempts n t) h = inputs_named t h
  inputs_named (hook w t k) h =
      let (p, q) = all_split (λ n. is_name n ≡ true) (names t) (names k) h in
      hook_join (λ i. i.name ≢ []) w t k (inputs_named t p) (inputs_named k q)

  all_named : (ts : Trees) → AllByRecursion (λ n. is_name n ≡ true) (gathered_in own_names ts) → AllByRecursion (λ i. i.name ≢ []) (inputs_in ts)
  all_named no_trees h = tt
  all_named (tree t ts) h =
      let (p, q) = all_split (λ n. is_name n ≡ true) (names t) (gathered_in own_names ts) h in
      all_join (λ i. i.name ≢ []) (inputs t) (inputs_in ts) (inputs_named t p) (all_named ts q)
