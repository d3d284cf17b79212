-- The tree of a step by its variant.
use Rattle.std.proofs.Common.{◌≡◌, ℕ, Bool, List, map, sym, ap, ◌∙◌, Vec, Global, Box}
use Rattle.ccr_pipeline.specs.declared.step.When.{When}
use Rattle.ccr_pipeline.specs.declared.step.Get.{Get as GetStep}
use Rattle.ccr_pipeline.specs.declared.step.Put.{Put as PutStep}
use Rattle.ccr_pipeline.specs.declared.task.Task.{Task as TaskStep}
use Rattle.ccr_pipeline.specs.declared.step.Step.{Step}
use Rattle.ccr_pipeline.specs.declared.step.Step.TheVariants.{Get, Put, Task, Do, InParallel, Try, Attempts, Hook, rolls-Get, rolls-Put, rolls-Task, rolls-Do, rolls-InParallel, rolls-Try, rolls-Attempts, rolls-Hook}
use Rattle.ccr_pipeline.specs.declared.step.Step.TheOpen.{Step-F}
use Rattle.ccr_pipeline.specs.declared.step.Step.TheFolds.{fold-roll-Step}
use Rattle.ccr_pipeline.specs.Tree.{Tree, tree_step, tree_of, trees_of, get_data, put_data, task_data, get, put, task, in_order, in_parallel, tried, attempts, hook}

pub tree_get : (s : Step) (d : GetStep) → s ≡ Get d → tree_of s ≡ get (get_data d)
tree_get s d e = ap tree_of (e ∙ sym (rolls-Get d)) ∙ fold-roll-Step Tree tree_step (Step-F.Get d)

pub tree_put : (s : Step) (p : PutStep) → s ≡ Put p → tree_of s ≡ put (put_data p)
tree_put s p e = ap tree_of (e ∙ sym (rolls-Put p)) ∙ fold-roll-Step Tree tree_step (Step-F.Put p)

pub tree_task : (s : Step) (t : TaskStep) → s ≡ Task t → tree_of s ≡ task (task_data t)
tree_task s t e = ap tree_of (e ∙ sym (rolls-Task t)) ∙ fold-roll-Step Tree tree_step (Step-F.Task t)

pub tree_do : (s : Step) (v : Vec Step Global) (list : List Step) → s ≡ Do v → list ≡ v.items → tree_of s ≡ in_order (trees_of (map tree_of list))
tree_do s v list e l = ap tree_of (e ∙ sym (rolls-Do v)) ∙ fold-roll-Step Tree tree_step (Step-F.Do v) ∙ ap (λ ts. in_order (trees_of (map tree_of ts))) (sym l)

pub tree_parallel : (s : Step) (v : Vec Step Global) (fast : Bool) (list : List Step) → s ≡ InParallel v fast → list ≡ v.items → tree_of s ≡ in_parallel (trees_of (map tree_of list)) fast
tree_parallel s v fast list e l = ap tree_of (e ∙ sym (rolls-InParallel v fast)) ∙ fold-roll-Step Tree tree_step (Step-F.InParallel v fast) ∙ ap (λ ts. in_parallel (trees_of (map tree_of ts)) fast) (sym l)

pub tree_try : (s : Step) (b : Box Step Global) (inner : Step) → s ≡ Try b → inner ≡ b.value → tree_of s ≡ tried (tree_of inner)
tree_try s b inner e v = ap tree_of (e ∙ sym (rolls-Try b)) ∙ fold-roll-Step Tree tree_step (Step-F.Try b) ∙ ap (λ x. tried (tree_of x)) (sym v)

pub tree_attempts : (s : Step) (n : ℕ) (b : Box Step Global) (inner : Step) → s ≡ Attempts n b → inner ≡ b.value → tree_of s ≡ attempts n (tree_of inner)
tree_attempts s n b inner e v = ap tree_of (e ∙ sym (rolls-Attempts n b)) ∙ fold-roll-Step Tree tree_step (Step-F.Attempts n b) ∙ ap (λ x. attempts n (tree_of x)) (sym v)

pub tree_hook : (s : Step) (w : When) (b d : Box Step Global) (inner after : Step) → s ≡ Hook w b d → inner ≡ b.value → after ≡ d.value → tree_of s ≡ hook w (tree_of inner) (tree_of after)
tree_hook s w b d inner after e v u = ap tree_of (e ∙ sym (rolls-Hook w b d)) ∙ fold-roll-Step Tree tree_step (Step-F.Hook w b d) ∙ ap (λ x. hook w (tree_of x) (tree_of d.value)) (sym v) ∙ ap (λ x. hook w (tree_of inner) (tree_of x)) (sym u)
