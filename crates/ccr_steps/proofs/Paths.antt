-- Paths of frames, a level at a time.
use Rattle.std.proofs.Common.{arith, ◌≡◌, ℕ, zero, suc, ◌+◌, ◌≤◌, true, false, List, [], ◌∷◌, ◌++◌, Option, Some, None, take, drop, length, refl, sym, ap, ◌∙◌}
use Rattle.std.specs.Prelude.{slice_get}
use Rattle.ccr_pipeline.specs.declared.step.When.{When}
use Rattle.ccr_pipeline.specs.Tree.{Tree, Trees, in_order, in_parallel, tried, attempts, hook, trees_of}
use Rattle.ccr_steps.specs.declared.outcome.Outcome.{Outcome}
use Rattle.ccr_steps.specs.declared.outcome.Outcome.TheVariants.{Errored}
use Rattle.ccr_steps.specs.declared.frame.Frame.{Frame}
use Rattle.ccr_steps.specs.declared.frame.Frame.TheVariants.{At, In, Left, Hook}
use Rattle.ccr_steps.specs.Asks.{Chosen}
use Rattle.ccr_steps.specs.Gains.{GainsData}
use Rattle.ccr_steps.specs.Play.{ended}
use Rattle.ccr_steps.specs.FrameKinds.{at_frame, is_in_frame, left_frame, hook_frame}
use Rattle.ccr_steps.specs.Frames.{leaf_at, leaf_in, goes_on, goes_on_in_order, goes_on_all}

pub at_there : (o : Option Frame) (k : ℕ) (worst : Outcome) → at_frame o ≡ Some (k, worst) → o ≡ Some (At k worst)
at_there None k worst e = absurd (cc (e))
at_there (Some (At j u)) k worst e =
    let pair : ◌≡◌ {A = ℕ × Outcome} (j, u) (k, worst) = cc (e) in
    ap (λ (p : ℕ × Outcome). Some (At p.0 p.1)) pair
at_there (Some In) k worst e = absurd (cc (e))
at_there (Some (Left j)) k worst e = absurd (cc (e))
at_there (Some (Hook o)) k worst e = absurd (cc (e))

pub in_there : (o : Option Frame) → is_in_frame o ≡ true → o ≡ Some In
in_there None e = absurd (cc (e))
in_there (Some (At k worst)) e = absurd (cc (e))
in_there (Some In) e = refl
in_there (Some (Left k)) e = absurd (cc (e))
in_there (Some (Hook o)) e = absurd (cc (e))

pub left_there : (o : Option Frame) (k : ℕ) → left_frame o ≡ Some k → o ≡ Some (Left k)
left_there None k e = absurd (cc (e))
left_there (Some (At j worst)) k e = absurd (cc (e))
left_there (Some In) k e = absurd (cc (e))
left_there (Some (Left j)) k e = let one : j ≡ k = cc (e) in ap (λ n. Some (Left n)) one
left_there (Some (Hook o)) k e = absurd (cc (e))

pub hook_there : (o : Option Frame) (end : Outcome) → hook_frame o ≡ Some end → o ≡ Some (Hook end)
hook_there None end e = absurd (cc (e))
hook_there (Some (At j worst)) end e = absurd (cc (e))
hook_there (Some In) end e = absurd (cc (e))
hook_there (Some (Left j)) end e = absurd (cc (e))
hook_there (Some (Hook o)) end e = let one : o ≡ end = cc (e) in ap (λ x. Some (Hook x)) one

pub get_drop : (fs : List Frame) (level : ℕ) → slice_get fs level ≡ slice_get (drop level fs) 0
get_drop [] zero = refl
get_drop [] (suc l) = refl
get_drop (x ∷ xs) zero = refl
get_drop (x ∷ xs) (suc l) = get_drop xs l

pub drop_there : (fs : List Frame) (level : ℕ) (f : Frame) → slice_get fs level ≡ Some f → drop level fs ≡ f ∷ drop (level + 1) fs
drop_there [] zero f e = absurd (cc (e))
drop_there [] (suc l) f e = absurd (cc (e))
drop_there (x ∷ xs) zero f e = let one : x ≡ f = cc (e) in ap (λ y. y ∷ xs) one
drop_there (x ∷ xs) (suc l) f e = let n : suc l + 1 ≡ suc (l + 1) = omega arith in drop_there xs l f e ∙ ap (λ m. f ∷ drop m (x ∷ xs)) (sym n)

pub take_there : (fs : List Frame) (level : ℕ) (f : Frame) → slice_get fs level ≡ Some f → take (level + 1) fs ≡ take level fs ++ f ∷ []
take_there [] zero f e = absurd (cc (e))
take_there [] (suc l) f e = absurd (cc (e))
take_there (x ∷ xs) zero f e = let one : x ≡ f = cc (e) in ap (λ y. y ∷ []) one
take_there (x ∷ xs) (suc l) f e = let n : suc l + 1 ≡ suc (l + 1) = omega arith in ap (λ m. take m (x ∷ xs)) n ∙ ap (λ l. x ∷ l) (take_there xs l f e)

-- a path that leads to no step
try_bad : (t : Tree) (fs : List Frame) → is_in_frame (slice_get fs 0) ≡ false → (leaf_at (tried t) fs ≡ None) × ((c : Chosen) (o : Outcome) (g : GainsData) → goes_on c (tried t) fs o g ≡ ended Errored g)
try_bad t [] e = (refl, λ c o g. refl)
try_bad t (At k worst ∷ fs) e = (refl, λ c o g. refl)
try_bad t (In ∷ fs) e = absurd (cc (e))
try_bad t (Left k ∷ fs) e = (refl, λ c o g. refl)
try_bad t (Hook end ∷ fs) e = (refl, λ c o g. refl)

tries_bad : (n : ℕ) (t : Tree) (fs : List Frame) → left_frame (slice_get fs 0) ≡ None → (leaf_at (attempts n t) fs ≡ None) × ((c : Chosen) (o : Outcome) (g : GainsData) → goes_on c (attempts n t) fs o g ≡ ended Errored g)
tries_bad n t [] e = (refl, λ c o g. refl)
tries_bad n t (At k worst ∷ fs) e = (refl, λ c o g. refl)
tries_bad n t (In ∷ fs) e = (refl, λ c o g. refl)
tries_bad n t (Left k ∷ fs) e = absurd (cc (e))
tries_bad n t (Hook end ∷ fs) e = (refl, λ c o g. refl)

hook_bad : (w : When) (t h : Tree) (fs : List Frame) → is_in_frame (slice_get fs 0) ≡ false → hook_frame (slice_get fs 0) ≡ None → (leaf_at (hook w t h) fs ≡ None) × ((c : Chosen) (o : Outcome) (g : GainsData) → goes_on c (hook w t h) fs o g ≡ ended Errored g)
hook_bad w t h [] e n = (refl, λ c o g. refl)
hook_bad w t h (At k worst ∷ fs) e n = (refl, λ c o g. refl)
hook_bad w t h (In ∷ fs) e n = absurd (cc (e))
hook_bad w t h (Left k ∷ fs) e n = (refl, λ c o g. refl)
hook_bad w t h (Hook end ∷ fs) e n = absurd (cc (n))

list_bad : (ts : Trees) (fs : List Frame) → at_frame (slice_get fs 0) ≡ None → (leaf_at (in_order ts) fs ≡ None) × ((c : Chosen) (o : Outcome) (g : GainsData) → (goes_on c (in_order ts) fs o g ≡ ended Errored g) × (goes_on c (in_parallel ts false) fs o g ≡ ended Errored g))
list_bad ts [] e = (refl, λ c o g. (refl, refl))
list_bad ts (At k worst ∷ fs) e = absurd (cc (e))
list_bad ts (In ∷ fs) e = (refl, λ c o g. (refl, refl))
list_bad ts (Left k ∷ fs) e = (refl, λ c o g. (refl, refl))
list_bad ts (Hook end ∷ fs) e = (refl, λ c o g. (refl, refl))

leaf_past : (ts : List Tree) (k : ℕ) (fs : List Frame) → length ts ≤ k → leaf_in (trees_of ts) k fs ≡ None
leaf_past [] k fs l = refl
leaf_past (t ∷ ts) zero fs l = absurd (omega arith)
leaf_past (t ∷ ts) (suc k) fs l = leaf_past ts k fs (omega arith)

in_order_past : (ts : List Tree) (k : ℕ) (fs : List Frame) → length ts ≤ k → (c : Chosen) (o : Outcome) (g : GainsData) → goes_on_in_order c (trees_of ts) k fs o g ≡ ended Errored g
in_order_past [] k fs l c o g = refl
in_order_past (t ∷ ts) zero fs l c o g = absurd (omega arith)
in_order_past (t ∷ ts) (suc k) fs l c o g = in_order_past ts k fs (omega arith) c o g

all_past : (worst : Outcome) (ts : List Tree) (k : ℕ) (fs : List Frame) → length ts ≤ k → (c : Chosen) (o : Outcome) (g : GainsData) → goes_on_all c worst (trees_of ts) k fs o g ≡ ended Errored g
all_past worst [] k fs l c o g = refl
all_past worst (t ∷ ts) zero fs l c o g = absurd (omega arith)
all_past worst (t ∷ ts) (suc k) fs l c o g = all_past worst ts k fs (omega arith) c o g

module _ (fs : List Frame) (level : ℕ) where
  pub try_lost : (t : Tree) → is_in_frame (slice_get fs level) ≡ false → (leaf_at (tried t) (drop level fs) ≡ None) × ((c : Chosen) (o : Outcome) (g : GainsData) → goes_on c (tried t) (drop level fs) o g ≡ ended Errored g)
  try_lost t e = try_bad t (drop level fs) (sym (ap is_in_frame (get_drop fs level)) ∙ e)

  pub tries_lost : (n : ℕ) (t : Tree) → left_frame (slice_get fs level) ≡ None → (leaf_at (attempts n t) (drop level fs) ≡ None) × ((c : Chosen) (o : Outcome) (g : GainsData) → goes_on c (attempts n t) (drop level fs) o g ≡ ended Errored g)
  tries_lost n t e = tries_bad n t (drop level fs) (sym (ap left_frame (get_drop fs level)) ∙ e)

  pub hook_lost : (w : When) (t h : Tree) → is_in_frame (slice_get fs level) ≡ false → hook_frame (slice_get fs level) ≡ None → (leaf_at (hook w t h) (drop level fs) ≡ None) × ((c : Chosen) (o : Outcome) (g : GainsData) → goes_on c (hook w t h) (drop level fs) o g ≡ ended Errored g)
  hook_lost w t h e n = hook_bad w t h (drop level fs) (sym (ap is_in_frame (get_drop fs level)) ∙ e) (sym (ap hook_frame (get_drop fs level)) ∙ n)

  pub list_lost : (ts : Trees) → at_frame (slice_get fs level) ≡ None → (leaf_at (in_order ts) (drop level fs) ≡ None) × ((c : Chosen) (o : Outcome) (g : GainsData) → (goes_on c (in_order ts) (drop level fs) o g ≡ ended Errored g) × (goes_on c (in_parallel ts false) (drop level fs) o g ≡ ended Errored g))
  list_lost ts e = list_bad ts (drop level fs) (sym (ap at_frame (get_drop fs level)) ∙ e)

  pub past_lost : (ts : List Tree) (k : ℕ) (worst : Outcome) → slice_get fs level ≡ Some (At k worst) → length ts ≤ k → (leaf_at (in_order (trees_of ts)) (drop level fs) ≡ None) × ((c : Chosen) (o : Outcome) (g : GainsData) → (goes_on c (in_order (trees_of ts)) (drop level fs) o g ≡ ended Errored g) × (goes_on c (in_parallel (trees_of ts) false) (drop level fs) o g ≡ ended Errored g))
  past_lost ts k worst at l =
      let e = drop_there fs level (At k worst) at in (
        ap (leaf_at (in_order (trees_of ts))) e ∙ leaf_past ts k (drop (level + 1) fs) l,
        λ c o g. (ap (λ x. goes_on c (in_order (trees_of ts)) x o g) e ∙ in_order_past ts k (drop (level + 1) fs) l c o g, ap (λ x. goes_on c (in_parallel (trees_of ts) false) x o g) e ∙ all_past worst ts k (drop (level + 1) fs) l c o g),
      )
