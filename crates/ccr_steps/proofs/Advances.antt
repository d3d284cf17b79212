-- Steps that go on below a frame.
use Rattle.std.proofs.Common.{arith, ◌≡◌, ℕ, suc, ◌+◌, ◌<◌, ◌≤◌, true, false, List, [], ◌∷◌, ◌++◌, Option, Some, None, is_some, take, drop, map, length, get_or, refl, sym, ap, ◌∙◌, subst, append_assoc}
use mathlib.Core.Path.{fun_ext}
use Rattle.std.specs.Prelude.{slice_get}
use Rattle.std.proofs.lemmas.List.{take-take}
use Rattle.ccr_pipeline.specs.declared.step.When.{When}
use Rattle.ccr_pipeline.specs.declared.step.Step.{Step}
use Rattle.ccr_pipeline.specs.Tree.{Tree, in_order, in_parallel, tried, attempts, hook, Trees, trees_of, tree_of}
use Rattle.ccr_steps.specs.declared.outcome.Outcome.{Outcome}
use Rattle.ccr_steps.specs.declared.outcome.Outcome.TheVariants.{Succeeded, Failed, Errored, Aborted}
use Rattle.ccr_steps.specs.declared.frame.Frame.{Frame}
use Rattle.ccr_steps.specs.declared.frame.Frame.TheVariants.{At, In, Left, Hook}
use Rattle.ccr_steps.specs.Asks.{Chosen}
use Rattle.ccr_steps.specs.Gains.{GainsData}
use Rattle.ccr_steps.specs.Means.{worse}
use Rattle.ccr_steps.specs.Play.{Play, ended, Going, and_then, after_do, and_worse_end, and_worst, after_try, after_hooked, play, play_in_order, play_all}
use Rattle.ccr_steps.specs.Frames.{leaf_at, goes_on, more_tries, Came, CameUnder, is_succeeded, is_aborted, tried_outcome}
use Rattle.ccr_steps.proofs.Joining.{worst_then, worst_last}
use Rattle.ccr_steps.proofs.Under.{Under, came_under, ended_under, under_try, under_tries, under_step, under_hook, under_at, under_all, came_fast}
use Rattle.ccr_steps.proofs.Begins.{list_cut, try_some}
use Rattle.ccr_steps.proofs.Paths.{drop_there, take_there, past_lost}

module _ (f : Frame) (t : Tree) (p : Chosen → Play) (g : GainsData) (old : List Frame) (level : ℕ) (at : slice_get old level ≡ Some f) (now new : List Frame) where
  pub advanced_then : (r : Option Outcome) → is_some r ≡ true → new ≡ take level now → Came p t g (take (level + 1) old) now r → CameUnder f p t g (take level old) new r
  advanced_then None some e came = absurd (cc (some))
  advanced_then (Some o) some e came = (e ∙ ap (take level) came.0 ∙ take-take level (level + 1) old (omega arith), came.1)

  pub advanced_else : (r : Option Outcome) → is_some r ≡ false → Came p t g (take (level + 1) old) now r → CameUnder f p t g (take level old) now r
  advanced_else (Some o) some came = absurd (cc (some))
  advanced_else None some (added, is, waits) = (added, is ∙ ap (λ l. l ++ added) (take_there old level f at) ∙ append_assoc (take level old) (f ∷ []) added, waits)

-- the play above a frame, by the one below
abbrev pub Above : Tree → Tree → List Frame → ℕ → Outcome → GainsData → (Chosen → Outcome → Going) → Type 0
Above T t old level o g n = (c : Chosen) → goes_on c T (drop level old) o g ≡ and_then (goes_on c t (drop (level + 1) old) o g) (n c)

pub above : (f : Frame) (t T : Tree) (n : Chosen → Outcome → Going) (old : List Frame) (level : ℕ) (o : Outcome) (g : GainsData) → Under f t T n → slice_get old level ≡ Some f → Above T t old level o g n
above f t T n old level o g u at c = ap (λ fs. goes_on c T fs o g) (drop_there old level f at) ∙ u.1 c (drop (level + 1) old) o g

-- what comes next, where the play above is another
pub came_next : (p q : Chosen → Play) (T : Tree) (g : GainsData) (old mid new : List Frame) (s : Option Outcome) → (mid ≡ old) × ((c : Chosen) → q c ≡ p c) → Came p T g mid new s → Came q T g old new s
came_next p q T g old mid new s (m, e) came = subst (λ l. Came q T g l new s) m (subst (λ h. Came h T g mid new s) (fun_ext (λ c. sym (e c))) came)

-- a path that leads to no step ends errored
pub came_lost : (T : Tree) (old : List Frame) (level : ℕ) (o : Outcome) (g : GainsData) (new : List Frame) (r : Option Outcome) → r ≡ Some Errored → new ≡ take level old → ((c : Chosen) → goes_on c T (drop level old) o g ≡ ended Errored g) → Came (λ c. goes_on c T (drop level old) o g) T g (take level old) new r
came_lost T old level o g new None r n e = absurd (cc (r))
came_lost T old level o g new (Some u) r n e = let one : Errored ≡ u = cc (r) in (n, λ c. e c ∙ ap (λ x. ended x g) one)

module _ (old : List Frame) (level : ℕ) (o : Outcome) (g : GainsData) (new : List Frame) (r : Option Outcome) where
  abbrev pub below : Tree → Chosen → Play
  below t c = goes_on c t (drop (level + 1) old) o g

  abbrev pub whole : Tree → Chosen → Play
  whole T c = goes_on c T (drop level old) o g

  module _ (f : Frame) (t T : Tree) (n : Chosen → Outcome → Going) (u : Under f t T n) (at : slice_get old level ≡ Some f) where
    pub goes_none : r ≡ None → CameUnder f (below t) t g (take level old) new r → Came (whole T) T g (take level old) new None
    goes_none none came = came_under (below t) (whole T) f t T n g (take level old) new r u (above f t T n old level o g u at) none came

    pub goes_some : (end : Outcome) → r ≡ Some end → CameUnder f (below t) t g (take level old) new r → (new ≡ take level old) × ((c : Chosen) → whole T c ≡ n c end g)
    goes_some end some came = ended_under (below t) (whole T) f t n g (take level old) new r end (above f t T n old level o g u at) some came

  pub try_goes_some : (t : Tree) (end : Outcome) → slice_get old level ≡ Some In → r ≡ Some end → CameUnder In (below t) t g (take level old) new r → Came (whole (tried t)) (tried t) g (take level old) new (Some (tried_outcome end))
  try_goes_some t end at some came = try_some (below t) t (whole (tried t)) g (take level old) new r end (above In t (tried t) (λ c. after_try) old level o g (under_try t) at) some came

  module _ (steps : List Step) (k : ℕ) (s : Step) (worst : Outcome) (l : k < length steps) (is : s ≡ get_or steps k s) (at : slice_get old level ≡ Some (At k worst)) where
    pub in_order_goes_none : r ≡ None → CameUnder (At k worst) (below (tree_of s)) (tree_of s) g (take level old) new r → Came (whole (in_order (trees_of (map tree_of steps)))) (in_order (trees_of (map tree_of steps))) g (take level old) new None
    in_order_goes_none none came = goes_none (At k worst) (tree_of s) (in_order (trees_of (map tree_of steps))) (λ c. after_do (play_in_order c (trees_of (map tree_of (drop (k + 1) steps))))) (under_at (map tree_of steps) k (tree_of s) (map tree_of (drop (k + 1) steps)) worst (list_cut steps k s l is)) at none came

    pub in_order_goes_some : (end : Outcome) → r ≡ Some end → CameUnder (At k worst) (below (tree_of s)) (tree_of s) g (take level old) new r → (new ≡ take level old) × ((c : Chosen) → whole (in_order (trees_of (map tree_of steps))) c ≡ after_do (play_in_order c (trees_of (map tree_of (drop (k + 1) steps)))) end g)
    in_order_goes_some end some came = goes_some (At k worst) (tree_of s) (in_order (trees_of (map tree_of steps))) (λ c. after_do (play_in_order c (trees_of (map tree_of (drop (k + 1) steps))))) (under_at (map tree_of steps) k (tree_of s) (map tree_of (drop (k + 1) steps)) worst (list_cut steps k s l is)) at end some came

    pub all_goes_none : r ≡ None → CameUnder (At k worst) (below (tree_of s)) (tree_of s) g (take level old) new r → Came (whole (in_parallel (trees_of (map tree_of steps)) false)) (in_parallel (trees_of (map tree_of steps)) false) g (take level old) new None
    all_goes_none none came = goes_none (At k worst) (tree_of s) (in_parallel (trees_of (map tree_of steps)) false) (λ c. and_worst worst (play_all c (trees_of (map tree_of (drop (k + 1) steps))))) (under_all (map tree_of steps) k (tree_of s) (map tree_of (drop (k + 1) steps)) worst (list_cut steps k s l is)) at none came

    all_ends : (end : Outcome) → r ≡ Some end → CameUnder (At k worst) (below (tree_of s)) (tree_of s) g (take level old) new r → (new ≡ take level old) × ((c : Chosen) → whole (in_parallel (trees_of (map tree_of steps)) false) c ≡ and_worst worst (play_all c (trees_of (map tree_of (drop (k + 1) steps)))) end g)
    all_ends end some came = goes_some (At k worst) (tree_of s) (in_parallel (trees_of (map tree_of steps)) false) (λ c. and_worst worst (play_all c (trees_of (map tree_of (drop (k + 1) steps))))) (under_all (map tree_of steps) k (tree_of s) (map tree_of (drop (k + 1) steps)) worst (list_cut steps k s l is)) at end some came

    pub all_goes_some : (end : Outcome) → is_aborted end ≡ false → r ≡ Some end → CameUnder (At k worst) (below (tree_of s)) (tree_of s) g (take level old) new r → (new ≡ take level old) × ((c : Chosen) → whole (in_parallel (trees_of (map tree_of steps)) false) c ≡ and_then (play_all c (trees_of (map tree_of (drop (k + 1) steps))) g) (and_worse_end (worse worst end)))
    all_goes_some end on some came =
        let got = all_ends end some came in
        (got.0, λ c. got.1 c ∙ worst_then (play_all c (trees_of (map tree_of (drop (k + 1) steps)))) worst end g on)

    pub all_goes_last : (end : Outcome) → is_aborted end ≡ true → r ≡ Some end → CameUnder (At k worst) (below (tree_of s)) (tree_of s) g (take level old) new r → (new ≡ take level old) × ((c : Chosen) → whole (in_parallel (trees_of (map tree_of steps)) false) c ≡ ended end g)
    all_goes_last end off some came =
        let got = all_ends end some came in
        (got.0, λ c. got.1 c ∙ worst_last (play_all c (trees_of (map tree_of (drop (k + 1) steps)))) worst end g off)

-- a step that goes on is one of its tree
pub advanced_at : (T t : Tree) (old : List Frame) (level : ℕ) (o : Outcome) (g : GainsData) (new : List Frame) (r : Option Outcome) → T ≡ t → Came (λ c. goes_on c t (drop level old) o g) t g (take level old) new r → Came (λ c. goes_on c T (drop level old) o g) T g (take level old) new r
advanced_at T t old level o g new r e came = subst (λ x. Came (λ c. goes_on c x (drop level old) o g) x g (take level old) new r) (sym e) came

fast_goes : (ts : Trees) (fs : List Frame) (c : Chosen) (o : Outcome) (g : GainsData) → goes_on c (in_parallel ts true) fs o g ≡ goes_on c (in_order ts) fs o g
fast_goes ts [] c o g = refl
fast_goes ts (At k worst ∷ fs) c o g = refl
fast_goes ts (In ∷ fs) c o g = refl
fast_goes ts (Left k ∷ fs) c o g = refl
fast_goes ts (Hook end ∷ fs) c o g = refl

pub advanced_fast : (T : Tree) (ts : Trees) (old : List Frame) (level : ℕ) (o : Outcome) (g : GainsData) (new : List Frame) (r : Option Outcome) → T ≡ in_parallel ts true → Came (λ c. goes_on c (in_order ts) (drop level old) o g) (in_order ts) g (take level old) new r → Came (λ c. goes_on c T (drop level old) o g) T g (take level old) new r
advanced_fast T ts old level o g new r e came =
    advanced_at T (in_parallel ts true) old level o g new r e
    (subst (λ p. Came p (in_parallel ts true) g (take level old) new r) (fun_ext (λ c. sym (fast_goes ts (drop level old) c o g)))
    (came_fast (λ c. goes_on c (in_order ts) (drop level old) o g) ts g (take level old) new r came))

-- a hook that ended
pub hook_goes_some : (w : When) (t h : Tree) (old : List Frame) (level : ℕ) (o : Outcome) (g : GainsData) (new : List Frame) (r : Option Outcome) (first end : Outcome) → slice_get old level ≡ Some (Hook first) → r ≡ Some end → CameUnder (Hook first) (λ c. goes_on c h (drop (level + 1) old) o g) h g (take level old) new r → Came (λ c. goes_on c (hook w t h) (drop level old) o g) (hook w t h) g (take level old) new (Some (worse first end))
hook_goes_some w t h old level o g new r first end at some came = goes_some old level o g new r (Hook first) h (hook w t h) (λ c. and_worse_end first) (under_hook w t h first) at end some came

length_trees : (steps : List Step) → length (map tree_of steps) ≡ length steps
length_trees [] = refl
length_trees (s ∷ ss) = ap (λ n. suc n) (length_trees ss)

-- a place past the end of a list
pub past_steps : (fs : List Frame) (level : ℕ) (steps : List Step) (k : ℕ) (worst : Outcome) → slice_get fs level ≡ Some (At k worst) → length steps ≤ k → (leaf_at (in_order (trees_of (map tree_of steps))) (drop level fs) ≡ None) × ((c : Chosen) (o : Outcome) (g : GainsData) → (goes_on c (in_order (trees_of (map tree_of steps))) (drop level fs) o g ≡ ended Errored g) × (goes_on c (in_parallel (trees_of (map tree_of steps)) false) (drop level fs) o g ≡ ended Errored g))
past_steps fs level steps k worst at l = let n = length_trees steps in past_lost fs level (map tree_of steps) k worst at (omega arith)

-- what doesn't succeed ends a do
pub not_done : (more : Going) (o : Outcome) (g : GainsData) → is_succeeded o ≡ false → after_do more o g ≡ ended o g
not_done more Succeeded g n = absurd (cc (n))
not_done more Failed g n = refl
not_done more Errored g n = refl
not_done more Aborted g n = refl

pub is_done : (more : Going) (o : Outcome) (g : GainsData) → is_succeeded o ≡ true → after_do more o g ≡ more g
is_done more Succeeded g e = refl
is_done more Failed g e = absurd (cc (e))
is_done more Errored g e = absurd (cc (e))
is_done more Aborted g e = absurd (cc (e))

-- the step at the end of a path, a level further down
down : (f : Frame) (t T : Tree) (n : Chosen → Outcome → Going) (fs : List Frame) (level : ℕ) → Under f t T n → slice_get fs level ≡ Some f → leaf_at T (drop level fs) ≡ leaf_at t (drop (level + 1) fs)
down f t T n fs level u at = ap (leaf_at T) (drop_there fs level f at) ∙ u.0 (drop (level + 1) fs)

pub down_try : (t : Tree) (fs : List Frame) (level : ℕ) → slice_get fs level ≡ Some In → leaf_at (tried t) (drop level fs) ≡ leaf_at t (drop (level + 1) fs)
down_try t fs level at = down In t (tried t) (λ c. after_try) fs level (under_try t) at

pub down_tries : (k n : ℕ) (t : Tree) (fs : List Frame) (level : ℕ) → slice_get fs level ≡ Some (Left k) → leaf_at (attempts n t) (drop level fs) ≡ leaf_at t (drop (level + 1) fs)
down_tries k n t fs level at = down (Left k) t (attempts n t) (λ c. more_tries k (play c t)) fs level (under_tries k n t) at

pub down_step : (w : When) (t h : Tree) (fs : List Frame) (level : ℕ) → slice_get fs level ≡ Some In → leaf_at (hook w t h) (drop level fs) ≡ leaf_at t (drop (level + 1) fs)
down_step w t h fs level at = down In t (hook w t h) (λ c. after_hooked w (play c h)) fs level (under_step w t h) at

pub down_hook : (w : When) (t h : Tree) (end : Outcome) (fs : List Frame) (level : ℕ) → slice_get fs level ≡ Some (Hook end) → leaf_at (hook w t h) (drop level fs) ≡ leaf_at h (drop (level + 1) fs)
down_hook w t h end fs level at = down (Hook end) h (hook w t h) (λ c. and_worse_end end) fs level (under_hook w t h end) at

pub down_list : (steps : List Step) (k : ℕ) (s : Step) (worst : Outcome) → k < length steps → s ≡ get_or steps k s → (fs : List Frame) (level : ℕ) → slice_get fs level ≡ Some (At k worst) → leaf_at (in_order (trees_of (map tree_of steps))) (drop level fs) ≡ leaf_at (tree_of s) (drop (level + 1) fs)
down_list steps k s worst l is fs level at = down (At k worst) (tree_of s) (in_order (trees_of (map tree_of steps))) (λ c. after_do (play_in_order c (trees_of (map tree_of (drop (k + 1) steps))))) fs level (under_at (map tree_of steps) k (tree_of s) (map tree_of (drop (k + 1) steps)) worst (list_cut steps k s l is)) at
