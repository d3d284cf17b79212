-- Steps that wait under a frame.
use Rattle.std.proofs.Common.{◌≡◌, ℕ, zero, suc, true, false, List, [], ◌∷◌, Option, Some, None, drop, refl, sym, ap, ◌∙◌}
use Rattle.ccr_pipeline.specs.declared.step.When.{When}
use Rattle.ccr_pipeline.specs.Tree.{Tree, Trees, in_order, in_parallel, tried, attempts, hook, trees_of}
use Rattle.ccr_steps.specs.declared.outcome.Outcome.{Outcome}
use Rattle.ccr_steps.specs.declared.frame.Frame.{Frame}
use Rattle.ccr_steps.specs.declared.frame.Frame.TheVariants.{At, In, Left, Hook}
use Rattle.ccr_steps.specs.Asks.{Chosen}
use Rattle.ccr_steps.specs.Gains.{GainsData}
use Rattle.ccr_steps.specs.Play.{Play, Going, and_then, after_do, and_worse_end, and_worst, after_try, after_hooked, play, play_in_order, play_all}
use Rattle.ccr_steps.specs.Frames.{LeafData, first, leaf_play, leaf_at, leaf_in, goes_on, goes_on_in_order, goes_on_all, more_tries, waiting_in, waiting, Waits, Came, CameUnder}
use Rattle.ccr_steps.proofs.Joining.{then_then, then_same}

-- below a frame a step goes on as the one in it does, and then so
abbrev pub Under : Frame → Tree → Tree → (Chosen → Outcome → Going) → Type 0
Under f t T n = ((fs : List Frame) → leaf_at T (f ∷ fs) ≡ leaf_at t fs) × ((c : Chosen) (fs : List Frame) (o : Outcome) (h : GainsData) → goes_on c T (f ∷ fs) o h ≡ and_then (goes_on c t fs o h) (n c))

under_waits : (c : Chosen) (f : Frame) (t T : Tree) (n : Chosen → Outcome → Going) (fs : List Frame) (l : LeafData) → Under f t T n → Waits c t fs l → Waits c T (f ∷ fs) l
under_waits c f t T n fs l u (s, at, some) = (s, u.0 fs ∙ at, some)

under_waiting : (c : Chosen) (f : Frame) (t T : Tree) (n : Chosen → Outcome → Going) (fs : List Frame) (l : LeafData) (g : GainsData) → Under f t T n → Waits c t fs l → waiting c T (f ∷ fs) l g ≡ and_then (waiting c t fs l g) (n c)
under_waiting c f t T n fs l g u (s, at, some) =
    ap (λ x. waiting_in c x l (goes_on c T (f ∷ fs)) g) (u.0 fs ∙ at)
    ∙ then_same (leaf_play c s l g) (goes_on c T (f ∷ fs)) (λ o. λ h. and_then (goes_on c t fs o h) (n c)) (u.1 c fs)
    ∙ sym (then_then (leaf_play c s l g) (goes_on c t fs) (n c))
    ∙ sym (ap (λ x. and_then (waiting_in c x l (goes_on c t fs) g) (n c)) at)

-- what waits under a frame waits in the step round it
pub came_under : (p q : Chosen → Play) (f : Frame) (t T : Tree) (n : Chosen → Outcome → Going) (g : GainsData) (old new : List Frame) (r : Option Outcome) → Under f t T n → ((c : Chosen) → q c ≡ and_then (p c) (n c)) → r ≡ None → CameUnder f p t g old new r → Came q T g old new None
came_under p q f t T n g old new (Some o) u e none came = absurd (cc (none))
came_under p q f t T n g old new None u e none (added, is, waits) =
    (f ∷ added, is, λ c. (under_waits c f t T n added first u (waits c).0, e c ∙ ap (λ x. and_then x (n c)) (waits c).1 ∙ sym (under_waiting c f t T n added first g u (waits c).0)))

-- what ended under a frame goes on in the step round it
pub ended_under : (p q : Chosen → Play) (f : Frame) (t : Tree) (n : Chosen → Outcome → Going) (g : GainsData) (old new : List Frame) (r : Option Outcome) (o : Outcome) → ((c : Chosen) → q c ≡ and_then (p c) (n c)) → r ≡ Some o → CameUnder f p t g old new r → (new ≡ old) × ((c : Chosen) → q c ≡ n c o g)
ended_under p q f t n g old new None o e some came = absurd (cc (some))
ended_under p q f t n g old new (Some u) o e some came =
    let same : u ≡ o = cc (some) in
    (came.0, λ c. e c ∙ ap (λ x. and_then x (n c)) (came.1 c) ∙ ap (λ x. n c x g) same)

pub under_try : (t : Tree) → Under In t (tried t) (λ c. after_try)
under_try t = (λ fs. refl, λ c fs o h. refl)

pub under_tries : (k n : ℕ) (t : Tree) → Under (Left k) t (attempts n t) (λ c. more_tries k (play c t))
under_tries k n t = (λ fs. refl, λ c fs o h. refl)

pub under_step : (w : When) (t h : Tree) → Under In t (hook w t h) (λ c. after_hooked w (play c h))
under_step w t h = (λ fs. refl, λ c fs o g. refl)

pub under_hook : (w : When) (t h : Tree) (end : Outcome) → Under (Hook end) h (hook w t h) (λ c. and_worse_end end)
under_hook w t h end = (λ fs. refl, λ c fs o g. refl)

leaf_there : (ts : List Tree) (k : ℕ) (t : Tree) (rest : List Tree) → drop k ts ≡ t ∷ rest → (fs : List Frame) → leaf_in (trees_of ts) k fs ≡ leaf_at t fs
leaf_there [] zero t rest e fs = absurd (cc (e))
leaf_there [] (suc k) t rest e fs = absurd (cc (e))
leaf_there (x ∷ xs) zero t rest e fs = let head : x ≡ t = cc (e) in ap (λ y. leaf_at y fs) head
leaf_there (x ∷ xs) (suc k) t rest e fs = leaf_there xs k t rest e fs

in_order_there : (ts : List Tree) (k : ℕ) (t : Tree) (rest : List Tree) → drop k ts ≡ t ∷ rest → (c : Chosen) (fs : List Frame) (o : Outcome) (g : GainsData) → goes_on_in_order c (trees_of ts) k fs o g ≡ and_then (goes_on c t fs o g) (after_do (play_in_order c (trees_of rest)))
in_order_there [] zero t rest e c fs o g = absurd (cc (e))
in_order_there [] (suc k) t rest e c fs o g = absurd (cc (e))
in_order_there (x ∷ xs) zero t rest e c fs o g =
    let head : x ≡ t = cc (e) in
    let tail : xs ≡ rest = cc (e) in
    ap (λ y. and_then (goes_on c y fs o g) (after_do (play_in_order c (trees_of xs)))) head ∙ ap (λ ys. and_then (goes_on c t fs o g) (after_do (play_in_order c (trees_of ys)))) tail
in_order_there (x ∷ xs) (suc k) t rest e c fs o g = in_order_there xs k t rest e c fs o g

all_there : (worst : Outcome) (ts : List Tree) (k : ℕ) (t : Tree) (rest : List Tree) → drop k ts ≡ t ∷ rest → (c : Chosen) (fs : List Frame) (o : Outcome) (g : GainsData) → goes_on_all c worst (trees_of ts) k fs o g ≡ and_then (goes_on c t fs o g) (and_worst worst (play_all c (trees_of rest)))
all_there worst [] zero t rest e c fs o g = absurd (cc (e))
all_there worst [] (suc k) t rest e c fs o g = absurd (cc (e))
all_there worst (x ∷ xs) zero t rest e c fs o g =
    let head : x ≡ t = cc (e) in
    let tail : xs ≡ rest = cc (e) in
    ap (λ y. and_then (goes_on c y fs o g) (and_worst worst (play_all c (trees_of xs)))) head ∙ ap (λ ys. and_then (goes_on c t fs o g) (and_worst worst (play_all c (trees_of ys)))) tail
all_there worst (x ∷ xs) (suc k) t rest e c fs o g = all_there worst xs k t rest e c fs o g

pub under_at : (ts : List Tree) (k : ℕ) (t : Tree) (rest : List Tree) (worst : Outcome) → drop k ts ≡ t ∷ rest → Under (At k worst) t (in_order (trees_of ts)) (λ c. after_do (play_in_order c (trees_of rest)))
under_at ts k t rest worst e = (leaf_there ts k t rest e, in_order_there ts k t rest e)

pub under_all : (ts : List Tree) (k : ℕ) (t : Tree) (rest : List Tree) (worst : Outcome) → drop k ts ≡ t ∷ rest → Under (At k worst) t (in_parallel (trees_of ts) false) (λ c. and_worst worst (play_all c (trees_of rest)))
under_all ts k t rest worst e = (leaf_there ts k t rest e, all_there worst ts k t rest e)

-- with fail_fast an in_parallel is as a do
pub came_fast : (p : Chosen → Play) (ts : Trees) (g : GainsData) (old new : List Frame) (r : Option Outcome) → Came p (in_order ts) g old new r → Came p (in_parallel ts true) g old new r
came_fast p ts g old new (Some o) came = came
came_fast p ts g old new None ([], is, waits) = ([], is, waits)
came_fast p ts g old new None (At k worst ∷ added, is, waits) = (At k worst ∷ added, is, waits)
came_fast p ts g old new None (In ∷ added, is, waits) = (In ∷ added, is, waits)
came_fast p ts g old new None (Left k ∷ added, is, waits) = (Left k ∷ added, is, waits)
came_fast p ts g old new None (Hook o ∷ added, is, waits) = (Hook o ∷ added, is, waits)
