-- The resource that a step's ask names is one of the plan's.
use Rattle.std.proofs.Common.{◌≡◌, List, [], ◌∷◌, ◌++◌, Bool, true, false, ◌||◌, Option, Some, None, refl, sym, subst}
use Rattle.std.proofs.lemmas.Cmp.{nat_list_eq_equiv}
use Rattle.std.proofs.lemmas.List.Folds.{list_any-append}
use Rattle.std.specs.Option.{IfSome}
use Rattle.ccr_pipeline.specs.Links.{own_resource, used_resources}
use Rattle.ccr_pipeline.specs.Names.{has_name}
use Rattle.ccr_pipeline.specs.Tree.{Text, SourceData, config, file, Tree, get, put, task, in_order, in_parallel, tried, attempts, hook, gathered_in}
use Rattle.ccr_steps.specs.declared.frame.Frame.{Frame}
use Rattle.ccr_steps.specs.Asks.{AskData, Exchange, Chosen, ask_resource, NamesResourceOf, get_ask, put_ask, pushed_ask}
use Rattle.ccr_steps.specs.Frames.{LeafData, first, fetching, running, source_ask, leaf_ask, leaf_at}
use Rattle.ccr_steps.specs.Moments.{step_at}
use Rattle.ccr_steps.specs.Runs.{RunData, StandsFor}
use Rattle.ccr_steps.proofs.Standing.{step_leaf}
use Rattle.ccr_steps.proofs.Upwards.{GoesUp, goes_up}

or_right : (a b : Bool) → b ≡ true → (a || b) ≡ true
or_right true b e = refl
or_right false b e = e

pub in_left : (xs ys : List Text) (r : Text) → has_name xs r ≡ true → has_name (xs ++ ys) r ≡ true
in_left xs ys r h = rw (list_any-append, h) refl

pub in_right : (xs ys : List Text) (r : Text) → has_name ys r ≡ true → has_name (xs ++ ys) r ≡ true
in_right xs ys r h = rw list_any-append (or_right (has_name xs r) (has_name ys r) h)

-- that a resource is one of a step's goes up to the steps round it
resource_up : (r : Text) → GoesUp (λ t. has_name (used_resources t) r ≡ true) (λ ts. has_name (gathered_in own_resource ts) r ≡ true)
resource_up r = record {
  ordered = λ ts h. h;
  parallel = λ ts fast h. h;
  trying = λ t h. h;
  again = λ n t h. h;
  hooked = λ w t h is. in_left (used_resources t) (used_resources h) r is;
  hooks = λ w t h is. in_right (used_resources t) (used_resources h) r is;
  here = λ t ts is. in_left (used_resources t) (gathered_in own_resource ts) r is;
  later = λ t ts is. in_right (used_resources t) (gathered_in own_resource ts) r is;
}

pub only : (r : Text) → has_name (r ∷ []) r ≡ true
only r = rw (nat_list_eq_equiv.refl r) refl

of_source : (t : Tree) (source : SourceData) (env : List (Text × Text)) → NamesResourceOf t (source_ask source env)
of_source t (config k) env = tt
of_source t (file path) env = tt

is_ask : (t : Tree) (a b : AskData) → ◌≡◌ {A = Option AskData} (Some a) (Some b) → NamesResourceOf t a → NamesResourceOf t b
is_ask t a b e h =
    let same : a ≡ b = cc (e) in
    subst (NamesResourceOf t) same h

-- what a step asks names its own resource
asked : (c : Chosen) (s : Tree) (l : LeafData) (a : AskData) → leaf_ask c s l ≡ Some a → NamesResourceOf s a
asked c (get d) first a e = is_ask (get d) (get_ask c d) a e (only d.resource)
asked c (get d) (fetching v) a e = absurd (cc (e))
asked c (get d) (running k) a e = absurd (cc (e))
asked c (put p) first a e = is_ask (put p) (put_ask p) a e (only p.resource)
asked c (put p) (fetching v) a e = is_ask (put p) (pushed_ask p v) a e (only p.resource)
asked c (put p) (running k) a e = absurd (cc (e))
asked c (task t) first a e = is_ask (task t) (source_ask t.source t.params) a e (of_source (task t) t.source t.params)
asked c (task t) (fetching v) a e = absurd (cc (e))
asked c (task t) (running k) a e = is_ask (task t) _ a e tt
asked c (in_order ts) l a e = absurd (cc (e))
asked c (in_parallel ts fast) l a e = absurd (cc (e))
asked c (tried t) l a e = absurd (cc (e))
asked c (attempts n t) l a e = absurd (cc (e))
asked c (hook w t h) l a e = absurd (cc (e))

-- what a step at the end of a path asks names a resource of the whole
inside : (t : Tree) (fs : List Frame) (s : Tree) → leaf_at t fs ≡ Some s → (o : Option Text) → IfSome o (λ r. has_name (used_resources s) r ≡ true) → IfSome o (λ r. has_name (used_resources t) r ≡ true)
inside t fs s e None h = tt
inside t fs s e (Some r) h = goes_up _ _ (resource_up r) t fs s e h

-- what a build wants names a resource of its plan
pub stands_names : (r : RunData) (plan : Tree) (inputs : Chosen) (es : List Exchange) (s : Tree) (o : Option AskData) → step_at r.at r.plan ≡ Some s → o ≡ leaf_ask r.inputs s r.at.leaf → StandsFor r plan inputs es → IfSome o (NamesResourceOf plan)
stands_names r plan inputs es s None at e st = tt
stands_names r plan inputs es s (Some a) at e st =
    subst (λ t. NamesResourceOf t a) st.0 (inside r.plan r.at.frames s (step_leaf r.at.outcome r.at r.plan s at) (ask_resource a) (asked r.inputs s r.at.leaf a (sym e)))
