-- Parts of calls, one after another.
use Rattle.std.proofs.Common.{◌≡◌, ◌++◌, ℕ, List, [], ◌∷◌, Bool, true, false, Option, None, option_to_list, refl, sym, ◌∙◌, ap, subst, append-nil, append_assoc, inl, inr}
use Rattle.ccr_process.specs.Runs.{Pair}
use Rattle.ccr_core.specs.State.{State}
use Rattle.ccr_task.specs.Calls.{CallData}
use Rattle.ccr_serve.specs.Items.{Loss, no_loss, World, Item, Done, Serve, Each, Part, Items, Then, pairs_of, lines_of_all}
use Rattle.ccr_serve.specs.Taken.{taken_in}
use Rattle.ccr_serve.specs.Views.{View, world_of, IsReady, HasAsked, StandsAt, Called, Calls}
use Rattle.ccr_serve.proofs.Commits.{taken_in-append, rose_none, asked_none, asked_then}
use Rattle.ccr_serve.proofs.Crash.{leaves_ready}

pub pairs_of-append : (ds es : List Done) → pairs_of (ds ++ es) ≡ pairs_of ds ++ pairs_of es
pairs_of-append [] es = refl
pairs_of-append (d ∷ ds) es =
    ap (λ ps. option_to_list d.pair ++ ps) (pairs_of-append ds es)
    ∙ sym (append_assoc (option_to_list d.pair) (pairs_of ds) (pairs_of es))

pub lines_of_all-append : (ds es : List Done) → lines_of_all (ds ++ es) ≡ lines_of_all ds ++ lines_of_all es
lines_of_all-append [] es = refl
lines_of_all-append (d ∷ ds) es =
    ap (λ ls. d.lines ++ ls) (lines_of_all-append ds es)
    ∙ sym (append_assoc d.lines (lines_of_all ds) (lines_of_all es))

-- items, and then others
pub each-append : (S : Serve) (is js : List Item) (old mid new : World) (ds es : List Done)
    → Each S is old ds mid → Each S js mid es new → Each S (is ++ js) old (ds ++ es) new
each-append S [] js old mid new [] es a b = subst (λ w. Each S js w es new) a b
each-append S [] js old mid new (d ∷ ds) es a b = absurd a
each-append S (i ∷ is) js old mid new [] es a b = absurd a
each-append S (i ∷ is) js old mid new (d ∷ ds) es (w, one, rest) b =
    (w, one, each-append S is js w mid new ds es rest b)

abbrev world_at : State → ℕ → List CallData → Loss → World
world_at s last calls lost = record { core = s; last = last; calls = calls; lost = lost }

-- a server that stands for a world's state is there
pub at_world : (v : View) (w : World) → v.last ≡ w.last → v.calls ≡ w.calls → w.lost ≡ no_loss → world_of v w.core ≡ w
at_world v w last calls lost =
    ap (λ n. world_at w.core n v.calls no_loss) last
    ∙ (ap (λ cs. world_at w.core w.last cs no_loss) calls ∙ ap (λ o. world_at w.core w.last w.calls o) (sym lost))

module _ (A B : Part) (v0 v1 v2 : View) (s : State) (whole : Bool) where
  pub called_then : (a : Called A v0 s true v1) → Called B v1 a.now.core whole v2 → Called (Then A B) v0 s whole v2
  called_then a b = record {
    dones = a.dones ++ b.dones;
    now = b.now;
    does = both whole
        (subst (λ w. B w b.dones whole b.now) (at_world v1 a.now a.stands.2 a.calls a.few) b.does);
    pairs = pairs;
    few = b.few;
    calls = b.calls;
    commits = subst (λ n. HasAsked whole v0.tally.commits n v2.tally.commits)
        (sym (taken_in-append a.dones b.dones))
        (asked_then whole v0.tally.commits (taken_in a.dones) v1.tally.commits (taken_in b.dones) v2.tally.commits
        a.commits b.commits);
    lines = b.lines
        ∙ (ap (λ ls. ls ++ lines_of_all b.dones) a.lines
        ∙ (append_assoc v0.lines (lines_of_all a.dones) (lines_of_all b.dones)
        ∙ ap (λ ls. v0.lines ++ ls) (sym (lines_of_all-append a.dones b.dones))));
    holds = b.holds;
    crash = b.crash;
    stands = b.stands;
  } where
    both : (whole : Bool) → B a.now b.dones whole b.now
        → Then A B (world_of v0 s) (a.dones ++ b.dones) whole b.now
    both true second = record {
      mid = a.now;
      front = a.dones;
      back = b.dones;
      first = a.does;
      second = second;
      joined = refl;
    }
    both false second = inr (record {
      mid = a.now;
      front = a.dones;
      back = b.dones;
      first = a.does;
      second = second;
      joined = refl;
    })

    first : v1.pairs ≡ v0.pairs ++ pairs_of a.dones
    first = a.pairs
        ∙ ap (λ ps. v0.pairs ++ ps)
        (ap (λ (o : Loss). pairs_of a.dones ++ option_to_list o.pair) a.few ∙ append-nil (pairs_of a.dones))

    pairs : v2.pairs ≡ v0.pairs ++ (pairs_of (a.dones ++ b.dones) ++ option_to_list b.now.lost.pair)
    pairs = b.pairs
        ∙ (ap (λ ps. ps ++ (pairs_of b.dones ++ option_to_list b.now.lost.pair)) first
        ∙ (append_assoc v0.pairs (pairs_of a.dones) (pairs_of b.dones ++ option_to_list b.now.lost.pair)
        ∙ ap (λ ps. v0.pairs ++ ps)
        (sym (append_assoc (pairs_of a.dones) (pairs_of b.dones) (option_to_list b.now.lost.pair))
        ∙ ap (λ ps. ps ++ option_to_list b.now.lost.pair) (sym (pairs_of-append a.dones b.dones)))))

-- one call after another is a call of both
pub calls_then : {A B : Part} {v0 v1 v2 : View} {whole : Bool} → Calls A v0 true v1 → Calls B v1 whole v2
    → Calls (Then A B) v0 whole v2
calls_then {A} {B} {v0} {v1} {v2} {whole} a b = record {
  from = λ s h. called_then A B v0 v1 v2 s whole (a.from s h) (b.from (a.from s h).now.core (a.from s h).stands.1);
}

-- what was done of the one part does the other
pub called_to : (A B : Part) (v0 v1 : View) (s : State) (whole : Bool) (c : Called A v0 s whole v1)
    → B (world_of v0 s) c.dones whole c.now → Called B v0 s whole v1
called_to A B v0 v1 s whole c does = record {
  dones = c.dones;
  now = c.now;
  does = does;
  pairs = c.pairs;
  few = c.few;
  calls = c.calls;
  commits = c.commits;
  lines = c.lines;
  holds = c.holds;
  crash = c.crash;
  stands = c.stands;
}

-- what does the one part there does the other
pub called_as : (A B : Part) (v0 v1 : View) (s : State) (whole : Bool)
    → ((ds : List Done) (new : World) → A (world_of v0 s) ds whole new → B (world_of v0 s) ds whole new)
    → Called A v0 s whole v1 → Called B v0 s whole v1
called_as A B v0 v1 s whole f c = called_to A B v0 v1 s whole c (f c.dones c.now c.does)

-- what does the one part does the other
pub calls_as : (A B : Part) {v0 v1 : View} {whole : Bool}
    → ((old : World) (ds : List Done) (new : World) → A old ds whole new → B old ds whole new)
    → Calls A v0 whole v1 → Calls B v0 whole v1
calls_as A B {v0} {v1} {whole} f a = record {
  from = λ s h. called_as A B v0 v1 s whole (f (world_of v0 s)) (a.from s h);
}

-- where the first is cut short, both are
pub calls_first : (A B : Part) {v0 v1 : View} → Calls A v0 false v1 → Calls (Then A B) v0 false v1
calls_first A B a = calls_as A (Then A B) (λ old ds new d. inl d) a

-- nothing is done yet
pub calls_none : (S : Serve) {v : View} → IsReady v → Calls (Items S []) v true v
calls_none S {v} ready = record {
  from = λ s h. record {
    dones = [];
    now = world_of v s;
    does = refl;
    pairs = sym (append-nil v.pairs);
    few = refl;
    calls = refl;
    commits = rose_none v.tally.commits;
    lines = sym (append-nil v.lines);
    holds = subst v.holds h.0 ready.holds;
    crash = leaves_ready _ v s ready h;
    stands = (ready.is_open, h, refl);
  };
}

-- nothing was done, and nothing has changed
pub calls_back : (S : Serve) (is : List Item) {v : View} → IsReady v → Calls (Items S is) v false v
calls_back S is {v} ready = record {
  from = λ s h. record {
    dones = [];
    now = world_of v s;
    does = ([], is, refl, world_of v s, refl, inl refl);
    pairs = sym (append-nil v.pairs);
    few = tt;
    calls = refl;
    commits = asked_none v.tally.commits;
    lines = sym (append-nil v.lines);
    holds = subst v.holds h.0 ready.holds;
    crash = leaves_ready _ v s ready h;
    stands = subst (λ c. StandsAt false c (world_of v s) v) (sym ready.is_open) (h, refl);
  };
}
