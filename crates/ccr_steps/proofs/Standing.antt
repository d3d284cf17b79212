-- What a build wants, how it ended and what it moved, by the exchanges that it stands for.
use Rattle.std.specs.Prelude.{OnErr}
use Rattle.std.proofs.Common.{Result, Ok, Err, arith, ◌≡◌, ◌↔◌, ℕ, ◌+◌, ◌*◌, ◌/◌, ◌%◌, ◌^◌, length-append, append_assoc, List, [], ◌∷◌, ◌++◌, length, Option, Some, None, IsSome, option_and_then, refl, sym, ap, ◌∙◌, subst}
use Rattle.std.proofs.Math.Nat.{mod-add-div', add-mul-mod_self_right}
use Rattle.ccr_pipeline.specs.Tree.{Tree}
use Rattle.ccr_steps.specs.declared.outcome.Outcome.{Outcome}
use Rattle.ccr_steps.specs.Asks.{AskData, AnswerData, errored, Exchange, exchange, Chosen}
use Rattle.ccr_steps.specs.Gains.{GainsData, no_gains}
use Rattle.ccr_steps.specs.Means.{Means}
use Rattle.ccr_steps.specs.Play.{Play, ended, asks, and_then, Leads, play}
use Rattle.ccr_steps.specs.declared.frame.Frame.{Frame}
use Rattle.ccr_steps.specs.Frames.{LeafData, first, leaf_ask, leaf_next, leaf_play, asks_if, leaf_at, goes_on, waiting_in, waiting, Waits, Came}
use Rattle.ccr_steps.specs.Progress.{IsAllowed, Begins, IsNext, IsWanted, IsOutcome, HasMoved, answers, AskAlike}
use Rattle.ccr_steps.specs.Moments.{MomentData, step_by, step_at, play_by, waits_by, GoesTo}
use Rattle.ccr_steps.specs.Runs.{RunData, rest_of, IsWell, StandsFor, Goes, TakesAnswer, wanted}
use Rattle.ccr_steps.proofs.Leading.{leads_on, leads_cut, leads_one, finish, leads_front, same_asks, answers_begin}
use Rattle.ccr_steps.proofs.Plays.{plays}

whole : (c : Chosen) (t : Tree) (es : List Exchange) (o : Outcome) (g : GainsData) → Leads (play c t no_gains) es (ended o g) → Means c t no_gains es o g
whole c t es o g l = (plays c t no_gains es o g).1 l

leads : (c : Chosen) (t : Tree) (es : List Exchange) (o : Outcome) (g : GainsData) → Means c t no_gains es o g → Leads (play c t no_gains) es (ended o g)
leads c t es o g m = (plays c t no_gains es o g).0 m

not_whole : (c : Chosen) (t : Tree) (es : List Exchange) (a : AskData) (then : AnswerData → Play) → Leads (play c t no_gains) es (asks a then) → IsAllowed c t es → ⊥
not_whole c t es a then l (o, g, m) = let one = leads_one (play c t no_gains) es (asks a then) (ended o g) l (leads c t es o g m) in cc (one)

goes_anyhow : (c : Chosen) (t : Tree) (es : List Exchange) (a : AskData) (then : AnswerData → Play) → Leads (play c t no_gains) es (asks a then) → (x : AnswerData) → Begins c t (es ++ exchange a x ∷ [])
goes_anyhow c t es a then l x =
    let (rest, o, g, m) = finish (then x) in
    let now = leads_on (play c t no_gains) es (exchange a x ∷ []) (asks a then) (then x) l (refl, refl) in
    let all = leads_on (play c t no_gains) (es ++ exchange a x ∷ []) rest (then x) (ended o g) now m in
    (rest, (o, g, whole c t ((es ++ exchange a x ∷ []) ++ rest) o g all))

next_only : (c : Chosen) (t : Tree) (es : List Exchange) (a : AskData) (then : AnswerData → Play) → Leads (play c t no_gains) es (asks a then) → (e : Exchange) (rest : List Exchange) → IsAllowed c t (es ++ e ∷ rest) → e.ask ≡ a
next_only c t es a then l e rest (o, g, m) = (leads_cut (play c t no_gains) es (e ∷ rest) (asks a then) (ended o g) l (leads c t (es ++ e ∷ rest) o g m)).0

pub is_next : (c : Chosen) (t : Tree) (es : List Exchange) (a : AskData) (then : AnswerData → Play) → Leads (play c t no_gains) es (asks a then) → IsNext c t es a
is_next c t es a then l = (goes_anyhow c t es a then l, next_only c t es a then l)

-- a build that waits is at an ask
asks_there : (c : Chosen) (s : Tree) (l : LeafData) (g : GainsData) (next : Outcome → GainsData → Play) (o : Option AskData) → leaf_ask c s l ≡ o → IsSome o → (a : AskData) × (o ≡ Some a) × (and_then (leaf_play c s l g) next ≡ asks a (λ x. and_then (leaf_next c s l x g) next))
asks_there c s l g next None e some = absurd (cc (some))
asks_there c s l g next (Some a) e some = (a, refl, ap (λ o. and_then (asks_if o (λ x. leaf_next c s l x g) g) next) e)

pub at_ask : (c : Chosen) (t : Tree) (g : GainsData) (fs : List Frame) (l : LeafData) (s : Tree) → leaf_at t fs ≡ Some s → IsSome (leaf_ask c s l) → (a : AskData) × (leaf_ask c s l ≡ Some a) × (waiting c t fs l g ≡ asks a (λ x. and_then (leaf_next c s l x g) (goes_on c t fs)))
at_ask c t g fs l s at some =
    let (a, is, p) = asks_there c s l g (goes_on c t fs) (leaf_ask c s l) refl some in
    (a, is, ap (λ x. waiting_in c x l (goes_on c t fs) g) at ∙ p)

module _ (r : RunData) (plan : Tree) (inputs : Chosen) (es : List Exchange) where
  abbrev wanted_by : Option Outcome → Option AskData
  wanted_by o = option_and_then (λ s. leaf_ask r.inputs s r.at.leaf) (step_by o r.at r.plan)

  wants_at : (o : Option Outcome) → waits_by o r.inputs r.plan r.at → Leads (play inputs plan no_gains) es (play_by o r.inputs r.plan r.gains r.at) → IsWanted inputs plan es (wanted_by o)
  wants_at (Some o) w l = (o, r.gains, whole inputs plan es o r.gains l)
  wants_at None (s, at, some) l =
      let (a, is, p) = at_ask r.inputs r.plan r.gains r.at.frames r.at.leaf s at some in
      let led = subst (λ q. Leads (play inputs plan no_gains) es q) p l in
      let want : wanted_by None ≡ Some a = ap (λ x. option_and_then (λ s. leaf_ask r.inputs s r.at.leaf) x) at ∙ is in
      subst (IsWanted inputs plan es) (sym want) (is_next inputs plan es a _ led, not_whole inputs plan es a _ led)

  ended_at : (o : Option Outcome) → waits_by o r.inputs r.plan r.at → Leads (play inputs plan no_gains) es (play_by o r.inputs r.plan r.gains r.at) → IsOutcome inputs plan es o
  ended_at (Some o) w l = (r.gains, whole inputs plan es o r.gains l)
  ended_at None (s, at, some) l =
      let (a, is, p) = at_ask r.inputs r.plan r.gains r.at.frames r.at.leaf s at some in
      not_whole inputs plan es a _ (subst (λ q. Leads (play inputs plan no_gains) es q) p l)

  moved_at : (o : Option Outcome) → waits_by o r.inputs r.plan r.at → Leads (play inputs plan no_gains) es (play_by o r.inputs r.plan r.gains r.at) → HasMoved inputs plan es r.gains.moved
  moved_at (Some u) w l o g m =
      let one = leads_one (play inputs plan no_gains) es (ended u r.gains) (ended o g) l (leads inputs plan es o g m) in
      let same : r.gains ≡ g = cc (one) in
      ap (λ h. h.moved) same
  moved_at None w l o g m = absurd (ended_at None w l (o, g, m))

  -- a step waits exactly where the list isn't whole
  step_there : (o : Option Outcome) → waits_by o r.inputs r.plan r.at → Leads (play inputs plan no_gains) es (play_by o r.inputs r.plan r.gains r.at) → (step_by o r.at r.plan ≡ None) ↔ IsAllowed inputs plan es
  step_there (Some o) w l = (λ e. (o, r.gains, whole inputs plan es o r.gains l), λ h. refl)
  step_there None (s, at, some) l = (λ e. absurd (cc (e, at)), λ h. absurd (ended_at None (s, at, some) l h))

  pub stands_wanted : StandsFor r plan inputs es → IsWanted inputs plan es (wanted r)
  stands_wanted (p, i, t, w, l) = wants_at r.at.outcome w l

  pub stands_outcome : StandsFor r plan inputs es → IsOutcome inputs plan es r.at.outcome
  stands_outcome (p, i, t, w, l) = ended_at r.at.outcome w l

  pub stands_moved : StandsFor r plan inputs es → HasMoved inputs plan es r.gains.moved
  stands_moved (p, i, t, w, l) = moved_at r.at.outcome w l

  pub stands_wants : (s : Tree) (a : Option AskData) → step_at r.at r.plan ≡ Some s → a ≡ leaf_ask r.inputs s r.at.leaf → StandsFor r plan inputs es → IsWanted inputs plan es a
  stands_wants s a at e st = subst (IsWanted inputs plan es) (ap (λ x. option_and_then (λ s. leaf_ask r.inputs s r.at.leaf) x) at ∙ sym e) (stands_wanted st)

  pub stands_lost : step_at r.at r.plan ≡ None → StandsFor r plan inputs es → IsAllowed inputs plan es
  stands_lost none (p, i, t, w, l) = (step_there r.at.outcome w l).0 none

  pub stands_nothing : {P : Type 0} → P ↔ (step_at r.at r.plan ≡ None) → StandsFor r plan inputs es → P ↔ IsAllowed inputs plan es
  stands_nothing (there, back) (p, i, t, w, l) =
      let (on, off) = step_there r.at.outcome w l in
      (λ p. on (there p), λ h. back (off h))

  pub stands_begun : StandsFor r plan inputs es → Begins inputs plan es
  stands_begun (p, i, t, w, l) =
      let (rest, o, g, m) = finish (rest_of r) in
      (rest, (o, g, whole inputs plan (es ++ rest) o g (leads_on (play inputs plan no_gains) es rest (rest_of r) (ended o g) l m)))

begins_leads : (c : Chosen) (t : Tree) (es : List Exchange) → Begins c t es → (r : Play) × Leads (play c t no_gains) es r
begins_leads c t es (rest, (o, g, m)) = leads_front (play c t no_gains) es rest (ended o g) (leads c t (es ++ rest) o g m)

-- only one thing is asked next
one_wanted : (c : Chosen) (t : Tree) (es : List Exchange) (a b : Option AskData) → IsWanted c t es a → IsWanted c t es b → a ≡ b
one_wanted c t es None None v w = refl
one_wanted c t es None (Some b) v w = absurd (w.1 v)
one_wanted c t es (Some a) None v w = absurd (v.1 w)
one_wanted c t es (Some a) (Some b) v w =
    let (rest, (o, g, m)) = v.0.0 errored in
    let all : IsAllowed c t (es ++ exchange a errored ∷ rest) = (o, g, subst (λ l. Means c t no_gains l o g) (append_assoc es (exchange a errored ∷ []) rest) m) in
    ap (λ x. Some x) (w.0.1 (exchange a errored) rest all)

-- two beginnings of allowed lists ask alike
pub ask_alike : (c : Chosen) (t : Tree) (es fs : List Exchange) → Begins c t es → Begins c t fs → AskAlike c t es fs
ask_alike c t es fs b d =
    let (q, l) = begins_leads c t es b in
    let (r, m) = begins_leads c t fs d in
    let one : answers es ≡ answers fs → es ≡ fs = answers_begin (play c t no_gains) es fs q r l m in
    record {
      so_far = same_asks (play c t no_gains) es fs q r l m;
      whole = one;
      next = λ e x y v w. one_wanted c t fs x y (subst (λ k. IsWanted c t k x) (one e) v) w;
    }

swap : (a b : ℕ) → (a + b) + 1 ≡ (a + 1) + b
swap a b = omega arith

next_turn : (n m : ℕ) → (n % m + 1) % m ≡ (n + 1) % m
next_turn n m = sym (ap (λ k. (k + 1) % m) (sym (mod-add-div' n m)) ∙ ap (λ k. k % m) (swap (n % m) (n / m * m)) ∙ add-mul-mod_self_right (n % m + 1) (n / m) m)

-- a build that takes an answer stands for one exchange more
pub feeds : (old new : RunData) (x : AnswerData) → TakesAnswer old new x → (plan : Tree) (inputs : Chosen) (es : List Exchange) → StandsFor old plan inputs es → (a : AskData) × IsNext inputs plan es a × StandsFor new plan inputs (es ++ exchange a x ∷ [])
feeds old new x (p, i, t, go) plan inputs es (op, oi, ot, w, l) =
    let (now, (a, then, is, on)) = go w in
    let here : Leads (play inputs plan no_gains) es (asks a then) = subst (λ q. Leads (play inputs plan no_gains) es q) is l in
    let turn : new.turn ≡ length (es ++ exchange a x ∷ []) % 2 ^ 64 = t ∙ ap (λ n. (n + 1) % 2 ^ 64) ot ∙ next_turn (length es) (2 ^ 64) ∙ ap (λ n. n % 2 ^ 64) (sym (length-append es (exchange a x ∷ []))) in
    (a, is_next inputs plan es a then here, (p ∙ op, i ∙ oi, turn, now, leads_on (play inputs plan no_gains) es (exchange a x ∷ []) (asks a then) (rest_of new) here (refl, on)))

-- a build that waits goes on as the step that waits does
pub takes : (old new : RunData) (x : AnswerData) (s : Tree) → step_at old.at old.plan ≡ Some s → new.plan ≡ old.plan → new.inputs ≡ old.inputs → new.turn ≡ (old.turn + 1) % 2 ^ 64 → GoesTo old.inputs old.plan new.gains new.at (and_then (leaf_next old.inputs s old.at.leaf x old.gains) (goes_on old.inputs old.plan old.at.frames)) → TakesAnswer old new x
takes old new x s at p i t goes = (p, i, t, λ well. on old.at.outcome refl well)
  where
    now : IsWell new
    now = subst (λ c. waits_by new.at.outcome c new.plan new.at) (sym i) (subst (λ t. waits_by new.at.outcome old.inputs t new.at) (sym p) goes.0)

    rest : and_then (leaf_next old.inputs s old.at.leaf x old.gains) (goes_on old.inputs old.plan old.at.frames) ≡ rest_of new
    rest = goes.1 ∙ ap (λ c. play_by new.at.outcome c old.plan new.gains new.at) (sym i) ∙ ap (λ t. play_by new.at.outcome new.inputs t new.gains new.at) (sym p)

    on : (o : Option Outcome) → old.at.outcome ≡ o → waits_by old.at.outcome old.inputs old.plan old.at → IsWell new × Goes (rest_of old) x (rest_of new)
    on (Some o) e well = absurd (cc (ap (λ y. step_by y old.at old.plan) (sym e) ∙ at))
    on None e well =
        let waits : waits_by None old.inputs old.plan old.at = subst (λ y. waits_by y old.inputs old.plan old.at) e well in
        let there : leaf_at old.plan old.at.frames ≡ Some s = ap (λ y. step_by y old.at old.plan) (sym e) ∙ at in
        let same : waits.0 ≡ s = cc (waits.1, there) in
        let some : IsSome (leaf_ask old.inputs s old.at.leaf) = subst (λ y. IsSome (leaf_ask old.inputs y old.at.leaf)) same waits.2 in
        let (a, is, asked) = at_ask old.inputs old.plan old.gains old.at.frames old.at.leaf s there some in
        (now, (a, (λ y. and_then (leaf_next old.inputs s old.at.leaf y old.gains) (goes_on old.inputs old.plan old.at.frames)), ap (λ y. play_by y old.inputs old.plan old.gains old.at) e ∙ asked, sym rest))

-- a build that begins stands for no exchange
pub begins : (plan : Tree) (inputs : Chosen) (r : RunData) → r.plan ≡ plan → r.inputs ≡ inputs → r.gains ≡ no_gains → r.turn ≡ 0 → r.at.leaf ≡ first → Came (λ c. play c plan no_gains) plan no_gains [] r.at.frames r.at.outcome → StandsFor r plan inputs []
begins plan inputs r p i g t l came =
    let got = began r.at.outcome came in
    (p, i, t, got.0, got.1)
  where
    began : (o : Option Outcome) → Came (λ c. play c plan no_gains) plan no_gains [] r.at.frames o → waits_by o r.inputs r.plan r.at × (play_by o r.inputs r.plan r.gains r.at ≡ play inputs plan no_gains)
    began (Some o) came = (tt, ap (λ h. ended o h) g ∙ sym (came.1 inputs))
    began None (added, is, waits) =
        let back : added ≡ r.at.frames = sym is in (
          subst (λ c. Waits c r.plan r.at.frames r.at.leaf) (sym i) (subst (λ t. Waits inputs t r.at.frames r.at.leaf) (sym p) (subst (λ m. Waits inputs plan r.at.frames m) (sym l) (subst (λ fs. Waits inputs plan fs first) back (waits inputs).0))),
          ap (λ c. waiting c r.plan r.at.frames r.at.leaf r.gains) i ∙ ap (λ t. waiting inputs t r.at.frames r.at.leaf r.gains) p ∙ ap (λ m. waiting inputs plan r.at.frames m r.gains) l ∙ ap (λ h. waiting inputs plan r.at.frames first h) g ∙ ap (λ fs. waiting inputs plan fs first no_gains) (sym back) ∙ sym (waits inputs).1,
        )

pub began_from : (T t : Tree) (g h : GainsData) (old new : List Frame) (r : Option Outcome) → T ≡ t → g ≡ h → old ≡ [] → Came (λ c. play c T g) T g old new r → Came (λ c. play c t h) t h [] new r
began_from T t g h old new r e f n came = subst (λ x. Came (λ c. play c x h) x h [] new r) e (subst (λ x. Came (λ c. play c T x) T x [] new r) f (subst (λ l. Came (λ c. play c T g) T g l new r) n came))

-- where a build is after the step that waited has ended
pub after_ended : (T : Tree) (g : GainsData) (fs gs new : List Frame) (o : Outcome) (r : Option Outcome) → fs ≡ gs → Came (λ c. goes_on c T fs o g) T g [] new r → (c : Chosen) (p : Play) → p ≡ ended o g → GoesTo c T g (record { frames = new; leaf = first; outcome = r }) (and_then p (goes_on c T gs))
after_ended T g fs gs new o (Some u) same came c p e = (tt, ap (λ q. and_then q (goes_on c T gs)) e ∙ ap (λ l. goes_on c T l o g) (sym same) ∙ came.1 c)
after_ended T g fs gs new o None same (added, is, waits) c p e = (
  subst (λ l. Waits c T l first) (sym is) (waits c).0,
  ap (λ q. and_then q (goes_on c T gs)) e ∙ ap (λ l. goes_on c T l o g) (sym same) ∙ (waits c).1 ∙ ap (λ l. waiting c T l first g) (sym is),
)

pub step_leaf : (o : Option Outcome) (m : MomentData) (t s : Tree) → step_by o m t ≡ Some s → leaf_at t m.frames ≡ Some s
step_leaf None m t s e = e
step_leaf (Some o) m t s e = absurd (cc (e))

pub on_err : {A E : Type 0} {P : Type 0} (r : Result A E) → P → OnErr r P
on_err (Ok a) p = tt
on_err (Err e) p = p
