-- Jobs that wait for each other, among fewer jobs and along a path.
use Rattle.std.specs.Prelude.{◌≡◌, ◌⊎◌, ℕ, zero, suc, ◌+◌, ◌-◌, ◌≤◌, ◌<◌, List, [], ◌∷◌, ◌++◌, length, drop, map, remove, Bool, true, false, ◌&&◌, ◌||◌, Option, Some, None, is_some, if◌then◌else◌}
use Rattle.std.specs.List.{IsDistinct, list_any}
use Rattle.std.specs.Option.{option_or}
use Rattle.std.specs.Str.{bytes_eq}
use Rattle.std.proofs.Common.{refl, sym, subst, arith, ◌∙◌, ap, inl, inr}
use Rattle.std.proofs.Math.Seq.{drop-append_seam}
use Rattle.std.proofs.lemmas.Bool.{or_cases}
use Rattle.std.proofs.lemmas.Cmp.{nat_list_eq_equiv}
use Rattle.std.proofs.lemmas.List.{length-append}
use Rattle.std.proofs.lemmas.Map.Keys.{IsDistinct-tail, IsDistinct-push}
use Rattle.std.proofs.lemmas.Map.Made.{length-le_from_is_member}
use Rattle.std.proofs.lemmas.Slice.Eq.{bytes_eq-Decides}
use Rattle.ccr_pipeline.specs.Names.{has_name}
use Rattle.ccr_pipeline.specs.Tree.{Text}
use Rattle.ccr_pipeline.specs.JobData.{JobData}
use Rattle.ccr_findings.specs.declared.finding.Kind.TheVariants.{Cycle}
use Rattle.ccr_findings.specs.Cycles.{WaitData, waits_in, waits_for, next_of, wait_in_turn, IsCycle, IsFree, cycle_line, TellsCycle, TellsOf, AddsCycle}
use Rattle.ccr_findings.specs.Findings.{FindingData, finding}
use Rattle.ccr_findings.specs.Waits.{is_named, waited, next_in, idle_from, idle_in, place_from, HaveSameCycles}

both : (p q : Bool) → (p && q) ≡ true → (p ≡ true) × (q ≡ true)
both true q h = (refl, h)
both false q h = cc

two : (p q : Bool) → p ≡ true → q ≡ true → (p && q) ≡ true
two p q h k = rw (h, k) refl

or_right : (p q : Bool) → q ≡ true → (p || q) ≡ true
or_right true q h = refl
or_right false q h = h

or_left : (p q : Bool) → p ≡ true → (p || q) ≡ true
or_left true q h = refl
or_left false q h = cc

-- ---- who waits
-- what waits has the name of a job
waits_named : (ws : List WaitData) (a b : Text) → waits_for ws a b ≡ true → is_named ws a ≡ true
waits_named [] a b h = cc
waits_named (w ∷ ws) a b h =
    elim (or_cases (bytes_eq w.name a && has_name w.waits b) (waits_for ws a b) h) [
      | inl p ↦ or_left (bytes_eq w.name a) (is_named ws a) (both (bytes_eq w.name a) (has_name w.waits b) p).0
      | inr q ↦ or_right (bytes_eq w.name a) (is_named ws a) (waits_named ws a b q)
    ]

-- the head of those that wait in turn has one
head_named : (ws : List WaitData) (first name : Text) (names : List Text) → wait_in_turn ws first (name ∷ names) ≡ true → is_named ws name ≡ true
head_named ws first name names h =
    waits_named ws name (next_of first names) (both (waits_for ws name (next_of first names)) (wait_in_turn ws first names) h).0

-- those that wait in turn do so among jobs that wait for the same ones of them
turn_by : (ws vs : List WaitData) (first : Text) (names : List Text) → ((a b : Text) → waits_for ws a b ≡ true → is_named ws b ≡ true → waits_for vs a b ≡ true)
    → is_named ws first ≡ true → wait_in_turn ws first names ≡ true → wait_in_turn vs first names ≡ true
turn_by ws vs first [] over known h = refl
turn_by ws vs first (n ∷ []) over known h =
    let one = both (waits_for ws n first) true h in two (waits_for vs n first) true (over n first one.0 known) refl
turn_by ws vs first (n ∷ m ∷ ns) over known h =
    let one = both (waits_for ws n m) (wait_in_turn ws first (m ∷ ns)) h in
    two (waits_for vs n m) (wait_in_turn vs first (m ∷ ns)) (over n m one.0 (head_named ws first m ns one.1))
    (turn_by ws vs first (m ∷ ns) over known one.1)

cycle_by : (ws vs : List WaitData) (names : List Text) → ((a b : Text) → waits_for ws a b ≡ true → is_named ws b ≡ true → waits_for vs a b ≡ true)
    → IsCycle ws names → IsCycle vs names
cycle_by ws vs [] over h = h
cycle_by ws vs (n ∷ ns) over h =
    (turn_by ws vs n (n ∷ ns) over (head_named ws n n ns h.0) h.0, h.1)

-- ---- a job that waits for none of all
not_waited : (ws : List WaitData) (names : List Text) (b : Text) → waited ws names ≡ None → is_named ws b ≡ true → has_name names b ≡ false
not_waited [] names b h k = cc
not_waited (w ∷ ws) names b h k = by (λ none q. not_waited ws names b none q) (has_name names w.name) refl h (or_cases (bytes_eq w.name b) (is_named ws b) k)
  where
    by : (waited ws names ≡ None → is_named ws b ≡ true → has_name names b ≡ false) → (t : Bool) → has_name names w.name ≡ t
        → (if t then Some w.name else waited ws names) ≡ None → (bytes_eq w.name b ≡ true) ⊎ (is_named ws b ≡ true) → has_name names b ≡ false
    by more true e none k = cc
    by more false e none (inl p) = subst (λ n. has_name names n ≡ false) ((bytes_eq-Decides w.name b).0 p) e
    by more false e none (inr q) = more none q

-- without it, the others wait as before
skips : (pre : List WaitData) (w : WaitData) (post : List WaitData) (a b : Text) → has_name w.waits b ≡ false
    → waits_for (pre ++ (w ∷ post)) a b ≡ true → waits_for (pre ++ post) a b ≡ true
skips [] w post a b none h =
    elim (or_cases (bytes_eq w.name a && has_name w.waits b) (waits_for post a b) h) [
      | inl p ↦ (let e = (both (bytes_eq w.name a) (has_name w.waits b) p).1 in cc)
      | inr q ↦ q
    ]
skips (v ∷ pre) w post a b none h =
    elim (or_cases (bytes_eq v.name a && has_name v.waits b) (waits_for (pre ++ (w ∷ post)) a b) h) [
      | inl p ↦ or_left (bytes_eq v.name a && has_name v.waits b) (waits_for (pre ++ post) a b) p
      | inr q ↦ or_right (bytes_eq v.name a && has_name v.waits b) (waits_for (pre ++ post) a b) (skips pre w post a b none q)
    ]

adds : (pre : List WaitData) (w : WaitData) (post : List WaitData) (a b : Text) → waits_for (pre ++ post) a b ≡ true
    → waits_for (pre ++ (w ∷ post)) a b ≡ true
adds [] w post a b h = or_right (bytes_eq w.name a && has_name w.waits b) (waits_for post a b) h
adds (v ∷ pre) w post a b h =
    elim (or_cases (bytes_eq v.name a && has_name v.waits b) (waits_for (pre ++ post) a b) h) [
      | inl p ↦ or_left (bytes_eq v.name a && has_name v.waits b) (waits_for (pre ++ (w ∷ post)) a b) p
      | inr q ↦ or_right (bytes_eq v.name a && has_name v.waits b) (waits_for (pre ++ (w ∷ post)) a b) (adds pre w post a b q)
    ]

without : (pre : List WaitData) (w : WaitData) (post : List WaitData) → waited (pre ++ (w ∷ post)) w.waits ≡ None
    → HaveSameCycles (pre ++ (w ∷ post)) (pre ++ post)
without pre w post none = λ names. (
  cycle_by (pre ++ (w ∷ post)) (pre ++ post) names
      (λ a b. λ h k. skips pre w post a b (not_waited (pre ++ (w ∷ post)) w.waits b none k) h),
  cycle_by (pre ++ post) (pre ++ (w ∷ post)) names (λ a b. λ h k. adds pre w post a b h),
)

-- where such a job is
pub record Idle (all ws : List WaitData) (i k : ℕ) : Type 0 where
  pub pre : List WaitData
  pub own : WaitData
  pub post : List WaitData
  pub parts : ws ≡ pre ++ (own ∷ post)
  pub place : k ≡ i + length pre
  pub none : waited all own.waits ≡ None

idle_parts : (all : List WaitData) (i : ℕ) (ws : List WaitData) (k : ℕ) → idle_from all i ws ≡ Some k → Idle all ws i k
idle_parts all i [] k h = cc
idle_parts all i (w ∷ ws) k h = by (λ k. idle_parts all (i + 1) ws k) (waited all w.waits) refl h
  where
    by : ((k : ℕ) → idle_from all (i + 1) ws ≡ Some k → Idle all ws (i + 1) k) → (o : Option Text) → waited all w.waits ≡ o
        → (if is_some o then idle_from all (i + 1) ws else Some i) ≡ Some k → Idle all (w ∷ ws) i k
    by more None e h = record { pre = []; own = w; post = ws; parts = refl; place = (let same : i ≡ k = cc in omega arith); none = e }
    by more (Some b) e h =
        let later = more k h in
        record { pre = w ∷ later.pre; own = later.own; post = later.post; parts = ap (λ l. w ∷ l) later.parts; place = omega (arith, later.place); none = later.none }

removed : (pre : List WaitData) (w : WaitData) (post : List WaitData) → remove (pre ++ (w ∷ post)) (length pre) ≡ pre ++ post
removed [] w post = refl
removed (v ∷ pre) w post = ap (λ l. v ∷ l) (removed pre w post)

left_at : (ws pre : List WaitData) (w : WaitData) (post : List WaitData) (i : ℕ) → ws ≡ pre ++ (w ∷ post) → i ≡ length pre → remove ws i ≡ pre ++ post
left_at ws pre w post i e f = rw (e, f) (removed pre w post)

-- there it can be taken out
pub idle_out : (ws : List WaitData) (i : ℕ) → idle_in ws ≡ Some i → HaveSameCycles ws (remove ws i)
idle_out ws i h =
    let it = idle_parts ws 0 ws i h in
    let at : i ≡ length it.pre = omega (arith, it.place) in
    let whole : waited (it.pre ++ (it.own ∷ it.post)) it.own.waits ≡ None = subst (λ l. waited l it.own.waits ≡ None) it.parts it.none in
    let left : remove ws i ≡ it.pre ++ it.post = left_at ws it.pre it.own it.post i it.parts at in
    subst (λ l. HaveSameCycles l (remove ws i)) (sym it.parts)
    (subst (λ l. HaveSameCycles (it.pre ++ (it.own ∷ it.post)) l) (sym left) (without it.pre it.own it.post whole))

pub idle_within : (ws : List WaitData) (i : ℕ) → idle_in ws ≡ Some i → i < length ws
idle_within ws i h =
    let it = idle_parts ws 0 ws i h in
    subst (λ l. i < length l) (sym it.parts) (before it.pre it.own it.post i (omega (arith, it.place)))
  where
    before : (pre : List WaitData) (w : WaitData) (post : List WaitData) (i : ℕ) → i ≡ length pre → i < length (pre ++ (w ∷ post))
    before [] w post i e = omega arith
    before (v ∷ pre) w post zero e = omega arith
    before (v ∷ pre) w post (suc i) e = let more : i < length (pre ++ (w ∷ post)) = before pre w post i (omega arith) in omega arith

pub same_on : (us vs ws : List WaitData) → HaveSameCycles us vs → HaveSameCycles vs ws → HaveSameCycles us ws
same_on us vs ws h k = λ names. (λ c. (k names).0 ((h names).0 c), λ c. (h names).1 ((k names).1 c))

pub same_self : (ws : List WaitData) → HaveSameCycles ws ws
same_self ws = λ names. (λ c. c, λ c. c)

-- ---- each waits for one of all
waited_is : (all : List WaitData) (names : List Text) (b : Text) → waited all names ≡ Some b → (has_name names b ≡ true) × (is_named all b ≡ true)
waited_is [] names b h = cc
waited_is (w ∷ ws) names b h = by (λ some. waited_is ws names b some) (has_name names w.name) refl h
  where
    by : (waited ws names ≡ Some b → (has_name names b ≡ true) × (is_named ws b ≡ true)) → (t : Bool) → has_name names w.name ≡ t → (if t then Some w.name else waited ws names) ≡ Some b
        → (has_name names b ≡ true) × (is_named (w ∷ ws) b ≡ true)
    by more true e some =
        let same : w.name ≡ b = cc in
        (subst (λ n. has_name names n ≡ true) same e, or_left (bytes_eq w.name b) (is_named ws b) ((bytes_eq-Decides w.name b).1 same))
    by more false e some = let it = more some in (it.0, or_right (bytes_eq w.name b) (is_named ws b) it.1)

next_is : (all ws : List WaitData) (a b : Text) → next_in all ws a ≡ Some b → (waits_for ws a b ≡ true) × (is_named all b ≡ true)
next_is all [] a b h = cc
next_is all (w ∷ ws) a b h = by (λ k. later (next_is all ws a b k)) (bytes_eq w.name a) refl (waited all w.waits) refl h
  where
    later : (waits_for ws a b ≡ true) × (is_named all b ≡ true) → (waits_for (w ∷ ws) a b ≡ true) × (is_named all b ≡ true)
    later it = (or_right (bytes_eq w.name a && has_name w.waits b) (waits_for ws a b) it.0, it.1)

    by : (next_in all ws a ≡ Some b → (waits_for (w ∷ ws) a b ≡ true) × (is_named all b ≡ true)) → (t : Bool) → bytes_eq w.name a ≡ t → (o : Option Text) → waited all w.waits ≡ o
        → (if t then option_or o (next_in all ws a) else next_in all ws a) ≡ Some b → (waits_for (w ∷ ws) a b ≡ true) × (is_named all b ≡ true)
    by more true e None f k = more k
    by more true e (Some n) f k =
        let same : n ≡ b = cc in
        let it = waited_is all w.waits b (f ∙ ap (λ m. Some m) same) in
        (or_left (bytes_eq w.name a && has_name w.waits b) (waits_for ws a b) (two (bytes_eq w.name a) (has_name w.waits b) e it.0), it.1)
    by more false e o f k = more k

pub goes_on : (all : List WaitData) (i : ℕ) (ws : List WaitData) (a : Text) → idle_from all i ws ≡ None → is_named ws a ≡ true → next_in all ws a ≡ None → ⊥
goes_on all i [] a h k n = cc
goes_on all i (w ∷ ws) a h k n = by (λ none q m. goes_on all (i + 1) ws a none q m) (waited all w.waits) refl h (or_cases (bytes_eq w.name a) (is_named ws a) k)
  where
    off : (t : Bool) (o : Option Text) → (if t then option_or o (next_in all ws a) else next_in all ws a) ≡ None → next_in all ws a ≡ None
    off true None e = e
    off true (Some b) e = cc
    off false o e = e

    on : (o : Option Text) (b : Text) → o ≡ Some b → (t : Bool) → t ≡ true → (if t then option_or o (next_in all ws a) else next_in all ws a) ≡ None → ⊥
    on None b f t e k = cc
    on (Some c) b f true e k = cc
    on (Some c) b f false e k = cc

    by : (idle_from all (i + 1) ws ≡ None → is_named ws a ≡ true → next_in all ws a ≡ None → ⊥) → (o : Option Text) → waited all w.waits ≡ o
        → (if is_some o then idle_from all (i + 1) ws else Some i) ≡ None
        → (bytes_eq w.name a ≡ true) ⊎ (is_named ws a ≡ true) → ⊥
    by more None e none q = cc
    by more (Some b) e none (inl p) = on (waited all w.waits) b e (bytes_eq w.name a) p n
    by more (Some b) e none (inr q) = more none q (off (bytes_eq w.name a) (waited all w.waits) n)

-- ---- along a path
turn_on : (ws : List WaitData) (name next : Text) (path : List Text) → wait_in_turn ws name path ≡ true → waits_for ws name next ≡ true
    → wait_in_turn ws next (path ++ (name ∷ [])) ≡ true
turn_on ws name next [] h w = two (waits_for ws name next) true w refl
turn_on ws name next (n ∷ []) h w =
    let one = both (waits_for ws n name) true h in
    two (waits_for ws n name) (waits_for ws name next && true) one.0 (two (waits_for ws name next) true w refl)
turn_on ws name next (n ∷ m ∷ ns) h w =
    let one = both (waits_for ws n m) (wait_in_turn ws name (m ∷ ns)) h in
    two (waits_for ws n m) (wait_in_turn ws next (m ∷ (ns ++ (name ∷ [])))) one.0 (turn_on ws name next (m ∷ ns) one.1 w)

turn_named : (ws : List WaitData) (name : Text) (path : List Text) (q : Text) → wait_in_turn ws name path ≡ true → list_any (bytes_eq q) path ≡ true → is_named ws q ≡ true
turn_named ws name [] q h k = cc
turn_named ws name (n ∷ ns) q h k =
    elim (or_cases (bytes_eq q n) (list_any (bytes_eq q) ns) k) [
      | inl p ↦ subst (λ m. is_named ws m ≡ true) (sym ((bytes_eq-Decides q n).0 p)) (head_named ws name n ns h)
      | inr r ↦ turn_named ws name ns q (both (waits_for ws n (next_of name ns)) (wait_in_turn ws name ns) h).1 r
    ]

named_is : (ws : List WaitData) (q : Text) → is_named ws q ≡ true → list_any (bytes_eq q) (map (λ w. w.name) ws) ≡ true
named_is [] q h = cc
named_is (w ∷ ws) q h =
    elim (or_cases (bytes_eq w.name q) (is_named ws q) h) [
      | inl p ↦ or_left (bytes_eq q w.name) _ (nat_list_eq_equiv.symm q w.name ∙ p)
      | inr r ↦ or_right (bytes_eq q w.name) _ (named_is ws q r)
    ]

-- what holds along a path to a name
pub record Walks (ws : List WaitData) (name : Text) (path : List Text) : Type 0 where
  pub turn : wait_in_turn ws name path ≡ true
  pub apart : IsDistinct bytes_eq path
  pub known : is_named ws name ≡ true

not_among : (i : ℕ) (name : Text) (path : List Text) → place_from i name path ≡ None → list_any (bytes_eq name) path ≡ false
not_among i name [] h = refl
not_among i name (n ∷ ns) h = by (λ k. not_among (i + 1) name ns k) (bytes_eq n name) refl h
  where
    by : (place_from (i + 1) name ns ≡ None → list_any (bytes_eq name) ns ≡ false) → (t : Bool) → bytes_eq n name ≡ t → (if t then Some i else place_from (i + 1) name ns) ≡ None → list_any (bytes_eq name) (n ∷ ns) ≡ false
    by more true e k = cc
    by more false e k = rw (nat_list_eq_equiv.symm name n, e, more k) refl

walk_apart : (ws : List WaitData) (name : Text) (path : List Text) → Walks ws name path → place_from 0 name path ≡ None → IsDistinct bytes_eq (path ++ (name ∷ []))
walk_apart ws name path w h = IsDistinct-push nat_list_eq_equiv path name w.apart (not_among 0 name path h)

pub walk_on : (ws : List WaitData) (name next : Text) (path : List Text) → Walks ws name path → place_from 0 name path ≡ None → next_in ws ws name ≡ Some next
    → Walks ws next (path ++ (name ∷ []))
walk_on ws name next path w h n =
    let it = next_is ws ws name next n in
    record { turn = turn_on ws name next path w.turn it.0; apart = walk_apart ws name path w h; known = it.1 }

pub walk_begins : (ws : List WaitData) (name : Text) → is_named ws name ≡ true → Walks ws name []
unfolding IsDistinct
walk_begins ws name h = record { turn = refl; apart = tt; known = h }

any_end : (q name : Text) (path : List Text) → list_any (bytes_eq q) (path ++ (name ∷ [])) ≡ true → (list_any (bytes_eq q) path ≡ true) ⊎ (bytes_eq q name ≡ true)
any_end q name [] h = elim (or_cases (bytes_eq q name) false h) [ inl p ↦ inr p | inr r ↦ cc ]
any_end q name (n ∷ ns) h =
    elim (or_cases (bytes_eq q n) (list_any (bytes_eq q) (ns ++ (name ∷ []))) h) [
      | inl p ↦ inl (or_left (bytes_eq q n) _ p)
      | inr r ↦ elim (any_end q name ns r) [ inl p ↦ inl (or_right (bytes_eq q n) _ p) | inr p ↦ inr p ]
    ]

as_many : (ws : List WaitData) → length (map (λ (w : WaitData). w.name) ws) ≡ length ws
as_many [] = refl
as_many (w ∷ ws) = ap (λ n. suc n) (as_many ws)

pub walk_short : (ws : List WaitData) (name : Text) (path : List Text) → Walks ws name path → place_from 0 name path ≡ None → length path + 1 ≤ length ws
walk_short ws name path w h =
    let all = map (λ (w : WaitData). w.name) ws in
    let fits : length (path ++ (name ∷ [])) ≤ length all =
    length-le_from_is_member nat_list_eq_equiv (path ++ (name ∷ [])) all (walk_apart ws name path w h)
    (λ q k. named_is ws q (elim (any_end q name path k) [
      | inl p ↦ turn_named ws name path q w.turn p
      | inr p ↦ subst (λ m. is_named ws m ≡ true) (sym ((bytes_eq-Decides q name).0 p)) w.known
    ])) in
    omega (arith, fits, length-append path (name ∷ []), as_many ws)

-- ---- a name that comes again
again : (i : ℕ) (name : Text) (path : List Text) (k : ℕ) → place_from i name path ≡ Some k
    → (pre post : List Text) × (path ≡ pre ++ (name ∷ post)) × (k ≡ i + length pre)
again i name [] k h = cc
again i name (n ∷ ns) k h = by (λ f. again (i + 1) name ns k f) (bytes_eq n name) refl h
  where
    by : (place_from (i + 1) name ns ≡ Some k → (pre post : List Text) × (ns ≡ pre ++ (name ∷ post)) × (k ≡ i + 1 + length pre)) → (t : Bool) → bytes_eq n name ≡ t → (if t then Some i else place_from (i + 1) name ns) ≡ Some k
        → (pre post : List Text) × (n ∷ ns ≡ pre ++ (name ∷ post)) × (k ≡ i + length pre)
    by more true e f = ([], ns, ap (λ m. m ∷ ns) ((bytes_eq-Decides n name).0 e), (let same : i ≡ k = cc in omega arith))
    by more false e f = let it = more f in (n ∷ it.0, it.1, ap (λ l. n ∷ l) it.2, omega (arith, it.3))

turn_from : (ws : List WaitData) (first : Text) (pre path : List Text) → wait_in_turn ws first (pre ++ path) ≡ true → wait_in_turn ws first path ≡ true
turn_from ws first [] path h = h
turn_from ws first (n ∷ pre) path h = turn_from ws first pre path (both (waits_for ws n (next_of first (pre ++ path))) (wait_in_turn ws first (pre ++ path)) h).1

apart_from : (pre path : List Text) → IsDistinct bytes_eq (pre ++ path) → IsDistinct bytes_eq path
apart_from [] path h = h
apart_from (n ∷ pre) path h = apart_from pre path (IsDistinct-tail bytes_eq n (pre ++ path) h)

rest_at : (path pre rest : List Text) (k : ℕ) → path ≡ pre ++ rest → k ≡ length pre → drop k path ≡ rest
rest_at path pre rest k e f = rw (e, f) (drop-append_seam pre rest)

pub walk_ends : (ws : List WaitData) (name : Text) (path : List Text) (k : ℕ) → Walks ws name path → place_from 0 name path ≡ Some k → IsCycle ws (drop k path)
walk_ends ws name path k w h =
    let it = again 0 name path k h in
    let at : k ≡ length it.0 = omega (arith, it.3) in
    let rest : drop k path ≡ name ∷ it.1 = rest_at path it.0 (name ∷ it.1) k it.2 at in
    let turn : wait_in_turn ws name (it.0 ++ (name ∷ it.1)) ≡ true = subst (λ l. wait_in_turn ws name l ≡ true) it.2 w.turn in
    let apart : IsDistinct bytes_eq (it.0 ++ (name ∷ it.1)) = subst (λ l. IsDistinct bytes_eq l) it.2 w.apart in
    subst (IsCycle ws) (sym rest) (turn_from ws name it.0 (name ∷ it.1) turn, apart_from it.0 (name ∷ it.1) apart)

pub walk_within : (name : Text) (path : List Text) (k : ℕ) → place_from 0 name path ≡ Some k → k ≤ length path
walk_within name path k h =
    let it = again 0 name path k h in
    subst (λ l. k ≤ length l) (sym it.2) (omega (arith, it.3, length-append it.0 (name ∷ it.1)))

-- ---- what is told
pub free_of_none : (vs : List WaitData) → HaveSameCycles vs [] → IsFree vs
free_of_none vs h = λ names c. none names ((h names).0 c)
  where
    none : (names : List Text) → IsCycle [] names → ⊥
    none [] c = c
    none (n ∷ ns) c = let it = both false (wait_in_turn [] n ns) c.0 in let no : false ≡ true = it.0 in cc

pub tells_of : (vs ws : List WaitData) (line : Text) → HaveSameCycles vs ws → TellsCycle ws line → TellsCycle vs line
tells_of vs ws line h t = (t.0, (h t.0).1 t.1, t.2)

pub first_named : (ws : List WaitData) (w : WaitData) (rest : List WaitData) → ws ≡ w ∷ rest → is_named ws w.name ≡ true
first_named ws w rest e = subst (λ l. is_named l w.name ≡ true) (sym e) (or_left (bytes_eq w.name w.name) (is_named rest w.name) (nat_list_eq_equiv.refl w.name))

-- ---- the same of lists that are seen as such
map_removed : {A B : Type 0} (f : A → B) (xs : List A) (i : ℕ) → map f (remove xs i) ≡ remove (map f xs) i
map_removed f [] zero = refl
map_removed f [] (suc i) = refl
map_removed f (x ∷ xs) zero = refl
map_removed f (x ∷ xs) (suc i) = ap (λ l. f x ∷ l) (map_removed f xs i)

map_long : {A B : Type 0} (f : A → B) (xs : List A) → length (map f xs) ≡ length xs
map_long f [] = refl
map_long f (x ∷ xs) = ap (λ n. suc n) (map_long f xs)

map_dropped : {A B : Type 0} (f : A → B) (k : ℕ) (xs : List A) → map f (drop k xs) ≡ drop k (map f xs)
map_dropped f zero xs = refl
map_dropped f (suc k) [] = refl
map_dropped f (suc k) (x ∷ xs) = map_dropped f k xs

map_joined : {A B : Type 0} (f : A → B) (xs : List A) (y : A) → map f (xs ++ (y ∷ [])) ≡ map f xs ++ (f y ∷ [])
map_joined f [] y = refl
map_joined f (x ∷ xs) y = ap (λ l. f x ∷ l) (map_joined f xs y)

pub keeps_cycles : {A : Type 0} (f : A → WaitData) (us : List WaitData) (xs : List A) (i : ℕ) → HaveSameCycles us (map f xs) → idle_in (map f xs) ≡ Some i
    → HaveSameCycles us (map f (remove xs i))
keeps_cycles f us xs i h e =
    subst (HaveSameCycles us) (sym (map_removed f xs i)) (same_on us (map f xs) (remove (map f xs) i) h (idle_out (map f xs) i e))

pub idle_index : {A : Type 0} (f : A → WaitData) (xs : List A) (i : ℕ) → idle_in (map f xs) ≡ Some i → i < length xs
idle_index f xs i e = let below : i < length (map f xs) = idle_within (map f xs) i e in omega (arith, map_long f xs)

pub path_ends : {B : Type 0} (ws : List WaitData) (g : B → Text) (path : List B) (name : Text) (k : ℕ) (line : Text) → Walks ws name (map g path)
    → place_from 0 name (map g path) ≡ Some k → line ≡ cycle_line (map g (drop k path)) → TellsCycle ws line
path_ends ws g path name k line w h e =
    (drop k (map g path), walk_ends ws name (map g path) k w h, e ∙ ap cycle_line (map_dropped g k path))

pub path_within : {B : Type 0} (g : B → Text) (path : List B) (name : Text) (k : ℕ) → place_from 0 name (map g path) ≡ Some k → k ≤ length path
path_within g path name k h = let below : k ≤ length (map g path) = walk_within name (map g path) k h in omega (arith, map_long g path)

pub path_on : {B : Type 0} (ws : List WaitData) (g : B → Text) (path : List B) (x : B) (name next : Text) → Walks ws name (map g path)
    → place_from 0 name (map g path) ≡ None → next_in ws ws name ≡ Some next → g x ≡ name → Walks ws next (map g (path ++ (x ∷ [])))
path_on ws g path x name next w h n e =
    subst (Walks ws next) (sym (map_joined g path x ∙ ap (λ m. map g path ++ (m ∷ [])) e)) (walk_on ws name next (map g path) w h n)

pub path_short : {A B : Type 0} (f : A → WaitData) (xs : List A) (g : B → Text) (path : List B) (name : Text) → Walks (map f xs) name (map g path)
    → place_from 0 name (map g path) ≡ None → length path + 1 ≤ length xs
path_short f xs g path name w h =
    let short : length (map g path) + 1 ≤ length (map f xs) = walk_short (map f xs) name (map g path) w h in
    omega (arith, map_long g path, map_long f xs)

pub walk_first : {B : Type 0} (ws : List WaitData) (g : B → Text) (path : List B) (name : Text) → path ≡ [] → is_named ws name ≡ true → Walks ws name (map g path)
walk_first ws g path name e h = subst (λ l. Walks ws name (map g l)) (sym e) (walk_begins ws name h)

pub keeps_by : {A : Type 0} (f : A → WaitData) (us : List WaitData) (xs ys : List A) (i : ℕ) → ys ≡ remove xs i → HaveSameCycles us (map f xs)
    → idle_in (map f xs) ≡ Some i → HaveSameCycles us (map f ys)
keeps_by f us xs ys i e h k = subst (λ l. HaveSameCycles us (map f l)) (sym e) (keeps_cycles f us xs i h k)

pub path_by : {B : Type 0} (ws : List WaitData) (g : B → Text) (path more : List B) (x : B) (name next : Text) → more ≡ path ++ (x ∷ []) → Walks ws name (map g path)
    → place_from 0 name (map g path) ≡ None → next_in ws ws name ≡ Some next → g x ≡ name → Walks ws next (map g more)
path_by ws g path more x name next f w h n e = subst (λ l. Walks ws next (map g l)) (sym f) (path_on ws g path x name next w h n e)

pub path_smaller : {A B : Type 0} (f : A → WaitData) (xs : List A) (g : B → Text) (path more : List B) (x : B) (name : Text) → more ≡ path ++ (x ∷ [])
    → Walks (map f xs) name (map g path) → place_from 0 name (map g path) ≡ None → length xs - length more < length xs - length path
path_smaller f xs g path more x name e w h =
    let short : length path + 1 ≤ length xs = path_short f xs g path name w h in
    omega (arith, ap length e, length-append path (x ∷ []))

pub tells_none : (us vs ws : List WaitData) → vs ≡ us → HaveSameCycles vs ws → ws ≡ [] → TellsOf us None
tells_none us vs ws e h none = subst IsFree e (free_of_none vs (subst (HaveSameCycles vs) none h))

pub tells_some : (us vs ws : List WaitData) (line : Text) → vs ≡ us → HaveSameCycles vs ws → TellsCycle ws line → TellsOf us (Some line)
tells_some us vs ws line e h t = subst (λ l. TellsCycle l line) e (tells_of vs ws line h t)

pub told_none : (js : List JobData) (old new : List FindingData) → TellsOf (waits_in js) None → new ≡ old → AddsCycle js old new
told_none js old new t e = inr (t, e)

pub told_some : (js : List JobData) (line : Text) (old new : List FindingData) → TellsOf (waits_in js) (Some line) → new ≡ old ++ (finding Cycle line ∷ [])
    → AddsCycle js old new
told_some js line old new t e = inl (line, t, e)
