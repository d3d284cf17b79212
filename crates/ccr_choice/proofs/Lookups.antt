-- Looking something up in a list that ascends.
use Rattle.std.proofs.Common.{◌≡◌, ℕ, zero, suc, ◌<◌, ◌⊎◌, inl, inr, Bool, true, false, ◌&&◌, ◌==◌, nat_lt, nat_le, List, [], ◌∷◌, length, get_or, sym, ap, ◌∙◌, subst, arith, All, Option, Some, None, Bor}
use Rattle.std.specs.Prelude.{Contains, AllPairs, IfSome}
use Rattle.std.specs.Slice.{IsGetResult}
use Rattle.std.specs.List.Sorted.{IsPartitionedBy, IsPartitionPoint}
use Rattle.std.proofs.lemmas.Bool.{cases_lt, and_parts, and_from, or_cases, or_left, or_right, ltb-true, lt-ltb, eqb-true, eq-eqb, false≢true}
use Rattle.std.proofs.lemmas.List.Elements.{All-cons, All-nil}
use Rattle.ccr_choice.specs.Problem.{BuildValue, is_build, are_builds, are_builds_below, are_places_after, are_pairs_after}
use Rattle.ccr_choice.specs.Ascending.{is_before, AreAscending, AreRising}

module _ {X : Type 0} (lt : X → X → Bool) (never : (x : X) → lt x x ≡ true → ⊥) (chain : (x y z : X) → lt x y ≡ true → lt y z ≡ true → lt x z ≡ true) (xs : List X) (rises : AllPairs (λ p q. lt p q ≡ true) xs) (x : X) where
  -- what is before x stands in front
  pub parted : IsPartitionedBy (λ y. lt y x) xs
  parted i j d le within h =
      elim (cases_lt i j) [
        | inl less ↦ chain _ _ _ (rises i j d less within) h
        | inr same ↦ (let e : i ≡ j = omega arith in ap (λ k. lt (get_or xs k d) x) e ∙ h)
      ]

  -- so x stands, if anywhere, where that ends
  pub stands_at : (at : ℕ) → IsPartitionPoint (λ y. lt y x ≡ true) (λ y. lt y x ≡ false) xs at → Contains xs x → (at < length xs) × (get_or xs at x ≡ x)
  stands_at at point (k, inside, e) =
      elim (cases_lt k at) [
        | inl before ↦ absurd (never x (ap (λ y. lt y x) (sym e) ∙ point.0 k x (omega arith) before))
        | inr reached ↦ elim (cases_lt at k) [
          | inl beyond ↦ absurd (false≢true (sym (point.1 at x (omega arith) (omega arith)) ∙ ap (lt (get_or xs at x)) (sym e) ∙ rises at k x beyond inside))
          | inr not_beyond ↦ (let now : k ≡ at = omega arith in (omega arith, ap (λ n. get_or xs n x) (sym now) ∙ e))
        ]
      ]

-- ---- the two orders
pub never_less : (x : ℕ) → nat_lt x x ≡ true → ⊥
never_less x h = let less = ltb-true x x h in omega arith

pub less_chain : (x y z : ℕ) → nat_lt x y ≡ true → nat_lt y z ≡ true → nat_lt x z ≡ true
less_chain x y z h k = let a = ltb-true x y h in let b = ltb-true y z k in lt-ltb x z (omega arith)

-- a pair before another, as facts
pub before_is : (p q : ℕ × ℕ) → is_before p q ≡ true → (p.0 < q.0) ⊎ ((p.0 ≡ q.0) × (p.1 < q.1))
before_is p q h =
    elim (or_cases (nat_lt p.0 q.0) (p.0 == q.0 && nat_lt p.1 q.1) h) [
      | inl e ↦ inl (ltb-true _ _ e)
      | inr e ↦ (let parts = and_parts (p.0 == q.0) (nat_lt p.1 q.1) e in inr (eqb-true _ _ parts.0, ltb-true _ _ parts.1))
    ]

before_from : (p q : ℕ × ℕ) → (p.0 < q.0) ⊎ ((p.0 ≡ q.0) × (p.1 < q.1)) → is_before p q ≡ true
before_from p q (inl less) = or_left (nat_lt p.0 q.0) (p.0 == q.0 && nat_lt p.1 q.1) (lt-ltb _ _ less)
before_from p q (inr both) = or_right (nat_lt p.0 q.0) (p.0 == q.0 && nat_lt p.1 q.1) (and_from _ _ (eq-eqb _ _ both.0) (lt-ltb _ _ both.1))

pub never_before : (p : ℕ × ℕ) → is_before p p ≡ true → ⊥
never_before p h = elim (before_is p p h) [ inl less ↦ omega arith | inr both ↦ (let less = both.1 in omega arith) ]

pub before_chain : (p q r : ℕ × ℕ) → is_before p q ≡ true → is_before q r ≡ true → is_before p r ≡ true
before_chain p q r h k =
    before_from p r (elim (before_is p q h) [
      | inl a ↦ elim (before_is q r k) [ inl b ↦ inl (omega arith) | inr b ↦ (let e = b.0 in inl (omega arith)) ]
      | inr a ↦ (let e = a.0 in let less = a.1 in elim (before_is q r k) [ inl b ↦ inl (omega arith) | inr b ↦ (let f = b.0 in let more = b.1 in inr (omega arith, omega arith)) ])
    ])

-- ---- what keeps the rules of a problem ascends
pairs_rest : (scopes scope place : ℕ) (p : ℕ × ℕ) (ps : List (ℕ × ℕ)) → are_pairs_after scopes scope place (p ∷ ps) ≡ true → (is_before (scope, place) p ≡ true) × (are_pairs_after scopes p.0 p.1 ps ≡ true)
pairs_rest scopes scope place p ps h =
    let last : Bool = are_pairs_after scopes p.0 p.1 ps in
    let a = and_parts (is_before (scope, place) p) (nat_lt p.0 scopes && (nat_lt 0 p.1 && (nat_le p.1 100000 && last))) h in
    let b = and_parts (nat_lt p.0 scopes) (nat_lt 0 p.1 && (nat_le p.1 100000 && last)) a.1 in
    let c = and_parts (nat_lt 0 p.1) (nat_le p.1 100000 && last) b.1 in
    (a.0, (and_parts (nat_le p.1 100000) last c.1).1)

pairs_after : (scopes : ℕ) (ps : List (ℕ × ℕ)) (scope place : ℕ) → are_pairs_after scopes scope place ps ≡ true → (k : ℕ) (d : ℕ × ℕ) → k < length ps → is_before (scope, place) (get_or ps k d) ≡ true
pairs_after scopes [] scope place h k d within = absurd (omega arith)
pairs_after scopes (p ∷ ps) scope place h zero d within = (pairs_rest scopes scope place p ps h).0
pairs_after scopes (p ∷ ps) scope place h (suc k) d within =
    let first = pairs_rest scopes scope place p ps h in
    before_chain (scope, place) p (get_or ps k d) first.0 (pairs_after scopes ps p.0 p.1 first.1 k d (omega arith))

pub pairs_ascend : (scopes : ℕ) (ps : List (ℕ × ℕ)) (scope place : ℕ) → are_pairs_after scopes scope place ps ≡ true → AreAscending ps
pairs_ascend scopes [] scope place h i j d less within = absurd (omega arith)
pairs_ascend scopes (p ∷ ps) scope place h zero zero d less within = absurd (omega arith)
pairs_ascend scopes (p ∷ ps) scope place h zero (suc j) d less within = pairs_after scopes ps p.0 p.1 (pairs_rest scopes scope place p ps h).1 j d (omega arith)
pairs_ascend scopes (p ∷ ps) scope place h (suc i) zero d less within = absurd (omega arith)
pairs_ascend scopes (p ∷ ps) scope place h (suc i) (suc j) d less within = pairs_ascend scopes ps p.0 p.1 (pairs_rest scopes scope place p ps h).1 i j d (omega arith) (omega arith)

builds_below_ascend : (scopes : ℕ) (bs : List BuildValue) (high : ℕ) → are_builds_below scopes high bs ≡ true → All (λ b. AreAscending b.pairs) bs
builds_below_ascend scopes [] high h = All-nil (λ b. AreAscending b.pairs)
builds_below_ascend scopes (b ∷ bs) high h =
    let a = and_parts (is_build scopes high b) (are_builds_below scopes b.number bs) h in
    let numbered = and_parts (nat_lt 0 b.number) (nat_lt b.number high && are_pairs_after scopes 0 0 b.pairs) a.0 in
    let paired = and_parts (nat_lt b.number high) (are_pairs_after scopes 0 0 b.pairs) numbered.1 in
    All-cons (λ x. AreAscending x.pairs) b bs (pairs_ascend scopes b.pairs 0 0 paired.1) (builds_below_ascend scopes bs b.number a.1)

-- the pairs of each build of a job ascend
pub builds_ascend : (scopes : ℕ) (bs : List BuildValue) → are_builds scopes bs ≡ true → All (λ b. AreAscending b.pairs) bs
builds_ascend scopes bs h = builds_below_ascend scopes bs 1000001 (and_parts (nat_le (length bs) 1000000) (are_builds_below scopes 1000001 bs) h).1

places_rest : (low x : ℕ) (xs : List ℕ) → are_places_after low (x ∷ xs) ≡ true → (nat_lt low x ≡ true) × (are_places_after x xs ≡ true)
places_rest low x xs h =
    let a = and_parts (nat_lt low x) (nat_le x 100000 && are_places_after x xs) h in
    (a.0, (and_parts (nat_le x 100000) (are_places_after x xs) a.1).1)

places_after : (xs : List ℕ) (low : ℕ) → are_places_after low xs ≡ true → (k d : ℕ) → k < length xs → nat_lt low (get_or xs k d) ≡ true
places_after [] low h k d within = absurd (omega arith)
places_after (x ∷ xs) low h zero d within = (places_rest low x xs h).0
places_after (x ∷ xs) low h (suc k) d within =
    let first = places_rest low x xs h in less_chain low x (get_or xs k d) first.0 (places_after xs x first.1 k d (omega arith))

-- allowed places rise
pub places_rise : (xs : List ℕ) (low : ℕ) → are_places_after low xs ≡ true → AreRising xs
places_rise [] low h i j d less within = absurd (omega arith)
places_rise (x ∷ xs) low h zero zero d less within = absurd (omega arith)
places_rise (x ∷ xs) low h zero (suc j) d less within = places_after xs x (places_rest low x xs h).1 j d (omega arith)
places_rise (x ∷ xs) low h (suc i) zero d less within = absurd (omega arith)
places_rise (x ∷ xs) low h (suc i) (suc j) d less within = places_rise xs x (places_rest low x xs h).1 i j d (omega arith) (omega arith)

-- what was looked up among builds whose pairs ascend
pub got_ascends : (bs : List BuildValue) (k : ℕ) (r : Option (Bor BuildValue)) → All (λ b. AreAscending b.pairs) bs → IsGetResult bs k k r → IfSome r (λ b. AreAscending b.now.pairs)
got_ascends bs k None all lookup = tt
got_ascends bs k (Some b) all lookup = let P : BuildValue → Type 0 = λ x. AreAscending x.pairs in subst P (sym lookup.1) (all k b.now lookup.3.0)
