-- An accepted tree leaves no better choice.
use Rattle.std.proofs.Common.{◌≡◌, ◌≢◌, ℕ, zero, suc, ◌+◌, ◌<◌, ◌≤◌, ◌⊎◌, inl, inr, true, false, ◌==◌, List, [], ◌∷◌, length, slice_index, slice_get, slice_set, refl, sym, ap, ◌∙◌, subst, arith, Option, Some, None}
use Rattle.std.specs.Prelude.{Contains, Any, EachIndex, MatchOption, unwrap_or}
use Rattle.std.proofs.lemmas.Bool.{cases_Bool, cases_eq, cond-true, cond-false, eqb-true, eq-eqb}
use Rattle.std.proofs.lemmas.List.{get_or-set_same, get_or-set_other}
use Rattle.ccr_choice.specs.Problem.{ProblemValue, BuildValue, is_problem, input_at, builds_at}
use Rattle.ccr_choice.specs.Satisfies.{Satisfies, Moved, IsAllowed, IsSuccessful, HasPassed, HasPassedAll}
use Rattle.ccr_choice.specs.Dominated.{IsDominated}
use Rattle.ccr_choice.proofs.Exchange.{build_at, other_satisfies}
use Rattle.ccr_choice.proofs.Numbering.{named_below}
use Rattle.ccr_proof.specs.declared.claim.Claim.{Claim}
use Rattle.ccr_proof.specs.declared.claim.Claim.TheVariants.{Best, Nothing}
use Rattle.ccr_choice.specs.Preference.{Preference, IsOrder, IsBetter}
use Rattle.ccr_choice.specs.Assignment.{Assignment, nothing_fixed, with_build, Agrees}
use Rattle.ccr_choice.specs.Possible.{IsPossible, IsBestPossible}
use Rattle.ccr_choice.proofs.BestPlaces.{best_possible, best_places}
use Rattle.ccr_proof.specs.Tree.{Tree, Trees, job, empty, bounded, same_as, no_child, child, is_same, are_same}
use Rattle.ccr_proof.specs.Refutes.{HasNoPlace, IsBounded, IsSameCase, Refutes, RefuteEach, IsAccepted}
use Rattle.ccr_proof.specs.Right.{IsRight}
use Rattle.ccr_choice.proofs.Members.{contains_none, contains_first, contains_later, contains_cases, any_more}
use Rattle.ccr_choice.proofs.PossibleLaws.{best_is, length-best_places, best_places_at, bounded_by}

module _ (prefers : Preference) (order : IsOrder prefers) (p : ProblemValue) (rules : is_problem p ≡ true) where
  -- each fixed build is one of its job
  abbrev pub AreKnown : Assignment → Type 0
  AreKnown a = (j : ℕ) (b : BuildValue) → a j ≡ Some b → Contains (builds_at p j) b

  -- ---- the places of a choice that agrees are possible
  can_pass : (a : Assignment) (j n : ℕ) (pair : ℕ × ℕ) (o : Option BuildValue) → j < length p.jobs → a j ≡ o → AreKnown a
      → ((b : BuildValue) → a j ≡ Some b → n ≡ b.number) → Moved (builds_at p j) n pair
      → MatchOption o (Any (λ b. Contains b.pairs pair) (builds_at p j)) (λ b. Contains b.pairs pair)
  can_pass a j n pair None within e known agrees moved = any_more (λ b. (b.number ≡ n) × Contains b.pairs pair) (λ b. Contains b.pairs pair) (builds_at p j) (λ b h. h.1) moved
  can_pass a j n pair (Some b) within e known agrees (k, c, inside, at, (numbered, has)) =
      let same : c ≡ b = build_at p rules j c b within (k, inside, at) (known j b e) (numbered ∙ agrees b e) in
      let P : BuildValue → Type 0 = λ y. Contains y.pairs pair in
      subst P same has

  passed_one : (places builds : List ℕ) (i j : ℕ) → HasPassed p places builds i j → Moved (builds_at p j) (slice_index builds j) ((input_at p i).scope, slice_index places i)
  unfolding HasPassed
  passed_one places builds i j h = h

  passed_all : (places builds : List ℕ) (i : ℕ) → HasPassedAll p places builds i → EachIndex (input_at p i).jobs (λ k. HasPassed p places builds i (slice_index (input_at p i).jobs k))
  unfolding HasPassedAll
  passed_all places builds i h = h

  allowed_one : (places : List ℕ) (i : ℕ) → IsAllowed p places i → Contains (input_at p i).places (slice_index places i)
  unfolding IsAllowed
  allowed_one places i h = h

  successful_one : (builds : List ℕ) (j : ℕ) → IsSuccessful p builds j → Any (λ b. b.number ≡ slice_index builds j) (builds_at p j)
  unfolding IsSuccessful
  successful_one builds j h = h

  pub place_possible : (a : Assignment) (places builds : List ℕ) → AreKnown a → Agrees a builds → Satisfies p places builds → (i : ℕ) → i < length p.inputs → IsPossible p a i (slice_index places i)
  place_possible a places builds known agrees sat i within = record {
    allowed = allowed_one places i (sat.allowed i within);
    passed = λ k inside.
        let j = slice_index (input_at p i).jobs k in
        can_pass a j (slice_index builds j) ((input_at p i).scope, slice_index places i) (a j) (named_below p rules i k within inside) refl known
        (λ b e. agrees j b e) (passed_one places builds i j (passed_all places builds i (sat.passed i within) k inside));
  }

  -- ---- so the best places are better than what is worse than they
  module _ (a : Assignment) (places : List ℕ) (possible : (i : ℕ) → i < length p.inputs → IsPossible p a i (slice_index places i)) where
    -- a place of the choice is the best one, or the best one is preferred to it
    at_best : (i : ℕ) (o : Option ℕ) → IsBestPossible prefers p a i o → i < length p.inputs → slice_index places i ≢ unwrap_or o 0 → prefers i (unwrap_or o 0) (slice_index places i) ≡ true
    at_best i None best within differs = absurd (best (slice_index places i) (possible i within))
    at_best i (Some x) best within differs =
        elim (order.total i (slice_index places i) x differs) [
          | inl better ↦ absurd (best.1 (slice_index places i) (possible i within) better)
          | inr better ↦ better
        ]

    pub best_or_better : (i : ℕ) → i < length p.inputs → slice_index places i ≢ slice_index (best_places prefers p a) i → prefers i (slice_index (best_places prefers p a) i) (slice_index places i) ≡ true
    best_or_better i within differs =
        let same = best_places_at prefers p a i within in
        ap (λ n. prefers i n (slice_index places i)) same ∙ at_best i (best_possible prefers p a i) (best_is prefers order p a i) within (λ e. differs (e ∙ sym same))

    pub still_better : (bound : List ℕ) → IsBetter prefers places bound → length places ≡ length p.inputs → (n : ℕ) → n ≤ length p.inputs
        → (h : IsBetter prefers places bound) → n ≤ h.first → ((k : ℕ) → k < n → slice_index (best_places prefers p a) k ≡ slice_index bound k) → (m : ℕ) → n + m ≡ h.first → IsBetter prefers (best_places prefers p a) bound
    still_better bound better each n within h reach same zero e =
        let at : n ≡ h.first = omega arith in
        let inside : h.first < length p.inputs = omega (arith, h.within, each) in
        record {
          first = h.first;
          within = omega (arith, inside, length-best_places prefers p a);
          reached = h.reached;
          same_before = λ k below. same k (omega arith);
          preferred = elim (cases_eq (slice_index places h.first) (slice_index (best_places prefers p a) h.first)) [
            | inl equal ↦ ap (λ x. prefers h.first x (slice_index bound h.first)) (sym equal) ∙ h.preferred
            | inr differs ↦ order.transitive h.first _ _ _ (best_or_better h.first inside differs) h.preferred
          ];
        }
    still_better bound better each n within h reach same (suc m) e =
        let inside : n < length p.inputs = omega (arith, h.within, each) in
        elim (cases_eq (slice_index places n) (slice_index (best_places prefers p a) n)) [
          | inl equal ↦ still_better bound better each (n + 1) (omega arith) h (omega arith) (λ k below. elim (cases_eq k n) [
            | inl now ↦ (let P : ℕ → Type 0 = λ x. slice_index (best_places prefers p a) x ≡ slice_index bound x in subst P (sym now) (sym equal ∙ h.same_before n (omega arith)))
            | inr other ↦ same k (omega arith)
          ]) m (omega arith)
          | inr differs ↦ record {
            first = n;
            within = omega (arith, inside, length-best_places prefers p a);
            reached = omega (arith, h.reached);
            same_before = same;
            preferred = ap (λ x. prefers n (slice_index (best_places prefers p a) n) x) (sym (h.same_before n (omega arith))) ∙ best_or_better n inside differs;
          }
        ]

  -- ---- no better than the bound; none at all, where there is no bound
  abbrev pub IsNoBetter : Option (List ℕ) → List ℕ → Type 0
  IsNoBetter None places = ⊥
  IsNoBetter (Some bound) places = ¬ IsBetter prefers places bound

  -- what a refuted assignment means
  abbrev pub Holds : Option (List ℕ) → Assignment → Type 0
  Holds bound a = (places builds : List ℕ) → Satisfies p places builds → Agrees a builds → IsNoBetter bound places

  pub bounded_holds : (a : Assignment) (bound : Option (List ℕ)) → AreKnown a → IsBounded prefers p bound a → Holds bound a
  bounded_holds a None known h places builds sat agrees = h
  bounded_holds a (Some bound) known h places builds sat agrees = λ better.
      (bounded_by prefers order p a bound).1 h (still_better a places (place_possible a places builds known agrees sat) bound better sat.lengths.place_each 0 (omega arith) better (omega arith) (λ k below. absurd (omega arith)) better.first (omega arith))

  empty_holds : (a : Assignment) (bound : Option (List ℕ)) (i : ℕ) → AreKnown a → HasNoPlace p a i → Holds bound a
  empty_holds a bound i known h places builds sat agrees = absurd (h.1 (slice_index places i) (place_possible a places builds known agrees sat i h.0))

  known_with : (a : Assignment) (j : ℕ) (b : BuildValue) → AreKnown a → Contains (builds_at p j) b → AreKnown (with_build a j b)
  known_with a j b known one k c e =
      elim (cases_Bool (k == j)) [
        | inl same ↦ (let is : b ≡ c = cc (e, cond-true (k == j) (Some b) (a k) same) in
            let P : ℕ → Type 0 = λ n. Contains (builds_at p n) c in
            let Q : BuildValue → Type 0 = λ x. Contains (builds_at p j) x in
            subst P (sym (eqb-true k j same)) (subst Q is one))
        | inr other ↦ known k c (sym (cond-false (k == j) (Some b) (a k) other) ∙ e)
      ]

  agrees_with : (a : Assignment) (j : ℕ) (b : BuildValue) (builds : List ℕ) → Agrees a builds → slice_index builds j ≡ b.number → Agrees (with_build a j b) builds
  agrees_with a j b builds agrees now k c e =
      elim (cases_Bool (k == j)) [
        | inl same ↦ (let is : b ≡ c = cc (e, cond-true (k == j) (Some b) (a k) same) in
            ap (slice_index builds) (eqb-true k j same) ∙ now ∙ ap (λ x. x.number) is)
        | inr other ↦ agrees k c (sym (cond-false (k == j) (Some b) (a k) other) ∙ e)
      ]

  -- each child that is a case of its own leaves no better choice with its build
  abbrev pub OwnHold : Option (List ℕ) → Assignment → ℕ → List BuildValue → Trees → Type 0
  OwnHold bound a j bs ts = (n : ℕ) (b : BuildValue) → slice_get bs n ≡ Some b → slice_get (are_same ts) n ≡ Some false → Holds bound (with_build a j b)

  -- each build has a child of its own, or one that is the same case as another
  each_covered : (bound : Option (List ℕ)) (a : Assignment) (j : ℕ) (all : Trees) (k : ℕ) (bs : List BuildValue) (ts : Trees) → RefuteEach prefers p bound a j all k bs ts
      → (n : ℕ) (b : BuildValue) → slice_get bs n ≡ Some b → (slice_get (are_same ts) n ≡ Some false) ⊎ ((m q : ℕ) × IsSameCase p j all m b q)
  each_covered bound a j all k [] no_child h n b at = absurd (cc (at))
  each_covered bound a j all k (x ∷ bs) (child t ts) h zero b at =
      let same : x ≡ b = cc (at) in
      let P : BuildValue → Type 0 = λ y. (slice_get (are_same (child t ts)) 0 ≡ Some false) ⊎ ((m q : ℕ) × IsSameCase p j all m y q) in
      subst P same (elim h.0 [
        | inl refutes ↦ inl (ap Some (own_case bound (with_build a j x) t refutes))
        | inr other ↦ inr (k, other.0, other.2)
      ])
    where
      own_case : (bound : Option (List ℕ)) (a : Assignment) (t : Tree) → Refutes prefers p bound a t → is_same t ≡ false
      own_case bound a (job j ts) h = refl
      own_case bound a (empty i) h = refl
      own_case bound a bounded h = refl
      own_case bound a (same_as q) h = absurd h
  each_covered bound a j all k (x ∷ bs) (child t ts) h (suc n) b at = each_covered bound a j all (k + 1) bs ts h.1 n b at
  each_covered bound a j all k [] (child t ts) h n b at = absurd h
  each_covered bound a j all k (b ∷ bs) no_child h n c at = absurd h

  slice_get_contains : (bs : List BuildValue) (n : ℕ) (b : BuildValue) → slice_get bs n ≡ Some b → Contains bs b
  slice_get_contains [] n b at = absurd (cc (at))
  slice_get_contains (x ∷ bs) zero b at = let same : x ≡ b = cc (at) in let P : BuildValue → Type 0 = λ y. Contains (x ∷ bs) y in subst P same (contains_first x bs)
  slice_get_contains (x ∷ bs) (suc n) b at = contains_later x b bs (slice_get_contains bs n b at)

  contains_slice_get : (bs : List BuildValue) (b : BuildValue) → Contains bs b → (n : ℕ) × (slice_get bs n ≡ Some b)
  contains_slice_get [] b among = absurd (contains_none b among)
  contains_slice_get (x ∷ bs) b among =
      elim (contains_cases x b bs among) [
        | inl same ↦ (0, ap Some same)
        | inr later ↦ (let found = contains_slice_get bs b later in (suc found.0, found.1))
      ]

  -- a choice with the build of the job can be had with the build that dominates it, whose case leaves no better one
  same_holds : (bound : Option (List ℕ)) (a : Assignment) (j : ℕ) (b other : BuildValue) → j < length p.jobs → Contains (builds_at p j) b → Contains (builds_at p j) other
      → IsDominated p j b other → Holds bound (with_build a j other) → Holds bound (with_build a j b)
  same_holds bound a j b other within one another dominated holds places builds sat agrees =
      let now : slice_index builds j ≡ b.number = agrees j b (cond-true (j == j) (Some b) (a j) (eq-eqb j j refl)) in
      let inside : j < length builds = omega (arith, sat.lengths.build_each) in
      holds places (slice_set builds j other.number) (other_satisfies p rules places builds j b other sat within now one another dominated)
      (λ k c e. elim (cases_Bool (k == j)) [
        | inl same ↦ (let is : other ≡ c = cc (e, cond-true (k == j) (Some other) (a k) same) in
            ap (slice_index (slice_set builds j other.number)) (eqb-true k j same) ∙ get_or-set_same builds j other.number 0 inside ∙ ap (λ x. x.number) is)
        | inr differs ↦ (let fixed : a k ≡ Some c = sym (cond-false (k == j) (Some other) (a k) differs) ∙ e in
            get_or-set_other builds j k other.number 0 (λ same. absurd (cc (differs, eq-eqb k j same)))
            ∙ agrees k c (cond-false (k == j) (Some b) (a k) differs ∙ fixed))
      ])

  -- so a choice is no better, whichever build of the job it has
  job_holds : (bound : Option (List ℕ)) (a : Assignment) (j : ℕ) (ts : Trees) → j < length p.jobs → RefuteEach prefers p bound a j ts 0 (builds_at p j) ts → OwnHold bound a j (builds_at p j) ts
      → (places builds : List ℕ) → Satisfies p places builds → Agrees a builds → Any (λ b. b.number ≡ slice_index builds j) (builds_at p j) → IsNoBetter bound places
  job_holds bound a j ts within each own places builds sat agrees (k, b, inside, at, numbered) =
      let among : Contains (builds_at p j) b = (k, inside, at) in
      let found = contains_slice_get (builds_at p j) b among in
      let holds : Holds bound (with_build a j b) =
      elim (each_covered bound a j ts 0 (builds_at p j) ts each found.0 b found.1) [
        | inl mine ↦ own found.0 b found.1 mine
        | inr other ↦ (let case = other.2 in
            same_holds bound a j b case.other within among (slice_get_contains (builds_at p j) other.1 case.other case.its) case.dominated (own other.1 case.other case.its case.own))
      ] in
      holds places builds sat (agrees_with a j b builds agrees (sym numbered))

  mutual
    pub refutes_holds : (bound : Option (List ℕ)) (a : Assignment) (t : Tree) → AreKnown a → Refutes prefers p bound a t → Holds bound a
    refutes_holds bound a (empty i) known h = empty_holds a bound i known h
    refutes_holds bound a bounded known h = bounded_holds a bound known h
    refutes_holds bound a (same_as q) known h = absurd h
    refutes_holds bound a (job j ts) known h = λ places builds sat agrees.
        job_holds bound a j ts h.0 h.2 (own_hold bound a j ts 0 (builds_at p j) ts known (λ b among. among) h.2) places builds sat agrees (successful_one builds j (sat.successful j h.0))

    own_hold : (bound : Option (List ℕ)) (a : Assignment) (j : ℕ) (all : Trees) (k : ℕ) (bs : List BuildValue) (ts : Trees) → AreKnown a → ((b : BuildValue) → Contains bs b → Contains (builds_at p j) b)
        → RefuteEach prefers p bound a j all k bs ts → OwnHold bound a j bs ts
    own_hold bound a j all k [] no_child known those h n b at own = absurd (cc (at))
    own_hold bound a j all k (x ∷ bs) (child t ts) known those h zero b at own =
        let same : x ≡ b = cc (at) in
        let P : BuildValue → Type 0 = λ y. Holds bound (with_build a j y) in
        elim h.0 [
          | inl refutes ↦ subst P same (refutes_holds bound (with_build a j x) t (known_with a j x known (those x (contains_first x bs))) refutes)
          | inr other ↦ absurd (cc (own, ap (λ y. is_same y) other.1))
        ]
    own_hold bound a j all k (x ∷ bs) (child t ts) known those h (suc n) b at own =
        own_hold bound a j all (k + 1) bs ts known (λ c among. those c (contains_later x c bs among)) h.1 n b at own
    own_hold bound a j all k [] (child t ts) known those h n b at own = absurd h
    own_hold bound a j all k (b ∷ bs) no_child known those h n c at own = absurd h

  pub none_known : AreKnown nothing_fixed
  none_known j b e = absurd (cc (e))

  pub none_agrees : (builds : List ℕ) → Agrees nothing_fixed builds
  none_agrees builds j b e = absurd (cc (e))

  pub accepted_right : (c : Claim) (t : Tree) → IsAccepted prefers p c t → IsRight prefers p c
  accepted_right (Best c) t h = record { satisfies = h.0; none_better = λ others builds sat. refutes_holds (Some c.places) nothing_fixed t none_known h.1 others builds sat (none_agrees builds) }
  accepted_right Nothing t h = λ places builds sat. refutes_holds None nothing_fixed t none_known h places builds sat (none_agrees builds)
