-- Places that are possible under a table, and what the best places where nothing is fixed have to do with them.
use Rattle.std.proofs.Common.{◌≡◌, ◌≢◌, ℕ, zero, suc, ◌<◌, ◌≤◌, inl, inr, true, false, List, [], ◌∷◌, length, slice_index, slice_index_or, refl, sym, ap, ◌∙◌, subst, arith, Option, Some, None}
use Rattle.std.specs.Prelude.{Contains, Any, MatchOption, unwrap_or, is_some, slice_get}
use Rattle.std.proofs.lemmas.Bool.{false≢true, cases_lt}
use Rattle.ccr_choice.specs.Problem.{ProblemValue, BuildValue, is_problem, input_at, builds_at}
use Rattle.ccr_choice.specs.Satisfies.{Satisfies}
use Rattle.ccr_choice.specs.Preference.{order_of, Preference, IsOrder, IsBetter}
use Rattle.ccr_choice.specs.Assignment.{Assignment, nothing_fixed, Agrees}
use Rattle.ccr_choice.specs.Possible.{IsPossible, IsBestPossible, AreBoundedBy}
use Rattle.ccr_choice.proofs.BestPlaces.{best_possible, best_places}
use Rattle.ccr_proof.specs.Refutes.{HasNoPlace, IsBounded}
use Rattle.ccr_choice.specs.Table.{build_of, assigned}
use Rattle.ccr_choice.proofs.Members.{any_of}
use Rattle.ccr_choice.proofs.PossibleLaws.{best_is, length-best_places, best_places_at, are_only, bounded_by}
use Rattle.ccr_proof.proofs.Sound.{AreKnown, place_possible, still_better}
use Rattle.ccr_choice.proofs.TableLaws.{build_among}
use Rattle.ccr_resolve.specs.NodeBound.{newest_number, newest, TopFits}
use Rattle.ccr_resolve.specs.Search.{OnPath, ReachesTop, IsNeeded, IsNoWorse}

-- ---- the order of place lists
pub better_irreflexive : (prefers : Preference) → IsOrder prefers → (xs : List ℕ) → IsBetter prefers xs xs → ⊥
better_irreflexive prefers order xs h = false≢true (sym (order.irreflexive h.first (slice_index xs h.first)) ∙ h.preferred)

pub better_trans : (prefers : Preference) → IsOrder prefers → (xs ys zs : List ℕ) → IsBetter prefers xs ys → IsBetter prefers ys zs → IsBetter prefers xs zs
better_trans prefers order xs ys zs h k =
    elim (cases_lt h.first k.first) [
      | inl less ↦ record {
        first = h.first;
        within = h.within;
        reached = omega (arith, less, k.reached);
        same_before = λ m below. h.same_before m below ∙ k.same_before m (omega (arith, below, less));
        preferred = ap (λ n. prefers h.first (slice_index xs h.first) n) (sym (k.same_before h.first less)) ∙ h.preferred;
      }
      | inr more ↦ elim (cases_lt k.first h.first) [
        | inl less ↦ record {
          first = k.first;
          within = omega (arith, less, h.within);
          reached = k.reached;
          same_before = λ m below. h.same_before m (omega (arith, below, less)) ∙ k.same_before m below;
          preferred = ap (λ n. prefers k.first n (slice_index zs k.first)) (h.same_before k.first less) ∙ k.preferred;
        }
        | inr equal ↦ let same : k.first ≡ h.first = omega (arith, more, equal) in
            let second : prefers h.first (slice_index ys h.first) (slice_index zs h.first) ≡ true =
            (let P : ℕ → Type 0 = λ n. prefers n (slice_index ys n) (slice_index zs n) ≡ true in subst P same k.preferred) in
            record {
              first = h.first;
              within = h.within;
              reached = omega (arith, k.reached, same);
              same_before = λ m below. h.same_before m below ∙ k.same_before m (omega (arith, below, same));
              preferred = order.transitive h.first _ _ _ h.preferred second;
            }
      ]
    ]

-- ---- bounds
pub no_worse_refl : (prefers : Preference) (a : Option (List ℕ)) → IsNoWorse prefers a a
no_worse_refl prefers None = tt
no_worse_refl prefers (Some x) = λ places h. h

pub no_worse_trans : (prefers : Preference) (a b c : Option (List ℕ)) → IsNoWorse prefers a b → IsNoWorse prefers b c → IsNoWorse prefers a c
no_worse_trans prefers None b c h k = tt
no_worse_trans prefers (Some x) None c h k = absurd h
no_worse_trans prefers (Some x) (Some y) None h k = absurd k
no_worse_trans prefers (Some x) (Some y) (Some z) h k = λ places e. k places (h places e)

pub reach_more : (prefers : Preference) (p : ProblemValue) (a b : Option (List ℕ)) → IsNoWorse prefers a b → ReachesTop prefers p a → ReachesTop prefers p b
reach_more prefers p None b w h = absurd h
reach_more prefers p (Some x) None w h = absurd w
reach_more prefers p (Some x) (Some y) w h = λ places best. w places (h places best)

newest_at : (jobs : List (List BuildValue)) (j : ℕ) → slice_index (newest jobs) j ≡ newest_number (slice_index_or jobs j [])
newest_at [] j = refl
newest_at (job ∷ jobs) zero = refl
newest_at (job ∷ jobs) (suc j) = newest_at jobs j

newest_is : (bs : List BuildValue) (b : BuildValue) → slice_get bs 0 ≡ Some b → newest_number bs ≡ b.number
newest_is [] b h = absurd (cc (h))
newest_is (x ∷ bs) b h = let same : x ≡ b = cc (h) in ap (λ y. y.number) same

-- the best places where nothing is fixed
abbrev pub top : Preference → ProblemValue → List ℕ
top prefers p = best_places prefers p nothing_fixed

top_fits : (prefers : Preference) → IsOrder prefers → (p : ProblemValue) → TopFits prefers p → Satisfies p (top prefers p) (newest p.jobs)
top_fits prefers order p h =
    let P : List ℕ → Type 0 = λ xs. Satisfies p xs (newest p.jobs) in
    subst P (are_only prefers order p nothing_fixed h.0 h.1) h.2

module _ (prefers : Preference) (order : IsOrder prefers) (p : ProblemValue) (rules : is_problem p ≡ true) where
  -- each fixed build of a table is one of its job
  pub known_of : (table : List ℕ) → AreKnown prefers order p rules (assigned p table)
  known_of table j b e = build_among (builds_at p j) (slice_index table j) b e

  -- ---- on the path
  path_entry : (bs : List BuildValue) (k : ℕ) (b : BuildValue) → (k ≢ 0 → k ≡ 1) → build_of bs k ≡ Some b → slice_get bs 0 ≡ Some b
  path_entry bs zero b one e = absurd (cc (e))
  path_entry bs (suc k) b one e = let same : k ≡ 0 = (let f = one (λ z. absurd (omega arith)) in omega (arith, f)) in ap (slice_get bs) (sym same) ∙ e

  path_agrees : (table : List ℕ) (best : Option (List ℕ)) → OnPath prefers p table best → Agrees (assigned p table) (newest p.jobs)
  path_agrees table best path j b e =
      newest_at p.jobs j ∙ newest_is (builds_at p j) b (path_entry (builds_at p j) (slice_index table j) b (path.newest j) e)

  pub path_possible : (table : List ℕ) (best : Option (List ℕ)) → OnPath prefers p table best → (i : ℕ) → i < length p.inputs → IsPossible p (assigned p table) i (slice_index (top prefers p) i)
  path_possible table best path = place_possible prefers order p rules (assigned p table) (top prefers p) (newest p.jobs) (known_of table) (path_agrees table best path) (top_fits prefers order p path.top)

  pub path_place : (table : List ℕ) (best : Option (List ℕ)) (i : ℕ) → OnPath prefers p table best → HasNoPlace p (assigned p table) i → ⊥
  path_place table best i path h = h.1 (slice_index (top prefers p) i) (path_possible table best path i h.0)

  -- best places are at least as good as possible ones
  pub best_better : (a : Assignment) (places bound : List ℕ) → ((i : ℕ) → i < length p.inputs → IsPossible p a i (slice_index places i)) → length places ≡ length p.inputs
      → IsBetter prefers places bound → IsBetter prefers (best_places prefers p a) bound
  best_better a places bound possible each h =
      still_better prefers order p rules a places possible bound h each 0 (omega arith) h (omega arith) (λ k below. absurd (omega arith)) h.first (omega arith)

  pub path_top : (table : List ℕ) (best : Option (List ℕ)) → OnPath prefers p table best
      → AreBoundedBy prefers p nothing_fixed (best_places prefers p (assigned p table))
  path_top table best path = (bounded_by prefers order p nothing_fixed (best_places prefers p (assigned p table))).0 (λ h.
      better_irreflexive prefers order (best_places prefers p (assigned p table))
      (best_better (assigned p table) (top prefers p) (best_places prefers p (assigned p table)) (path_possible table best path) (length-best_places prefers p nothing_fixed) h))

  -- ---- where each input has a possible place, the best places are possible
  best_at : (a : Assignment) (i : ℕ) (o : Option ℕ) → IsBestPossible prefers p a i o → (HasNoPlace p a i → ⊥) → i < length p.inputs → IsPossible p a i (unwrap_or o 0)
  best_at a i None best some within = absurd (some (within, best))
  best_at a i (Some x) best some within = best.0

  pub best_is_possible : (a : Assignment) → ((i : ℕ) → HasNoPlace p a i → ⊥) → (i : ℕ) → i < length p.inputs → IsPossible p a i (slice_index (best_places prefers p a) i)
  best_is_possible a some i within =
      let P : ℕ → Type 0 = λ n. IsPossible p a i n in
      subst P (sym (best_places_at prefers p a i within)) (best_at a i (best_possible prefers p a i) (best_is prefers order p a i) (some i) within)

  -- what is possible under a table is possible where nothing is fixed
  pass_free : (a : Assignment) (pair : ℕ × ℕ) (j : ℕ) (o : Option BuildValue) → AreKnown prefers order p rules a → a j ≡ o
      → MatchOption o (Any (λ b. Contains b.pairs pair) (builds_at p j)) (λ b. Contains b.pairs pair) → Any (λ b. Contains b.pairs pair) (builds_at p j)
  pass_free a pair j None known e h = h
  pass_free a pair j (Some b) known e h = any_of (λ c. Contains c.pairs pair) b (builds_at p j) (known j b e) h

  pub possible_free : (a : Assignment) (i place : ℕ) → AreKnown prefers order p rules a → IsPossible p a i place → IsPossible p nothing_fixed i place
  possible_free a i place known h = record {
    allowed = h.allowed;
    passed = λ k within. pass_free a ((input_at p i).scope, place) (slice_index (input_at p i).jobs k) (a (slice_index (input_at p i).jobs k)) known refl (h.passed k within);
  }

  -- nothing under any table is better than the best places where nothing is fixed
  pub reach_bounded : (table : List ℕ) (best : Option (List ℕ)) → ReachesTop prefers p best → ((i : ℕ) → HasNoPlace p (assigned p table) i → ⊥) → IsBounded prefers p best (assigned p table)
  reach_bounded table None h some = absurd h
  reach_bounded table (Some found) h some = (bounded_by prefers order p (assigned p table) found).0 (λ better.
      let u = best_places prefers p (assigned p table) in
      (bounded_by prefers order p nothing_fixed found).1 h (best_better nothing_fixed u found
      (λ i within. possible_free (assigned p table) i (slice_index u i) (known_of table) (best_is_possible (assigned p table) some i within))
      (length-best_places prefers p (assigned p table)) better))

  pub one_node : (table : List ℕ) (best : Option (List ℕ)) (n : ℕ) → ReachesTop prefers p best → IsNeeded prefers p table best n → n ≤ 1
  one_node table best n h needed =
      elim (cases_lt 1 n) [
        | inl more ↦ (let few = needed.bounded (reach_bounded table best h (λ i none. let one = needed.lacking i none in omega (arith, one, more))) in absurd (omega (arith, few, more)))
        | inr few ↦ few
      ]

-- ---- where there is no best possible place, no place is possible
pub none_place : (p : ProblemValue) (a : Assignment) (i : ℕ) (o : Option ℕ) → i < length p.inputs → IsBestPossible (order_of p) p a i o → is_some o ≡ false → HasNoPlace p a i
none_place p a i None within best e = (within, best)
none_place p a i (Some x) within best e = absurd (cc (e))

pub some_place : (p : ProblemValue) (a : Assignment) (i : ℕ) (o : Option ℕ) → IsBestPossible (order_of p) p a i o → is_some o ≡ true → HasNoPlace p a i → ⊥
some_place p a i None best e h = absurd (cc (e))
some_place p a i (Some x) best e h = h.1 x best.0
