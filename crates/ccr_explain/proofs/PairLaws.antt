-- The builds that have a pair, each marked: from the newest one on and, from each, the one before.
use Rattle.std.proofs.Common.{◌≡◌, ℕ, ◌+◌, ◌-◌, ◌<◌, ◌≤◌, inl, inr, Bool, true, false, ◌==◌, ◌&&◌, List, drop, length, slice_index_or, slice_set, refl, sym, ap, ◌∙◌, subst, arith}
use Rattle.std.specs.Prelude.{All, Any, Contains}
use Rattle.std.specs.List.{list_any}
use Rattle.std.proofs.lemmas.Bool.{cases_eq, cases_lt, and_parts, eqb-true}
use Rattle.std.proofs.lemmas.List.{length-drop, get_or-drop, get_or-set_same, get_or-set_other}
use Rattle.std.proofs.lemmas.List.Elements.{All-contains}
use Rattle.std.proofs.lemmas.List.Folds.{Any-from_list_any}
use Rattle.ccr_choice.specs.Problem.{BuildValue, InputValue}
use Rattle.ccr_index.specs.Rows.{no_build, last_with}
use Rattle.ccr_index.proofs.RowLaws.{last_within, last_has, none_newer}
use Rattle.ccr_explain.specs.Cut.{has_place_of, MarksBuilds}
use Rattle.ccr_explain.proofs.Orders.{has_it}

-- Builds with the pair were marked down to one, of which there are so many up to it, and which has it.
pub record IsMarkedTo (bs : List BuildValue) (pair : ℕ × ℕ) (marks : List Bool) (left : ℕ) : Type 0 where
  pub within : left ≤ length bs
  pub done : (k : ℕ) (d : BuildValue) → k + left < length bs → Contains (slice_index_or bs k d).pairs pair → slice_index_or marks k false ≡ true
  pub has : (k : ℕ) (d : BuildValue) → 0 < left → k + left ≡ length bs → Contains (slice_index_or bs k d).pairs pair

pub marked_first : (bs : List BuildValue) (pair : ℕ × ℕ) (marks : List Bool) (left : ℕ) → left ≡ last_with bs pair → IsMarkedTo bs pair marks left
marked_first bs pair marks left is =
    let P : ℕ → Type 0 = λ n. IsMarkedTo bs pair marks n in
    subst P (sym is) (record {
      within = last_within bs pair;
      done = λ k d before h. absurd (none_newer bs pair k d before h);
      has = λ k d some e. last_has bs pair k d (λ z. omega (arith, some, z)) e;
    })

-- a mark stays when another is set
pub mark_stays : (marks : List Bool) (k n : ℕ) → k < length marks → slice_index_or marks n false ≡ true → slice_index_or (slice_set marks k true) n false ≡ true
mark_stays marks k n within h =
    elim (cases_eq n k) [
      | inl same ↦ (let P : ℕ → Type 0 = λ m. slice_index_or (slice_set marks k true) m false ≡ true in subst P (sym same) (get_or-set_same marks k true false within))
      | inr other ↦ get_or-set_other marks k n true false other ∙ h
    ]

-- one build more
pub record IsNext (bs : List BuildValue) (pair : ℕ × ℕ) (marks : List Bool) (left next : ℕ) : Type 0 where
  pub marked : IsMarkedTo bs pair marks next
  pub fewer : next < left

pub marked_next : (bs : List BuildValue) (pair : ℕ × ℕ) (marks more : List Bool) (left next k : ℕ) → IsMarkedTo bs pair marks left → 0 < left → k + left ≡ length bs → k < length marks
    → more ≡ slice_set marks k true → next ≡ last_with (drop (k + 1) bs) pair → IsNext bs pair more left next
marked_next bs pair marks more left next k so some e inside set last =
    let P : ℕ → Type 0 = λ n. IsNext bs pair more left n in
    let Q : List Bool → Type 0 = λ ms. IsNext bs pair ms left (last_with rest pair) in
    subst P (sym last) (subst Q (sym set) (record {
      marked = record { within = omega (arith, short, long); done = done; has = has };
      fewer = omega (arith, short, long, e);
    }))
  where
    rest : List BuildValue
    rest = drop (k + 1) bs

    short : last_with rest pair ≤ length rest
    short = last_within rest pair

    long : length rest ≡ length bs - (k + 1)
    long = length-drop (k + 1) bs

    behind : (j : ℕ) (d : BuildValue) → k < j → slice_index_or rest (j - (k + 1)) d ≡ slice_index_or bs j d
    behind j d after =
        let there : k + 1 + (j - (k + 1)) ≡ j = omega (arith, after) in
        get_or-drop (k + 1) bs (j - (k + 1)) d ∙ ap (λ i. slice_index_or bs i d) there

    done : (j : ℕ) (d : BuildValue) → j + last_with rest pair < length bs → Contains (slice_index_or bs j d).pairs pair → slice_index_or (slice_set marks k true) j false ≡ true
    done j d before h =
        elim (cases_eq j k) [
          | inl same ↦ (let R : ℕ → Type 0 = λ m. slice_index_or (slice_set marks k true) m false ≡ true in subst R (sym same) (get_or-set_same marks k true false inside))
          | inr other ↦ elim (cases_lt j k) [
            | inl newer ↦ mark_stays marks k j inside (so.done j d (omega (arith, newer, e)) h)
            | inr from ↦ (let after : k < j = grind (arith, from, other) in
                let S : BuildValue → Type 0 = λ c. Contains c.pairs pair in
                absurd (none_newer rest pair (j - (k + 1)) d (omega (arith, before, long, after)) (subst S (sym (behind j d after)) h)))
          ]
        ]

    has : (j : ℕ) (d : BuildValue) → 0 < last_with rest pair → j + last_with rest pair ≡ length bs → Contains (slice_index_or bs j d).pairs pair
    has j d others f =
        let after : k < j = omega (arith, f, short, long, others) in
        let S : BuildValue → Type 0 = λ c. Contains c.pairs pair in
        subst S (behind j d after) (last_has rest pair (j - (k + 1)) d (λ z. omega (arith, others, z)) (omega (arith, after, f, long, e)))

-- all were marked
pub marked_last : (bs : List BuildValue) (pair : ℕ × ℕ) (marks : List Bool) (left : ℕ) → left ≡ 0 → IsMarkedTo bs pair marks left → MarksBuilds bs marks pair
marked_last bs pair marks left none so k within h = so.done k no_build (omega (arith, none, within)) h

-- the place that a build has of an input
pub place_found : (x : InputValue) (pairs : List (ℕ × ℕ)) → has_place_of x pairs ≡ true → (place : ℕ) × Contains x.places place × Contains pairs (x.scope, place)
place_found x pairs h = of (Any-from_list_any test pairs h)
  where
    test : ℕ × ℕ → Bool
    test r = r.0 == x.scope && list_any (λ y. y == r.1) x.places

    of : Any (λ r. test r ≡ true) pairs → (place : ℕ) × Contains x.places place × Contains pairs (x.scope, place)
    of (k, r, within, at, holds) =
        let parts = and_parts (r.0 == x.scope) (list_any (λ y. y == r.1) x.places) holds in
        let P : ℕ × ℕ → Type 0 = λ q. Contains pairs q in
        let same : r ≡ (x.scope, r.1) = ap (λ s. (s, r.1)) (eqb-true r.0 x.scope parts.0) in
        (r.1, has_it x.places r.1 parts.1, subst P same (k, within, at))

-- a build that is of use has a mark, where each that has a place of the input has one
pub use_is_marked : (x : InputValue) (bs : List BuildValue) (marks : List Bool) → All (λ place. MarksBuilds bs marks (x.scope, place)) x.places
    → (k : ℕ) → k < length bs → has_place_of x (slice_index_or bs k no_build).pairs ≡ true → slice_index_or marks k false ≡ true
use_is_marked x bs marks all k within h = of (place_found x (slice_index_or bs k no_build).pairs h)
  where
    of : (place : ℕ) × Contains x.places place × Contains (slice_index_or bs k no_build).pairs (x.scope, place) → slice_index_or marks k false ≡ true
    of (place, allowed, moved) = All-contains (λ y. MarksBuilds bs marks (x.scope, y)) x.places place all allowed k within moved

-- what is tested and has a mark is what is tested, where all that pass have one
pub only_marked : (mark test : Bool) → (test ≡ true → mark ≡ true) → (mark && test) ≡ test
only_marked true test h = refl
only_marked false true h = h refl
only_marked false false h = refl
