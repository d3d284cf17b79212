-- The steps of the search without a proof.
use Rattle.std.proofs.Common.{◌≡◌, ℕ, zero, suc, ◌+◌, ◌*◌, ◌<◌, ◌≤◌, ◌⊎◌, inl, inr, true, false, ◌==◌, List, [], ◌∷◌, length, slice_index, slice_index_or, slice_set, replicate, refl, sym, ap, ◌∙◌, subst, arith, Bool, Option, Some, None}
use Rattle.std.specs.Prelude.{Any, Contains, slice_get}
use Rattle.std.specs.List.{list_any}
use Rattle.std.proofs.lemmas.Bool.{cases_Bool, cases_lt, cond-true, cond-false, eqb-true, eq-eqb, false≢true}
use Rattle.std.proofs.lemmas.List.{get_or_default, get_or-set_same, get_or-set_other, length-set}
use Rattle.std.proofs.lemmas.Nat.{mul-le}
use Rattle.std.proofs.lemmas.Option.{slice_get-get_or, get_or_from_slice_get}
use Rattle.ccr_choice.specs.Problem.{ProblemValue, BuildValue, ChoiceValue, is_problem, builds_at}
use Rattle.ccr_choice.specs.Satisfies.{IsSuccessful}
use Rattle.ccr_choice.specs.Optimal.{HasNoChoice, IsOptimal}
use Rattle.ccr_choice.specs.Preference.{Preference, IsOrder, order_of}
use Rattle.ccr_choice.specs.Assignment.{Assignment, Agrees, with_build, nothing_fixed}
use Rattle.ccr_choice.specs.Table.{assigned}
use Rattle.ccr_choice.specs.Dominated.{IsDominated}
use Rattle.ccr_choice.proofs.Exchange.{other_satisfies}
use Rattle.ccr_choice.proofs.Members.{tests_contains, same_number}
use Rattle.ccr_choice.proofs.Orders.{is_order}
use Rattle.ccr_choice.proofs.TableLaws.{table_set, table_empty}
use Rattle.ccr_proof.specs.Tree.{Tree, bounded}
use Rattle.ccr_proof.specs.Refutes.{HasNoPlace, IsBounded, Refutes}
use Rattle.ccr_proof.proofs.Sound.{refutes_holds}
use Rattle.ccr_index.specs.Rows.{no_build}
use Rattle.ccr_resolve.specs.Kinds.{kinds_from, repeats_from, product_of}
use Rattle.ccr_resolve.specs.NodeBound.{TopFits, IsBelowNodeBound}
use Rattle.ccr_resolve.specs.Search.{FoundSatisfies, places_of, free_kinds, IsNoWorse, IsSearched}
use Rattle.ccr_resolve.specs.Sought.{IsRuledOut, AreDistinct, IsSought, Sought, IsSplit}
use Rattle.ccr_resolve.proofs.KindLaws.{marked, AreFresh, marked_kinds, length-kinds, kinds_set, kinds_same, kinds_one, kinds_empty, kinds_few, kinds_here}
use Rattle.ccr_resolve.proofs.Path.{no_worse_refl, no_worse_trans, known_of}

pub agrees_more : (a : Assignment) (j : ℕ) (b : BuildValue) (builds : List ℕ) → Agrees a builds → slice_index builds j ≡ b.number → Agrees (with_build a j b) builds
agrees_more a j b builds agrees now k c e =
    elim (cases_Bool (k == j)) [
      | inl same ↦ (let is : b ≡ c = cc (e, cond-true (k == j) (Some b) (a k) same) in
          ap (slice_index builds) (eqb-true k j same) ∙ now ∙ ap (λ x. x.number) is)
      | inr other ↦ agrees k c (sym (cond-false (k == j) (Some b) (a k) other) ∙ e)
    ]

successful_one : (p : ProblemValue) (builds : List ℕ) (j : ℕ) → IsSuccessful p builds j → Any (λ b. b.number ≡ slice_index builds j) (builds_at p j)
unfolding IsSuccessful
successful_one p builds j h = h

-- ---- numbers
times_more : (k n m : ℕ) → k ≤ n → k * m ≤ n * m
times_more k n m l = mul-le k m n m l (omega arith)

within_all : (used t n f : ℕ) → used ≤ t * f → t ≤ n → 1 ≤ f → 1 + used ≤ (1 + n) * f
within_all used t n f h l one = let more = times_more t n f l in omega (arith, h, more, one)

over_all : (used t n f left : ℕ) → used ≤ t * f → t < n → 1 ≤ f → left + 1 ≤ f → left + (1 + used) + 1 ≤ (1 + n) * f
over_all used t n f left h l one last = let more = times_more (t + 1) n f (omega arith) in let next : (t + 1) * f ≡ t * f + f = omega arith in omega (arith, h, more, one, last, next)

one_more : (t f a b : ℕ) → a ≤ t * f → b ≤ f → a + b ≤ (t + 1) * f
one_more t f a b h l = omega arith

-- ---- marks
long_none : (n : ℕ) → length (replicate n false) ≡ n
long_none zero = refl
long_none (suc n) = ap suc (long_none n)

get_none : (n k : ℕ) → slice_get (replicate n false) k ≡ Some true → ⊥
get_none zero k h = absurd (cc (h))
get_none (suc n) zero h = absurd (cc (h))
get_none (suc n) (suc k) h = get_none n k h

get_false : (ms : List Bool) (k : ℕ) → k < length ms → (slice_get ms k ≡ Some true → ⊥) → slice_get ms k ≡ Some false
get_false [] k within never = absurd (omega (arith, within))
get_false (true ∷ ms) zero within never = absurd (never refl)
get_false (false ∷ ms) zero within never = refl
get_false (m ∷ ms) (suc k) within never = get_false ms k (omega (arith, within)) never

set_marked : (ms : List Bool) (k : ℕ) → slice_get ms k ≡ Some false → marked (slice_set ms k true) ≡ marked ms + 1
set_marked [] k h = absurd (cc (h))
set_marked (true ∷ ms) zero h = absurd (cc (h))
set_marked (false ∷ ms) zero h = omega arith
set_marked (m ∷ ms) (suc k) h = let rest = set_marked ms k h in omega (arith, rest)

get_set : (ms : List Bool) (k i : ℕ) → slice_get (slice_set ms k true) i ≡ Some true → (i ≡ k) ⊎ (slice_get ms i ≡ Some true)
get_set [] k i h = inr h
get_set (m ∷ ms) zero zero h = inl refl
get_set (m ∷ ms) zero (suc i) h = inr h
get_set (m ∷ ms) (suc k) zero h = inr h
get_set (m ∷ ms) (suc k) (suc i) h = elim (get_set ms k i h) [ inl same ↦ inl (ap suc same) | inr old ↦ inr old ]

module _ (prefers : Preference) (p : ProblemValue) where
  -- marked builds of a job are no more than its kinds
  pub kinds_most : (j : ℕ) (marks : List Bool) → j < length p.jobs → length marks ≡ length (builds_at p j) → AreFresh p j [] (builds_at p j) marks → marked marks ≤ slice_index (kinds_from p 0 p.jobs) j
  kinds_most j marks inside long fresh =
      let few = marked_kinds p j [] (builds_at p j) marks (omega (arith, long)) fresh in
      omega (arith, few, kinds_here p j inside)

  -- what a table may need, where a job of it is split
  pub parted : (table : List ℕ) (j : ℕ) → j < length p.jobs → slice_index table j ≡ 0 → j < length table
      → free_kinds (kinds_from p 0 p.jobs) table ≡ (1 + slice_index (kinds_from p 0 p.jobs) j) * free_kinds (kinds_from p 0 p.jobs) (slice_set table j 1)
  parted table j inside free wide = kinds_set (kinds_from p 0 p.jobs) table j 1 (λ z. absurd (omega (arith, z))) free (omega (arith, inside, length-kinds p p.jobs 0)) wide

  ruled_more : (a : Assignment) (x y : Option (List ℕ)) → IsNoWorse prefers x y → IsRuledOut prefers p x a → IsRuledOut prefers p y a
  ruled_more a None None w h = h
  ruled_more a None (Some y) w h = λ places builds sat agrees. absurd (h places builds sat agrees)
  ruled_more a (Some x) None w h = absurd w
  ruled_more a (Some x) (Some y) w h = λ places builds sat agrees. w places (h places builds sat agrees)

  -- a choice that satisfies has some build of each job
  with_each : (a : Assignment) (j : ℕ) (x : Option (List ℕ)) → j < length p.jobs → ((b : BuildValue) → Contains (builds_at p j) b → IsRuledOut prefers p x (with_build a j b)) → IsRuledOut prefers p x a
  with_each a j None within h = λ places builds sat agrees.
      let one = successful_one p builds j (sat.successful j within) in
      h one.1 (one.0, one.2, one.3) places builds sat (agrees_more a j one.1 builds agrees (sym one.4))
  with_each a j (Some y) within h = λ places builds sat agrees better.
      let one = successful_one p builds j (sat.successful j within) in
      h one.1 (one.0, one.2, one.3) places builds sat (agrees_more a j one.1 builds agrees (sym one.4)) better

  -- a newer build dominates build k
  abbrev pub HasDominator : ℕ → ℕ → Type 0
  HasDominator j k = (q : ℕ) × (q < k) × IsDominated p j (slice_index_or (builds_at p j) k no_build) (slice_index_or (builds_at p j) q no_build)

  -- no newer build does
  abbrev pub IsOwn : ℕ → ℕ → Type 0
  IsOwn j k = (q : ℕ) → q < k → IsDominated p j (slice_index_or (builds_at p j) k no_build) (slice_index_or (builds_at p j) q no_build) → ⊥

  -- what a box may need where a build of job j is fixed as well
  abbrev pub needs : List ℕ → ℕ → ℕ
  needs table j = free_kinds (kinds_from p 0 p.jobs) (slice_set table j 1)

  -- the first t of these builds are tried; those that were gone into are marked, and none of them has a dominator
  pub record IsTrying (table : List ℕ) (j : ℕ) (list : List ℕ) (before : Option (List ℕ)) (limit t : ℕ) (best : Option ChoiceValue) (left : ℕ) : Type 0 where
    pub done : (m : ℕ) (b : BuildValue) → m < t → slice_get (builds_at p j) (slice_index list m) ≡ Some b
        → IsRuledOut prefers p (places_of best) (with_build (assigned p table) j b) ⊎ HasDominator j (slice_index list m)
    pub kept : IsNoWorse prefers before (places_of best)
    pub satisfies : FoundSatisfies p best
    pub used : ℕ
    pub spent : limit ≡ left + (1 + used)
    pub marks : List Bool
    pub long : length marks ≡ length (builds_at p j)
    pub fresh : AreFresh p j [] (builds_at p j) marks
    pub tried : (k : ℕ) → slice_get marks k ≡ Some true → (m : ℕ) × (m < t) × (slice_index list m ≡ k)
    pub few : used ≤ marked marks * needs table j

  pub try_first : (table : List ℕ) (j : ℕ) (list : List ℕ) (best : Option ChoiceValue) (limit left : ℕ) → FoundSatisfies p best → limit ≡ left + 1 → IsTrying table j list (places_of best) limit 0 best left
  try_first table j list best limit left found spent =
      let n = length (builds_at p j) in
      record {
        done = λ m b less. absurd (omega arith);
        kept = no_worse_refl prefers (places_of best);
        satisfies = found;
        used = 0;
        spent = spent;
        marks = replicate n false;
        long = long_none n;
        fresh = λ k b mark. absurd (get_none n k mark);
        tried = λ k mark. absurd (get_none n k mark);
        few = omega arith;
      }

  -- a build that is dominated is left out
  pub try_skip : (table : List ℕ) (j : ℕ) (list : List ℕ) (before : Option (List ℕ)) (limit t : ℕ) (best : Option ChoiceValue) (left : ℕ) → HasDominator j (slice_index list t)
      → IsTrying table j list before limit t best left → IsTrying table j list before limit (t + 1) best left
  try_skip table j list before limit t best left dominated so = record {
    done = λ m b less e. elim (cases_lt m t) [
      | inl old ↦ so.done m b old e
      | inr reached ↦ (let now : m ≡ t = omega (arith, reached, less) in
          let P : ℕ → Type 0 = λ n. HasDominator j (slice_index list n) in inr (subst P (sym now) dominated))
    ];
    kept = so.kept;
    satisfies = so.satisfies;
    used = so.used;
    spent = so.spent;
    marks = so.marks;
    long = so.long;
    fresh = so.fresh;
    tried = λ k mark. (let old = so.tried k mark in (old.0, omega (arith, old.1), old.2));
    few = so.few;
  }

  -- a build that wasn't tried isn't marked
  module _ (table : List ℕ) (j : ℕ) (list : List ℕ) (before : Option (List ℕ)) (limit t : ℕ) (best : Option ChoiceValue) (left : ℕ)
      (distinct : AreDistinct list) (less : t < length list) (inside : slice_index list t < length (builds_at p j)) (own : IsOwn j (slice_index list t)) (so : IsTrying table j list before limit t best left) where
    unmarked : slice_get so.marks (slice_index list t) ≡ Some false
    unmarked = get_false so.marks (slice_index list t) (omega (arith, inside, so.long)) (λ mark. let old = so.tried (slice_index list t) mark in distinct old.0 t old.1 less old.2)

    more_marks : List Bool
    more_marks = slice_set so.marks (slice_index list t) true

    more_marked : marked more_marks ≡ marked so.marks + 1
    unfolding more_marks
    more_marked = set_marked so.marks (slice_index list t) unmarked

    more_long : length more_marks ≡ length (builds_at p j)
    unfolding more_marks
    more_long = length-set so.marks (slice_index list t) true ∙ so.long

    more_fresh : AreFresh p j [] (builds_at p j) more_marks
    unfolding more_marks
    more_fresh k b mark at =
        elim (get_set so.marks (slice_index list t) k mark) [
          | inl here ↦ (
            λ c among. absurd (omega (arith, among.1)),
            λ q c low found dominated.
                let mine : slice_index_or (builds_at p j) (slice_index list t) no_build ≡ b = ap (λ n. slice_index_or (builds_at p j) n no_build) (sym here) ∙ get_or_from_slice_get (builds_at p j) k b no_build at in
                let its : slice_index_or (builds_at p j) q no_build ≡ c = get_or_from_slice_get (builds_at p j) q c no_build found in
                let P : BuildValue → Type 0 = λ x. IsDominated p j x c in
                let Q : BuildValue → Type 0 = λ y. IsDominated p j (slice_index_or (builds_at p j) (slice_index list t) no_build) y in
                own q (omega (arith, low, here)) (subst Q (sym its) (subst P (sym mine) dominated)),
          )
          | inr old ↦ so.fresh k b old at
        ]

    more_tried : (k : ℕ) → slice_get more_marks k ≡ Some true → (m : ℕ) × (m < t + 1) × (slice_index list m ≡ k)
    unfolding more_marks
    more_tried k mark =
        elim (get_set so.marks (slice_index list t) k mark) [
          | inl here ↦ (t, omega arith, sym here)
          | inr old ↦ (let was = so.tried k old in (was.0, omega (arith, was.1), was.2))
        ]

    needs_same : free_kinds (kinds_from p 0 p.jobs) (slice_set table j (slice_index list t + 1)) ≡ needs table j
    needs_same = kinds_same (kinds_from p 0 p.jobs) table j (slice_index list t + 1) 1 (λ z. absurd (omega (arith, z))) (λ z. absurd (omega (arith, z)))

    pub try_next : (after : Option ChoiceValue) (left' : ℕ) → j < length table → IsSought prefers p (slice_set table j (slice_index list t + 1)) best after left left' → IsTrying table j list before limit (t + 1) after left'
    try_next after left' wide child = record {
      done = λ m b low e. elim (cases_lt m t) [
        | inl old ↦ elim (so.done m b old e) [
          | inl out ↦ inl (ruled_more (with_build (assigned p table) j b) (places_of best) (places_of after) child.kept out)
          | inr dominated ↦ inr dominated
        ]
        | inr reached ↦ (let now : m ≡ t = omega (arith, reached, low) in
            let P : Assignment → Type 0 = λ a. IsRuledOut prefers p (places_of after) a in
            inl (subst P (table_set p table j (slice_index list t) b wide (ap (λ n. slice_get (builds_at p j) (slice_index list n)) (sym now) ∙ e)) child.ruled_out))
      ];
      kept = no_worse_trans prefers before (places_of best) (places_of after) so.kept child.kept;
      satisfies = child.satisfies;
      used = so.used + child.used;
      spent = omega (arith, so.spent, child.spent);
      marks = more_marks;
      long = more_long;
      fresh = more_fresh;
      tried = more_tried;
      few = (let all = one_more (marked so.marks) (needs table j) so.used child.used so.few (omega (arith, child.few, needs_same)) in
          let P : ℕ → Type 0 = λ n. so.used + child.used ≤ n * needs table j in subst P (sym more_marked) all);
    }

    pub try_over : (bound : Option (List ℕ)) → IsSplit p table bound j list → j < length table → left + 1 ≤ free_kinds (kinds_from p 0 p.jobs) (slice_set table j (slice_index list t + 1))
        → limit + 1 ≤ free_kinds (kinds_from p 0 p.jobs) table
    try_over bound split wide over =
        let d = slice_index (kinds_from p 0 p.jobs) j in
        let most = kinds_most j more_marks split.inside more_long more_fresh in
        let all = over_all so.used (marked so.marks) d (needs table j) left so.few (omega (arith, most, more_marked)) (kinds_one (kinds_from p 0 p.jobs) (slice_set table j 1)) (omega (arith, over, needs_same)) in
        omega (arith, all, so.spent, parted table j split.inside split.free wide)

module _ (prefers : Preference) (order : IsOrder prefers) (p : ProblemValue) (rules : is_problem p ≡ true) where
  -- what a tree refutes is ruled out
  refuted_out : (table : List ℕ) (best : Option (List ℕ)) (t : Tree) → Refutes prefers p best (assigned p table) t → IsRuledOut prefers p best (assigned p table)
  refuted_out table None t h = refutes_holds prefers order p rules None (assigned p table) t (known_of prefers order p rules table) h
  refuted_out table (Some x) t h = refutes_holds prefers order p rules (Some x) (assigned p table) t (known_of prefers order p rules table) h

  pub sought_of : (table : List ℕ) (before after : Option ChoiceValue) (limit left : ℕ) (t : Tree) → limit ≡ left + 1 → IsSearched prefers p table before after limit left t → IsSought prefers p table before after limit left
  sought_of table before after limit left t one s = record {
    ruled_out = refuted_out table (places_of after) t s.refuted;
    kept = s.kept;
    satisfies = s.satisfies;
    used = s.used;
    spent = s.spent;
    few = (let least = kinds_one (kinds_from p 0 p.jobs) table in omega (arith, least, one, s.spent));
  }

  few_of : (table : List ℕ) (j : ℕ) (list : List ℕ) (before : Option (List ℕ)) (limit t : ℕ) (best : Option ChoiceValue) (left : ℕ) → j < length p.jobs → slice_index table j ≡ 0 → j < length table
      → (so : IsTrying prefers p table j list before limit t best left) → 1 + so.used ≤ free_kinds (kinds_from p 0 p.jobs) table
  few_of table j list before limit t best left inside free wide so =
      let all = within_all so.used (marked so.marks) (slice_index (kinds_from p 0 p.jobs) j) (needs prefers p table j) so.few (kinds_most prefers p j so.marks inside so.long so.fresh) (kinds_one (kinds_from p 0 p.jobs) (slice_set table j 1)) in
      omega (arith, all, parted prefers p table j inside free wide)

  pub try_closed : (table : List ℕ) (j : ℕ) (list : List ℕ) (bound : Option (List ℕ)) (limit t : ℕ) (before best : Option ChoiceValue) (left : ℕ) → IsSplit p table bound j list → j < length table
      → IsTrying prefers p table j list (places_of before) limit t best left → IsBounded prefers p (places_of best) (assigned p table) → IsSought prefers p table before best limit left
  try_closed table j list bound limit t before best left split wide so closed = record {
    ruled_out = refuted_out table (places_of best) bounded closed;
    kept = so.kept;
    satisfies = so.satisfies;
    used = 1 + so.used;
    spent = so.spent;
    few = few_of table j list (places_of before) limit t best left split.inside split.free wide so;
  }

  -- ---- a build that is dominated is ruled out where the one that dominates it is
  moved_agrees : (a : Assignment) (j : ℕ) (b other : BuildValue) (builds : List ℕ) → j < length builds → Agrees (with_build a j b) builds → Agrees (with_build a j other) (slice_set builds j other.number)
  moved_agrees a j b other builds inside agrees k c e =
      elim (cases_Bool (k == j)) [
        | inl same ↦ (let is : other ≡ c = cc (e, cond-true (k == j) (Some other) (a k) same) in
            ap (slice_index (slice_set builds j other.number)) (eqb-true k j same) ∙ get_or-set_same builds j other.number 0 inside ∙ ap (λ x. x.number) is)
        | inr differs ↦ (let fixed : a k ≡ Some c = sym (cond-false (k == j) (Some other) (a k) differs) ∙ e in
            get_or-set_other builds j k other.number 0 (λ same. absurd (cc (differs, eq-eqb k j same)))
            ∙ agrees k c (cond-false (k == j) (Some b) (a k) differs ∙ fixed))
      ]

  module _ (a : Assignment) (j : ℕ) (b other : BuildValue) (inside : j < length p.jobs) (one : Contains (builds_at p j) b) (another : Contains (builds_at p j) other) (dominated : IsDominated p j b other) where
    now_is : (builds : List ℕ) → Agrees (with_build a j b) builds → slice_index builds j ≡ b.number
    now_is builds agrees = agrees j b (cond-true (j == j) (Some b) (a j) (eq-eqb j j refl))

    same_ruled : (x : Option (List ℕ)) → IsRuledOut prefers p x (with_build a j other) → IsRuledOut prefers p x (with_build a j b)
    same_ruled None out = λ places builds sat agrees.
        out places (slice_set builds j other.number) (other_satisfies p rules places builds j b other sat inside (now_is builds agrees) one another dominated)
        (moved_agrees a j b other builds (omega (arith, inside, sat.lengths.build_each)) agrees)
    same_ruled (Some best) out = λ places builds sat agrees better.
        out places (slice_set builds j other.number) (other_satisfies p rules places builds j b other sat inside (now_is builds agrees) one another dominated)
        (moved_agrees a j b other builds (omega (arith, inside, sat.lengths.build_each)) agrees) better

  there : (bs : List BuildValue) (k : ℕ) → k < length bs → Contains bs (slice_index_or bs k no_build)
  there bs k within = (k, within, get_or_default bs k (slice_index_or bs k no_build) no_build within)

module _ (p : ProblemValue) (rules : is_problem p ≡ true) (table : List ℕ) (j : ℕ) (list : List ℕ) (limit t : ℕ) (before best : Option ChoiceValue) (left : ℕ) (split : IsSplit p table (places_of before) j list) (all : t ≡ length list)
    (so : IsTrying (order_of p) p table j list (places_of before) limit t best left) where
  -- each build that is tried, dominated or left out is ruled out, the newer ones first
  each_out : (n k : ℕ) (b : BuildValue) → k < n → k < length (builds_at p j) → slice_get (builds_at p j) k ≡ Some b → IsRuledOut (order_of p) p (places_of best) (with_build (assigned p table) j b)
  each_out zero k b less within got = absurd (omega (arith, less))
  each_out (suc n) k b less within got =
      let test = tests_contains (λ m. m == k) k list (same_number k) in
      elim (cases_Bool (list_any (λ m. m == k) list)) [
        | inl e ↦ (let found : Contains list k = test.0 e in
            let here : slice_index list found.0 ≡ k = get_or_default list found.0 0 k found.1 ∙ found.2 in
            elim (so.done found.0 b (omega (arith, found.1, all)) (ap (slice_get (builds_at p j)) here ∙ got)) [
              | inl out ↦ out
              | inr dominated ↦ (
                  let q = dominated.0 in
                  let low : q < k = omega (arith, dominated.1, here) in
                  let other = slice_index_or (builds_at p j) q no_build in
                  let in_q : q < length (builds_at p j) = omega (arith, low, within) in
                  let mine : slice_index_or (builds_at p j) (slice_index list found.0) no_build ≡ b = ap (λ m. slice_index_or (builds_at p j) m no_build) here ∙ get_or_from_slice_get (builds_at p j) k b no_build got in
                  let P : BuildValue → Type 0 = λ x. IsDominated p j x other in
                  let Q : BuildValue → Type 0 = λ x. Contains (builds_at p j) x in
                  same_ruled (order_of p) (is_order p) p rules (assigned p table) j b other split.inside (subst Q (get_or_from_slice_get (builds_at p j) k b no_build got) (there (order_of p) (is_order p) p rules (builds_at p j) k within)) (there (order_of p) (is_order p) p rules (builds_at p j) q in_q) (subst P mine dominated.2) (places_of best)
                  (each_out n q other (omega (arith, low, less)) in_q (slice_get-get_or (builds_at p j) q no_build in_q)))
            ])
        | inr e ↦ ruled_more (order_of p) p (with_build (assigned p table) j b) (places_of before) (places_of best) so.kept (split.left_out k b within got (λ h. false≢true (sym e ∙ test.1 h)))
      ]

  pub try_end : j < length table → IsSought (order_of p) p table before best limit left
  try_end wide = record {
    ruled_out = with_each (order_of p) p (assigned p table) j (places_of best) split.inside (λ b among.
        each_out (among.0 + 1) among.0 b (omega arith) among.1 (slice_get-get_or (builds_at p j) among.0 b among.1 ∙ ap (λ x. Some x) among.2));
    kept = so.kept;
    satisfies = so.satisfies;
    used = 1 + so.used;
    spent = so.spent;
    few = few_of (order_of p) (is_order p) p rules table j list (places_of before) limit t best left split.inside split.free wide so;
  }

-- ---- the whole
pub over_is : (prefers : Preference) (p : ProblemValue) (table : List ℕ) (before after : Option ChoiceValue) (limit left : ℕ) (o : Bool) → Sought prefers p table before after limit left o → o ≡ true → limit + 1 ≤ free_kinds (kinds_from p 0 p.jobs) table
over_is prefers p table before after limit left true h e = h
over_is prefers p table before after limit left false h e = absurd (false≢true e)

pub sought_is : (prefers : Preference) (p : ProblemValue) (table : List ℕ) (before after : Option ChoiceValue) (limit left : ℕ) (o : Bool) → Sought prefers p table before after limit left o → o ≡ false → IsSought prefers p table before after limit left
sought_is prefers p table before after limit left false h e = h
sought_is prefers p table before after limit left true h e = absurd (false≢true (sym e))

pub over_room : (prefers : Preference) (p : ProblemValue) (budget n : ℕ) → (TopFits prefers p → ⊥) → ((i : ℕ) → HasNoPlace p nothing_fixed i → ⊥) → budget + 1 ≤ free_kinds (kinds_from p 0 p.jobs) (replicate n 0)
    → IsBelowNodeBound prefers p budget
over_room prefers p budget n fits some over =
    let few = kinds_few p p.jobs 0 in
    let P = product_of (kinds_from p 0 p.jobs) in
    let all : 1 * P ≤ (1 + repeats_from p 0 p.jobs) * P = mul-le 1 P (1 + repeats_from p 0 p.jobs) P (omega arith) (omega arith) in
    let same : 1 * P ≡ P = omega arith in
    let empty = kinds_empty (kinds_from p 0 p.jobs) n in
    record {
      product = omega (arith, over, empty, few);
      kinds = omega (arith, over, empty, all, same);
      fitting = λ top. absurd (fits top);
      lacking = λ i none. absurd (some i none);
    }

pub none_sought : (prefers : Preference) (p : ProblemValue) (before after : Option ChoiceValue) (limit left : ℕ) → IsSought prefers p (replicate 32 0) before after limit left → after ≡ None → HasNoChoice p
none_sought prefers p before None limit left s e = λ places builds sat.
    let P : Assignment → Type 0 = λ a. IsRuledOut prefers p None a in
    let out : P nothing_fixed = subst P (table_empty p 32) s.ruled_out in
    out places builds sat (λ j b e. absurd (cc (e)))
none_sought prefers p before (Some c) limit left s e = absurd (cc (e))

pub best_sought : (prefers : Preference) (p : ProblemValue) (before after : Option ChoiceValue) (limit left : ℕ) (c : ChoiceValue) → IsSought prefers p (replicate 32 0) before after limit left → after ≡ Some c → IsOptimal prefers p c.places c.builds
best_sought prefers p before None limit left c s e = absurd (cc (e))
best_sought prefers p before (Some d) limit left c s e =
    let same : d ≡ c = cc (e) in
    let Q : ChoiceValue → Type 0 = λ x. IsOptimal prefers p x.places x.builds in
    let P : Assignment → Type 0 = λ a. IsRuledOut prefers p (Some d.places) a in
    let out : P nothing_fixed = subst P (table_empty p 32) s.ruled_out in
    subst Q same (record { satisfies = s.satisfies; none_better = λ others builds sat. out others builds sat (λ j b e. absurd (cc (e))) })
