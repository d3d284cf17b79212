-- The steps of the search.
use Rattle.std.proofs.Common.{true, false, not, Bool, ◌≡◌, ℕ, zero, suc, ◌+◌, ◌*◌, ◌<◌, ◌≤◌, ◌⊎◌, inl, inr, List, [], ◌∷◌, ◌++◌, length, take, get_or, slice_index, slice_index_or, slice_get, slice_set, replicate, refl, sym, ap, ◌∙◌, subst, arith, Option, Some, None, Vec, Global}
use Rattle.std.specs.Prelude.{Any}
use Rattle.std.proofs.lemmas.Bool.{cases_eq}
use Rattle.std.proofs.lemmas.List.{take_more, take_all, get_or-set_same, get_or-set_other}
use Rattle.std.proofs.lemmas.Nat.{mul-le}
use Rattle.std.proofs.Math.Nat.{mul-le-mul_left, mul_left_comm}
use Rattle.std.proofs.lemmas.Option.{slice_get-get_or, get_or_from_slice_get}
use Rattle.ccr_choice.specs.Problem.{ProblemValue, BuildValue, ChoiceValue, is_problem, builds_at}
use Rattle.ccr_choice.specs.Satisfies.{Satisfies, IsSuccessful}
use Rattle.ccr_proof.specs.declared.node.Node.{Node, Job}
use Rattle.ccr_choice.specs.Preference.{Preference, IsOrder}
use Rattle.ccr_choice.specs.Dominated.{IsDominated}
use Rattle.ccr_choice.specs.Assignment.{Assignment, with_build, nothing_fixed}
use Rattle.ccr_choice.specs.Possible.{AreBestPlaces, AreBoundedBy}
use Rattle.ccr_choice.proofs.BestPlaces.{best_places}
use Rattle.ccr_choice.proofs.PossibleLaws.{are_only, bounded_by}
use Rattle.ccr_proof.specs.Tree.{Tree, Trees, job, empty, bounded, same_as, no_child, child, count, count_all, levels, levels_all, tree_of, trees_of, width, is_same, are_same}
use Rattle.ccr_proof.specs.Refutes.{HasNoPlace, IsBounded, IsSameCase, IsSame, Refutes, RefuteEach}
use Rattle.ccr_choice.specs.Table.{build_of, assigned}
use Rattle.ccr_choice.proofs.TableLaws.{table_set}
use Rattle.ccr_proof.proofs.Trees.{tree_of_job}
use Rattle.ccr_index.specs.Rows.{no_build}
use Rattle.ccr_resolve.specs.Kinds.{kinds_after, kinds_from, repeats_from, kinds_bound}
use Rattle.ccr_resolve.specs.NodeBound.{newest, TopFits, IsBelowNodeBound}
use Rattle.ccr_resolve.specs.Search.{FixesKnown, FoundSatisfies, places_of, free_product, free_kinds, kinds_left, free_sum, free_jobs, OnPath, ReachesTop, IsNeeded, IsNoWorse, IsSearched, Searched}
use Rattle.ccr_resolve.proofs.Counting.{product_set, product_same, sum_set, sum_same, product_one, product_empty, free_set}
use Rattle.ccr_resolve.proofs.KindLaws.{marked, AreFresh, marked_kinds, kinds_at, repeats_at, length-kinds, kinds_set, kinds_same, kinds_one, kinds_empty, kinds_whole, kinds_more}
use Rattle.ccr_resolve.proofs.Path.{better_irreflexive, better_trans, no_worse_refl, no_worse_trans, reach_more, path_place, path_top, one_node}

-- ---- a bound that rises keeps each refutation
module _ (prefers : Preference) (p : ProblemValue) (x y : Option (List ℕ)) (worse : IsNoWorse prefers x y) where
  bounded_more : (a : Assignment) (x y : Option (List ℕ)) → IsNoWorse prefers x y → IsBounded prefers p x a → IsBounded prefers p y a
  bounded_more a None y w h = absurd h
  bounded_more a (Some u) None w h = absurd w
  bounded_more a (Some u) (Some v) w h = λ places best. w places (h places best)

  mutual
    pub refutes_more : (a : Assignment) (t : Tree) → Refutes prefers p x a t → Refutes prefers p y a t
    refutes_more a (empty i) h = h
    refutes_more a bounded h = bounded_more a x y worse h
    refutes_more a (same_as q) h = absurd h
    refutes_more a (job j ts) h = (h.0, h.1, each_more a j ts 0 (builds_at p j) ts h.2)

    pub each_more : (a : Assignment) (j : ℕ) (all : Trees) (k : ℕ) (bs : List BuildValue) (ts : Trees)
        → RefuteEach prefers p x a j all k bs ts → RefuteEach prefers p y a j all k bs ts
    each_more a j all k [] no_child h = tt
    each_more a j all k (b ∷ bs) (child t ts) h =
        (elim h.0 [ inl own ↦ inl (refutes_more (with_build a j b) t own) | inr other ↦ inr other ], each_more a j all (k + 1) bs ts h.1)
    each_more a j all k [] (child t ts) h = absurd h
    each_more a j all k (b ∷ bs) no_child h = absurd h

-- what refutes by itself isn't the same case as another
own_case : (prefers : Preference) (p : ProblemValue) (bound : Option (List ℕ)) (a : Assignment) (t : Tree) → Refutes prefers p bound a t → is_same t ≡ false
own_case prefers p bound a (job j ts) h = refl
own_case prefers p bound a (empty i) h = refl
own_case prefers p bound a bounded h = refl
own_case prefers p bound a (same_as q) h = absurd h

-- ---- one child more
abbrev pub with_child : Trees → Tree → Trees
with_child no_child t = child t no_child
with_child (child x ts) t = child x (with_child ts t)

-- these children, with others behind them
abbrev pub joined : Trees → Trees → Trees
joined no_child rest = rest
joined (child t ts) rest = child t (joined ts rest)

joined_one : (ts : Trees) (t : Tree) (rest : Trees) → joined (with_child ts t) rest ≡ joined ts (child t rest)
joined_one no_child t rest = refl
joined_one (child x ts) t rest = ap (child x) (joined_one ts t rest)

each_one : (prefers : Preference) (p : ProblemValue) (bound : Option (List ℕ)) (a : Assignment) (j : ℕ) (all : Trees) (m n : ℕ) (bs : List BuildValue) (ts : Trees) (b : BuildValue) (t : Tree)
    → n ≡ m + width ts → RefuteEach prefers p bound a j all m bs ts → Refutes prefers p bound (with_build a j b) t ⊎ IsSame p j all n b t → RefuteEach prefers p bound a j all m (bs ++ b ∷ []) (with_child ts t)
each_one prefers p bound a j all m n [] no_child b t e h k =
    let P : ℕ → Type 0 = λ i. Refutes prefers p bound (with_build a j b) t ⊎ IsSame p j all i b t in
    let now : n ≡ m = omega (arith, e) in (subst P now k, tt)
each_one prefers p bound a j all m n (x ∷ bs) (child y ts) b t e h k = (h.0, each_one prefers p bound a j all (m + 1) n bs ts b t (omega (arith, e)) h.1 k)
each_one prefers p bound a j all m n [] (child y ts) b t e h k = absurd h
each_one prefers p bound a j all m n (x ∷ bs) no_child b t e h k = absurd h

joined_none : (ts : Trees) → joined ts no_child ≡ ts
joined_none no_child = refl
joined_none (child t ts) = ap (child t) (joined_none ts)

-- which children are cases of their own
abbrev pub own_marks : Trees → List Bool
own_marks no_child = []
own_marks (child t ts) = not (is_same t) ∷ own_marks ts

length-own : (ts : Trees) → length (own_marks ts) ≡ width ts
length-own no_child = refl
length-own (child t ts) = ap suc (length-own ts)

width_one : (ts : Trees) (t : Tree) → width (with_child ts t) ≡ width ts + 1
width_one no_child t = refl
width_one (child x ts) t = let e = width_one ts t in omega (arith, e)

marked_one : (ts : Trees) (t : Tree) → marked (own_marks (with_child ts t)) ≡ marked (own_marks ts) + marked (not (is_same t) ∷ [])
marked_one no_child t = omega arith
marked_one (child x ts) t = let rest = marked_one ts t in omega (arith, rest)

mark_at : (ts : Trees) (t : Tree) (m : ℕ) → slice_get (own_marks (with_child ts t)) m ≡ Some true → (slice_get (own_marks ts) m ≡ Some true) ⊎ ((m ≡ width ts) × (is_same t ≡ false))
mark_at no_child t zero h = inr (refl, own (is_same t) (cc (h)))
  where
    own : (b : Bool) → not b ≡ true → b ≡ false
    own true h = absurd (cc (h))
    own false h = refl
mark_at no_child t (suc m) h = absurd (cc (h))
mark_at (child x ts) t zero h = inl h
mark_at (child x ts) t (suc m) h = elim (mark_at ts t m h) [ inl old ↦ inl old | inr new ↦ inr (ap suc new.0, new.1) ]

-- a child that is a case of its own is so among more children
pub own_joined : (ts rest : Trees) (q : ℕ) → slice_get (are_same ts) q ≡ Some false → slice_get (are_same (joined ts rest)) q ≡ Some false
own_joined no_child rest q h = absurd (cc (h))
own_joined (child t ts) rest zero h = h
own_joined (child t ts) rest (suc q) h = own_joined ts rest q h

count_one : (ts : Trees) (t : Tree) → count_all (with_child ts t) ≡ count_all ts + count t
count_one no_child t = omega arith
count_one (child x ts) t = let e = count_one ts t in omega (arith, e)

deep_one : (ts : Trees) (t : Tree) (n : ℕ) → levels_all ts < n → levels t < n → levels_all (with_child ts t) < n
deep_one no_child t n h k = omega arith
deep_one (child x ts) t n h k = let rest = deep_one ts t n (omega arith) k in omega (arith, rest, h)

trees_more : (cs : List Node) (c : Node) → with_child (trees_of cs) (tree_of c) ≡ trees_of (cs ++ c ∷ [])
trees_more [] c = refl
trees_more (x ∷ cs) c = ap (child (tree_of x)) (trees_more cs c)

-- ---- numbers
times_more : (k n m : ℕ) → k ≤ n → k * m ≤ n * m
times_more k n m l = mul-le k m n m l (omega arith)

split : (n m k : ℕ) → k ≤ n * m → 1 ≤ m → 1 + k ≤ (1 + n) * m
split n m k h l = omega arith

one_more : (k m a b : ℕ) → a ≤ k * m → b ≤ m → a + b ≤ (k + 1) * m
one_more k m a b h l = omega arith

pub kinds_left_one : (p : ProblemValue) (table : List ℕ) → 1 + repeats_from p 0 p.jobs ≤ kinds_left p table
kinds_left_one p table =
    let F = free_kinds (kinds_from p 0 p.jobs) table in
    let up : (1 + repeats_from p 0 p.jobs) * 1 ≤ (1 + repeats_from p 0 p.jobs) * F = mul-le-mul_left (1 + repeats_from p 0 p.jobs) (kinds_one (kinds_from p 0 p.jobs) table) in
    omega (arith, up)

module _ (prefers : Preference) (p : ProblemValue) where
  -- one node is no more than any table may need
  pub needed_one : (table : List ℕ) (best : Option (List ℕ)) (n : ℕ) → n ≡ 1 → IsNeeded prefers p table best n
  needed_one table best n e =
      let one = product_one p.jobs table in
      let kinds = kinds_left_one p table in
      record { product = omega (arith, one, e); kinds = omega (arith, kinds, e); lacking = λ i x. omega arith; bounded = λ x. omega arith; path = λ x. omega arith }

  -- ---- a job node
  -- what is known of a table where a job is split
  pub record IsOpen (table : List ℕ) (j : ℕ) (before : Option (List ℕ)) : Type 0 where
    pub inside : j < length p.jobs
    pub wide : j < length table
    pub free : slice_index table j ≡ 0
    pub possible : (i : ℕ) → HasNoPlace p (assigned p table) i → ⊥
    pub unbounded : IsBounded prefers p before (assigned p table) → ⊥

  -- nothing is tried yet, or the first build has led to the best places where nothing is fixed
  abbrev pub PathSoFar : List ℕ → ℕ → ℕ → ℕ → Option (List ℕ) → Type 0
  PathSoFar table j k n best = ((k ≡ 0) × (n ≡ 0) × (best ≡ None)) ⊎ (ReachesTop prefers p best × (n ≤ free_sum p.jobs (slice_set table j 1) + k))

  -- the first k builds of the job have their trees
  pub record IsLooping (table : List ℕ) (j : ℕ) (before : Option (List ℕ)) (limit k : ℕ) (children : Trees) (best : Option ChoiceValue) (left : ℕ) : Type 0 where
    pub each : (rest : Trees) → RefuteEach prefers p (places_of best) (assigned p table) j (joined children rest) 0 (take k (builds_at p j)) children
    pub wide : width children ≡ k
    pub fresh : AreFresh p j [] (builds_at p j) (own_marks children)
    pub kept : IsNoWorse prefers before (places_of best)
    pub satisfies : FoundSatisfies p best
    pub shallow : levels_all children < free_jobs table
    pub used : ℕ
    pub counted : count_all children ≤ used
    pub spent : limit ≡ left + (1 + used)
    pub product : used ≤ k * free_product p.jobs (slice_set table j 1)
    pub kinds : used + marked (own_marks children) ≤ k + marked (own_marks children) * kinds_left p (slice_set table j 1)
    pub path : OnPath prefers p table before → PathSoFar table j k used (places_of best)

module _ (prefers : Preference) (order : IsOrder prefers) (p : ProblemValue) (rules : is_problem p ≡ true) where
  -- ---- the leaves
  pub leaf_empty : (table : List ℕ) (before : Option ChoiceValue) (limit left i : ℕ) → HasNoPlace p (assigned p table) i → FoundSatisfies p before → limit ≡ left + 1
      → IsSearched prefers p table before before limit left (empty i)
  leaf_empty table before limit left i none found spent = record {
    refuted = none;
    kept = no_worse_refl prefers (places_of before);
    satisfies = found;
    shallow = omega arith;
    used = 1;
    counted = omega arith;
    spent = spent;
    needed = needed_one prefers p table (places_of before) 1 refl;
    reached = λ path. absurd (path_place prefers order p rules table (places_of before) i path none);
  }

  path_unbounded : (table : List ℕ) (best : Option (List ℕ)) → OnPath prefers p table best → IsBounded prefers p best (assigned p table) → ⊥
  path_unbounded table None path h = h
  path_unbounded table (Some x) path h = absurd (let e = path.nothing in cc)

  pub leaf_bounded : (table : List ℕ) (before : Option ChoiceValue) (limit left : ℕ) → IsBounded prefers p (places_of before) (assigned p table) → FoundSatisfies p before → limit ≡ left + 1
      → IsSearched prefers p table before before limit left bounded
  leaf_bounded table before limit left h found spent = record {
    refuted = h;
    kept = no_worse_refl prefers (places_of before);
    satisfies = found;
    shallow = omega arith;
    used = 1;
    counted = omega arith;
    spent = spent;
    needed = needed_one prefers p table (places_of before) 1 refl;
    reached = λ path. absurd (path_unbounded table (places_of before) path h);
  }

  unbounded_kept : (table : List ℕ) (b : Option (List ℕ)) → (IsBounded prefers p b (assigned p table) → ⊥) → IsNoWorse prefers b (Some (best_places prefers p (assigned p table)))
  unbounded_kept table None h = tt
  unbounded_kept table (Some x) h = λ places worse better.
      h ((bounded_by prefers order p (assigned p table) x).0 (λ best. worse (better_trans prefers order places (best_places prefers p (assigned p table)) x better best)))

  pub leaf_full : (table : List ℕ) (before : Option ChoiceValue) (c : ChoiceValue) (limit left : ℕ) → (IsBounded prefers p (places_of before) (assigned p table) → ⊥)
      → AreBestPlaces prefers p (assigned p table) c.places → Satisfies p c.places c.builds → limit ≡ left + 1 → IsSearched prefers p table before (Some c) limit left bounded
  leaf_full table before c limit left h best found spent =
      let u = best_places prefers p (assigned p table) in
      let is : c.places ≡ u = are_only prefers order p (assigned p table) c.places best in
      let P : List ℕ → Type 0 = λ xs. AreBoundedBy prefers p (assigned p table) xs in
      let Q : List ℕ → Type 0 = λ xs. IsNoWorse prefers (places_of before) (Some xs) in
      let R : List ℕ → Type 0 = λ xs. AreBoundedBy prefers p nothing_fixed xs in
      record {
        refuted = subst P (sym is) ((bounded_by prefers order p (assigned p table) u).0 (better_irreflexive prefers order u));
        kept = subst Q (sym is) (unbounded_kept table (places_of before) h);
        satisfies = found;
        shallow = omega arith;
        used = 1;
        counted = omega arith;
        spent = spent;
        needed = needed_one prefers p table (places_of before) 1 refl;
        reached = λ path. subst R (sym is) (path_top prefers order p rules table (places_of before) path);
      }

  module _ (table : List ℕ) (j : ℕ) (before : Option (List ℕ)) (now : IsOpen prefers p table j before) where
    -- fixing a build lowers the number of free jobs
    pub fewer_free : (k : ℕ) → free_jobs (slice_set table j (k + 1)) < free_jobs table
    fewer_free k = free_set table j (k + 1) (λ z. absurd (omega arith)) now.free now.wide

    pub loop_first : (best : Option ChoiceValue) (limit left : ℕ) → places_of best ≡ before → FoundSatisfies p best → limit ≡ left + 1 → IsLooping prefers p table j before limit 0 no_child best left
    loop_first best limit left same found spent =
        let P : Option (List ℕ) → Type 0 = λ x. IsNoWorse prefers x (places_of best) in
        let some = fewer_free 0 in
        record {
          each = λ rest. tt;
          wide = refl;
          fresh = λ m b mark. absurd (cc (mark));
          kept = subst P same (no_worse_refl prefers (places_of best));
          satisfies = found;
          shallow = omega (arith, some);
          used = 0;
          counted = omega arith;
          spent = omega arith;
          product = omega arith;
          kinds = omega arith;
          path = λ path. inl (refl, refl, same ∙ path.nothing);
        }

    -- the first build of a table on the path is on it too
    path_first : (k : ℕ) (best : Option (List ℕ)) → k ≡ 0 → best ≡ None → OnPath prefers p table before → OnPath prefers p (slice_set table j (k + 1)) best
    path_first k best first none path = record {
      nothing = none;
      top = path.top;
      newest = λ m fixed. elim (cases_eq m j) [
        | inl same ↦ (let entry : slice_index (slice_set table j (k + 1)) j ≡ k + 1 = get_or-set_same table j (k + 1) 0 now.wide in
            let one : k + 1 ≡ 1 = omega arith in
            ap (slice_index (slice_set table j (k + 1))) same ∙ entry ∙ one)
        | inr other ↦ (let entry : slice_index (slice_set table j (k + 1)) m ≡ slice_index table m = get_or-set_other table j m (k + 1) 0 other in
            entry ∙ path.newest m (λ z. fixed (entry ∙ z)))
      ];
    }

    -- of the first k builds those that are gone into are no more than there are kinds, so that this many nodes are enough
    kinds_needed : (k m : ℕ) (marks : List Bool) → k ≤ length (builds_at p j) → length marks ≡ k → AreFresh p j [] (builds_at p j) marks → m + marked marks ≤ k + marked marks * kinds_left p (slice_set table j 1)
        → 1 + m ≤ kinds_left p table
    kinds_needed k m marks l long fresh h =
        let ks = kinds_from p 0 p.jobs in
        let most = repeats_from p 0 p.jobs in
        let F = free_kinds ks (slice_set table j 1) in
        let d = slice_index ks j in
        let own : marked marks ≤ d = (let few = marked_kinds p j [] (builds_at p j) marks (omega (arith, l, long)) fresh in let here : 0 + j ≡ j = omega arith in let at = kinds_at p p.jobs 0 j now.inside ∙ ap (λ i. kinds_after p i [] (builds_at p j)) here in omega (arith, few, at)) in
        let wide : k ≤ d + most = (let all = repeats_at p p.jobs 0 j now.inside in omega (arith, l, all)) in
        let whole : 1 + m ≤ (1 + d) * kinds_left p (slice_set table j 1) = kinds_whole k m (marked marks) d most (kinds_left p (slice_set table j 1)) own wide (kinds_left_one p (slice_set table j 1)) h in
        let e : free_kinds ks table ≡ (1 + d) * F = kinds_set ks table j 1 (λ z. absurd (omega (arith, z))) now.free (omega (arith, now.inside, length-kinds p p.jobs 0)) now.wide in
        let same : (1 + most) * ((1 + d) * F) ≡ (1 + d) * ((1 + most) * F) = mul_left_comm (1 + most) (1 + d) F in
        let up : kinds_left p table ≡ (1 + most) * ((1 + d) * F) = ap (λ n. (1 + most) * n) e in
        omega (arith, whole, same, up)

    pub needed_whole : (k m : ℕ) → k ≤ length (builds_at p j) → m ≤ k * free_product p.jobs (slice_set table j 1) → 1 + m ≤ kinds_left p table → (OnPath prefers p table before → m ≤ free_sum p.jobs (slice_set table j 1) + k) → IsNeeded prefers p table before (1 + m)
    needed_whole k m l h kinds path =
        let P = free_product p.jobs (slice_set table j 1) in
        let n = length (builds_at p j) in
        let one : 1 ≤ P = product_one p.jobs (slice_set table j 1) in
        let e : free_product p.jobs table ≡ (1 + n) * P = product_set p.jobs table j 1 (λ z. absurd (omega arith)) now.free now.inside now.wide in
        let s : free_sum p.jobs table ≡ n + free_sum p.jobs (slice_set table j 1) = sum_set p.jobs table j 1 (λ z. absurd (omega arith)) now.free now.inside now.wide in
        let up : k * P ≤ n * P = times_more k n P l in
        let all : 1 + m ≤ (1 + n) * P = split n P m (omega arith) one in
        record {
          product = omega (arith, e, all);
          kinds = kinds;
          lacking = λ i x. absurd (now.possible i x);
          bounded = λ x. absurd (now.unbounded x);
          path = λ x. let q = path x in omega (arith, q, s);
        }

    loop_kinds : (k : ℕ) (children : Trees) (m : ℕ) → k ≤ length (builds_at p j) → width children ≡ k → AreFresh p j [] (builds_at p j) (own_marks children)
        → m + marked (own_marks children) ≤ k + marked (own_marks children) * kinds_left p (slice_set table j 1) → 1 + m ≤ kinds_left p table
    loop_kinds k children m l wide fresh h = kinds_needed k m (own_marks children) l (length-own children ∙ wide) fresh h

    child_product : (k m n : ℕ) (best : Option (List ℕ)) → m ≤ k * free_product p.jobs (slice_set table j 1) → IsNeeded prefers p (slice_set table j (k + 1)) best n → m + n ≤ (k + 1) * free_product p.jobs (slice_set table j 1)
    child_product k m n best h needed =
        let P = free_product p.jobs (slice_set table j 1) in
        let one : n ≤ P = subst (λ t. n ≤ t) (product_same p.jobs table j (k + 1) 1 (λ z. absurd (omega arith)) (λ z. absurd (omega arith))) needed.product in
        one_more k P m n h one

    child_path : (k m n : ℕ) (best : Option (List ℕ)) → PathSoFar prefers p table j k m best → IsNeeded prefers p (slice_set table j (k + 1)) best n → OnPath prefers p table before → m + n ≤ free_sum p.jobs (slice_set table j 1) + (k + 1)
    child_path k m n best (inl so) needed path =
        let more = needed.path (path_first k best so.0 so.2 path) in
        let same = sum_same p.jobs table j (k + 1) 1 (λ z. absurd (omega arith)) (λ z. absurd (omega arith)) in
        omega (arith, more, same, so.0, so.1)
    child_path k m n best (inr so) needed path =
        let more = one_node prefers order p rules (slice_set table j (k + 1)) best n so.0 needed in
        omega (arith, more, so.1)

    child_kinds : (k m n own : ℕ) (best : Option (List ℕ)) → m + own ≤ k + own * kinds_left p (slice_set table j 1) → IsNeeded prefers p (slice_set table j (k + 1)) best n
        → m + n + (own + 1) ≤ (k + 1) + (own + 1) * kinds_left p (slice_set table j 1)
    child_kinds k m n own best h needed =
        let same : kinds_left p (slice_set table j (k + 1)) ≡ kinds_left p (slice_set table j 1) =
        ap (λ x. (1 + repeats_from p 0 p.jobs) * x) (kinds_same (kinds_from p 0 p.jobs) table j (k + 1) 1 (λ z. absurd (omega (arith, z))) (λ z. absurd (omega (arith, z)))) in
        kinds_more k m n own (kinds_left p (slice_set table j 1)) h (omega (arith, needed.kinds, same))

    -- no newer build dominates build k
    abbrev pub IsOwn : ℕ → Type 0
    IsOwn k = (q : ℕ) → q < k → IsDominated p j (slice_index_or (builds_at p j) k no_build) (slice_index_or (builds_at p j) q no_build) → ⊥

    fresh_next : (children : Trees) (t : Tree) (k : ℕ) → width children ≡ k → AreFresh p j [] (builds_at p j) (own_marks children) → (is_same t ≡ false → IsOwn k) → AreFresh p j [] (builds_at p j) (own_marks (with_child children t))
    fresh_next children t k wide fresh own = λ m b mark at. elim (mark_at children t m mark) [
      | inl old ↦ fresh m b old at
      | inr new ↦ (
        λ c among. absurd (omega (arith, among.1)),
        λ q c less found dominated.
            let here : m ≡ k = new.0 ∙ wide in
            let mine : slice_index_or (builds_at p j) k no_build ≡ b = ap (λ n. slice_index_or (builds_at p j) n no_build) (sym here) ∙ get_or_from_slice_get (builds_at p j) m b no_build at in
            let its : slice_index_or (builds_at p j) q no_build ≡ c = get_or_from_slice_get (builds_at p j) q c no_build found in
            let P : BuildValue → Type 0 = λ x. IsDominated p j x c in
            let Q : BuildValue → Type 0 = λ y. IsDominated p j (slice_index_or (builds_at p j) k no_build) y in
            own new.1 q (omega (arith, less, here)) (subst Q (sym its) (subst P (sym mine) dominated)),
      )
    ]

    -- the budget ends in a child
    pub loop_over : (limit k : ℕ) (children : Trees) (best : Option ChoiceValue) (left : ℕ) → k < length (builds_at p j) → IsOwn k → IsLooping prefers p table j before limit k children best left
        → IsNeeded prefers p (slice_set table j (k + 1)) (places_of best) (left + 1) → IsNeeded prefers p table before (limit + 1)
    loop_over limit k children best left l own loop needed =
        let m = loop.used in
        let more = marked_one children bounded in
        let kinds = kinds_needed (k + 1) (m + (left + 1)) (own_marks (with_child children bounded)) (omega (arith, l))
        (length-own (with_child children bounded) ∙ width_one children bounded ∙ ap (λ n. n + 1) loop.wide) (fresh_next children bounded k loop.wide loop.fresh (λ e. own))
        (let P : ℕ → Type 0 = λ n. m + (left + 1) + n ≤ (k + 1) + n * kinds_left p (slice_set table j 1) in
        subst P (sym more) (child_kinds k m (left + 1) (marked (own_marks children)) (places_of best) loop.kinds needed)) in
        let whole : IsNeeded prefers p table before (1 + (m + (left + 1))) =
        needed_whole (k + 1) (m + (left + 1)) (omega (arith, l)) (child_product k m (left + 1) (places_of best) loop.product needed) kinds
        (λ path. child_path k m (left + 1) (places_of best) (loop.path path) needed path) in
        let same : 1 + (m + (left + 1)) ≡ limit + 1 = omega (arith, loop.spent) in
        subst (λ t. IsNeeded prefers p table before t) same whole

    -- ---- a child that is the same case as an earlier one
    same_path : (k m : ℕ) (best : Option (List ℕ)) → 0 < k → PathSoFar prefers p table j k m best → PathSoFar prefers p table j (k + 1) (m + 1) best
    same_path k m best some (inl so) = absurd (omega (arith, so.0, some))
    same_path k m best some (inr so) = inr (so.0, omega (arith, so.1))

    same_product : (k m : ℕ) → m ≤ k * free_product p.jobs (slice_set table j 1) → m + 1 ≤ (k + 1) * free_product p.jobs (slice_set table j 1)
    same_product k m h = one_more k (free_product p.jobs (slice_set table j 1)) m 1 h (product_one p.jobs (slice_set table j 1))

    pub same_over : (limit k : ℕ) (children : Trees) (best : Option ChoiceValue) (left : ℕ) → k < length (builds_at p j) → 0 < k → left ≡ 0 → IsLooping prefers p table j before limit k children best left
        → IsNeeded prefers p table before (limit + 1)
    same_over limit k children best left l some none loop =
        let m = loop.used in
        let more = marked_one children (same_as 0) in
        let kinds = kinds_needed (k + 1) (m + 1) (own_marks (with_child children (same_as 0))) (omega (arith, l))
        (length-own (with_child children (same_as 0)) ∙ width_one children (same_as 0) ∙ ap (λ n. n + 1) loop.wide) (fresh_next children (same_as 0) k loop.wide loop.fresh (λ e. absurd (cc (e))))
        (let P : ℕ → Type 0 = λ n. m + 1 + n ≤ (k + 1) + n * kinds_left p (slice_set table j 1) in
        let none_more : marked (own_marks children) + 0 ≡ marked (own_marks children) = omega arith in
        subst P (sym (more ∙ none_more)) (omega (arith, loop.kinds))) in
        let whole : IsNeeded prefers p table before (1 + (m + 1)) =
        needed_whole (k + 1) (m + 1) (omega (arith, l)) (same_product k m loop.product) kinds
        (λ path. same_few k m (places_of best) (same_path k m (places_of best) some (loop.path path))) in
        let same : 1 + (m + 1) ≡ limit + 1 = omega (arith, loop.spent, none) in
        subst (λ t. IsNeeded prefers p table before t) same whole
      where
        same_few : (k m : ℕ) (o : Option (List ℕ)) → PathSoFar prefers p table j (k + 1) (m + 1) o → m + 1 ≤ free_sum p.jobs (slice_set table j 1) + (k + 1)
        same_few k m o (inl so) = absurd (omega (arith, so.0))
        same_few k m o (inr so) = so.1

    pub same_next : (limit k r : ℕ) (children : Trees) (best : Option ChoiceValue) (left left' : ℕ) → k < length (builds_at p j) → 0 < k → left ≡ left' + 1
        → ((rest : Trees) → IsSameCase p j (joined children rest) k (slice_index_or (builds_at p j) k no_build) r)
        → IsLooping prefers p table j before limit k children best left → IsLooping prefers p table j before limit (k + 1) (with_child children (same_as r)) best left'
    same_next limit k r children best left left' l some spent case loop =
        let bs = builds_at p j in
        let b = slice_index_or bs k no_build in
        let m = loop.used in
        let t = same_as r in
        let taken : take (k + 1) bs ≡ take k bs ++ b ∷ [] = take_more bs k no_build l in
        let counted : count_all (with_child children t) ≡ count_all children + count t = count_one children t in
        let free = fewer_free k in
        let more : marked (own_marks (with_child children t)) ≡ marked (own_marks children) = (let one = marked_one children t in omega (arith, one)) in
        record {
          each = λ rest.
              let all = joined (with_child children t) rest in
              let Q : List BuildValue → Type 0 = λ x. RefuteEach prefers p (places_of best) (assigned p table) j all 0 x (with_child children t) in
              let A : Trees → Type 0 = λ x. RefuteEach prefers p (places_of best) (assigned p table) j x 0 (take k bs ++ b ∷ []) (with_child children t) in
              subst Q (sym taken) (subst A (sym (joined_one children t rest))
              (each_one prefers p (places_of best) (assigned p table) j (joined children (child t rest)) 0 k (take k bs) children b t (omega (arith, loop.wide)) (loop.each (child t rest)) (inr (r, refl, case (child t rest)))));
          wide = width_one children t ∙ ap (λ n. n + 1) loop.wide;
          fresh = fresh_next children t k loop.wide loop.fresh (λ e. absurd (cc (e)));
          kept = loop.kept;
          satisfies = loop.satisfies;
          shallow = deep_one children t (free_jobs table) loop.shallow (omega (arith, free));
          used = m + 1;
          counted = omega (arith, loop.counted, counted);
          spent = omega (arith, loop.spent, spent);
          product = same_product k m loop.product;
          kinds = (let P : ℕ → Type 0 = λ n. m + 1 + n ≤ (k + 1) + n * kinds_left p (slice_set table j 1) in subst P (sym more) (omega (arith, loop.kinds)));
          path = λ path. same_path k m (places_of best) some (loop.path path);
        }

    pub same_next_node : (limit k r : ℕ) (children more : List Node) (best : Option ChoiceValue) (left left' : ℕ) (c : Node) → k < length (builds_at p j) → 0 < k → left ≡ left' + 1
        → more ≡ children ++ c ∷ [] → tree_of c ≡ same_as r
        → ((rest : Trees) → IsSameCase p j (joined (trees_of children) rest) k (slice_index_or (builds_at p j) k no_build) r)
        → IsLooping prefers p table j before limit k (trees_of children) best left → IsLooping prefers p table j before limit (k + 1) (trees_of more) best left'
    same_next_node limit k r children more best left left' c l some spent is same case loop =
        let P : Trees → Type 0 = λ ts. IsLooping prefers p table j before limit (k + 1) ts best left' in
        subst P (ap (with_child (trees_of children)) (sym same) ∙ trees_more children c ∙ ap trees_of (sym is)) (same_next limit k r (trees_of children) best left left' l some spent case loop)

    path_next : (m k limit left : ℕ) (t : Tree) (best best' : Option ChoiceValue) → PathSoFar prefers p table j k m (places_of best) → IsSearched prefers p (slice_set table j (k + 1)) best best' limit left t → OnPath prefers p table before → ReachesTop prefers p (places_of best')
    path_next m k limit left t best best' (inl so) searched path = searched.reached (path_first k (places_of best) so.0 so.2 path)
    path_next m k limit left t best best' (inr so) searched path = reach_more prefers p (places_of best) (places_of best') searched.kept so.0

    -- one build more
    pub loop_next : (limit k : ℕ) (children : Trees) (best best' : Option ChoiceValue) (left left' : ℕ) (t : Tree) → k < length (builds_at p j) → IsOwn k
        → IsLooping prefers p table j before limit k children best left → IsSearched prefers p (slice_set table j (k + 1)) best best' left left' t → IsLooping prefers p table j before limit (k + 1) (with_child children t) best' left'
    loop_next limit k children best best' left left' t l own loop searched =
        let bs = builds_at p j in
        let b = get_or bs k (record { number = 0; pairs = [] }) in
        let m = loop.used in
        let n = searched.used in
        let table_is : assigned p (slice_set table j (k + 1)) ≡ with_build (assigned p table) j b = table_set p table j k b now.wide (slice_get-get_or bs k (record { number = 0; pairs = [] }) l) in
        let A : Assignment → Type 0 = λ a. Refutes prefers p (places_of best') a t in
        let refuted = subst A table_is searched.refuted in
        let after : (rest : Trees) → RefuteEach prefers p (places_of best') (assigned p table) j (joined (with_child children t) rest) 0 (take k bs ++ b ∷ []) (with_child children t) = λ rest.
        let B : Trees → Type 0 = λ x. RefuteEach prefers p (places_of best') (assigned p table) j x 0 (take k bs ++ b ∷ []) (with_child children t) in
        subst B (sym (joined_one children t rest))
        (each_one prefers p (places_of best') (assigned p table) j (joined children (child t rest)) 0 k (take k bs) children b t (omega (arith, loop.wide))
        (each_more prefers p (places_of best) (places_of best') searched.kept (assigned p table) j (joined children (child t rest)) 0 (take k bs) children (loop.each (child t rest)))
        (inl refuted)) in
        let taken : take (k + 1) bs ≡ take k bs ++ b ∷ [] = take_more bs k (record { number = 0; pairs = [] }) l in
        let Q : List BuildValue → Type 0 = λ x. (rest : Trees) → RefuteEach prefers p (places_of best') (assigned p table) j (joined (with_child children t) rest) 0 x (with_child children t) in
        let mine : is_same t ≡ false = own_case prefers p (places_of best') (with_build (assigned p table) j b) t refuted in
        let more : marked (own_marks (with_child children t)) ≡ marked (own_marks children) + 1 = marked_one children t ∙ ap (λ x. marked (own_marks children) + marked (not x ∷ [])) mine in
        let counted : count_all (with_child children t) ≡ count_all children + count t = count_one children t in
        let free = fewer_free k in
        record {
          each = subst Q (sym taken) after;
          wide = width_one children t ∙ ap (λ n. n + 1) loop.wide;
          fresh = fresh_next children t k loop.wide loop.fresh (λ e. own);
          kept = no_worse_trans prefers before (places_of best) (places_of best') loop.kept searched.kept;
          satisfies = searched.satisfies;
          shallow = deep_one children t (free_jobs table) loop.shallow (omega (arith, searched.shallow, free));
          used = m + n;
          counted = omega (arith, loop.counted, searched.counted, counted);
          spent = omega (arith, loop.spent, searched.spent);
          product = child_product k m n (places_of best) loop.product searched.needed;
          kinds = (let P : ℕ → Type 0 = λ x. m + n + x ≤ (k + 1) + x * kinds_left p (slice_set table j 1) in
              subst P (sym more) (child_kinds k m n (marked (own_marks children)) (places_of best) loop.kinds searched.needed));
          path = λ path. inr (path_next m k left left' t best best' (loop.path path) searched path, child_path k m n (places_of best) (loop.path path) searched.needed path);
        }

    pub loop_next_node : (limit k : ℕ) (children more : List Node) (best best' : Option ChoiceValue) (left left' : ℕ) (c : Node) → k < length (builds_at p j) → IsOwn k → more ≡ children ++ c ∷ []
        → IsLooping prefers p table j before limit k (trees_of children) best left → IsSearched prefers p (slice_set table j (k + 1)) best best' left left' (tree_of c)
        → IsLooping prefers p table j before limit (k + 1) (trees_of more) best' left'
    loop_next_node limit k children more best best' left left' c l own is loop searched =
        let P : Trees → Type 0 = λ ts. IsLooping prefers p table j before limit (k + 1) ts best' left' in
        subst P (trees_more children c ∙ ap trees_of (sym is)) (loop_next limit k (trees_of children) best best' left left' (tree_of c) l own loop searched)

    -- on the path a job has a build
    end_path : (k m : ℕ) (best : Option (List ℕ)) → 0 < length (builds_at p j) → k ≡ length (builds_at p j) → PathSoFar prefers p table j k m best → OnPath prefers p table before → ReachesTop prefers p best × (m ≤ free_sum p.jobs (slice_set table j 1) + k)
    end_path k m best some e (inl so) path = absurd (omega (arith, some, e, so.0))
    end_path k m best some e (inr so) path = so

    pub loop_end : (limit k : ℕ) (children : Trees) (before' best : Option ChoiceValue) (left : ℕ) → places_of before' ≡ before → (OnPath prefers p table before → 0 < length (builds_at p j)) → k ≡ length (builds_at p j)
        → IsLooping prefers p table j before limit k children best left → IsSearched prefers p table before' best limit left (job j children)
    loop_end limit k children before' best left same some e loop =
        let bs = builds_at p j in
        let all : take k bs ≡ bs = take_all k bs (omega (arith, e)) in
        let Q : List BuildValue → Type 0 = λ x. RefuteEach prefers p (places_of best) (assigned p table) j children 0 x children in
        let J : Trees → Type 0 = λ x. RefuteEach prefers p (places_of best) (assigned p table) j x 0 (take k bs) children in
        let B : Option (List ℕ) → Type 0 = λ x. IsNoWorse prefers x (places_of best) in
        let N : Option (List ℕ) → Type 0 = λ x. IsNeeded prefers p table x (1 + loop.used) in
        let R : Option (List ℕ) → Type 0 = λ x. OnPath prefers p table x → ReachesTop prefers p (places_of best) in
        record {
          refuted = (now.inside, free_none (builds_at p j) (slice_index table j) now.free, subst Q all (subst J (joined_none children) (loop.each no_child)));
          kept = subst B (sym same) loop.kept;
          satisfies = loop.satisfies;
          shallow = omega (arith, loop.shallow);
          used = 1 + loop.used;
          counted = omega (arith, loop.counted);
          spent = loop.spent;
          needed = subst N (sym same) (needed_whole k loop.used (omega (arith, e)) loop.product (loop_kinds k children loop.used (omega (arith, e)) loop.wide loop.fresh loop.kinds) (λ path. (end_path k loop.used (places_of best) (some path) e (loop.path path) path).1));
          reached = subst R (sym same) (λ path. (end_path k loop.used (places_of best) (some path) e (loop.path path) path).0);
        }
      where
        free_none : (bs : List BuildValue) (k : ℕ) → k ≡ 0 → build_of bs k ≡ None
        free_none bs zero e = refl
        free_none bs (suc k) e = absurd (omega arith)

    pub loop_end_node : (limit k : ℕ) (children : Vec Node Global) (before' best : Option ChoiceValue) (left : ℕ) → places_of before' ≡ before → (OnPath prefers p table before → 0 < length (builds_at p j)) → k ≡ length (builds_at p j)
        → IsLooping prefers p table j before limit k (trees_of children.items) best left → IsSearched prefers p table before' best limit left (tree_of (Job j children))
    loop_end_node limit k children before' best left same some e loop =
        let T : Tree → Type 0 = λ t. IsSearched prefers p table before' best limit left t in
        subst T (sym (tree_of_job j children)) (loop_end limit k (trees_of children.items) before' best left same some e loop)

    -- nothing under the table is better than what its first builds led to
    pub loop_closed : (limit k : ℕ) (children : Trees) (before' best : Option ChoiceValue) (left : ℕ) → places_of before' ≡ before → k ≤ length (builds_at p j) → IsBounded prefers p (places_of best) (assigned p table)
        → IsLooping prefers p table j before limit k children best left → IsSearched prefers p table before' best limit left bounded
    loop_closed limit k children before' best left same l closed loop =
        let B : Option (List ℕ) → Type 0 = λ x. IsNoWorse prefers x (places_of best) in
        let N : Option (List ℕ) → Type 0 = λ x. IsNeeded prefers p table x (1 + loop.used) in
        let R : Option (List ℕ) → Type 0 = λ x. OnPath prefers p table x → ReachesTop prefers p (places_of best) in
        record {
          refuted = closed;
          kept = subst B (sym same) loop.kept;
          satisfies = loop.satisfies;
          shallow = omega arith;
          used = 1 + loop.used;
          counted = omega arith;
          spent = loop.spent;
          needed = subst N (sym same) (needed_whole k loop.used l loop.product (loop_kinds k children loop.used l loop.wide loop.fresh loop.kinds) (λ path. few k loop.used (places_of best) (loop.path path)));
          reached = subst R (sym same) (λ path. reaches k loop.used (places_of best) closed (loop.path path));
        }
      where
        few : (k m : ℕ) (o : Option (List ℕ)) → PathSoFar prefers p table j k m o → m ≤ free_sum p.jobs (slice_set table j 1) + k
        few k m o (inl so) = omega (arith, so.1)
        few k m o (inr so) = so.1

        reaches : (k m : ℕ) (o : Option (List ℕ)) → IsBounded prefers p o (assigned p table) → PathSoFar prefers p table j k m o → ReachesTop prefers p o
        reaches k m None h so = absurd h
        reaches k m (Some x) h (inl so) = absurd (let e = so.2 in cc)
        reaches k m (Some x) h (inr so) = so.0

-- a job of the best places' choice has a build
pub some_build : (prefers : Preference) (p : ProblemValue) (j : ℕ) → TopFits prefers p → j < length p.jobs → 0 < length (builds_at p j)
unfolding IsSuccessful
some_build prefers p j top within = among (builds_at p j) (slice_index (newest p.jobs) j) (one (newest p.jobs) (top.2.successful j within))
  where
    one : (builds : List ℕ) → IsSuccessful p builds j → Any (λ b. b.number ≡ slice_index builds j) (builds_at p j)
    one builds h = h

    among : (bs : List BuildValue) (n : ℕ) → Any (λ b. b.number ≡ n) bs → 0 < length bs
    among bs n (k, b, within, at, is) = omega (arith, within)

-- a table with one more build fixed
pub child_known : (p : ProblemValue) (table : List ℕ) (j k : ℕ) → FixesKnown p table → j < length table → k < length (builds_at p j) → FixesKnown p (slice_set table j (k + 1))
child_known p table j k known wide within m =
    elim (cases_eq m j) [
      | inl same ↦ (let entry : slice_index (slice_set table j (k + 1)) j ≡ k + 1 = get_or-set_same table j (k + 1) 0 wide in
          let P : ℕ → Type 0 = λ x. slice_index (slice_set table j (k + 1)) x ≤ length (builds_at p x) in
          subst P (sym same) (omega (arith, entry, within)))
      | inr other ↦ (let entry : slice_index (slice_set table j (k + 1)) m ≡ slice_index table m = get_or-set_other table j m (k + 1) 0 other in
          let low = known m in omega (arith, entry, low))
    ]

-- what no tree was given for
pub none_needed : (prefers : Preference) (p : ProblemValue) (table : List ℕ) (before after : Option ChoiceValue) (limit left : ℕ) (o : Option Node) → Searched prefers p table before after limit left o → o ≡ None → IsNeeded prefers p table (places_of before) (limit + 1)
none_needed prefers p table before after limit left o h e = let P : Option Node → Type 0 = λ x. Searched prefers p table before after limit left x in subst P e h

pub some_searched : (prefers : Preference) (p : ProblemValue) (table : List ℕ) (before after : Option ChoiceValue) (limit left : ℕ) (o : Option Node) (c : Node) → Searched prefers p table before after limit left o → o ≡ Some c → IsSearched prefers p table before after limit left (tree_of c)
some_searched prefers p table before after limit left o c h e = let P : Option Node → Type 0 = λ x. Searched prefers p table before after limit left x in subst P e h

pub kinds_root : (p : ProblemValue) (n : ℕ) → kinds_left p (replicate n 0) ≡ kinds_bound p
kinds_root p n = ap (λ x. (1 + repeats_from p 0 p.jobs) * x) (kinds_empty (kinds_from p 0 p.jobs) n)

pub bound_one : (p : ProblemValue) → 1 ≤ kinds_bound p
bound_one p = let one = kinds_left_one p (replicate 0 0) in let same = kinds_root p 0 in omega (arith, one, same)

-- the limit is as much, where a place is possible for each input and the best places don't fit the newest builds
pub room_over_found : (prefers : Preference) (p : ProblemValue) (budget n : ℕ) (best : Option (List ℕ)) → (TopFits prefers p → ⊥) → ((i : ℕ) → HasNoPlace p nothing_fixed i → ⊥)
    → IsNeeded prefers p (replicate n 0) best (budget + 1) → IsBelowNodeBound prefers p budget
room_over_found prefers p budget n best fits some needed = record {
  product = (let h = needed.product in omega (arith, h, product_empty p.jobs n));
  kinds = (let same = kinds_root p n in let h = needed.kinds in omega (arith, h, same));
  fitting = λ top. absurd (fits top);
  lacking = λ i none. absurd (some i none);
}

-- what was found in the end
pub found_in : (prefers : Preference) (p : ProblemValue) (table : List ℕ) (before after : Option ChoiceValue) (limit left : ℕ) (o : Option Node) (c : Node) (choice : ChoiceValue)
    → Searched prefers p table before after limit left o → o ≡ Some c → after ≡ Some choice → IsSearched prefers p table before (Some choice) limit left (tree_of c)
found_in prefers p table before after limit left o c choice h e f =
    let P : Option ChoiceValue → Type 0 = λ x. IsSearched prefers p table before x limit left (tree_of c) in
    subst P f (some_searched prefers p table before after limit left o c h e)

pub none_found : (prefers : Preference) (p : ProblemValue) (table : List ℕ) (before after : Option ChoiceValue) (limit left : ℕ) (o : Option Node) (c : Node)
    → Searched prefers p table before after limit left o → o ≡ Some c → after ≡ None → IsSearched prefers p table before None limit left (tree_of c)
none_found prefers p table before after limit left o c h e f =
    let P : Option ChoiceValue → Type 0 = λ x. IsSearched prefers p table before x limit left (tree_of c) in
    subst P f (some_searched prefers p table before after limit left o c h e)
