-- Leaving out one demand after the other, each tried once.
use Rattle.std.proofs.Common.{◌≡◌, ℕ, zero, suc, ◌+◌, ◌-◌, ◌<◌, ◌≤◌, ◌⊎◌, inl, inr, Bool, true, false, List, [], ◌∷◌, ◌++◌, drop, length, replicate, get_or, slice_index_or, slice_set, refl, sym, ap, ◌∙◌, subst, arith}
use Rattle.std.specs.Prelude.{Option, Some, None, IfSome, All, Contains, remove}
use Rattle.std.proofs.lemmas.Bool.{cases_lt, cases_eq, cond-true, cond-false, false≢true}
use Rattle.std.proofs.lemmas.List.{append_assoc, drop_more, get_or_default, length-set, get_or-set_other, get_or-replicate}
use Rattle.std.proofs.lemmas.List.Edits.{length-remove, get_or-remove_below, get_or-remove_above}
use Rattle.std.proofs.lemmas.List.Elements.{All-contains}
use Rattle.ccr_choice.specs.Problem.{ProblemValue, ChoiceValue}
use Rattle.ccr_choice.proofs.Members.{contains_none, contains_first, contains_later, contains_cases}
use Rattle.ccr_explain.specs.declared.demand.Demand.{Demand}
use Rattle.ccr_explain.specs.declared.demand.Demand.TheVariants.{Allowed}
use Rattle.ccr_explain.specs.Demand.{IsDemandOf, Meets, CanBeMet, ExcludeEachOther}
use Rattle.ccr_explain.specs.declared.met.Met.{Met}
use Rattle.ccr_explain.specs.declared.met.Met.TheVariants.{Yes, No, OverBudget}
use Rattle.ccr_explain.specs.Cut.{IsOver, IsMet}
use Rattle.ccr_explain.specs.Clash.{IsClash, IsClashWithin}
use Rattle.ccr_explain.specs.Reduced.{ReductionValue, AreNeeded, marked, IsReduced}
use Rattle.ccr_explain.proofs.Lists.{all_contained}
use Rattle.ccr_explain.proofs.DemandLaws.{fewer_met}

-- ---- a list without one element
-- where element i of the list without element k stands in the list
abbrev Shifts : ℕ → ℕ → ℕ → Type 0
Shifts k i place = ((i < k) × (place ≡ i)) ⊎ ((k ≤ i) × (place ≡ i + 1))

record StandsAt {X : Type 0} (xs : List X) (k i : ℕ) (x : X) : Type 0 where
  pub place : ℕ
  pub within : place < length xs
  pub shifts : Shifts k i place
  pub is : get_or xs place x ≡ x

stands : {X : Type 0} (xs : List X) (k i : ℕ) (x : X) → k < length xs → i < length (remove xs k) → get_or (remove xs k) i x ≡ x → StandsAt xs k i x
stands xs k i x inside within is =
    let long = length-remove xs k inside in
    elim (cases_lt i k) [
      | inl before ↦ record { place = i; within = omega (arith, within, long); shifts = inl (before, refl); is = sym (get_or-remove_below xs k x i before inside) ∙ is }
      | inr behind ↦ (let from : k ≤ i = omega arith in
          record { place = i + 1; within = omega (arith, within, long); shifts = inr (from, refl); is = sym (get_or-remove_above xs k x i from inside) ∙ is })
    ]

-- an element that stands elsewhere is there still
still : {X : Type 0} (xs : List X) (k i : ℕ) (x : X) → k < length xs → i < length xs → (i ≡ k → ⊥) → get_or xs i x ≡ x → Contains (remove xs k) x
still xs k i x inside within differs is =
    let long = length-remove xs k inside in
    elim (cases_lt i k) [
      | inl before ↦ (i, omega (arith, long), get_or-remove_below xs k x i before inside ∙ is)
      | inr behind ↦ elim (cases_eq i k) [
        | inl same ↦ absurd (differs same)
        | inr other ↦ (let more : k < i = grind (arith, other, behind) in
            let low : k ≤ i - 1 = omega arith in
            let e : i - 1 + 1 ≡ i = omega arith in
            (i - 1, omega (arith, long, within, e), get_or-remove_above xs k x (i - 1) low inside ∙ ap (λ n. get_or xs n x) e ∙ is))
      ]
    ]

remove_has : {X : Type 0} (xs : List X) (k : ℕ) (x : X) → k < length xs → Contains (remove xs k) x → Contains xs x
remove_has xs k x inside (i, within, is) = let at = stands xs k i x inside within is in (at.place, at.within, at.is)

apart : (i one two k m n : ℕ) → Shifts m i one → Shifts k one two → Shifts k m n → two ≡ n → ⊥
apart i one two k m n (inl a) (inl b) (inl c) e = omega (arith, a.0, a.1, b.0, b.1, c.0, c.1)
apart i one two k m n (inl a) (inl b) (inr c) e = omega (arith, a.0, a.1, b.0, b.1, c.0, c.1)
apart i one two k m n (inl a) (inr b) (inl c) e = omega (arith, a.0, a.1, b.0, b.1, c.0, c.1)
apart i one two k m n (inl a) (inr b) (inr c) e = omega (arith, a.0, a.1, b.0, b.1, c.0, c.1)
apart i one two k m n (inr a) (inl b) (inl c) e = omega (arith, a.0, a.1, b.0, b.1, c.0, c.1)
apart i one two k m n (inr a) (inl b) (inr c) e = omega (arith, a.0, a.1, b.0, b.1, c.0, c.1)
apart i one two k m n (inr a) (inr b) (inl c) e = omega (arith, a.0, a.1, b.0, b.1, c.0, c.1)
apart i one two k m n (inr a) (inr b) (inr c) e = omega (arith, a.0, a.1, b.0, b.1, c.0, c.1)

-- without two elements, only that is there which is there without one of them
fewer : (ds : List Demand) (k m n : ℕ) → k < length ds → m < length (remove ds k) → n < length ds → Shifts k m n → All (Contains (remove ds n)) (remove (remove ds k) m)
fewer ds k m n inside low there shifts =
    all_contained (Contains (remove ds n)) (remove (remove ds k) m) (λ d at. one d at)
  where
    one : (d : Demand) → Contains (remove (remove ds k) m) d → Contains (remove ds n) d
    one d (i, within, is) =
        let first = stands (remove ds k) m i d low within is in
        let second = stands ds k first.place d inside first.within first.is in
        still ds n second.place d there second.within (λ e. apart i first.place second.place k m n first.shifts second.shifts shifts e) second.is

-- ---- what was found of the demands
module _ (p : ProblemValue) (budget : ℕ) (r : ReductionValue) (so : IsReduced p budget r) (inside : r.next < length r.demands) where
  abbrev k : ℕ
  k = r.next

  -- the others are demands of the problem
  pub others_are : All (IsDemandOf p) (remove r.demands k)
  others_are =
      all_contained (IsDemandOf p) (remove r.demands k) (λ d h. All-contains (IsDemandOf p) r.demands d so.clash.demands (remove_has r.demands k d inside h))

  -- the next demand is left out
  pub stays_out : ExcludeEachOther p (remove r.demands k) → IsReduced p budget (record r { demands = remove r.demands k; is_needed = remove r.is_needed k })
  stays_out exclude =
      let long = length-remove r.demands k inside in
      let marks_long = length-remove r.is_needed k (omega (arith, so.long)) in
      record {
        clash = record {
          demands = others_are;
          exclude = exclude;
        };
        long = omega (arith, so.long, long, marks_long);
        needed = λ m within marked. elim (cases_lt m k) [
          | inl before ↦ fewer_met p (remove (remove r.demands k) m) (remove r.demands m) (fewer r.demands k m m inside within (omega arith) (inl (before, refl)))
              (so.needed m (omega arith) (sym (get_or-remove_below r.is_needed k false m before (omega (arith, so.long))) ∙ marked))
          | inr behind ↦ (let from : k ≤ m = omega arith in
              fewer_met p (remove (remove r.demands k) m) (remove r.demands (m + 1)) (fewer r.demands k m (m + 1) inside within (omega (arith, within, long)) (inr (from, refl)))
              (so.needed (m + 1) (omega (arith, within, long)) (sym (get_or-remove_above r.is_needed k false m from (omega (arith, so.long))) ∙ marked)))
        ];
        tried = λ is m before within. fewer_met p (remove (remove r.demands k) m) (remove r.demands m) (fewer r.demands k m m inside within (omega arith) (inl (before, refl)))
            (so.tried is m before (omega arith));
        perhaps = so.perhaps;
      }

  tried_more : CanBeMet p (remove r.demands k) → r.is_irreducible ≡ true → (m : ℕ) → m < k + 1 → m < length r.demands → CanBeMet p (remove r.demands m)
  tried_more met is m before within =
      elim (cases_eq m k) [
        | inl same ↦ (let P : ℕ → Type 0 = λ n. CanBeMet p (remove r.demands n) in subst P (sym same) met)
        | inr other ↦ so.tried is m (grind (arith, before, other)) within
      ]

  -- it is known to be needed
  pub is_known : slice_index_or r.is_needed k false ≡ true → IsReduced p budget (record r { next = k + 1 })
  is_known marked = record { clash = so.clash; long = so.long; needed = so.needed; tried = tried_more (so.needed k inside marked); perhaps = so.perhaps }

  -- the others can be met, and it is marked, perhaps with some others
  pub is_kept : CanBeMet p (remove r.demands k) → (marks : List Bool) → length marks ≡ length r.is_needed
      → (AreNeeded p r.demands r.is_needed → AreNeeded p r.demands marks) → IsReduced p budget (record r { is_needed = slice_set marks k true; next = k + 1 })
  is_kept met marks long more = record {
    clash = so.clash;
    long = length-set marks k true ∙ long ∙ so.long;
    needed = λ m within marked_one. elim (cases_eq m k) [
      | inl same ↦ (let P : ℕ → Type 0 = λ n. CanBeMet p (remove r.demands n) in subst P (sym same) met)
      | inr other ↦ more so.needed m within (sym (get_or-set_other marks k m true false other) ∙ marked_one)
    ];
    tried = tried_more met;
    perhaps = so.perhaps;
  }

  -- it can't be told, and it is kept
  pub is_open : IsOver p budget → IsReduced p budget (record r { next = k + 1; is_irreducible = false })
  is_open low = record { clash = so.clash; long = so.long; needed = so.needed; tried = λ is. absurd (false≢true is); perhaps = λ e. low }

-- ---- what was told of the others
pub told_no : (p : ProblemValue) (budget : ℕ) (ds asked : List Demand) (met : Met) → asked ≡ ds → IsMet p asked budget met → met ≡ No → ExcludeEachOther p ds
told_no p budget ds asked met same told is =
    let P : Met → Type 0 = λ x. IsMet p asked budget x in
    let Q : List Demand → Type 0 = λ xs. ExcludeEachOther p xs in
    subst Q same (subst P is told)

pub told_yes : (p : ProblemValue) (budget : ℕ) (ds asked : List Demand) (met : Met) (c : ChoiceValue) → asked ≡ ds → IsMet p asked budget met → met ≡ Yes c → CanBeMet p ds
told_yes p budget ds asked met c same told is =
    let P : Met → Type 0 = λ x. IsMet p asked budget x in
    let Q : List Demand → Type 0 = λ xs. CanBeMet p xs in
    subst Q same (subst P is told)

pub told_over : (p : ProblemValue) (budget : ℕ) (ds : List Demand) (met : Met) → All (IsDemandOf p) ds → IsMet p ds budget met → met ≡ OverBudget → IsOver p budget
told_over p budget ds met all told is =
    let P : Met → Type 0 = λ x. IsMet p ds budget x in
    record { asked = ds; demands = all; over = subst P is told }

-- the same parts
pub same_parts : (p : ProblemValue) (budget : ℕ) (r : ReductionValue) (ds : List Demand) (marks : List Bool) (next : ℕ) (known : Bool) → IsReduced p budget r
    → ds ≡ r.demands → marks ≡ r.is_needed → next ≡ r.next → known ≡ r.is_irreducible
    → IsReduced p budget (record { demands = ds; is_needed = marks; next = next; is_irreducible = known })
same_parts p budget r ds marks next known so a b c d =
    let A : List Demand → Type 0 = λ x. IsReduced p budget (record r { demands = x }) in
    let B : List Bool → Type 0 = λ x. IsReduced p budget (record r { demands = ds; is_needed = x }) in
    let C : ℕ → Type 0 = λ x. IsReduced p budget (record r { demands = ds; is_needed = marks; next = x }) in
    let D : Bool → Type 0 = λ x. IsReduced p budget (record { demands = ds; is_needed = marks; next = next; is_irreducible = x }) in
    subst D (sym d) (subst C (sym c) (subst B (sym b) (subst A (sym a) so)))

-- ---- marks
-- where marks were right, others are
pub record GoesOn (p : ProblemValue) (ds : List Demand) (before after : List Bool) : Type 0 where
  pub long : length after ≡ length before
  pub needed : AreNeeded p ds before → AreNeeded p ds after

pub goes_none : (p : ProblemValue) (ds : List Demand) (before after : List Bool) → after ≡ before → GoesOn p ds before after
goes_none p ds before after e =
    let P : List Bool → Type 0 = λ marks. GoesOn p ds before marks in
    subst P (sym e) (record { long = refl; needed = λ h. h })

pub more_known : (p : ProblemValue) (budget : ℕ) (r : ReductionValue) (marks : List Bool) → IsReduced p budget r → length marks ≡ length r.is_needed
    → (AreNeeded p r.demands r.is_needed → AreNeeded p r.demands marks) → IsReduced p budget (record r { is_needed = marks })
more_known p budget r marks so long more = record { clash = so.clash; long = long ∙ so.long; needed = more so.needed; tried = so.tried; perhaps = so.perhaps }

pub goes_both : (p : ProblemValue) (ds : List Demand) (first second third : List Bool) → GoesOn p ds first second → GoesOn p ds second third → GoesOn p ds first third
goes_both p ds first second third a b = record { long = b.long ∙ a.long; needed = λ h. b.needed (a.needed h) }

-- ---- those that have a mark
marked_has : (ds : List Demand) (marks : List Bool) (d : Demand) → Contains (marked ds marks) d → Contains ds d
marked_has [] marks d h = h
marked_has (e ∷ ds) [] d h = absurd (contains_none d h)
marked_has (e ∷ ds) (true ∷ marks) d h =
    elim (contains_cases e d (marked ds marks) h) [
      | inl same ↦ (0, omega arith, same)
      | inr later ↦ contains_later e d ds (marked_has ds marks d later)
    ]
marked_has (e ∷ ds) (false ∷ marks) d h = contains_later e d ds (marked_has ds marks d h)

-- the next is taken, if it has a mark
pub marked_takes : (ds : List Demand) (marks : List Bool) (k : ℕ) (before after : List Demand) → k < length ds → k < length marks → slice_index_or marks k false ≡ true
    → after ≡ before ++ slice_index_or ds k (Allowed 0) ∷ [] → after ++ marked (drop (k + 1) ds) (drop (k + 1) marks) ≡ before ++ marked (drop k ds) (drop k marks)
marked_takes ds marks k before after inside within is e =
    let d = slice_index_or ds k (Allowed 0) in
    let b = slice_index_or marks k false in
    let rest = marked (drop (k + 1) ds) (drop (k + 1) marks) in
    ap (λ xs. xs ++ rest) e ∙ append_assoc before (d ∷ []) rest
    ∙ sym (ap (λ ms. before ++ marked (drop k ds) ms) (drop_more marks k false within)
    ∙ ap (λ xs. before ++ marked xs (b ∷ drop (k + 1) marks)) (drop_more ds k (Allowed 0) inside)
    ∙ ap (λ xs. before ++ xs) (cond-true b (d ∷ rest) rest is))

pub marked_leaves : (ds : List Demand) (marks : List Bool) (k : ℕ) (before after : List Demand) → k < length ds → k < length marks → slice_index_or marks k false ≡ false
    → after ≡ before → after ++ marked (drop (k + 1) ds) (drop (k + 1) marks) ≡ before ++ marked (drop k ds) (drop k marks)
marked_leaves ds marks k before after inside within is e =
    let d = slice_index_or ds k (Allowed 0) in
    let b = slice_index_or marks k false in
    let rest = marked (drop (k + 1) ds) (drop (k + 1) marks) in
    ap (λ xs. xs ++ rest) e
    ∙ sym (ap (λ ms. before ++ marked (drop k ds) ms) (drop_more marks k false within)
    ∙ ap (λ xs. before ++ marked xs (b ∷ drop (k + 1) marks)) (drop_more ds k (Allowed 0) inside)
    ∙ ap (λ xs. before ++ xs) (cond-false b (d ∷ rest) rest is))

-- where one of them stands among all; the others that have a mark are there without it
record StandsIn (ds : List Demand) (marks : List Bool) (m : ℕ) : Type 0 where
  pub place : ℕ
  pub within : place < length ds
  pub marked_there : slice_index_or marks place false ≡ true
  pub others : (d : Demand) → Contains (remove (marked ds marks) m) d → Contains (remove ds place) d

stands_in : (ds : List Demand) (marks : List Bool) (m : ℕ) → m < length (marked ds marks) → StandsIn ds marks m
stands_in [] marks m within = absurd (omega arith)
stands_in (e ∷ ds) [] m within = absurd (omega arith)
stands_in (e ∷ ds) (true ∷ marks) zero within = record { place = 0; within = omega arith; marked_there = refl; others = λ d h. marked_has ds marks d h }
stands_in (e ∷ ds) (true ∷ marks) (suc m) within =
    let rest = stands_in ds marks m (omega arith) in
    record {
      place = suc rest.place;
      within = omega (arith, rest.within);
      marked_there = rest.marked_there;
      others = λ d h. elim (contains_cases e d (remove (marked ds marks) m) h) [
        | inl same ↦ (let P : Demand → Type 0 = λ x. Contains (x ∷ remove ds rest.place) d in subst P (sym same) (contains_first d (remove ds rest.place)))
        | inr later ↦ contains_later e d (remove ds rest.place) (rest.others d later)
      ];
    }
stands_in (e ∷ ds) (false ∷ marks) m within =
    let rest = stands_in ds marks m within in
    record { place = suc rest.place; within = omega (arith, rest.within); marked_there = rest.marked_there; others = λ d h. contains_later e d (remove ds rest.place) (rest.others d h) }

pub marked_demands : (p : ProblemValue) (ds : List Demand) (marks : List Bool) → All (IsDemandOf p) ds → All (IsDemandOf p) (marked ds marks)
marked_demands p ds marks all = all_contained (IsDemandOf p) (marked ds marks) (λ d h. All-contains (IsDemandOf p) ds d all (marked_has ds marks d h))

-- with any one of those that have a mark left out, some choice meets the others
needed_among : (p : ProblemValue) (ds : List Demand) (marks : List Bool) (alone : List Demand) → AreNeeded p ds marks → alone ≡ marked ds marks
    → (m : ℕ) → m < length alone → CanBeMet p (remove alone m)
needed_among p ds marks alone needed are m within =
    let at = stands_in ds marks m (omega (arith, within, ap length are)) in
    let Q : List Demand → Type 0 = λ xs. CanBeMet p (remove xs m) in
    subst Q (sym are) (fewer_met p (remove (marked ds marks) m) (remove ds at.place) (all_contained (Contains (remove ds at.place)) (remove (marked ds marks) m) at.others)
    (needed at.place at.within at.marked_there))

-- where they exclude each other, they are a clash, and irreducible
pub needed_clash : (p : ProblemValue) (budget : ℕ) (ds : List Demand) (marks : List Bool) (alone : List Demand) → All (IsDemandOf p) ds → AreNeeded p ds marks → alone ≡ marked ds marks
    → ExcludeEachOther p alone → IsClashWithin p budget (record { demands = alone; is_irreducible = true })
needed_clash p budget ds marks alone all needed are exclude =
    let P : List Demand → Type 0 = λ xs. All (IsDemandOf p) xs in
    record {
      clash = record { demands = subst P (sym are) (marked_demands p ds marks all); exclude = exclude };
      irreducible = λ is. needed_among p ds marks alone needed are;
      perhaps_fewer = λ e. absurd (false≢true (sym e));
    }

-- where those that have a mark exclude each other, all is done
pub alone_reduced : (p : ProblemValue) (budget : ℕ) (r : ReductionValue) (alone : List Demand) (marks : List Bool) (count : ℕ) → IsReduced p budget r → alone ≡ marked r.demands r.is_needed
    → ExcludeEachOther p alone → length marks ≡ length alone → IsReduced p budget (record { demands = alone; is_needed = marks; next = count; is_irreducible = true })
alone_reduced p budget r alone marks count so are exclude long =
    let P : List Demand → Type 0 = λ ds. All (IsDemandOf p) ds in
    record {
      clash = record { demands = subst P (sym are) (marked_demands p r.demands r.is_needed so.clash.demands); exclude = exclude };
      long = long;
      needed = λ m within marked_one. needed m within;
      tried = λ is m before within. needed m within;
      perhaps = λ e. absurd (false≢true (sym e));
    }
  where
    needed : (m : ℕ) → m < length alone → CanBeMet p (remove alone m)
    needed = needed_among p r.demands r.is_needed alone so.needed are

-- ---- the first and the last turn
-- no demand has a mark
pub none_needed : (p : ProblemValue) (ds : List Demand) (marks : List Bool) → marks ≡ replicate (length ds) false → AreNeeded p ds marks
none_needed p ds marks are m within marked_one =
    absurd (false≢true (sym (ap (λ xs. slice_index_or xs m false) are ∙ get_or-replicate (length ds) m false false within) ∙ marked_one))

-- nothing was tried
pub reduced_first : (p : ProblemValue) (budget : ℕ) (ds : List Demand) (marks : List Bool) → IsClash p ds → length marks ≡ length ds → AreNeeded p ds marks
    → IsReduced p budget (record { demands = ds; is_needed = marks; next = 0; is_irreducible = true })
reduced_first p budget ds marks clash long needed = record {
  clash = clash;
  long = long;
  needed = needed;
  tried = λ is m before within. absurd (omega arith);
  perhaps = λ e. absurd (false≢true (sym e));
}

-- all were tried
pub reduced_last : (p : ProblemValue) (budget : ℕ) (r : ReductionValue) → length r.demands ≤ r.next → IsReduced p budget r
    → IsClashWithin p budget (record { demands = r.demands; is_irreducible = r.is_irreducible })
reduced_last p budget r end so = record {
  clash = so.clash;
  irreducible = λ is m within. so.tried is m (omega arith) within;
  perhaps_fewer = so.perhaps;
}

-- ---- a choice that meets all but one
-- all but the one are met, so the others are
pub others_met : (P : Demand → Type 0) (ds : List Demand) (u : ℕ) → u < length ds → ((n : ℕ) (d : Demand) → n < length ds → (n ≡ u → ⊥) → P (slice_index_or ds n d)) → All P (remove ds u)
others_met P ds u inside each = all_contained P (remove ds u) (λ d at. one d at)
  where
    one : (d : Demand) → Contains (remove ds u) d → P d
    one d (i, within, is) =
        let at = stands ds u i d inside within is in
        subst P at.is (each at.place d at.within (λ e. differs i at.place at.shifts e))
      where
        differs : (i place : ℕ) → Shifts u i place → place ≡ u → ⊥
        differs i place (inl a) e = omega (arith, a.0, a.1)
        differs i place (inr a) e = omega (arith, a.0, a.1)

-- of the demands before m, all are met but the one that is named
pub record IsUnmet (P : Demand → Type 0) (ds : List Demand) (m : ℕ) (x : Option ℕ) : Type 0 where
  pub before : IfSome x (λ u. u < m)
  pub met : (n : ℕ) (d : Demand) → n < m → (x ≡ Some n → ⊥) → P (slice_index_or ds n d)

module _ (P : Demand → Type 0) (ds : List Demand) (m : ℕ) where
  pub unmet_first : IsUnmet P ds 0 None
  unmet_first = record { before = tt; met = λ n d below differs. absurd (omega arith) }

  -- the next is met
  pub unmet_met : (x y : Option ℕ) → m < length ds → IsUnmet P ds m x → y ≡ x → P (slice_index_or ds m (Allowed 0)) → IsUnmet P ds (m + 1) y
  unmet_met x y inside so same h =
      let Q : Option ℕ → Type 0 = λ z. IsUnmet P ds (m + 1) z in
      subst Q (sym same) (record {
        before = later x so.before;
        met = λ n d below differs. elim (cases_eq n m) [
          | inl last ↦ (let R : ℕ → Type 0 = λ k. P (slice_index_or ds k d) in subst R (sym last) (subst P (get_or_default ds m (Allowed 0) d inside) h))
          | inr other ↦ so.met n d (grind (arith, below, other)) differs
        ];
      })
    where
      later : (x : Option ℕ) → IfSome x (λ u. u < m) → IfSome x (λ u. u < m + 1)
      later None h = h
      later (Some u) h = omega (arith, h)

  -- the next isn't, and all before are
  pub unmet_new : (x y : Option ℕ) → IsUnmet P ds m x → x ≡ None → y ≡ Some m → IsUnmet P ds (m + 1) y
  unmet_new x y so none same =
      let Q : Option ℕ → Type 0 = λ z. IsUnmet P ds (m + 1) z in
      subst Q (sym same) (record {
        before = omega arith;
        met = λ n d below differs. elim (cases_eq n m) [
          | inl last ↦ absurd (differs (ap (λ k. Some k) (sym last)))
          | inr other ↦ so.met n d (grind (arith, below, other)) (λ e. absurd (cc (none, e)))
        ];
      })

pub unmet_within : (P : Demand → Type 0) (ds : List Demand) (m : ℕ) (x : Option ℕ) → m ≤ length ds → IsUnmet P ds m x → IfSome x (λ u. u < length ds)
unmet_within P ds m None end so = tt
unmet_within P ds m (Some u) end so = omega (arith, so.before)

-- all but the one that is named are met
pub unmet_others : (p : ProblemValue) (places builds : List ℕ) (ds : List Demand) (m : ℕ) (x : Option ℕ) → length places ≡ length p.inputs → length builds ≡ length p.jobs
    → length ds ≤ m → m ≤ length ds → IsUnmet (Meets p places builds) ds m x → IfSome x (λ u. CanBeMet p (remove ds u))
unmet_others p places builds ds m None place_each build_each from end so = tt
unmet_others p places builds ds m (Some u) place_each build_each from end so = record {
  places = places;
  builds = builds;
  meets = record {
    lengths = record { place_each = place_each; build_each = build_each };
    each = others_met (Meets p places builds) ds u (omega (arith, so.before)) (λ n d within differs. so.met n d (omega arith) (λ e. differs (number u n e)));
  };
}
  where
    number : (u n : ℕ) → Some u ≡ Some n → n ≡ u
    number u n e = cc (e)
