-- The steps of the walk over a tree.
use Rattle.std.proofs.Common.{◌≡◌, ◌≢◌, ℕ, zero, suc, ◌+◌, ◌<◌, ◌≤◌, ◌⊎◌, inl, inr, Bool, true, false, not, List, [], ◌∷◌, length, drop, get_or, slice_get, refl, sym, ap, ◌∙◌, subst, arith, Option, Some, None, IsTrue, drop-cons, add-one, is_some, option_copied, Bor}
use Rattle.std.proofs.lemmas.Bool.{not-false}
use Rattle.std.proofs.lemmas.List.{drop_all}
use Rattle.ccr_choice.specs.Problem.{ProblemValue, BuildValue, builds_at}
use Rattle.ccr_proof.specs.declared.node.Node.{Node}
use Rattle.ccr_choice.specs.Preference.{Preference, order_of}
use Rattle.ccr_choice.specs.Assignment.{Assignment, with_build}
use Rattle.ccr_choice.specs.Possible.{IsBestPossible}
use Rattle.ccr_proof.specs.Tree.{Tree, Trees, job, empty, bounded, same_as, no_child, child, width, count, count_all, is_same, are_same, tree_of, trees_of}
use Rattle.ccr_proof.specs.Refutes.{HasNoPlace, IsSame, Refutes, RefuteEach}
use Rattle.ccr_proof.proofs.Trees.{width_of, trees_at}
use Rattle.ccr_check.specs.declared.fault.CheckFault.{CheckFault}
use Rattle.ccr_check.specs.declared.fault.CheckFault.TheVariants.{WrongChildren}
use Rattle.ccr_check.specs.Fault.{IsFirstFault, IsFirstAmong}

-- a build, where one is wanted that is never looked at
pub no_build : BuildValue
no_build = record { number = 0; pairs = [] }

-- where there is no best possible place, no place is possible
pub none_best : (p : ProblemValue) (a : Assignment) (i : ℕ) (o : Option ℕ) (b : Bool) → i < length p.inputs → IsBestPossible (order_of p) p a i o → is_some o ≡ not b
    → (IsTrue b → HasNoPlace p a i) × (HasNoPlace p a i → IsTrue b)
none_best p a i None b within best none = (λ t. (within, best), λ h. not-false b (sym none))
none_best p a i (Some x) true within best none = absurd (cc (none))
none_best p a i (Some x) false within best none = (λ t. absurd (cc (t)), λ h. absurd (h.1 x best.0))

pub is_free : (o : Option (Bor BuildValue)) (x : Option BuildValue) → option_copied o ≡ x → is_some o ≡ false → x ≡ None
is_free None x e none = sym e
is_free (Some b) x e none = absurd (cc (none))

module _ (p : ProblemValue) (bound : Option (List ℕ)) (a : Assignment) (j : ℕ) where
  pub wrong_children : (n : ℕ) (t : Tree) (cs : List Node) → t ≡ job j (trees_of cs) → j < length p.jobs → a j ≡ None → length cs ≢ length (builds_at p j) → IsFirstFault (order_of p) p bound a n t (WrongChildren n)
  wrong_children n t cs is within free differ =
      let P : Tree → Type 0 = λ s. IsFirstFault (order_of p) p bound a n s (WrongChildren n) in
      subst P (sym is) (inl (inr (inr (refl, within, free, λ e. differ (sym (width_of cs) ∙ e)))))

  pub start_refuted : (t : Tree) (cs : List Node) (bs : List BuildValue) → t ≡ job j (trees_of cs) → bs ≡ builds_at p j → j < length p.jobs → a j ≡ None
      → RefuteEach (order_of p) p bound a j (trees_of cs) 0 bs (trees_of cs) → Refutes (order_of p) p bound a t
  start_refuted t cs bs is same within free h =
      let P : Tree → Type 0 = λ s. Refutes (order_of p) p bound a s in
      let Q : List BuildValue → Type 0 = λ xs. RefuteEach (order_of p) p bound a j (trees_of cs) 0 xs (trees_of cs) in
      subst P (sym is) (within, free, subst Q same h)

  pub start_faulty : (n : ℕ) (t : Tree) (cs : List Node) (bs : List BuildValue) (f : CheckFault) → t ≡ job j (trees_of cs) → bs ≡ builds_at p j → j < length p.jobs → a j ≡ None → length cs ≡ length bs
      → IsFirstAmong (order_of p) p bound a (n + 1) j (trees_of cs) 0 bs (trees_of cs) f → IsFirstFault (order_of p) p bound a n t f
  start_faulty n t cs bs f is same within free equal h =
      let P : Tree → Type 0 = λ s. IsFirstFault (order_of p) p bound a n s f in
      let Q : List BuildValue → Type 0 = λ xs. IsFirstAmong (order_of p) p bound a (n + 1) j (trees_of cs) 0 xs (trees_of cs) f in
      subst P (sym is) (inr (within, free, width_of cs ∙ equal ∙ ap length same, subst Q same h))

  -- the k-th child
  module _ (k : ℕ) (cs : List Node) (bs : List BuildValue) (c : Node) (b : BuildValue) (in_cs : k < length cs) (in_bs : k < length bs) (c_at : c ≡ get_or cs k c) (b_at : b ≡ get_or bs k b) where
    pub child_count : count_all (trees_of (drop k cs)) ≡ count (tree_of c) + count_all (trees_of (drop (k + 1) cs))
    child_count = ap count_all (trees_at cs k c in_cs c_at)

    builds_step : drop k bs ≡ b ∷ drop (k + 1) bs
    builds_step = cc (drop-cons bs k b in_bs, add-one k)

    pub step_refuted : Refutes (order_of p) p bound (with_build a j b) (tree_of c) ⊎ IsSame p j (trees_of cs) k b (tree_of c) → RefuteEach (order_of p) p bound a j (trees_of cs) (k + 1) (drop (k + 1) bs) (trees_of (drop (k + 1) cs)) → RefuteEach (order_of p) p bound a j (trees_of cs) k (drop k bs) (trees_of (drop k cs))
    step_refuted h rest =
        let P : List BuildValue → Type 0 = λ xs. RefuteEach (order_of p) p bound a j (trees_of cs) k xs (trees_of (drop k cs)) in
        let Q : Trees → Type 0 = λ ts. RefuteEach (order_of p) p bound a j (trees_of cs) k (b ∷ drop (k + 1) bs) ts in
        subst P (sym builds_step) (subst Q (sym (trees_at cs k c in_cs c_at)) (h, rest))

    from_pair : (n : ℕ) (f : CheckFault) → ((IsSame p j (trees_of cs) k b (tree_of c) → ⊥) × IsFirstFault (order_of p) p bound (with_build a j b) n (tree_of c) f)
        ⊎ ((Refutes (order_of p) p bound (with_build a j b) (tree_of c) ⊎ IsSame p j (trees_of cs) k b (tree_of c)) × IsFirstAmong (order_of p) p bound a (n + count (tree_of c)) j (trees_of cs) (k + 1) (drop (k + 1) bs) (trees_of (drop (k + 1) cs)) f)
        → IsFirstAmong (order_of p) p bound a n j (trees_of cs) k (drop k bs) (trees_of (drop k cs)) f
    from_pair n f h =
        let P : List BuildValue → Type 0 = λ xs. IsFirstAmong (order_of p) p bound a n j (trees_of cs) k xs (trees_of (drop k cs)) f in
        let Q : Trees → Type 0 = λ ts. IsFirstAmong (order_of p) p bound a n j (trees_of cs) k (b ∷ drop (k + 1) bs) ts f in
        subst P (sym builds_step) (subst Q (sym (trees_at cs k c in_cs c_at)) h)

    pub here_faulty : (n : ℕ) (f : CheckFault) → (IsSame p j (trees_of cs) k b (tree_of c) → ⊥) → IsFirstFault (order_of p) p bound (with_build a j b) n (tree_of c) f → IsFirstAmong (order_of p) p bound a n j (trees_of cs) k (drop k bs) (trees_of (drop k cs)) f
    here_faulty n f other h = from_pair n f (inl (other, h))

    pub step_faulty : (n next : ℕ) (f : CheckFault) → next ≡ n + count (tree_of c) → Refutes (order_of p) p bound (with_build a j b) (tree_of c) ⊎ IsSame p j (trees_of cs) k b (tree_of c)
        → IsFirstAmong (order_of p) p bound a next j (trees_of cs) (k + 1) (drop (k + 1) bs) (trees_of (drop (k + 1) cs)) f → IsFirstAmong (order_of p) p bound a n j (trees_of cs) k (drop k bs) (trees_of (drop k cs)) f
    step_faulty n next f e refutes rest =
        let P : ℕ → Type 0 = λ m. IsFirstAmong (order_of p) p bound a m j (trees_of cs) (k + 1) (drop (k + 1) bs) (trees_of (drop (k + 1) cs)) f in
        from_pair n f (inr (refutes, subst P e rest))

  pub all_refuted : (k : ℕ) (cs : List Node) (bs : List BuildValue) → length cs ≤ k → length bs ≤ k → RefuteEach (order_of p) p bound a j (trees_of cs) k (drop k bs) (trees_of (drop k cs))
  all_refuted k cs bs done_cs done_bs =
      let P : List BuildValue → Type 0 = λ xs. RefuteEach (order_of p) p bound a j (trees_of cs) k xs (trees_of (drop k cs)) in
      let Q : List Node → Type 0 = λ ys. RefuteEach (order_of p) p bound a j (trees_of cs) k [] (trees_of ys) in
      subst P (sym (drop_all k bs done_bs)) (subst Q (sym (drop_all k cs done_cs)) tt)

-- a child that is the same case as another is one node
pub same_count : (p : ProblemValue) (j : ℕ) (all : Trees) (k : ℕ) (b : BuildValue) (t : Tree) → IsSame p j all k b t → count t ≡ 1
same_count p j all k b t h = ap count h.1

-- whether child q is a case of its own
pub own_at : (cs : List Node) (q : ℕ) (c : Node) → q < length cs → c ≡ get_or cs q c → slice_get (are_same (trees_of cs)) q ≡ Some (is_same (tree_of c))
own_at [] q c within at = absurd (omega arith)
own_at (x ∷ cs) zero c within at = ap (λ y. Some (is_same (tree_of y))) (sym at)
own_at (x ∷ cs) (suc q) c within at = own_at cs q c (omega arith) at

-- a tree that refutes has no fault
module _ (prefers : Preference) (p : ProblemValue) (bound : Option (List ℕ)) where
  each_width : (a : Assignment) (j : ℕ) (all : Trees) (k : ℕ) (bs : List BuildValue) (ts : Trees) → RefuteEach prefers p bound a j all k bs ts → width ts ≡ length bs
  each_width a j all k [] no_child h = refl
  each_width a j all k (b ∷ bs) (child t ts) h = ap suc (each_width a j all (k + 1) bs ts h.1)
  each_width a j all k [] (child t ts) h = absurd h
  each_width a j all k (b ∷ bs) no_child h = absurd h

  mutual
    pub faultless : (a : Assignment) (n : ℕ) (t : Tree) (f : CheckFault) → Refutes prefers p bound a t → IsFirstFault prefers p bound a n t f → ⊥
    faultless a n (empty i) f h (inl fault) = fault.2 h
    faultless a n (empty i) f h (inr fault) = absurd (omega (arith, h.0, fault.1))
    faultless a n bounded f h fault = fault.1 h
    faultless a n (same_as q) f h fault = absurd h
    faultless a n (job j ts) f h (inl (inl fault)) = absurd (omega (arith, h.0, fault.1))
    faultless a n (job j ts) f h (inl (inr (inl fault))) = fault.2 h.1
    faultless a n (job j ts) f h (inl (inr (inr fault))) = fault.3 (each_width a j ts 0 (builds_at p j) ts h.2)
    faultless a n (job j ts) f h (inr fault) = each_faultless a (n + 1) j ts 0 (builds_at p j) ts f h.2 fault.3

    each_faultless : (a : Assignment) (n j : ℕ) (all : Trees) (k : ℕ) (bs : List BuildValue) (ts : Trees) (f : CheckFault) → RefuteEach prefers p bound a j all k bs ts
        → IsFirstAmong prefers p bound a n j all k bs ts f → ⊥
    each_faultless a n j all k [] no_child f h fault = fault
    each_faultless a n j all k (b ∷ bs) (child t ts) f h (inl fault) =
        elim h.0 [ inl refutes ↦ faultless (with_build a j b) n t f refutes fault.1 | inr other ↦ absurd (fault.0 other) ]
    each_faultless a n j all k (b ∷ bs) (child t ts) f h (inr fault) = each_faultless a (n + count t) j all (k + 1) bs ts f h.1 fault.1
    each_faultless a n j all k [] (child t ts) f h fault = fault
    each_faultless a n j all k (b ∷ bs) no_child f h fault = fault
