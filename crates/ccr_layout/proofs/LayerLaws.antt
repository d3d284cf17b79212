-- One more node that is done.
use Rattle.std.proofs.Common.{◌≡◌, ◌≢◌, ℕ, zero, suc, ◌+◌, ◌<◌, ◌≤◌, ◌⊎◌, Bool, true, false, not, cond, eqb, ◌&&◌, List, [], ◌∷◌, length, get_or, set, slice_index, inl, inr, refl, sym, ap, ◌∙◌, subst, arith, length-set, replicate, take}
use Rattle.std.specs.Prelude.{All, Contains}
use Rattle.std.specs.declared.vec.Vec.{Vec}
use Rattle.std.proofs.lemmas.Bool.{cases_eq, cond-true, ne_eqb, not_from_false, false≢true}
use Rattle.std.proofs.lemmas.List.{get_or-set_same, get_or-set_other, get_or-replicate, length-replicate, take_more}
use Rattle.std.proofs.lemmas.List.Sums.{sum_by-cons}
use Rattle.std.proofs.lemmas.List.Elements.{All-set, All-weaker, All-replicate, Contains-push_cases}
use Rattle.ccr_layout.specs.Layers.{named_in, naming, IsNamedBack, AreLayers}
use Rattle.ccr_layout.specs.Turns.{CanBeNext}

-- there is nothing, or something
cases_nil : (xs : List ℕ) → (xs ≡ []) ⊎ (xs ≢ [])
cases_nil [] = inl refl
cases_nil (x ∷ xs) = inr (λ e. cc)

-- how many are true
pub count : List Bool → ℕ
count [] = 0
count (true ∷ bs) = suc (count bs)
count (false ∷ bs) = count bs

pub count_more : (bs : List Bool) (i : ℕ) → i < length bs → get_or bs i true ≡ false → suc (count bs) ≡ count (set bs i true)
unfolding count
count_more [] i within is = absurd (omega arith)
count_more (true ∷ bs) zero within is = absurd (false≢true (sym is))
count_more (false ∷ bs) zero within is = refl
count_more (true ∷ bs) (suc i) within is = ap suc (count_more bs i (omega arith) is)
count_more (false ∷ bs) (suc i) within is = count_more bs i (omega arith) is

count_low : (bs : List Bool) → count bs ≤ length bs
unfolding count
count_low [] = omega arith
count_low (true ∷ bs) = let h = count_low bs in omega (arith, h)
count_low (false ∷ bs) = let h = count_low bs in omega (arith, h)

-- all are true
pub count_all : (bs : List Bool) → length bs ≤ count bs → (i : ℕ) → get_or bs i true ≡ true
unfolding count
count_all [] h i = refl
count_all (true ∷ bs) h zero = refl
count_all (true ∷ bs) h (suc i) = count_all bs (omega arith) i
count_all (false ∷ bs) h i = absurd (omega (arith, h, count_low bs))

-- how many nodes are done that name others
pub named_done : {A : Type 0} → List Bool → List (Vec ℕ A) → ℕ
named_done [] vs = 0
named_done (d ∷ ds) [] = 0
named_done (d ∷ ds) (v ∷ vs) = cond (d && not (eqb (length v.items) 0)) (1 + named_done ds vs) (named_done ds vs)

-- one more before two lists keeps their order
cond_grows : (b : Bool) (m n : ℕ) → m ≤ n → cond b (1 + m) m ≤ cond b (1 + n) n
cond_grows true m n h = omega (arith, h)
cond_grows false m n h = h

cond_more : (b : Bool) (m n : ℕ) → 1 + m ≤ n → 1 + cond b (1 + m) m ≤ cond b (1 + n) n
cond_more true m n h = omega (arith, h)
cond_more false m n h = h

cond_low : (b : Bool) (m : ℕ) → m ≤ cond b (1 + m) m
cond_low true m = omega arith
cond_low false m = omega arith

cond_both_grow : (d b : Bool) (m n : ℕ) → m ≤ n → cond (d && b) (1 + m) m ≤ cond b (1 + n) n
cond_both_grow true true m n h = omega (arith, h)
cond_both_grow true false m n h = h
cond_both_grow false true m n h = omega (arith, h)
cond_both_grow false false m n h = h

-- how many name others, of one more
pub cond_one : (b : Bool) (n : ℕ) → cond b 1 0 + n ≡ cond b (1 + n) n
cond_one true n = refl
cond_one false n = omega arith

pub naming_cons : {A : Type 0} (v : Vec ℕ A) (vs : List (Vec ℕ A)) → naming (v ∷ vs) ≡ cond (not (eqb (length v.items) 0)) (1 + naming vs) (naming vs)
naming_cons v vs = sum_by-cons (λ x. cond (not (eqb (length x.items) 0)) 1 0) v vs ∙ cond_one (not (eqb (length v.items) 0)) (naming vs)

named_done_grows : {A : Type 0} (ds : List Bool) (vs : List (Vec ℕ A)) (i : ℕ) → named_done ds vs ≤ named_done (set ds i true) vs
unfolding named_done
named_done_grows [] vs i = omega arith
named_done_grows (d ∷ ds) [] zero = omega arith
named_done_grows (d ∷ ds) [] (suc i) = omega arith
named_done_grows (true ∷ ds) (v ∷ vs) zero = omega arith
named_done_grows (false ∷ ds) (v ∷ vs) zero = cond_low (not (eqb (length v.items) 0)) (named_done ds vs)
named_done_grows (d ∷ ds) (v ∷ vs) (suc i) =
    cond_grows (d && not (eqb (length v.items) 0)) (named_done ds vs) (named_done (set ds i true) vs) (named_done_grows ds vs i)

-- one more is done that names others
named_done_more : {A : Type 0} (ds : List Bool) (vs : List (Vec ℕ A)) (i : ℕ) → i < length ds → length ds ≡ length vs → get_or ds i true ≡ false → named_in vs i ≢ []
    → 1 + named_done ds vs ≤ named_done (set ds i true) vs
unfolding named_done
named_done_more [] vs i within long left names = absurd (omega arith)
named_done_more (d ∷ ds) [] i within long left names = absurd (omega (arith, long))
named_done_more (true ∷ ds) (v ∷ vs) zero within long left names = absurd (false≢true (sym left))
named_done_more (false ∷ ds) (v ∷ vs) zero within long left names =
    let e = cond-true (not (eqb (length v.items) 0)) (1 + named_done ds vs) (named_done ds vs) (not_from_false (eqb (length v.items) 0) (ne_eqb (length v.items) 0 (λ none. names (nil_of v.items none)))) in
    omega (arith, e)
  where
    nil_of : (xs : List ℕ) → length xs ≡ 0 → xs ≡ []
    nil_of [] none = refl
    nil_of (x ∷ xs) none = absurd (omega (arith, none))
named_done_more (d ∷ ds) (v ∷ vs) (suc i) within long left names =
    cond_more (d && not (eqb (length v.items) 0)) (named_done ds vs) (named_done (set ds i true) vs) (named_done_more ds vs i (omega (arith, within)) (omega (arith, long)) left names)

-- no more are than name others
named_done_few : {A : Type 0} (ds : List Bool) (vs : List (Vec ℕ A)) → named_done ds vs ≤ naming vs
unfolding named_done
named_done_few [] vs = omega arith
named_done_few (d ∷ ds) [] = omega arith
named_done_few (d ∷ ds) (v ∷ vs) =
    let P : ℕ → Type 0 = λ n. named_done (d ∷ ds) (v ∷ vs) ≤ n in
    subst P (sym (naming_cons v vs)) (cond_both_grow d (not (eqb (length v.items) 0)) (named_done ds vs) (naming vs) (named_done_few ds vs))

-- what holds after so many turns
pub record AreLayered {A : Type 0} (named : List (Vec ℕ A)) (done : List Bool) (layers : List ℕ) (turn : ℕ) : Type 0 where
  pub long : length layers ≡ length named
  pub done_long : length done ≡ length named
  pub low : All (λ l. l ≤ turn) layers
  pub few : All (λ l. l ≤ named_done done named) layers
  pub later : (t s : ℕ) → t < length named → s < length named → get_or done t true ≡ true → Contains (named_in named t) s
      → ((get_or done s true ≡ true) × (slice_index layers s < slice_index layers t)) ⊎ IsNamedBack named t
  pub many : ((t : ℕ) → get_or done t true ≡ true) ⊎ (turn ≤ count done)

-- one node more is done, above those that it names
pub layered_more : {A : Type 0} (named : List (Vec ℕ A)) (done : List Bool) (layers : List ℕ) (turn node above : ℕ) → AreLayered named done layers turn
    → CanBeNext named done node
    → ((s : ℕ) → Contains (named_in named node) s → get_or done s true ≡ true → slice_index layers s + 1 ≤ above)
    → above ≤ turn + 1 → ((most : ℕ) → All (λ l. l ≤ most) layers → above ≤ most + 1) → (named_in named node ≡ [] → above ≡ 0)
    → AreLayered named (set done node true) (set layers node above) (turn + 1)
layered_more named done layers turn node above is can high low next first = record {
  long = length-set layers node above ∙ is.long;
  done_long = length-set done node true ∙ is.done_long;
  few = All-set (λ l. l ≤ named_done (set done node true) named) layers node above few'
      (All-weaker (λ l. l ≤ named_done done named) (λ l. l ≤ named_done (set done node true) named) (λ l h. omega (arith, h, named_done_grows done named node)) layers is.few);
  low = All-set (λ l. l ≤ turn + 1) layers node above low (All-weaker (λ l. l ≤ turn) (λ l. l ≤ turn + 1) (λ l h. omega (arith, h)) layers is.low);
  later = later';
  many = many';
}
  where
    still : (s : ℕ) → get_or done s true ≡ true → (s ≢ node) × (get_or (set done node true) s true ≡ true) × (slice_index (set layers node above) s ≡ slice_index layers s)
    still s is_done =
        let other : s ≢ node = λ e. false≢true (sym can.left ∙ ap (λ k. get_or done k true) (sym e) ∙ is_done) in
        (other, get_or-set_other done node s true true other ∙ is_done, get_or-set_other layers node s above 0 other)

    few' : above ≤ named_done (set done node true) named
    few' =
        elim (cases_nil (named_in named node)) [
          | inl none ↦ omega (arith, first none)
          | inr some ↦ omega (arith, next (named_done done named) is.few, named_done_more done named node (omega (arith, can.within, is.done_long)) is.done_long can.left some)
        ]

    new : slice_index (set layers node above) node ≡ above
    new = get_or-set_same layers node above 0 (omega (arith, can.within, is.long))

    later' : (t s : ℕ) → t < length named → s < length named → get_or (set done node true) t true ≡ true → Contains (named_in named t) s
        → ((get_or (set done node true) s true ≡ true) × (slice_index (set layers node above) s < slice_index (set layers node above) t)) ⊎ IsNamedBack named t
    later' t s wt ws is_done has =
        elim (cases_eq t node) [
          | inl same ↦ elim can.ready [
            | inl ready ↦ (let P : ℕ → Type 0 = λ k. Contains (named_in named k) s in
                let has' : Contains (named_in named node) s = subst P same has in
                let d = ready s has' in
                let kept = still s d in
                let e = ap (slice_index (set layers node above)) same in
                let h = high s has' d in
                inl (kept.1, omega (arith, kept.2, e, new, h)))
            | inr back ↦ (let P : ℕ → Type 0 = λ k. IsNamedBack named k in inr (subst P (sym same) back))
          ]
          | inr other ↦ (let was : get_or done t true ≡ true = sym (get_or-set_other done node t true true other) ∙ is_done in
              elim (is.later t s wt ws was has) [
                | inl old ↦ (let kept = still s old.0 in
                    let e = get_or-set_other layers node t above 0 other in
                    let h = old.1 in
                    inl (kept.1, omega (arith, kept.2, e, h)))
                | inr back ↦ inr back
              ])
        ]

    many' : ((t : ℕ) → get_or (set done node true) t true ≡ true) ⊎ (turn + 1 ≤ count (set done node true))
    many' =
        elim is.many [
          | inl all ↦ absurd (false≢true (sym can.left ∙ all node))
          | inr h ↦ inr (omega (arith, h, count_more done node (omega (arith, can.within, is.done_long)) can.left))
        ]

-- nothing was left to do
pub layered_same : {A : Type 0} (named : List (Vec ℕ A)) (done : List Bool) (layers : List ℕ) (turn : ℕ) → AreLayered named done layers turn → ((t : ℕ) → get_or done t true ≡ true)
    → AreLayered named done layers (turn + 1)
layered_same named done layers turn is all = record {
  long = is.long;
  done_long = is.done_long;
  low = All-weaker (λ l. l ≤ turn) (λ l. l ≤ turn + 1) (λ l h. omega (arith, h)) layers is.low;
  few = is.few;
  later = is.later;
  many = inl all;
}

-- none is done yet
pub layered_none : {A : Type 0} (named : List (Vec ℕ A)) → AreLayered named (replicate (length named) false) (replicate (length named) 0) 0
layered_none named = record {
  long = length-replicate (length named) 0;
  done_long = length-replicate (length named) false;
  low = All-replicate (λ l. l ≤ 0) (length named) 0 (omega arith);
  few = All-replicate (λ l. l ≤ named_done (replicate (length named) false) named) (length named) 0 (omega arith);
  later = λ t s wt ws is_done has. absurd (false≢true (sym (get_or-replicate (length named) t false true wt) ∙ is_done));
  many = inr (omega arith);
}

-- after as many turns as there are nodes, all are done
pub layered_all : {A : Type 0} (named : List (Vec ℕ A)) (done : List Bool) (layers : List ℕ) (turn : ℕ) → turn ≡ length named → length named ≤ 400 → AreLayered named done layers turn → AreLayers named layers
layered_all named done layers turn end few is = record {
  long = is.long;
  low = All-weaker (λ l. l ≤ turn) (λ l. l ≤ 400) (λ l h. omega (arith, h, end, few)) layers is.low;
  few = All-weaker (λ l. l ≤ named_done done named) (λ l. l ≤ naming named) (λ l h. omega (arith, h, named_done_few done named)) layers is.few;
  later = λ t s wt ws has. elim (is.later t s wt ws (all t) has) [ inl h ↦ inl h.1 | inr h ↦ inr h ];
}
  where
    all : (t : ℕ) → get_or done t true ≡ true
    all t =
        elim is.many [
          | inl h ↦ h t
          | inr h ↦ count_all done (omega (arith, h, end, is.done_long)) t
        ]

-- the last of the first jobs, or an earlier one
pub above_cases : (jobs : List ℕ) (i s : ℕ) → i < length jobs → Contains (take (i + 1) jobs) s → Contains (take i jobs) s ⊎ (get_or jobs i 0 ≡ s)
above_cases jobs i s within has =
    let P : List ℕ → Type 0 = λ xs. Contains xs s in
    Contains-push_cases (take i jobs) (get_or jobs i 0) s (subst P (take_more jobs i 0 within) has)
