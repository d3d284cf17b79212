-- Lists, one after another: what builds took, and the first that passes a test.
use Rattle.std.proofs.Common.{◌≡◌, ◌<◌, ◌+◌, ◌∷◌, ◌++◌, [], ℕ, zero, suc, List, length, drop, map, get_or, Bool, true, false, cond, ◌||◌, flat_map, Option, Some, None, refl, sym, ◌∙◌, ap, arith, append_assoc}
use Rattle.std.proofs.lemmas.List.{drop_more}
use Rattle.std.proofs.lemmas.Slice.Eq.{bytes_eq-Decides}
use Rattle.std.specs.Prelude.{find, slice_get}
use Rattle.std.specs.List.{list_any}
use Rattle.std.specs.Str.{bytes_eq}
use Rattle.ccr_history.specs.Text.{Text}
use Rattle.ccr_history.specs.Builds.{UsedData}
use Rattle.ccr_pipeline.specs.Names.{with_name, with_names}
use Rattle.ccr_overview.specs.Each.{each_from}

-- what is left from there on
pub drop_there : {X : Type 0} (xs : List X) (k : ℕ) (x : X) → slice_get xs k ≡ Some x → drop k xs ≡ x ∷ drop (k + 1) xs
drop_there [] zero x e = absurd (cc (e))
drop_there [] (suc k) x e = absurd (cc (e))
drop_there (y ∷ ys) zero x e = let one : y ≡ x = cc (e) in ap (λ z. z ∷ ys) one
drop_there (y ∷ ys) (suc k) x e =
    let n : suc k + 1 ≡ suc (k + 1) = omega arith in
    drop_there ys k x e ∙ ap (λ m. x ∷ drop m (y ∷ ys)) (sym n)

-- what is said of one more, behind what is said of those before it
pub each_on : {X W : Type 0} (f : ℕ → X → List W) (xs : List X) (k : ℕ) (x : X) (old new all : List W) → slice_get xs k ≡ Some x
    → new ≡ old ++ f k x → old ++ each_from f k (drop k xs) ≡ all → new ++ each_from f (k + 1) (drop (k + 1) xs) ≡ all
each_on f xs k x old new all at told before =
    ap (λ ws. ws ++ each_from f (k + 1) (drop (k + 1) xs)) told
    ∙ (append_assoc old (f k x) (each_from f (k + 1) (drop (k + 1) xs))
    ∙ (sym (ap (λ ys. old ++ each_from f k ys) (drop_there xs k x at)) ∙ before))

-- one of a list that passes a test
pub any_here : {X : Type 0} (test : X → Bool) (xs : List X) (k : ℕ) (x : X) → slice_get xs k ≡ Some x → test x ≡ true
    → list_any test (drop k xs) ≡ list_any test xs → true ≡ list_any test xs
any_here test xs k x at is rest =
    sym (ap (λ b. b || list_any test (drop (k + 1) xs)) is)
    ∙ (sym (ap (λ ys. list_any test ys) (drop_there xs k x at)) ∙ rest)

-- and one that doesn't
pub any_on : {X : Type 0} (test : X → Bool) (xs : List X) (k : ℕ) (x : X) → slice_get xs k ≡ Some x → test x ≡ false
    → list_any test (drop k xs) ≡ list_any test xs → list_any test (drop (k + 1) xs) ≡ list_any test xs
any_on test xs k x at is rest =
    sym (ap (λ b. b || list_any test (drop (k + 1) xs)) is)
    ∙ (sym (ap (λ ys. list_any test ys) (drop_there xs k x at)) ∙ rest)

-- ---- the first that passes a test
module _ {X : Type 0} (test : X → Bool) (xs : List X) (k : ℕ) (x : X) (all : Option X) (within : k < length xs)
    (at : get_or xs k x ≡ x) (before : find test (drop k xs) ≡ all) where
  -- what is found from here on
  from_here : cond (test x) (Some x) (find test (drop (k + 1) xs)) ≡ all
  from_here = sym (ap (find test) (drop_more xs k x within ∙ ap (λ y. y ∷ drop (k + 1) xs) at)) ∙ before

  -- this one passes
  pub found_here : test x ≡ true → Some x ≡ all
  found_here so = sym (ap (λ b. cond b (Some x) (find test (drop (k + 1) xs))) so) ∙ from_here

  -- this one doesn't
  pub found_on : test x ≡ false → find test (drop (k + 1) xs) ≡ all
  found_on so = sym (ap (λ b. cond b (Some x) (find test (drop (k + 1) xs))) so) ∙ from_here

-- ---- what builds took
-- what a build took for an input of a name, where this is its name
named_so : (input : Text) (u : UsedData) → input ≡ u.input → Some (record { input = input; scope = u.scope; place = u.place }) ≡ Some u
named_so input u same = ap (λ t. Some (record { input = t; scope = u.scope; place = u.place })) same

-- it was taken for this input
pub used_here : (input : Text) (us : List UsedData) (k : ℕ) (u : UsedData) → slice_get us k ≡ Some u → bytes_eq input u.input ≡ true
    → find (λ v. bytes_eq input v.input) (drop k us) ≡ find (λ v. bytes_eq input v.input) us
    → Some (record { input = input; scope = u.scope; place = u.place }) ≡ find (λ v. bytes_eq input v.input) us
used_here input us k u at is rest =
    named_so input u ((bytes_eq-Decides input u.input).0 is)
    ∙ (sym (ap (λ b. cond b (Some u) (find (λ v. bytes_eq input v.input) (drop (k + 1) us))) is)
    ∙ (sym (ap (find (λ v. bytes_eq input v.input)) (drop_there us k u at)) ∙ rest))

-- it was taken for another one
pub used_on : (input : Text) (us : List UsedData) (k : ℕ) (u : UsedData) → slice_get us k ≡ Some u → bytes_eq input u.input ≡ false
    → find (λ v. bytes_eq input v.input) (drop k us) ≡ find (λ v. bytes_eq input v.input) us
    → find (λ v. bytes_eq input v.input) (drop (k + 1) us) ≡ find (λ v. bytes_eq input v.input) us
used_on input us k u at is rest =
    sym (ap (λ b. cond b (Some u) (find (λ v. bytes_eq input v.input) (drop (k + 1) us))) is)
    ∙ (sym (ap (find (λ v. bytes_eq input v.input)) (drop_there us k u at)) ∙ rest)

-- the name of one more input comes to the names
pub names_on : (us : List UsedData) (k : ℕ) (u : UsedData) (old new all : List Text) → slice_get us k ≡ Some u
    → new ≡ with_name old u.input → with_names old (map (λ v. v.input) (drop k us)) ≡ all
    → with_names new (map (λ v. v.input) (drop (k + 1) us)) ≡ all
names_on us k u old new all at told before =
    ap (λ ns. with_names ns (map (λ v. v.input) (drop (k + 1) us))) told
    ∙ (sym (ap (λ vs. with_names old (map (λ v. v.input) vs)) (drop_there us k u at)) ∙ before)

-- ---- the names of what several builds took
names_append : (ns xs ys : List Text) → with_names ns (xs ++ ys) ≡ with_names (with_names ns xs) ys
names_append ns [] ys = refl
names_append ns (x ∷ xs) ys = names_append (with_name ns x) xs ys

-- those of one more build come to them
pub names_more : {X : Type 0} (of : X → List Text) (xs : List X) (k : ℕ) (x : X) (old new all : List Text) → k < length xs
    → get_or xs k x ≡ x → new ≡ with_names old (of x) → with_names old (flat_map of (drop k xs)) ≡ all
    → with_names new (flat_map of (drop (k + 1) xs)) ≡ all
names_more of xs k x old new all within at told before =
    ap (λ ns. with_names ns (flat_map of (drop (k + 1) xs))) told
    ∙ (sym (names_append old (of x) (flat_map of (drop (k + 1) xs)))
    ∙ (sym (ap (λ ys. with_names old (flat_map of ys)) (drop_more xs k x within ∙ ap (λ y. y ∷ drop (k + 1) xs) at)) ∙ before))
