-- What a command shows, line by line.
use Rattle.std.proofs.Common.{◌≡◌, ◌<◌, ◌+◌, ◌++◌, ◌∷◌, [], zero, suc, List, ℕ, length, take, drop, flat_map, Option, Some, None, Bool, true, false, ◌||◌, slice_get, get_or, refl, sym, ◌∙◌, ap, add-zero, arith}
use Rattle.std.specs.List.{list_any}
use Rattle.std.specs.Prelude.{IsSome}
use Rattle.std.proofs.lemmas.Bool.{false≢true}
use Rattle.std.proofs.lemmas.List.{take_more, flat_map_more, length-take-le}
use Rattle.std.proofs.lemmas.Option.{slice_get_within, get_or_from_slice_get}
use Rattle.ccr_history.specs.Text.{Text}
use Rattle.ccr_history.specs.TextMap.{TextMap}
use Rattle.ccr_pipeline.specs.JobData.{JobData}
use Rattle.ccr_pipeline.specs.Links.{job_names}
use Rattle.ccr_pipeline.specs.Names.{has_name}
use Rattle.ccr_problem.specs.ProblemOf.{job_of}
use Rattle.ccr_problem.proofs.Jobs.{named}
use Rattle.ccr_lines.specs.Listed.{ListedData, listed_from}

-- ---- one more of a list
pub one_more : {X : Type 0} (xs : List X) (k : ℕ) (x : X) → slice_get xs k ≡ Some x → take (k + 1) xs ≡ take k xs ++ x ∷ []
one_more xs k x at =
    take_more xs k x (slice_get_within xs k x at) ∙ ap (λ y. take k xs ++ y ∷ []) (get_or_from_slice_get xs k x x at)

-- what it gives, as its line, comes to the others
pub lines_more : {X Y : Type 0} (f : X → List Y) (xs : List X) (k : ℕ) (x : X) (start old new : List Y)
    → slice_get xs k ≡ Some x → old ≡ start ++ flat_map f (take k xs) → new ≡ old ++ f x
    → new ≡ start ++ flat_map f (take (k + 1) xs)
lines_more f xs k x start old new at o n =
    n ∙ (ap (λ t. t ++ f x) o ∙ (flat_map_more f start (take k xs) x
    ∙ ap (λ ys. start ++ flat_map f ys) (sym (one_more xs k x at))))

-- the same, where the list is gone through by its items
pub lines_on : {X Y : Type 0} (f : X → List Y) (xs : List X) (k : ℕ) (x : X) (old new : List Y) → k < length xs
    → get_or xs k x ≡ x → old ≡ flat_map f (take k xs) → new ≡ old ++ f x → new ≡ flat_map f (take (k + 1) xs)
lines_on f xs k x old new within at o n =
    n ∙ (ap (λ t. t ++ f x) o ∙ (flat_map_more f [] (take k xs) x
    ∙ ap (λ ys. flat_map f ys) (ap (λ y. take k xs ++ y ∷ []) (sym at) ∙ sym (take_more xs k x within))))

-- what is left from there on
pub drop_there : {X : Type 0} (xs : List X) (k : ℕ) (x : X) → slice_get xs k ≡ Some x → drop k xs ≡ x ∷ drop (k + 1) xs
drop_there [] zero x e = absurd (cc (e))
drop_there [] (suc k) x e = absurd (cc (e))
drop_there (y ∷ ys) zero x e = let one : y ≡ x = cc (e) in ap (λ z. z ∷ ys) one
drop_there (y ∷ ys) (suc k) x e =
    let n : suc k + 1 ≡ suc (k + 1) = omega arith in
    drop_there ys k x e ∙ ap (λ m. x ∷ drop m (y ∷ ys)) (sym n)

-- one of a list that passes a test
pub any_here : {X : Type 0} (test : X → Bool) (xs : List X) (k : ℕ) (x : X) → slice_get xs k ≡ Some x → test x ≡ true
    → list_any test (drop k xs) ≡ list_any test xs → true ≡ list_any test xs
any_here test xs k x at is rest =
    sym (ap (λ b. b || list_any test (drop (k + 1) xs)) is)
    ∙ (sym (ap (λ ys. list_any test ys) (drop_there xs k x at)) ∙ rest)

-- and one that doesn't
pub any_on : {X : Type 0} (test : X → Bool) (xs : List X) (k : ℕ) (x : X) → slice_get xs k ≡ Some x → test x ≡ false
    → list_any test (drop k xs) ≡ list_any test xs → list_any test (drop (k + 1) xs) ≡ list_any test xs
any_on test xs k x at is rest =
    sym (ap (λ b. b || list_any test (drop (k + 1) xs)) is)
    ∙ (sym (ap (λ ys. list_any test ys) (drop_there xs k x at)) ∙ rest)

-- ---- versions
-- where this test says which places are disabled
module _ (off : ℕ → Bool) where
  listed_at : ℕ → TextMap → ListedData
  listed_at place v = record { place = place; version = v; is_disabled = off place }

  -- one version more at the end
  listed_more : (place : ℕ) (vs : List TextMap) (v : TextMap)
      → listed_from off place (vs ++ v ∷ []) ≡ listed_from off place vs ++ listed_at (place + length vs) v ∷ []
  unfolding listed_at
  listed_more place [] v = ap (λ n. listed_at n v ∷ []) (sym (add-zero place))
  listed_more place (w ∷ ws) v =
      let same : place + 1 + length ws ≡ place + suc (length ws) = omega arith in
      ap (λ t. listed_at place w ∷ t) (listed_more (place + 1) ws v)
      ∙ ap (λ n. (listed_at place w ∷ listed_from off (place + 1) ws) ++ listed_at n v ∷ []) same

  -- it comes to the others
  pub listed_told : (vs : List TextMap) (k : ℕ) (v : TextMap) (old new : List ListedData) → k < length vs
      → get_or vs k v ≡ v → old ≡ listed_from off 1 (take k vs)
      → new ≡ old ++ record { place = k + 1; version = v; is_disabled = off (k + 1) } ∷ []
      → new ≡ listed_from off 1 (take (k + 1) vs)
  unfolding listed_at
  listed_told vs k v old new within at o n =
      let place : 1 + length (take k vs) ≡ k + 1 = omega (arith, length-take-le k vs) in
      n ∙ (ap (λ t. t ++ listed_at (k + 1) v ∷ []) o
      ∙ (ap (λ m. listed_from off 1 (take k vs) ++ listed_at m v ∷ []) (sym place)
      ∙ (sym (listed_more 1 (take k vs) v)
      ∙ ap (λ ws. listed_from off 1 ws) (ap (λ w. take k vs ++ w ∷ []) (sym at) ∙ sym (take_more vs k v within)))))

-- ---- jobs
named_in : (name : Text) (js : List JobData) (found : Option JobData) → job_of name js ≡ found → IsSome found
    → has_name (job_names js) name ≡ true
named_in name js None at some = absurd (false≢true some)
named_in name js (Some j) at some = named name js j at

-- a job that is there isn't missing
pub there : (name : Text) (js : List JobData) → IsSome (job_of name js) → has_name (job_names js) name ≡ false → ⊥
there name js some missing = false≢true (sym missing ∙ named_in name js (job_of name js) refl some)
