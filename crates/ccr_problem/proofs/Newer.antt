-- Whether a newer build of a job has succeeded, number by number.
use Rattle.std.proofs.Common.{◌≡◌, ℕ, ◌+◌, ◌≤◌, List, [], ◌∷◌, ◌++◌, length, take, Bool, true, false, cond, ◌&&◌, ◌||◌, ◌==◌, nat_lt, refl, sym, ap, ap₂, ◌∙◌, arith, append_assoc, Option, Some, None}
use Rattle.std.specs.Prelude.{slice_get}
use Rattle.std.specs.List.{AllByRecursion}
use Rattle.std.specs.Option.{option_map_or}
use Rattle.std.proofs.lemmas.Bool.{and_parts, and_from, or_left, or_right, lt-ltb, eqb-true, false≢true}
use Rattle.std.proofs.lemmas.Bool.Decides.{nat_tests}
use Rattle.std.proofs.lemmas.List.{append-nil, take_at}
use Rattle.std.proofs.lemmas.List.Sums.{sum_by_push}
use Rattle.ccr_history.specs.declared.build.Status.TheVariants.{Running}
use Rattle.ccr_history.specs.Text.{Text}
use Rattle.ccr_history.specs.Builds.{BuildData, is_of, is_build_of, count_of, build_of, is_succeeded}
use Rattle.ccr_history.specs.History.{AreNumbered}
use Rattle.ccr_problem.specs.Follows.{has_newer}
use Rattle.ccr_problem.proofs.Builds.{at_seam}
use Rattle.ccr_problem.proofs.Ends.{IsIt, only, rises}
use Rattle.ccr_problem.proofs.Names.{same_text}

module _ (job : Text) (k : ℕ) where
  -- no build of the next number has succeeded
  abbrev NoneNext : List BuildData → Type 0
  NoneNext bs = AllByRecursion (λ c. is_build_of job (k + 1) c ≡ true → is_succeeded c.status ≡ false) bs

  -- then a newer build is newer than that too
  step : (bs : List BuildData) → NoneNext bs → has_newer job k bs ≡ has_newer job (k + 1) bs
  step [] none = refl
  step (b ∷ bs) (here, none) = ap₂ (λ x y. x || y) (by (is_of job b) (is_succeeded b.status) (k + 1 == b.number) refl refl refl) (step bs none)
    where
      apart : (k + 1 == b.number) ≡ false → nat_lt k b.number ≡ nat_lt (k + 1) b.number
      apart other = grind (arith, nat_tests)

      by : (m s e : Bool) → is_of job b ≡ m → is_succeeded b.status ≡ s → (k + 1 == b.number) ≡ e
          → (is_of job b && (is_succeeded b.status && nat_lt k b.number)) ≡ (is_of job b && (is_succeeded b.status && nat_lt (k + 1) b.number))
      by true true true d f g = absurd (false≢true (sym (here (and_from _ _ d g)) ∙ f))
      by m s false d f g = ap (λ x. is_of job b && (is_succeeded b.status && x)) (apart g)
      by true false true d f g = ap (λ s. is_of job b && (s && nat_lt k b.number)) f ∙ alike (is_of job b) ∙ sym (ap (λ s. is_of job b && (s && nat_lt (k + 1) b.number)) f)
        where
          alike : (m : Bool) → (m && (false && nat_lt k b.number)) ≡ (m && (false && nat_lt (k + 1) b.number))
          alike true = refl
          alike false = refl
      by false s true d f g = ap (λ m. m && (is_succeeded b.status && nat_lt k b.number)) d ∙ sym (ap (λ m. m && (is_succeeded b.status && nat_lt (k + 1) b.number)) d)

  none_by : (t : Bool) (b : BuildData) (rest : Option BuildData) → cond t (Some b) rest ≡ None → (t ≡ false) × (rest ≡ None)
  none_by true b rest e = absurd (cc)
  none_by false b rest e = (refl, e)

  none_there : (bs : List BuildData) → build_of job (k + 1) bs ≡ None → NoneNext bs
  none_there [] none = tt
  none_there (b ∷ bs) none =
      let parts = none_by (is_build_of job (k + 1) b) b (build_of job (k + 1) bs) none in
      ((λ e. absurd (false≢true (sym parts.0 ∙ e))), none_there bs parts.1)

  one_failed : (it : BuildData) (bs : List BuildData) → is_succeeded it.status ≡ false → AllByRecursion (IsIt job (k + 1) Running [] it) bs → NoneNext bs
  one_failed it [] fails is = tt
  one_failed it (b ∷ bs) fails (here, is) = ((λ e. ap (λ c. is_succeeded c.status) (here e) ∙ fails), one_failed it bs fails is)

  newer_next : (o : Option BuildData) (bs : List BuildData) → AreNumbered bs → build_of job (k + 1) bs ≡ o
      → ((it : BuildData) → o ≡ Some it → is_succeeded it.status ≡ false) → has_newer job k bs ≡ has_newer job (k + 1) bs
  newer_next None bs numbered e fails = step bs (none_there bs e)
  newer_next (Some it) bs numbered e fails = step bs (one_failed it bs (fails it refl) (only job (k + 1) Running [] it bs (rises job bs numbered) e))

  newer_found : (it : BuildData) (bs : List BuildData) → build_of job (k + 1) bs ≡ Some it → is_succeeded it.status ≡ true → has_newer job k bs ≡ true
  newer_found it [] e done = absurd (cc)
  newer_found it (b ∷ bs) e done = by (is_build_of job (k + 1) b) refl e (λ rest. newer_found it bs rest done)
    where
      by : (t : Bool) → is_build_of job (k + 1) b ≡ t → cond t (Some b) (build_of job (k + 1) bs) ≡ Some it → (build_of job (k + 1) bs ≡ Some it → has_newer job k bs ≡ true) → has_newer job k (b ∷ bs) ≡ true
      by true d is rec =
          let same : b ≡ it = cc in
          let parts = and_parts (is_of job b) (k + 1 == b.number) d in
          let number = eqb-true _ _ parts.1 in
          or_left _ (has_newer job k bs) (and_from _ _ parts.0 (and_from _ _ (ap (λ c. is_succeeded c.status) same ∙ done) (lt-ltb k b.number (omega (arith, number)))))
      by false d is rec = or_right (is_of job b && (is_succeeded b.status && nat_lt k b.number)) _ (rec is)

  -- where the build of the next number has succeeded, one is newer
  pub one_newer : (bs : List BuildData) → option_map_or (λ b. is_succeeded b.status) (build_of job (k + 1) bs) false ≡ true → has_newer job k bs ≡ true
  one_newer bs done = by (build_of job (k + 1) bs) refl done
    where
      by : (o : Option BuildData) → build_of job (k + 1) bs ≡ o → option_map_or (λ b. is_succeeded b.status) o false ≡ true → has_newer job k bs ≡ true
      by None e done = absurd (false≢true done)
      by (Some it) e done = newer_found it bs e done

  -- where it hasn't, or there is none, what is newer is newer than that number too
  pub none_next : (bs : List BuildData) → AreNumbered bs → option_map_or (λ b. is_succeeded b.status) (build_of job (k + 1) bs) false ≡ false → has_newer job k bs ≡ has_newer job (k + 1) bs
  none_next bs numbered fails = by (build_of job (k + 1) bs) refl fails
    where
      by : (o : Option BuildData) → build_of job (k + 1) bs ≡ o → option_map_or (λ b. is_succeeded b.status) o false ≡ false → has_newer job k bs ≡ has_newer job (k + 1) bs
      by None e fails = newer_next None bs numbered e (λ it is. absurd (cc))
      by (Some it) e fails = newer_next (Some it) bs numbered e (λ other is. ap (λ (o : Option BuildData). option_map_or (λ b. is_succeeded b.status) o false) (sym is) ∙ fails)

-- ---- none is newer than the last
module _ (job : Text) where
  abbrev IsBelow : ℕ → List BuildData → Type 0
  IsBelow n bs = AllByRecursion (λ c. is_of job c ≡ true → c.number ≤ n) bs

  last : (n : ℕ) (bs : List BuildData) → IsBelow n bs → has_newer job n bs ≡ false
  last n [] below = refl
  last n (b ∷ bs) (here, below) = by (is_of job b) refl (last n bs below)
    where
      no : (m : Bool) (n : ℕ) → (m && (is_succeeded b.status && false)) ≡ false
      no true n = none (is_succeeded b.status)
        where
          none : (s : Bool) → (s && false) ≡ false
          none true = refl
          none false = refl
      no false n = refl

      by : (m : Bool) → is_of job b ≡ m → has_newer job n bs ≡ false → has_newer job n (b ∷ bs) ≡ false
      by true e rec =
          let low : b.number ≤ n = here e in
          let over : nat_lt n b.number ≡ false = grind (arith, nat_tests) in
          ap₂ (λ x y. x || y) (ap (λ t. is_of job b && (is_succeeded b.status && t)) over ∙ no (is_of job b) n) rec
      by false e rec = ap₂ (λ x y. (x && (is_succeeded b.status && nat_lt n b.number)) || y) e rec

  counted_by : (b : Bool) (n : ℕ) → n ≤ n + cond b 1 0
  counted_by true n = omega arith
  counted_by false n = omega arith

  more : (bs xs : List BuildData) → count_of job bs ≤ count_of job (bs ++ xs)
  more bs [] = let e = ap (count_of job) (append-nil bs) in omega (arith, e)
  more bs (x ∷ xs) =
      let rest = more (bs ++ x ∷ []) xs in
      let same = ap (count_of job) (append_assoc bs (x ∷ []) xs) in
      let pushed = sum_by_push (λ b. cond (is_of job b) 1 0) bs x in
      let longer = counted_by (is_of job x) (count_of job bs) in
      omega (arith, rest, same, pushed, longer)

  below_from : (bs xs all : List BuildData) → all ≡ bs ++ xs → AreNumbered all → IsBelow (count_of job all) xs
  below_from bs [] all e numbered = tt
  below_from bs (x ∷ xs) all e numbered =
      let there : slice_get all (length bs) ≡ Some x = ap (λ ys. slice_get ys (length bs)) e ∙ at_seam bs x xs in
      let before : take (length bs) all ≡ bs = ap (take (length bs)) e ∙ take_at bs (x ∷ xs) (length bs) refl in
      let number : x.number ≡ count_of x.job bs + 1 = numbered (length bs) x there ∙ ap (λ ys. count_of x.job ys + 1) before in
      let pushed : count_of job (bs ++ x ∷ []) ≡ count_of job bs + cond (is_of job x) 1 0 = sum_by_push (λ b. cond (is_of job b) 1 0) bs x in
      let split : all ≡ (bs ++ x ∷ []) ++ xs = e ∙ sym (append_assoc bs (x ∷ []) xs) in
      let most = more (bs ++ x ∷ []) xs in
      let same = ap (count_of job) split in (
        (λ d.
            let own = ap (λ name. count_of name bs + 1) (sym (same_text job x.job d)) in
            let one : cond (is_of job x) 1 0 ≡ 1 = ap {B = ℕ} (λ c. cond c 1 0) d in
            omega (arith, number, own, pushed, one, most, same)),
        below_from (bs ++ x ∷ []) xs all split numbered,
      )

  pub none_newer_than : (n : ℕ) (bs : List BuildData) → AreNumbered bs → count_of job bs ≤ n → has_newer job n bs ≡ false
  none_newer_than n bs numbered most = last n bs (weaker bs (below_from [] bs bs refl numbered))
    where
      weaker : (cs : List BuildData) → IsBelow (count_of job bs) cs → IsBelow n cs
      weaker [] below = tt
      weaker (c ∷ cs) (here, below) = ((λ e. let low = here e in omega (arith, low, most)), weaker cs below)
