-- Lists of builds that run.
use Rattle.std.proofs.Common.{◌≡◌, ℕ, ◌==◌, Bool, true, false, cond, ◌&&◌, List, [], ◌∷◌, ◌++◌, Option, Some, None, bytes_eq, refl, sym, ap, ◌∙◌, subst}
use Rattle.std.specs.List.{AllByRecursion}
use Rattle.std.proofs.lemmas.Bool.{eqb-true}
use Rattle.std.proofs.lemmas.Slice.Eq.{bytes_eq-Decides}
use Rattle.std.proofs.lemmas.Bool.Decides.{Decides-eqb}
use Rattle.ccr_history.specs.Text.{Text}
use Rattle.ccr_core.specs.State.{RunningData, is_run_of, running_at, replaced, without}

-- ---- all of a list
pub all_weaker : {X : Type 0} {P Q : X → Type 0} → ((x : X) → P x → Q x) → (xs : List X) → AllByRecursion P xs → AllByRecursion Q xs
all_weaker f [] h = tt
all_weaker f (x ∷ xs) h = (f x h.0, all_weaker f xs h.1)

pub all_append : {X : Type 0} → (P : X → Type 0) → (xs : List X) (x : X) → AllByRecursion P xs → P x → AllByRecursion P (xs ++ x ∷ [])
all_append P [] x h p = (p, tt)
all_append P (y ∷ xs) x h p = (h.0, all_append P xs x h.1 p)

pub all_both : {X : Type 0} {P R Q : X → Type 0} → ((x : X) → P x → R x → Q x) → (xs : List X) → AllByRecursion P xs → AllByRecursion R xs → AllByRecursion Q xs
all_both f [] h k = tt
all_both f (x ∷ xs) h k = (f x h.0 k.0, all_both f xs h.1 k.1)

-- ---- numbers
same_by : (p q : Bool) → (p && q) ≡ true → (p ≡ true) × (q ≡ true)
same_by true true e = (refl, refl)
same_by true false e = absurd (cc (e))
same_by false q e = absurd (cc (e))

-- two builds are one where the test says so
pub id_same : (j job : Text) (n number : ℕ) → (bytes_eq j job && n == number) ≡ true → (j ≡ job) × (n ≡ number)
id_same j job n number e =
    let (p, q) = same_by (bytes_eq j job) (n == number) e in
    ((bytes_eq-Decides j job).0 p, eqb-true n number q)

pub id_refl : (j : Text) (n : ℕ) → (bytes_eq j j && n == n) ≡ true
id_refl j n = ap (λ t. t && n == n) ((bytes_eq-Decides j j).1 refl) ∙ (Decides-eqb n n).1 refl

pub id_flip : (a b : Text) (m n : ℕ) → (bytes_eq a b && m == n) ≡ false → (bytes_eq b a && n == m) ≡ false
id_flip a b m n e = by (bytes_eq b a && n == m) refl
  where
    by : (t : Bool) → (bytes_eq b a && n == m) ≡ t → (bytes_eq b a && n == m) ≡ false
    by false h = h
    by true h =
        let (p, q) = id_same b a n m h in
        let yes : (bytes_eq a b && m == n) ≡ true = ap (λ y. bytes_eq a y && m == n) p ∙ ap (λ y. bytes_eq a a && m == y) q ∙ id_refl a m in
        absurd (cc (e, yes))

-- the test of two numbers with a third is one, where the two are one
id_of : (j job : Text) (n number : ℕ) (j2 : Text) (n2 : ℕ) → (bytes_eq j job && n == number) ≡ true → (bytes_eq j2 j && n2 == n) ≡ (bytes_eq j2 job && n2 == number)
id_of j job n number j2 n2 e = let (p, q) = id_same j job n number e in ap (λ x. bytes_eq j2 x && n2 == n) p ∙ ap (λ x. bytes_eq j2 job && n2 == x) q

-- ---- look-ups
module _ (j : Text) (n : ℕ) where
  at_by : (x b : RunningData) (rest : Option RunningData) (t : Bool) → is_run_of j n x ≡ t → (rest ≡ Some b → (b.job ≡ j) × (b.number ≡ n)) → cond t (Some x) rest ≡ Some b → (b.job ≡ j) × (b.number ≡ n)
  at_by x b rest true is more e =
      let same : x ≡ b = cc e in
      let id = id_same j x.job n x.number is in
      (ap (λ y. y.job) (sym same) ∙ sym id.0, ap (λ y. y.number) (sym same) ∙ sym id.1)
  at_by x b rest false is more e = more e

  -- the build that is found has the number
  pub at_id : (bs : List RunningData) (b : RunningData) → running_at j n bs ≡ Some b → (b.job ≡ j) × (b.number ≡ n)
  at_id [] b e = absurd (cc (e))
  at_id (x ∷ bs) b e = at_by x b (running_at j n bs) (is_run_of j n x) refl (at_id bs b) e

  append_by : (x : RunningData) (t : Bool) (rest more : Option RunningData) → rest ≡ more → cond t (Some x) rest ≡ cond t (Some x) more
  append_by x true rest more e = refl
  append_by x false rest more e = e

  -- one more build of another number
  pub at_more : (bs : List RunningData) (x : RunningData) → is_run_of j n x ≡ false → running_at j n (bs ++ x ∷ []) ≡ running_at j n bs
  at_more [] x e = ap (λ t. cond t (Some x) None) e
  at_more (b ∷ bs) x e = append_by b (is_run_of j n b) (running_at j n (bs ++ x ∷ [])) (running_at j n bs) (at_more bs x e)

  none_by : (x : RunningData) (t : Bool) (rest : Option RunningData) → is_run_of j n x ≡ t → cond t (Some x) rest ≡ None → (is_run_of j n x ≡ false) × (rest ≡ None)
  none_by x true rest is e = absurd (cc (e))
  none_by x false rest is e = (is, e)

  -- where none is found, none has the number
  pub none_all : (bs : List RunningData) → running_at j n bs ≡ None → AllByRecursion (λ x. is_run_of j n x ≡ false) bs
  none_all [] e = tt
  none_all (x ∷ bs) e = let (is, rest) = none_by x (is_run_of j n x) (running_at j n bs) refl e in (is, none_all bs rest)

  module _ (j2 : Text) (n2 : ℕ) (apart : (bytes_eq j2 j && n2 == n) ≡ false) where
    less_by : (x : RunningData) (t : Bool) (bs : List RunningData) → is_run_of j n x ≡ t → running_at j2 n2 (without j n bs) ≡ running_at j2 n2 bs → running_at j2 n2 (cond t bs (x ∷ without j n bs)) ≡ running_at j2 n2 (x ∷ bs)
    less_by x true bs is more = sym (ap (λ t. cond t (Some x) (running_at j2 n2 bs)) (sym (id_of j x.job n x.number j2 n2 is) ∙ apart))
    less_by x false bs is more = ap (λ o. cond (is_run_of j2 n2 x) (Some x) o) more

    at_less : (bs : List RunningData) → running_at j2 n2 (without j n bs) ≡ running_at j2 n2 bs
    at_less [] = refl
    at_less (x ∷ bs) = less_by x (is_run_of j n x) bs refl (at_less bs)

module _ (new : RunningData) where
  module _ (j : Text) (n : ℕ) (apart : (bytes_eq j new.job && n == new.number) ≡ false) where
    other_by : (x : RunningData) (t : Bool) (bs : List RunningData) → is_run_of new.job new.number x ≡ t → running_at j n (replaced new bs) ≡ running_at j n bs → running_at j n (cond t (new ∷ bs) (x ∷ replaced new bs)) ≡ running_at j n (x ∷ bs)
    other_by x true bs is more =
        ap (λ t. cond t (Some new) (running_at j n bs)) apart
        ∙ sym (ap (λ t. cond t (Some x) (running_at j n bs)) (sym (id_of new.job x.job new.number x.number j n is) ∙ apart))
    other_by x false bs is more = ap (λ o. cond (is_run_of j n x) (Some x) o) more

    at_other : (bs : List RunningData) → running_at j n (replaced new bs) ≡ running_at j n bs
    at_other [] = refl
    at_other (x ∷ bs) = other_by x (is_run_of new.job new.number x) bs refl (at_other bs)

-- ---- no two builds that run have one number
abbrev pub IsApart : List RunningData → Type 0
IsApart [] = Unit {0}
IsApart (b ∷ bs) = (running_at b.job b.number bs ≡ None) × IsApart bs

-- what isn't found under one number isn't found under another that is the same
moved_none : (j job : Text) (n number : ℕ) (bs : List RunningData) → j ≡ job → n ≡ number → running_at j n bs ≡ None → running_at job number bs ≡ None
moved_none j job n number bs p q none = subst (λ y. running_at y number bs ≡ None) p (subst (λ y. running_at j y bs ≡ None) q none)

module _ (new : RunningData) where
  apart_with_by : (x : RunningData) (t : Bool) (bs : List RunningData) → is_run_of new.job new.number x ≡ t → running_at x.job x.number bs ≡ None → IsApart bs → IsApart (replaced new bs) → IsApart (cond t (new ∷ bs) (x ∷ replaced new bs))
  apart_with_by x true bs is none h more =
      let (p, q) = id_same new.job x.job new.number x.number is in
      (moved_none x.job new.job x.number new.number bs (sym p) (sym q) none, h)
  apart_with_by x false bs is none h more = (at_other new x.job x.number (id_flip new.job x.job new.number x.number is) bs ∙ none, more)

  pub apart_with : (bs : List RunningData) → IsApart bs → IsApart (replaced new bs)
  apart_with [] h = h
  apart_with (x ∷ bs) h = apart_with_by x (is_run_of new.job new.number x) bs refl h.0 h.1 (apart_with bs h.1)

module _ (j : Text) (n : ℕ) where
  apart_less_by : (x : RunningData) (t : Bool) (bs : List RunningData) → is_run_of j n x ≡ t → running_at x.job x.number bs ≡ None → IsApart bs → IsApart (without j n bs) → IsApart (cond t bs (x ∷ without j n bs))
  apart_less_by x true bs is none h more = h
  apart_less_by x false bs is none h more = (at_less j n x.job x.number (id_flip j x.job n x.number is) bs ∙ none, more)

  pub apart_less : (bs : List RunningData) → IsApart bs → IsApart (without j n bs)
  apart_less [] h = h
  apart_less (x ∷ bs) h = apart_less_by x (is_run_of j n x) bs refl h.0 h.1 (apart_less bs h.1)

pub apart_more : (bs : List RunningData) (x : RunningData) → IsApart bs → running_at x.job x.number bs ≡ None → IsApart (bs ++ x ∷ [])
apart_more [] x h none = (refl, tt)
apart_more (b ∷ bs) x h none =
    let (is, rest) = none_by x.job x.number b (is_run_of x.job x.number b) (running_at x.job x.number bs) refl none in
    (at_more b.job b.number bs x (id_flip x.job b.job x.number b.number is) ∙ h.0, apart_more bs x h.1 rest)

-- ---- what holds of each build
module _ {P Q : RunningData → Type 0} (j : Text) (n : ℕ) (f : (x : RunningData) → is_run_of j n x ≡ false → P x → Q x) where
  all_after : (x : RunningData) (bs : List RunningData) → is_run_of j n x ≡ true → running_at x.job x.number bs ≡ None → AllByRecursion P bs → AllByRecursion Q bs
  all_after x bs is none h =
      let (p, q) = id_same j x.job n x.number is in
      all_both (λ y p no. f y no p) bs h (none_all j n bs (moved_none x.job j x.number n bs (sym p) (sym q) none))

  all_less_by : (x : RunningData) (t : Bool) (bs : List RunningData) → is_run_of j n x ≡ t → running_at x.job x.number bs ≡ None → P x → AllByRecursion P bs → AllByRecursion Q (without j n bs) → AllByRecursion Q (cond t bs (x ∷ without j n bs))
  all_less_by x true bs is none px h more = all_after x bs is none h
  all_less_by x false bs is none px h more = (f x is px, more)

  -- all of a list in which one is left out
  pub all_less : (bs : List RunningData) → IsApart bs → AllByRecursion P bs → AllByRecursion Q (without j n bs)
  all_less [] a h = tt
  all_less (x ∷ bs) a h = all_less_by x (is_run_of j n x) bs refl a.0 h.0 h.1 (all_less bs a.1 h.1)

module _ {P Q : RunningData → Type 0} (new : RunningData) (f : (x : RunningData) → is_run_of new.job new.number x ≡ false → P x → Q x) where
  all_with_by : (x : RunningData) (t : Bool) (bs : List RunningData) → is_run_of new.job new.number x ≡ t → running_at x.job x.number bs ≡ None → Q new → P x → AllByRecursion P bs → AllByRecursion Q (replaced new bs) → AllByRecursion Q (cond t (new ∷ bs) (x ∷ replaced new bs))
  all_with_by x true bs is none p px h more = (p, all_after new.job new.number f x bs is none h)
  all_with_by x false bs is none p px h more = (f x is px, more)

  -- all of a list in which one is replaced
  pub all_with : Q new → (bs : List RunningData) → IsApart bs → AllByRecursion P bs → AllByRecursion Q (replaced new bs)
  all_with p [] a h = tt
  all_with p (x ∷ bs) a h = all_with_by x (is_run_of new.job new.number x) bs refl a.0 p h.0 h.1 (all_with p bs a.1 h.1)

module _ (P : RunningData → Type 0) (j : Text) (n : ℕ) where
  of_by : (x b : RunningData) (t : Bool) (rest : Option RunningData) → P x → (rest ≡ Some b → P b) → cond t (Some x) rest ≡ Some b → P b
  of_by x b true rest p f e = let same : x ≡ b = cc e in subst P same p
  of_by x b false rest p f e = f e

  -- what holds of each holds of the one that is found
  pub all_at : (bs : List RunningData) (b : RunningData) → AllByRecursion P bs → running_at j n bs ≡ Some b → P b
  all_at [] b h e = absurd (cc (e))
  all_at (x ∷ bs) b h e = of_by x b (is_run_of j n x) (running_at j n bs) h.0 (all_at bs b h.1) e
