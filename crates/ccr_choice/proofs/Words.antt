-- A word that was read is spelled so, and what is spelled so is read.
use Rattle.std.proofs.Common.{◌≡◌, ◌≢◌, ℕ, zero, suc, ◌+◌, ◌-◌, ◌*◌, ◌^◌, ◌<◌, ◌≤◌, List, [], ◌∷◌, length, get_or, Bool, true, false, cond, ◌&&◌, ◌==◌, nat_lt, Option, Some, None, ap, ◌∙◌, refl, sym, subst, arith, rules, codes}
use Rattle.std.specs.Str.{bytes_eq, all_ascii_digits}
use Rattle.std.specs.Char.{is_ascii_digit}
use Rattle.std.specs.Fmt.{decimal}
use Rattle.std.proofs.lemmas.Bool.{and_parts, and_from, ltb-true, lt-ltb}
use Rattle.std.proofs.lemmas.Bool.Decides.{nat_tests}
use Rattle.std.proofs.lemmas.Slice.Eq.{bytes_eq-Decides}
use Rattle.std.proofs.lemmas.Str.Parse.{IsNumeralModel, numerals_by_fold}
use Rattle.std.proofs.lemmas.Fmt.{decimal-digits_value, digits_decimal, digits_value-decimal, decimal_nonempty, first_decimal, decimal_digit}
use Rattle.ccr_choice.specs.declared.word.Word.{Word}
use Rattle.ccr_choice.specs.declared.word.Word.TheVariants.{Number, Problem, Inputs, Jobs, After, Places, Builds, Pairs, Proof, Best, Nothing, Job, Empty, Bounded, Same, Other}
use Rattle.ccr_choice.specs.Text.{spelled, IsWord, value_after, number_of, keyword_of, number_or_keyword, word_of}

abbrev pub read_on : ℕ → List ℕ → ℕ
read_on n [] = n
read_on n (c ∷ cs) = read_on (n * 10 + (c - 48)) cs

pub own : IsNumeralModel (λ ds. all_ascii_digits ds ≡ true) (read_on 0)
own = numerals_by_fold _ (search rules) read_on (search rules)

guard : {A : Type 0} (b : Bool) (y : Option A) (x : A) → cond b y None ≡ Some x → (b ≡ true) × (y ≡ Some x)
guard true y x h = (refl, h)
guard false y x h = cc

guard_not : {A : Type 0} (b : Bool) (y : Option A) (x : A) → cond b None y ≡ Some x → (b ≡ false) × (y ≡ Some x)
guard_not true y x h = cc
guard_not false y x h = (refl, h)

-- what value_after answers is what the digits are worth, and fits
value_is : (n : ℕ) (bs : List ℕ) (x : ℕ) → n < 4294967296 → value_after n bs ≡ Some x → (all_ascii_digits bs ≡ true) × (read_on n bs ≡ x) × (x < 4294967296)
value_is n [] x small h = let e : n ≡ x = cc in (refl, e, omega (arith, e, small))
value_is n (c ∷ cs) x small h =
    let g = guard (is_ascii_digit c && nat_lt (n * 10 + (c - 48)) 4294967296) (value_after (n * 10 + (c - 48)) cs) x h in
    let p = and_parts (is_ascii_digit c) (nat_lt (n * 10 + (c - 48)) 4294967296) g.0 in
    let r = value_is (n * 10 + (c - 48)) cs x (ltb-true _ _ p.1) g.1 in
    (and_from _ _ p.0 r.0, r.1, r.2)

le-read_on : (n : ℕ) (bs : List ℕ) → n ≤ read_on n bs
le-read_on n [] = omega arith
le-read_on n (c ∷ cs) = omega (arith, le-read_on (n * 10 + (c - 48)) cs)

value_from : (n : ℕ) (bs : List ℕ) → all_ascii_digits bs ≡ true → read_on n bs < 4294967296 → value_after n bs ≡ Some (read_on n bs)
value_from n [] digits small = refl
value_from n (c ∷ cs) digits small =
    let p = and_parts (is_ascii_digit c) (all_ascii_digits cs) digits in
    let fits : nat_lt (n * 10 + (c - 48)) 4294967296 ≡ true = lt-ltb _ _ (omega (arith, le-read_on (n * 10 + (c - 48)) cs, small)) in
    ap (λ b. cond b (value_after (n * 10 + (c - 48)) cs) None) (and_from _ _ p.0 fits) ∙ value_from (n * 10 + (c - 48)) cs p.1 small

lead : (c k : ℕ) → (c == 48 && nat_lt 0 k) ≡ false → c ≡ 48 → suc k ≡ 1
lead c k h e = grind (arith, nat_tests)

no_lead : (c k : ℕ) → (c ≡ 48 → suc k ≡ 1) → (c == 48 && nat_lt 0 k) ≡ false
no_lead c k h = grind (arith, nat_tests)

-- a number that was read is written so
pub number_found : (bs : List ℕ) (n : ℕ) → number_of bs ≡ Some n → (bs ≡ decimal n) × (n < 4294967296)
unfolding number_of
number_found [] n h = cc
number_found (c ∷ cs) n h =
    let g = guard_not (c == 48 && nat_lt 0 (length cs)) (value_after 0 (c ∷ cs)) n h in
    let v = value_is 0 (c ∷ cs) n (omega arith) g.1 in
    (sym (decimal-digits_value own (c ∷ cs) v.0 (omega arith) (lead c (length cs) g.0) (omega (arith, v.1, v.2))) ∙ ap decimal v.1, v.2)

number_from : (bs : List ℕ) → 0 < length bs → all_ascii_digits bs ≡ true → (get_or bs 0 0 ≡ 48 → length bs ≡ 1) → read_on 0 bs < 4294967296 → number_of bs ≡ Some (read_on 0 bs)
unfolding number_of
number_from [] some digits first small = absurd (omega arith)
number_from (c ∷ cs) some digits first small =
    ap (λ b. cond b None (value_after 0 (c ∷ cs))) (no_lead c (length cs) first) ∙ value_from 0 (c ∷ cs) digits small

one_zero : (n : ℕ) → n < 4294967296 → get_or (decimal n) 0 0 ≡ 48 → length (decimal n) ≡ 1
one_zero zero small h = ap length (decimal_digit 0 (omega arith))
one_zero (suc n) small h = absurd (omega (arith, first_decimal (suc n) (omega arith) (omega arith), h))

-- and a number is read as it is written
pub number_again : (n : ℕ) → n < 4294967296 → number_of (decimal n) ≡ Some n
number_again n small =
    let worth : read_on 0 (decimal n) ≡ n = digits_value-decimal own n (omega arith) in
    number_from (decimal n) (decimal_nonempty n (omega arith)) (digits_decimal own n (omega arith)) (one_zero n small) (omega (arith, worth, small))
    ∙ ap Some worth

key_step : (P : Word → Type 0) (bs t : List ℕ) (k w others : Word) → cond (bytes_eq bs t) k others ≡ w → (bs ≡ t → P k) → (others ≡ w → P w) → P w
key_step P bs t k w others h this more = pick (bytes_eq bs t) (bytes_eq-Decides bs t).0 h
  where
    pick : (b : Bool) → (b ≡ true → bs ≡ t) → cond b k others ≡ w → P w
    pick true same e = subst P e (this (same refl))
    pick false same e = more e

-- a keyword that was read is spelled so
pub keyword_found : (bs : List ℕ) (w : Word) → keyword_of bs ≡ w → w ≢ Other → (bs ≡ spelled w) × IsWord w
unfolding keyword_of
keyword_found bs w h known =
    let P : Word → Type 0 = λ v. (bs ≡ spelled v) × IsWord v in
    key_step P bs (codes "problem") Problem w _ h (λ e. (e, tt)) (λ h.
    key_step P bs (codes "inputs") Inputs w _ h (λ e. (e, tt)) (λ h.
    key_step P bs (codes "jobs") Jobs w _ h (λ e. (e, tt)) (λ h.
    key_step P bs (codes "after") After w _ h (λ e. (e, tt)) (λ h.
    key_step P bs (codes "places") Places w _ h (λ e. (e, tt)) (λ h.
    key_step P bs (codes "builds") Builds w _ h (λ e. (e, tt)) (λ h.
    key_step P bs (codes "pairs") Pairs w _ h (λ e. (e, tt)) (λ h.
    key_step P bs (codes "proof") Proof w _ h (λ e. (e, tt)) (λ h.
    key_step P bs (codes "best") Best w _ h (λ e. (e, tt)) (λ h.
    key_step P bs (codes "none") Nothing w _ h (λ e. (e, tt)) (λ h.
    key_step P bs (codes "job") Job w _ h (λ e. (e, tt)) (λ h.
    key_step P bs (codes "empty") Empty w _ h (λ e. (e, tt)) (λ h.
    key_step P bs (codes "bounded") Bounded w _ h (λ e. (e, tt)) (λ h.
    key_step P bs (codes "same") Same w _ h (λ e. (e, tt)) (λ h.
    absurd (known (sym h))))))))))))))))

from_number : (bs : List ℕ) (o : Option ℕ) (w : Word) → number_of bs ≡ o → number_or_keyword o bs ≡ w → w ≢ Other → (bs ≡ spelled w) × IsWord w
from_number bs (Some n) w e h known =
    let P : Word → Type 0 = λ v. (bs ≡ spelled v) × IsWord v in
    let f = number_found bs n e in
    subst P h (f.0, omega (arith, f.1))
from_number bs None w e h known = keyword_found bs w h known

pub word_found : (bs : List ℕ) (w : Word) → word_of bs ≡ w → w ≢ Other → (bs ≡ spelled w) × IsWord w
unfolding word_of
word_found bs w h known = from_number bs (number_of bs) w refl h known

pub word_again : (w : Word) → IsWord w → word_of (spelled w) ≡ w
unfolding word_of number_of keyword_of
word_again (Number n) h = ap (λ o. number_or_keyword o (decimal n)) (number_again n (omega (arith, h)))
word_again Problem h = refl
word_again Inputs h = refl
word_again Jobs h = refl
word_again After h = refl
word_again Places h = refl
word_again Builds h = refl
word_again Pairs h = refl
word_again Proof h = refl
word_again Best h = refl
word_again Nothing h = refl
word_again Job h = refl
word_again Empty h = refl
word_again Bounded h = refl
word_again Same h = refl
word_again Other h = absurd h

-- ---- a number that is read is small
abbrev pub IsFit : Word → Type 0
IsFit (Number n) = n < 2 ^ 32
IsFit w = Unit {0}

fit_known : (w : Word) → (w ≢ Other → IsWord w) → IsFit w
fit_known (Number n) h = h (λ e. cc)
fit_known Problem h = tt
fit_known Inputs h = tt
fit_known Jobs h = tt
fit_known After h = tt
fit_known Places h = tt
fit_known Builds h = tt
fit_known Pairs h = tt
fit_known Proof h = tt
fit_known Best h = tt
fit_known Nothing h = tt
fit_known Job h = tt
fit_known Empty h = tt
fit_known Bounded h = tt
fit_known Same h = tt
fit_known Other h = tt

pub word_fits : (bs : List ℕ) → IsFit (word_of bs)
word_fits bs = fit_known (word_of bs) (λ known. (word_found bs (word_of bs) refl known).1)
