-- Names that are numbered in order of first mention.
use Rattle.std.proofs.Common.{◌≡◌, ◌≢◌, ℕ, suc, ◌+◌, ◌<◌, ◌≤◌, List, [], ◌∷◌, ◌++◌, length, map, Bool, true, false, not, ◌||◌, ◌==◌, cond, refl, sym, ap, ◌∙◌, subst, arith, append_assoc}
use Rattle.std.specs.List.{AllByRecursion, list_any, position_or_len}
use Rattle.std.specs.Str.{bytes_eq}
use Rattle.std.proofs.lemmas.Bool.{and_from, or_parts, or_from, le-leb, lt-ltb, ne_eqb, false≢true, not_from_false}
use Rattle.std.proofs.lemmas.Bool.Decides.{nat_tests}
use Rattle.std.proofs.lemmas.List.{length_push}
use Rattle.ccr_history.specs.Text.{Text}
use Rattle.ccr_pipeline.specs.Names.{has_name, with_name, with_names}
use Rattle.ccr_choice.specs.Problem.{next_used, used_after, are_numbered, are_distinct}
use Rattle.ccr_problem.specs.Numbering.{number_of}
use Rattle.ccr_problem.proofs.Names.{Begins, begins_then, begins_all, length-begins, AreApart, same_text, same_self}

-- ---- where a name stands
in_front_by : (b : Bool) (n : ℕ) (xs : List Text) (p : Text → Bool) → (b || list_any p xs) ≡ true → (list_any p xs ≡ true → n < length xs)
    → cond (not b) (1 + n) 0 < suc (length xs)
in_front_by true n xs p h rec = omega arith
in_front_by false n xs p h rec = omega (arith, rec h)

in_front : (p : Text → Bool) (xs more : List Text) → list_any p xs ≡ true → position_or_len p (xs ++ more) < length xs
in_front p [] more h = absurd (false≢true h)
in_front p (x ∷ xs) more h = in_front_by (p x) (position_or_len p (xs ++ more)) xs p h (in_front p xs more)

at_end : (p : Text → Bool) (xs : List Text) (y : Text) (more : List Text) → list_any p xs ≡ false → p y ≡ true → position_or_len p (xs ++ y ∷ more) ≡ length xs
at_end p [] y more none here = ap (λ b. cond (not b) (1 + position_or_len p more) 0) here
at_end p (x ∷ xs) y more none here =
    let parts = or_parts (p x) (list_any p xs) none in
    ap (λ b. cond (not b) (1 + position_or_len p (xs ++ y ∷ more)) 0) parts.0 ∙ omega (arith, at_end p xs y more parts.1 here)

-- a name that is mentioned next, where so many were mentioned before and so many are then
record IsNext (before after : ℕ) (number : ℕ) : Type 0 where
  low : number ≤ before
  below : number < after
  next : next_used before number ≡ after

next_by : (b : Bool) (names more : List Text) (t : Text) → has_name names t ≡ b
    → IsNext (length names) (length (cond b names (names ++ t ∷ []))) (number_of (cond b names (names ++ t ∷ []) ++ more) t)
next_by true names more t e =
    let less : number_of (names ++ more) t < length names = in_front (bytes_eq t) names more e in
    record { low = omega arith; below = less; next = grind (arith, nat_tests) }
next_by false names more t e =
    let here : bytes_eq t t ≡ true = same_self t in
    let is : number_of ((names ++ t ∷ []) ++ more) t ≡ length names = ap (λ l. number_of l t) (append_assoc names (t ∷ []) more) ∙ at_end (bytes_eq t) names t more e here in
    let one : length (names ++ t ∷ []) ≡ length names + 1 = length_push names t in
    record { low = omega arith; below = omega arith; next = grind (arith, nat_tests) }

is_next : (names all : List Text) (t : Text) → Begins (with_name names t) all → IsNext (length names) (length (with_name names t)) (number_of all t)
is_next names all t (more, e) =
    subst (λ l. IsNext (length names) (length (with_name names t)) (number_of l t)) (sym e) (next_by (has_name names t) names more t refl)

-- ---- numbers in order of first mention
pub scope_numbered : (names all : List Text) (t : Text) → Begins (with_name names t) all
    → (number_of all t ≤ length names) × (next_used (length names) (number_of all t) ≡ length (with_name names t))
scope_numbered names all t b = let n = is_next names all t b in (n.low, n.next)

pub jobs_numbered : (names ts all : List Text) → Begins (with_names names ts) all → length all ≤ 32
    → (are_numbered (length names) (map (number_of all) ts) ≡ true) × (used_after (length names) (map (number_of all) ts) ≡ length (with_names names ts))
jobs_numbered names [] all b few = (refl, refl)
jobs_numbered names (t ∷ ts) all b few =
    let after : List Text = with_name names t in
    let begins : Begins after all = begins_then after (with_names after ts) all (begins_all after ts) b in
    let n = is_next names all t begins in
    let small : length after ≤ length all = length-begins after all begins in
    let rest = jobs_numbered after ts all b few in
    let numbers : List ℕ = map (number_of all) ts in (
      and_from _ _ (le-leb _ _ n.low) (and_from _ _ (lt-ltb _ _ (omega (arith, n.below, small, few))) (ap (λ u. are_numbered u numbers) n.next ∙ rest.0)),
      ap (λ u. used_after u numbers) n.next ∙ rest.1,
    )

-- ---- two names have two numbers
two_by : (b c : Bool) (n m : ℕ) (P : Type 0) → cond (not b) (1 + n) 0 ≡ cond (not c) (1 + m) 0 → (b ≡ true → c ≡ true → P) → (b ≡ false → c ≡ false → n ≡ m → P) → P
two_by true true n m P e both none = both refl refl
two_by true false n m P e both none = absurd (omega arith)
two_by false true n m P e both none = absurd (omega arith)
two_by false false n m P e both none = none refl refl (omega arith)

same_number : (all : List Text) (x y : Text) → has_name all x ≡ true → has_name all y ≡ true → number_of all x ≡ number_of all y → x ≡ y
same_number [] x y h g e = absurd (false≢true h)
same_number (z ∷ zs) x y h g e =
    two_by (bytes_eq x z) (bytes_eq y z) (number_of zs x) (number_of zs y) (x ≡ y) e (λ a b. same_text x z a ∙ sym (same_text y z b))
    (λ a b d. same_number zs x y (sym (ap (λ t. t || has_name zs x) a) ∙ h) (sym (ap (λ t. t || has_name zs y) b) ∙ g) d)

other_numbers : (all xs : List Text) (x : Text) → has_name all x ≡ true → AllByRecursion (λ t. has_name all t ≡ true) xs → has_name xs x ≡ false
    → list_any (λ m. m == number_of all x) (map (number_of all) xs) ≡ false
other_numbers all [] x here there new = refl
other_numbers all (y ∷ ys) x here there new =
    let parts = or_parts (bytes_eq x y) (has_name ys x) new in
    let differs : number_of all y ≢ number_of all x = λ e. false≢true (sym parts.0 ∙ ap (bytes_eq x) (same_number all y x there.0 here e) ∙ same_self x) in
    or_from _ _ (ne_eqb _ _ differs) (other_numbers all ys x here there.1 parts.1)

pub jobs_distinct : (all ts : List Text) → AreApart ts → AllByRecursion (λ t. has_name all t ≡ true) ts → are_distinct (map (number_of all) ts) ≡ true
jobs_distinct all [] h there = refl
jobs_distinct all (t ∷ ts) (new, h) (here, there) =
    and_from _ _ (not_from_false _ (other_numbers all ts t here there new)) (jobs_distinct all ts h there)
