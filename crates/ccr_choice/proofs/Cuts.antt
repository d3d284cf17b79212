-- A list of bytes, cut at the first separator.
use Rattle.std.proofs.Common.{if◌then◌else◌, ◌≡◌, ℕ, zero, suc, ◌+◌, ◌-◌, ◌<◌, List, [], ◌∷◌, ◌==◌, false, length, take, drop, get_or, ap, ◌∙◌, refl, sym, arith, eq-eqb, add-one}
use Rattle.std.proofs.lemmas.List.{take_rest}
use Rattle.std.specs.List.{slice_split, onto_first, join_with_byte}
use Rattle.std.proofs.lemmas.Bool.Decides.{nat_tests}
use Rattle.std.proofs.lemmas.List.Splits.{slice_split-cons_yes, slice_split-cons_no, length-slice_split, join_with_byte-slice_split}
use Rattle.ccr_choice.specs.Text.{lines_from, words_of, lines_of, unended}

ne_false : (b c : ℕ) → (b ≡ c → ⊥) → (b == c) ≡ false
ne_false b c h = grind (arith, nat_tests)

pub cut_none : (c : ℕ) (bs : List ℕ) → ((k : ℕ) → k < length bs → get_or bs k 0 ≡ c → ⊥) → slice_split (λ b. b == c) bs ≡ bs ∷ []
cut_none c [] none = refl
cut_none c (b ∷ bs) none =
    let differs : (b == c) ≡ false = ne_false b c (none 0 (omega arith)) in
    slice_split-cons_no (λ x. x == c) b bs differs ∙ ap (onto_first b) (cut_none c bs (λ k h. none (suc k) (omega arith)))

pub cut_at : (c : ℕ) (bs : List ℕ) (e : ℕ) → e < length bs → ((k : ℕ) → k < e → get_or bs k 0 ≡ c → ⊥) → get_or bs e 0 ≡ c
    → slice_split (λ b. b == c) bs ≡ take e bs ∷ slice_split (λ b. b == c) (drop (suc e) bs)
cut_at c [] e within before at = absurd (omega arith)
cut_at c (b ∷ bs) zero within before at = slice_split-cons_yes (λ x. x == c) b bs (eq-eqb b c at)
cut_at c (b ∷ bs) (suc e) within before at =
    let differs : (b == c) ≡ false = ne_false b c (before 0 (omega arith)) in
    slice_split-cons_no (λ x. x == c) b bs differs ∙ ap (onto_first b) (cut_at c bs e (omega arith) (λ k h. before (suc k) (omega arith)) at)

pub cut_here : (c : ℕ) (bs : List ℕ) (e : ℕ) → e < length bs → ((k : ℕ) → k < e → get_or bs k 0 ≡ c → ⊥) → get_or bs e 0 ≡ c
    → slice_split (λ b. b == c) bs ≡ take e bs ∷ slice_split (λ b. b == c) (take (length bs - (e + 1)) (drop (e + 1) bs))
cut_here c bs e within before at = rw (take_rest bs (e + 1), add-one) (cut_at c bs e within before at)

-- a first part that is followed by others is a line that ends
lines_cons : (x : List ℕ) (parts : List (List ℕ)) → 0 < length parts → lines_from (x ∷ parts) ≡ words_of x ∷ lines_from parts
lines_cons x [] h = absurd (omega arith)
lines_cons x (y ∷ more) h = refl

-- the part before a line feed is the first line
pub lines_step : (bs x ys : List ℕ) → slice_split (λ b. b == 10) bs ≡ x ∷ slice_split (λ b. b == 10) ys → lines_of bs ≡ words_of x ∷ lines_of ys
unfolding lines_of
lines_step bs x ys e =
    let some : 0 < length (slice_split (λ b. b == 10) ys) = omega (arith, length-slice_split (λ b. b == 10) ys) in
    ap lines_from e ∙ lines_cons x _ some

-- no text, no lines
pub lines_none : (bs : List ℕ) → length bs ≡ 0 → lines_of bs ≡ []
unfolding lines_of
lines_none [] h = refl
lines_none (b ∷ bs) h = absurd (omega arith)

lines_parts : (bs : List ℕ) → lines_of bs ≡ lines_from (slice_split (λ b. b == 10) bs)
unfolding lines_of
lines_parts bs = refl

last_unended : (x : List ℕ) → 0 < length x → lines_from (x ∷ []) ≡ unended ∷ []
last_unended x some = ap (λ t. if t then [] else unended ∷ []) (ne_false (length x) 0 (λ e. omega arith))

-- what has no line feed is a line that isn't ended
pub lines_unended : (bs : List ℕ) → 0 < length bs → slice_split (λ b. b == 10) bs ≡ bs ∷ [] → lines_of bs ≡ unended ∷ []
lines_unended bs some e = lines_parts bs ∙ ap lines_from e ∙ last_unended bs some

-- some bytes, some lines
pub lines_some : (bs : List ℕ) → 0 < length bs → 0 < length (lines_of bs)
lines_some bs some = rw (lines_parts bs) (some_parts (slice_split (λ b. b == 10) bs) bs some (join_with_byte-slice_split 10 bs))
  where
    some_parts : (parts : List (List ℕ)) (xs : List ℕ) → 0 < length xs → join_with_byte 10 parts ≡ xs → 0 < length (lines_from parts)
    some_parts [] xs some e = absurd (omega (arith, some, ap length e))
    some_parts (x ∷ []) xs some e = rw (last_unended x (omega (arith, some, ap length e))) (omega arith)
    some_parts (x ∷ y ∷ more) xs some e = omega arith

-- there are lines exactly where there are bytes
pub blank_lines : (bs : List ℕ) → (length bs == 0) ≡ (length (lines_of bs) == 0)
blank_lines [] = ap (λ ls. length ls == 0) (sym (lines_none [] refl))
blank_lines (b ∷ bs) =
    let some = lines_some (b ∷ bs) (omega arith) in
    ne_false (length (b ∷ bs)) 0 (λ e. omega arith) ∙ sym (ne_false (length (lines_of (b ∷ bs))) 0 (λ e. omega (arith, some)))

pub some_bytes : (n : ℕ) → (n == 0) ≡ false → 0 < n
some_bytes n h = grind (arith, nat_tests)
