-- What `parse` reads is the number of the definition, and what it refuses is none there.
use Rattle.std.proofs.Common.{◌≡◌, ℕ, ◌^◌, ◌<◌, ◌≤◌, List, [], ◌∷◌, length, Bool, true, false, cond, ◌&&◌, nat_le, nat_lt, Some, None, Err, ap, ◌∙◌, refl, sym, arith}
use Rattle.std.specs.Char.{is_ascii_digit, digit_value}
use Rattle.std.specs.Int.{IsInRange}
use Rattle.std.specs.Str.{all_ascii_digits}
use Rattle.std.specs.Str.Parse.{AllDigits, IsNumeral, ParsesUnsigned, digits_value, without_leading_plus}
use Rattle.std.proofs.lemmas.Bool.{and_parts, and_from, ltb-true, ltb-false, lt-ltb, leb-true, le-leb}
use Rattle.std.proofs.lemmas.Str.{digit_value_digit}
use Rattle.std.proofs.lemmas.Str.Parse.{digit_from_value}
use Rattle.ccr_command.specs.Numbers.{MOST, in_range, is_numeral, number_of}

digit : (c : ℕ) → is_ascii_digit c ≡ true → digit_value c < 10
digit c h =
    let p = and_parts (nat_le 48 c) (nat_le c 57) h in
    let range : IsInRange 48 57 c = (leb-true 48 c p.0, leb-true c 57 p.1) in
    omega (arith, digit_value_digit c range, leb-true c 57 p.1)

is_digit : (c : ℕ) → digit_value c < 10 → is_ascii_digit c ≡ true
is_digit c h =
    let range = digit_from_value c h in and_from (nat_le 48 c) (nat_le c 57) (le-leb 48 c range.0) (le-leb c 57 range.1)

digits : (ds : List ℕ) → all_ascii_digits ds ≡ true → AllDigits 10 ds
digits [] h = tt
digits (c ∷ cs) h =
    let p = and_parts (is_ascii_digit c) (all_ascii_digits cs) h in (digit c p.0, digits cs p.1)

are_digits : (ds : List ℕ) → AllDigits 10 ds → all_ascii_digits ds ≡ true
are_digits [] h = refl
are_digits (c ∷ cs) h = and_from (is_ascii_digit c) (all_ascii_digits cs) (is_digit c h.0) (are_digits cs h.1)

numeral : (ds : List ℕ) → is_numeral ds ≡ true → IsNumeral 10 ds
numeral ds h =
    let p = and_parts (nat_lt 0 (length ds)) (all_ascii_digits ds) h in (ltb-true 0 (length ds) p.0, digits ds p.1)

is_one : (ds : List ℕ) → IsNumeral 10 ds → is_numeral ds ≡ true
is_one ds h = and_from (nat_lt 0 (length ds)) (all_ascii_digits ds) (lt-ltb 0 (length ds) h.0) (are_digits ds h.1)

above : (n : ℕ) → MOST < n → in_range n ≡ None
above n h = by (nat_le 1 n) (nat_le n MOST) refl
  where
    by : (a b : Bool) → nat_le n MOST ≡ b → cond (a && b) (Some n) None ≡ None
    by a true e = absurd (omega (arith, leb-true n MOST e, h))
    by true false e = refl
    by false false e = refl

refused : (ds : List ℕ) (b : Bool) → is_numeral ds ≡ b → (IsNumeral 10 ds × (digits_value 10 ds < 2 ^ 32) → ⊥)
    → cond b (in_range (digits_value 10 ds)) None ≡ None
refused ds false e never = refl
refused ds true e never = by (nat_lt (digits_value 10 ds) (2 ^ 32)) refl
  where
    by : (t : Bool) → nat_lt (digits_value 10 ds) (2 ^ 32) ≡ t → in_range (digits_value 10 ds) ≡ None
    by true fits = absurd (never (numeral ds e, ltb-true (digits_value 10 ds) (2 ^ 32) fits))
    by false over =
        let least : 2 ^ 32 ≤ digits_value 10 ds = ltb-false (digits_value 10 ds) (2 ^ 32) over in
        above (digits_value 10 ds) (omega (arith, least))

-- a number is read as it is meant
pub number_read : (bs : List ℕ) (n : ℕ) → IsNumeral 10 (without_leading_plus bs)
    → n ≡ digits_value 10 (without_leading_plus bs) → number_of bs ≡ in_range n
number_read bs n numeral is =
    ap (λ b. cond b (in_range (digits_value 10 (without_leading_plus bs))) None) (is_one (without_leading_plus bs) numeral)
    ∙ ap in_range (sym is)

-- where none is read, none is in the range
pub none_read : {E : Type 0} (bs : List ℕ) (e : E) → ParsesUnsigned 32 10 bs (Err e) → number_of bs ≡ None
none_read bs e h = refused (without_leading_plus bs) (is_numeral (without_leading_plus bs)) refl h
