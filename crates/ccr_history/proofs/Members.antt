-- Members of an object's compact text.
use Rattle.std.proofs.Common.{get_or, ◌≡◌, ◌≢◌, ℕ, ◌+◌, ◌-◌, ◌<◌, ◌≤◌, ◌/◌, ◌%◌, List, [], ◌∷◌, ◌++◌, length, take, drop, Bool, true, false, cond, ◌&&◌, ◌||◌, Option, Some, None, refl, sym, ap, ◌∙◌, subst, map, inl, inr, ◌⊎◌, append_assoc, length-append, arith}
use Rattle.std.proofs.lemmas.Bool.{cases_eq, ne_eqb, false_from_ne_true, ltb-true, ltb-false}
use Rattle.std.proofs.lemmas.Slice.Eq.{bytes_eq-Decides}
use Rattle.std.proofs.lemmas.Map.Keys.{sorted_head, sorted_tail}
use Rattle.std.proofs.lemmas.Map.Lookups.{exact_bytes}
use Rattle.std.proofs.lemmas.Cmp.{nat_list_cmp_total, tied_itself}
use Rattle.std.proofs.Math.Seq.{take-append_seam}
use Rattle.std.specs.Prelude.{nat_lt}
use Rattle.std.specs.Bool.{one_answer}
use Rattle.std.specs.Char.{digit_char}
use Rattle.std.specs.List.{AllByRecursion}
use Rattle.std.specs.Option.{option_map_or}
use Rattle.std.specs.Ordering.{nat_cmp, match_ordering}
use Rattle.std.specs.declared.cmp.Ordering.{Ordering}
use Rattle.std.specs.declared.cmp.Ordering.TheVariants.{Less, Equal, Greater}
use Rattle.std.specs.Str.{bytes_eq}
use Rattle.std.specs.Cmp.Lexicographic.{slice_cmp}
use Rattle.json.specs.Print.{escape_byte, escape_letter, escape, quoted}
use Rattle.json.specs.Text.{content, plain}
use Rattle.json.proofs.Printed.Strings.{content-escape}
use Rattle.ccr_history.specs.TextMap.{TextMap, key_text, text_at, has, meets, IsAscending}
use Rattle.ccr_history.specs.Members.{member_text, rest_text, first_member, has_member, has_members, IsLeft}
use Rattle.ccr_history.specs.Scan.{after_string}

-- ---- passing over a string

digit_passes : (d : ℕ) (ys : List ℕ) → d < 16 → after_string false (digit_char d ∷ ys) ≡ after_string false ys
digit_passes d ys lt = by_ten (nat_lt d 10) refl
  where
    by_ten : (t : Bool) → nat_lt d 10 ≡ t → after_string false (cond t (48 + d) (87 + d) ∷ ys) ≡ after_string false ys
    by_ten true e =
        let below : d < 10 = ltb-true d 10 e in
        rw (ne_eqb (48 + d) 34 (λ h. omega (arith, h)), ne_eqb (48 + d) 92 (λ h. omega (arith, h))) refl
    by_ten false e =
        let above : 10 ≤ d = ltb-false d 10 e in
        rw (ne_eqb (87 + d) 34 (λ h. omega (arith, h)), ne_eqb (87 + d) 92 (λ h. omega (arith, h))) refl

other_byte : (x : ℕ) (ys : List ℕ) (short low : Bool) → x ≢ 34 → x ≢ 92 → nat_lt x 32 ≡ low → after_string false (cond short (92 ∷ escape_letter x ∷ []) (cond low (92 ∷ 117 ∷ 48 ∷ 48 ∷ digit_char (x / 16) ∷ digit_char (x % 16) ∷ []) (x ∷ [])) ++ ys) ≡ after_string false ys
other_byte x ys true low quote backslash e = refl
other_byte x ys false true quote backslash e =
    let below : x < 32 = ltb-true x 32 e in
    let high : x / 16 < 16 = omega arith in
    let rest : x % 16 < 16 = omega arith in
    digit_passes (x / 16) (digit_char (x % 16) ∷ ys) high ∙ digit_passes (x % 16) ys rest
other_byte x ys false false quote backslash e = rw (ne_eqb x 34 quote, ne_eqb x 92 backslash) refl

byte_passes : (x : ℕ) (ys : List ℕ) → after_string false (escape_byte x ++ ys) ≡ after_string false ys
unfolding escape_byte
byte_passes x ys = go (cases_eq x 34) (cases_eq x 92)
  where
    go : (x ≡ 34) ⊎ (x ≡ 34 → ⊥) → (x ≡ 92) ⊎ (x ≡ 92 → ⊥) → after_string false (escape_byte x ++ ys) ≡ after_string false ys
    go (inl e) b = rw e refl
    go (inr q) (inl e) = rw e refl
    go (inr q) (inr b) = other_byte x ys (nat_lt 0 (escape_letter x)) (nat_lt x 32) q b refl

escape_passes : (s r : List ℕ) → after_string false (escape s ++ 34 ∷ r) ≡ r
escape_passes [] r = refl
escape_passes (x ∷ s) r = ap (after_string false) (append_assoc (escape_byte x) (escape s) (34 ∷ r)) ∙ byte_passes x (escape s ++ 34 ∷ r) ∙ escape_passes s r

-- behind its opening quote a quoted text is passed over
pub quoted_passes : (s r : List ℕ) → after_string false ((escape s ++ 34 ∷ []) ++ r) ≡ r
quoted_passes s r = ap (after_string false) (append_assoc (escape s) (34 ∷ []) r) ∙ escape_passes s r

-- behind its opening quote a member's text is passed over
pub member_passes : (field : List ℕ × List ℕ) (r : List ℕ) → after_string false (drop 2 (after_string false (drop 1 (member_text field ++ r)))) ≡ r
member_passes field r =
    let first : after_string false (drop 1 (member_text field ++ r)) ≡ 58 ∷ (quoted field.1 ++ r) =
    ap (after_string false) (append_assoc (escape field.0 ++ 34 ∷ []) (58 ∷ quoted field.1) r) ∙ quoted_passes field.0 (58 ∷ (quoted field.1 ++ r)) in
    ap (λ t. after_string false (drop 2 t)) first ∙ quoted_passes field.1 r

-- ---- what is left

begins : (x : ℕ) (field : List ℕ × List ℕ) (fields : TextMap) → x ∷ (quoted field.0 ++ 58 ∷ (quoted field.1 ++ rest_text fields)) ≡ x ∷ (member_text field ++ rest_text fields)
begins x field fields = ap (λ t. x ∷ t) (sym (append_assoc (quoted field.0) (58 ∷ quoted field.1) (rest_text fields)))

pub rest_left : (fields : TextMap) → IsLeft fields (rest_text fields)
rest_left [] = (125, inl refl)
rest_left (field ∷ fields) = (44, begins 44 field fields)

pub key_left : (fields : TextMap) → IsLeft fields (key_text fields)
key_left [] = (123, inr refl)
key_left (field ∷ fields) = (123, begins 123 field fields)

-- the first member is what stands before the rest
pub before_rest : (field : List ℕ × List ℕ) (r : List ℕ) → take (length (member_text field ++ r) - length r) (member_text field ++ r) ≡ member_text field
before_rest field r =
    let n : length (member_text field ++ r) - length r ≡ length (member_text field) = omega (arith, length-append (member_text field) r) in
    ap (λ k. take k (member_text field ++ r)) n ∙ take-append_seam (member_text field) r

-- ---- one spelling for each text

inside_again : (s t a b : List ℕ) → escape s ++ 34 ∷ a ≡ escape t ++ 34 ∷ b → Some s ≡ Some t
inside_again s t a b e = sym (content-escape s a) ∙ ap (content plain) e ∙ content-escape t b

some_inside : (s t : List ℕ) → Some s ≡ Some t → s ≡ t
some_inside s t e = cc

-- two members with one text have one key, and one text at it
pub same_member : (f g : List ℕ × List ℕ) → member_text f ≡ member_text g → (f.0 ≡ g.0) × (f.1 ≡ g.1)
same_member f g e =
    let opened : (field : List ℕ × List ℕ) → drop 1 (member_text field) ≡ escape field.0 ++ 34 ∷ 58 ∷ quoted field.1 = λ field. append_assoc (escape field.0) (34 ∷ []) (58 ∷ quoted field.1) in
    let inside : escape f.0 ++ 34 ∷ 58 ∷ quoted f.1 ≡ escape g.0 ++ 34 ∷ 58 ∷ quoted g.1 = sym (opened f) ∙ ap (drop 1) e ∙ opened g in
    let rest : 58 ∷ quoted f.1 ≡ 58 ∷ quoted g.1 = sym (escape_passes f.0 (58 ∷ quoted f.1)) ∙ ap (after_string false) inside ∙ escape_passes g.0 (58 ∷ quoted g.1) in
    (some_inside _ _ (inside_again f.0 g.0 _ _ inside), some_inside _ _ (inside_again f.1 g.1 [] [] (ap (drop 2) rest)))

apart : (f p : List ℕ × List ℕ) → f.0 ≢ p.0 → bytes_eq (member_text f) (member_text p) ≡ false
apart f p ne = false_from_ne_true _ (λ e. ne (same_member f p ((bytes_eq-Decides (member_text f) (member_text p)).0 e)).0)

at_key : (f p : List ℕ × List ℕ) → f.0 ≡ p.0 → bytes_eq (member_text f) (member_text p) ≡ bytes_eq p.1 f.1
at_key f p e =
    one_answer _ _ (
      λ t. sym (same_member f p ((bytes_eq-Decides (member_text f) (member_text p)).0 t)).1,
      λ same. (bytes_eq-Decides (member_text f) (member_text p)).1 (rw (e, same) refl),
    )
    (bytes_eq-Decides p.1 f.1)

later_apart : (k : List ℕ) (p : List ℕ × List ℕ) (fields : TextMap) → k ≡ p.0 → AllByRecursion (λ l. slice_cmp nat_cmp k l ≡ Less) (map (λ field. field.0) fields) → has_member fields (member_text p) ≡ false
later_apart k p [] e h = refl
later_apart k p (f ∷ fields) e h =
    let less : slice_cmp nat_cmp k f.0 ≡ Less = h.0 in
    let ne : f.0 ≢ p.0 = λ same.
    let tied : slice_cmp nat_cmp k f.0 ≡ Equal = ap (slice_cmp nat_cmp k) (same ∙ sym e) ∙ tied_itself nat_list_cmp_total k in
    cc in
    ap (λ b. b || has_member fields (member_text p)) (apart f p ne) ∙ later_apart k p fields e h.1

by_order : (o : Ordering) (f p : List ℕ × List ℕ) (fields : TextMap) → slice_cmp nat_cmp p.0 f.0 ≡ o → IsAscending (f ∷ fields) → has_member fields (member_text p) ≡ has fields p → (bytes_eq (member_text f) (member_text p) || has_member fields (member_text p)) ≡ option_map_or (bytes_eq p.1) (match_ordering o (text_at p.0 fields) (Some f.1) (text_at p.0 fields)) false
by_order Less f p fields e sorted rest =
    let ne : f.0 ≢ p.0 = λ same. let tied : slice_cmp nat_cmp p.0 f.0 ≡ Equal = ap (slice_cmp nat_cmp p.0) same ∙ tied_itself nat_list_cmp_total p.0 in cc in
    ap (λ b. b || has_member fields (member_text p)) (apart f p ne) ∙ rest
by_order Greater f p fields e sorted rest =
    let ne : f.0 ≢ p.0 = λ same. let tied : slice_cmp nat_cmp p.0 f.0 ≡ Equal = ap (slice_cmp nat_cmp p.0) same ∙ tied_itself nat_list_cmp_total p.0 in cc in
    ap (λ b. b || has_member fields (member_text p)) (apart f p ne) ∙ rest
by_order Equal f p fields e sorted rest =
    let same : f.0 ≡ p.0 = sym (exact_bytes p.0 f.0 e) in
    let none : has_member fields (member_text p) ≡ false = later_apart f.0 p fields same (sorted_head (slice_cmp nat_cmp) f.0 (map (λ field. field.0) fields) sorted) in
    ap (λ b. bytes_eq (member_text f) (member_text p) || b) none ∙ or_false (bytes_eq (member_text f) (member_text p)) ∙ at_key f p same
  where
    or_false : (b : Bool) → (b || false) ≡ b
    or_false true = refl
    or_false false = refl

-- a field is there exactly where a member has its text
pub has_member-has : (fields : TextMap) (p : List ℕ × List ℕ) → IsAscending fields → has_member fields (member_text p) ≡ has fields p
has_member-has [] p sorted = refl
has_member-has (f ∷ fields) p sorted =
    by_order (slice_cmp nat_cmp p.0 f.0) f p fields refl sorted (has_member-has fields p (sorted_tail (slice_cmp nat_cmp) f.0 (map (λ field. field.0) fields) sorted))

-- a version meets a pin exactly where it has each member of the pin
pub has_members-meets : (fields wanted : TextMap) → IsAscending fields → has_members fields wanted ≡ meets fields wanted
has_members-meets fields [] sorted = refl
has_members-meets fields (p ∷ wanted) sorted =
    ap (λ b. b && has_members fields wanted) (has_member-has fields p sorted) ∙ ap (λ b. has fields p && b) (has_members-meets fields wanted sorted)

-- ---- one member split off

pub split_is : (fields : TextMap) (text rest : List ℕ) → IsLeft fields text → 2 ≤ length text → get_or text 1 0 ≡ 34 → rest ≡ after_string false (drop 2 (after_string false (drop 2 text))) → Some (take (length (drop 1 text) - length rest) (drop 1 text), rest) ≡ first_member fields
split_is [] text rest (x, inl e) long quote is = absurd (omega (arith, ap length e))
split_is [] text rest (x, inr e) long quote is = let other : 125 ≡ 34 = rw e at quote in absurd (omega (arith, other))
split_is (field ∷ fields) text rest (x, e) long quote is =
    let after : rest ≡ rest_text fields = is ∙ ap (λ t. after_string false (drop 2 (after_string false (drop 2 t)))) e ∙ member_passes field (rest_text fields) in
    rw (after, e) (ap (λ m. Some (m, rest_text fields)) (before_rest field (rest_text fields)))

nothing_left : (p : List ℕ × List ℕ) → Some p ≡ None → ⊥
nothing_left p e = cc

abbrev Field : Type 0
Field = List ℕ × List ℕ

some_same : (p q : Field) → Some p ≡ Some q → p ≡ q
some_same p q e = cc

both : (a b c d : List ℕ) → ◌≡◌ {A = Option Field} (Some (a, b)) (Some (c, d)) → (a ≡ c) × (b ≡ d)
both a b c d e = let same = some_same (a, b) (c, d) e in (ap (λ (p : Field). p.0) same, ap (λ (p : Field). p.1) same)

one_left : (found others : List ℕ) (field : List ℕ × List ℕ) (fields : TextMap) → Some (found, others) ≡ first_member (field ∷ fields) → (found ≡ member_text field) × (others ≡ rest_text fields)
one_left found others field fields e = both found others (member_text field) (rest_text fields) e

-- the first member has another text, so one of the others has it, if any
pub other_member : (left : TextMap) (found others member : List ℕ) → Some (found, others) ≡ first_member left → bytes_eq found member ≡ false → (fields : TextMap) × IsLeft fields others × (has_member fields member ≡ has_member left member)
other_member [] found others member e differs = absurd (nothing_left (found, others) e)
other_member (field ∷ left) found others member e differs =
    let one = one_left found others field left e in
    let first : bytes_eq (member_text field) member ≡ false = ap (λ t. bytes_eq t member) (sym one.0) ∙ differs in
    (left, subst (IsLeft left) (sym one.1) (rest_left left), sym (ap (λ b. b || has_member left member) first))

pub found_member : (left : TextMap) (found others member : List ℕ) → Some (found, others) ≡ first_member left → bytes_eq found member ≡ true → has_member left member ≡ true
found_member [] found others member e same = absurd (nothing_left (found, others) e)
found_member (field ∷ left) found others member e same =
    let one = one_left found others field left e in
    let first : bytes_eq (member_text field) member ≡ true = ap (λ t. bytes_eq t member) (sym one.0) ∙ same in
    ap (λ b. b || has_member left member) first

pub no_member : (left : TextMap) (member : List ℕ) → None ≡ first_member left → has_member left member ≡ false
no_member [] member e = refl
no_member (field ∷ left) member e = absurd (nothing_left _ (sym e))

-- the first member is there, so all are if the others are
pub other_members : (fields left : TextMap) (found others : List ℕ) → Some (found, others) ≡ first_member left → has_member fields found ≡ true → (wanted : TextMap) × IsLeft wanted others × (has_members fields wanted ≡ has_members fields left)
other_members fields [] found others e same = absurd (nothing_left (found, others) e)
other_members fields (field ∷ left) found others e same =
    let one = one_left found others field left e in
    let first : has_member fields (member_text field) ≡ true = ap (has_member fields) (sym one.0) ∙ same in
    (left, subst (IsLeft left) (sym one.1) (rest_left left), sym (ap (λ b. b && has_members fields left) first))

pub missing_member : (fields left : TextMap) (found others : List ℕ) → Some (found, others) ≡ first_member left → has_member fields found ≡ false → has_members fields left ≡ false
missing_member fields [] found others e differs = absurd (nothing_left (found, others) e)
missing_member fields (field ∷ left) found others e differs =
    let one = one_left found others field left e in
    let first : has_member fields (member_text field) ≡ false = ap (has_member fields) (sym one.0) ∙ differs in
    ap (λ b. b && has_members fields left) first

pub no_members_left : (fields left : TextMap) → None ≡ first_member left → has_members fields left ≡ true
no_members_left fields [] e = refl
no_members_left fields (field ∷ left) e = absurd (nothing_left _ (sym e))
