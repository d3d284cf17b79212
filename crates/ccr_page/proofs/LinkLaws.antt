-- A link stays at its place.
use Rattle.std.proofs.Common.{◌≡◌, ◌≢◌, ℕ, zero, suc, ◌+◌, ◌/◌, ◌%◌, ◌<◌, ◌≤◌, List, [], ◌∷◌, ◌++◌, length, take, get_or, flat_map, Bool, true, false, ◌||◌, ◌&&◌, eqb, ltb, leb, cond, refl, sym, ap, ap₂, ◌∙◌, subst, inl, inr, arith, append_assoc}
use Rattle.std.specs.Prelude.{codes}
use Rattle.std.specs.List.{list_all, starts_with}
use Rattle.std.specs.Fmt.{digits, digits_onto, digit_glyph, decimal}
use Rattle.std.proofs.lemmas.Bool.{cases_Bool, cases_lt, cond-true, cond-false, cond_both, or_left, or_right, eqb-true, eqb-false, ne_eqb, le-leb, lt-ltb, le-ltb, ltb-true, ltb-false, false≢true}
use Rattle.std.proofs.lemmas.List.{append-nil, take_more, length_push}
use Rattle.std.proofs.lemmas.List.Folds.{list_all-append}
use Rattle.ccr_page.specs.Texts.{Text, is_plain, hex_digit, percent, link_byte, way_byte, link, trimmed, leads_away, way_start, way, is_link_byte, Stays}
use Rattle.ccr_page.specs.Pieces.{written}
use Rattle.ccr_page.specs.Builds.{log_link}

-- ---- the slashes at the end
second_false : (p q : Bool) → q ≡ false → (p && q) ≡ false
second_false true q h = h
second_false false q h = refl

pub trimmed_slash : (t : Text) → trimmed (t ++ 47 ∷ []) ≡ trimmed t
trimmed_slash [] = refl
trimmed_slash (b ∷ bs) = ap (λ r. cond (eqb b 47 && eqb (length r) 0) [] (b ∷ r)) (trimmed_slash bs)

pub trimmed_other : (t : Text) (b : ℕ) → eqb b 47 ≡ false → trimmed (t ++ b ∷ []) ≡ t ++ b ∷ []
trimmed_other [] b other = cond-false (eqb b 47 && true) [] (b ∷ []) (ap (λ p. p && true) other)
trimmed_other (x ∷ xs) b other =
    ap (λ r. cond (eqb x 47 && eqb (length r) 0) [] (x ∷ r)) (trimmed_other xs b other)
    ∙ cond-false (eqb x 47 && eqb (length (xs ++ b ∷ [])) 0) [] (x ∷ (xs ++ b ∷ []))
    (second_false (eqb x 47) (eqb (length (xs ++ b ∷ [])) 0) (ne_eqb (length (xs ++ b ∷ [])) 0 (λ e. omega (arith, length_push xs b, e))))

-- a directory without them isn't a slash
trimmed_ends : (t : Text) → trimmed t ≢ 47 ∷ []
trimmed_ends [] e = (cc)
trimmed_ends (b ∷ bs) e =
    elim (cases_Bool (eqb b 47 && eqb (length (trimmed bs)) 0)) [
      | inl is ↦ (let f = sym (cond-true (eqb b 47 && eqb (length (trimmed bs)) 0) [] (b ∷ trimmed bs) is) ∙ e in cc)
      | inr not ↦ (let f : b ∷ trimmed bs ≡ 47 ∷ [] = sym (cond-false (eqb b 47 && eqb (length (trimmed bs)) 0) [] (b ∷ trimmed bs) not) ∙ e in
          let slash : b ≡ 47 = (cc) in
          let empty : trimmed bs ≡ [] = (cc) in
          let yes : (eqb b 47 && eqb (length (trimmed bs)) 0) ≡ true = ap₂ (λ n r. eqb n 47 && eqb (length r) 0) slash empty in
          false≢true (sym not ∙ yes))
    ]

-- ---- how a link begins
first : Text → ℕ
first [] = 0
first (b ∷ bs) = b

begins : (t : Text) → eqb 47 (first t) ≡ false → starts_with eqb t (codes "//") ≡ false
unfolding first
begins [] h = refl
begins (b ∷ []) h = ap (λ p. p && false) h
begins (b ∷ c ∷ t) h = ap (λ p. p && (eqb 47 c && true)) h

goes_on : (t : Text) → eqb 47 (first t) ≡ false → starts_with eqb (47 ∷ t) (codes "//") ≡ false
unfolding first
goes_on [] h = refl
goes_on (c ∷ t) h = ap (λ p. p && true) h

first_way : (x : ℕ) (r : Text) → eqb x 47 ≡ false → eqb 47 (first (way_byte x ++ r)) ≡ false
unfolding first
first_way x r other =
    let P : Text → Type 0 = λ t. eqb 47 (first (t ++ r)) ≡ false in
    cond_both (eqb x 47) (x ∷ []) (link_byte x) P (λ h. absurd (false≢true (sym other ∙ h)))
    (λ _. cond_both (is_plain x) (x ∷ []) (percent x) P (λ _. ne_eqb 47 x (λ e. eqb-false x 47 other (sym e))) (λ _. refl))

way_slash : (r : Text) → flat_map way_byte (47 ∷ r) ≡ 47 ∷ flat_map way_byte r
way_slash r = refl

-- behind a slash at the front of a directory no other one stands
after_slash : (bs r : Text) → bs ≢ [] → leads_away (47 ∷ bs) ≡ false → starts_with eqb (flat_map way_byte (47 ∷ bs) ++ 47 ∷ r) (codes "//") ≡ false
after_slash [] r some not = absurd (some refl)
after_slash (c ∷ cs) r some not =
    elim (cases_Bool (eqb 47 c)) [
      | inl slash ↦ absurd (false≢true (sym not ∙ or_right (eqb (length (47 ∷ c ∷ cs)) 0) (eqb 47 c && true) (ap (λ p. p && true) slash)))
      | inr other ↦ (let flat = flat_map way_byte cs in
          let e : way_byte c ++ (flat ++ 47 ∷ r) ≡ (way_byte c ++ flat) ++ 47 ∷ r = sym (append_assoc (way_byte c) flat (47 ∷ r)) in
          let P : Text → Type 0 = λ t. starts_with eqb (47 ∷ t) (codes "//") ≡ false in
          subst P e (goes_on (way_byte c ++ (flat ++ 47 ∷ r)) (first_way c (flat ++ 47 ∷ r) (ne_eqb c 47 (λ s. eqb-false 47 c other (sym s))))))
    ]

plain_start : (d r : Text) → d ≢ 47 ∷ [] → leads_away d ≡ false → starts_with eqb (flat_map way_byte d ++ 47 ∷ r) (codes "//") ≡ false
plain_start [] r ends not = absurd (false≢true (sym not))
plain_start (b ∷ bs) r ends not =
    elim (cases_Bool (eqb b 47)) [
      | inl slash ↦ (let e : 47 ≡ b = sym (eqb-true b 47 slash) in
          let P : ℕ → Type 0 = λ n. (n ∷ bs) ≢ 47 ∷ [] → leads_away (n ∷ bs) ≡ false → starts_with eqb (flat_map way_byte (n ∷ bs) ++ 47 ∷ r) (codes "//") ≡ false in
          subst P e (λ ends' not'. after_slash bs r (λ empty. ends' (ap (λ t. 47 ∷ t) empty)) not') ends not)
      | inr other ↦ (let flat = flat_map way_byte bs in
          let e : way_byte b ++ (flat ++ 47 ∷ r) ≡ (way_byte b ++ flat) ++ 47 ∷ r = sym (append_assoc (way_byte b) flat (47 ∷ r)) in
          let P : Text → Type 0 = λ t. starts_with eqb t (codes "//") ≡ false in
          subst P e (begins (way_byte b ++ (flat ++ 47 ∷ r)) (first_way b (flat ++ 47 ∷ r) other)))
    ]

way_begins : (t r : Text) → starts_with eqb (way t ++ 47 ∷ r) (codes "//") ≡ false
way_begins t r =
    let d = trimmed t in
    let flat = flat_map way_byte d in
    elim (cases_Bool (leads_away d)) [
      | inl away ↦ (let e = cond-true (leads_away d) (codes "/.") [] away in
          ap (λ s. starts_with eqb ((s ++ flat) ++ 47 ∷ r) (codes "//")) e)
      | inr stays ↦ (let e = cond-false (leads_away d) (codes "/.") [] stays in
          ap (λ s. starts_with eqb ((s ++ flat) ++ 47 ∷ r) (codes "//")) e ∙ plain_start d r (trimmed_ends t) stays)
    ]

-- ---- the bytes of a link
plain_is : (b : ℕ) → is_plain b ≡ true → is_link_byte b ≡ true
plain_is b is = or_left (is_plain b || eqb b 47) (eqb b 37) (or_left (is_plain b) (eqb b 47) is)

both : (p q : Bool) → p ≡ true → q ≡ true → (p && q) ≡ true
both p q a b = ap₂ (λ x y. x && y) a b

-- a letter or a digit
letter_is : (b : ℕ) → 65 ≤ b → b ≤ 90 → is_link_byte b ≡ true
letter_is b from to = grind (arith, le-leb, or_left, or_right, both)

digit_is : (b : ℕ) → 48 ≤ b → b ≤ 57 → is_link_byte b ≡ true
digit_is b from to = grind (arith, le-leb, or_left, or_right, both)

hex_is : (n : ℕ) → n < 16 → is_link_byte (hex_digit n) ≡ true
hex_is n low =
    cond_both (ltb n 10) (48 + n) (55 + n) (λ d. is_link_byte d ≡ true)
    (λ h. let few : n < 10 = ltb-true n 10 h in digit_is (48 + n) (omega arith) (omega arith))
    (λ h. let many : 10 ≤ n = ltb-false n 10 h in letter_is (55 + n) (omega arith) (omega arith))

one_is : (b : ℕ) → is_link_byte b ≡ true → list_all is_link_byte (b ∷ []) ≡ true
one_is b is = both (is_link_byte b) true is refl

percent_is : (b : ℕ) → list_all is_link_byte (percent b) ≡ true
percent_is b =
    both (is_link_byte (hex_digit (b / 16 % 16))) (list_all is_link_byte (hex_digit (b % 16) ∷ [])) (hex_is (b / 16 % 16) (omega arith))
    (one_is (hex_digit (b % 16)) (hex_is (b % 16) (omega arith)))

link_byte_is : (b : ℕ) → list_all is_link_byte (link_byte b) ≡ true
link_byte_is b = cond_both (is_plain b) (b ∷ []) (percent b) (λ t. list_all is_link_byte t ≡ true) (λ h. one_is b (plain_is b h)) (λ h. percent_is b)

way_byte_is : (b : ℕ) → list_all is_link_byte (way_byte b) ≡ true
way_byte_is b =
    cond_both (eqb b 47) (b ∷ []) (link_byte b) (λ t. list_all is_link_byte t ≡ true)
    (λ h. let e : b ≡ 47 = eqb-true b 47 h in ap (λ n. list_all is_link_byte (n ∷ [])) e) (λ h. link_byte_is b)

append_is : (x y : Text) → list_all is_link_byte x ≡ true → list_all is_link_byte y ≡ true → list_all is_link_byte (x ++ y) ≡ true
append_is x y a b = list_all-append is_link_byte x y ∙ both (list_all is_link_byte x) (list_all is_link_byte y) a b

each_is : (f : ℕ → Text) → ((b : ℕ) → list_all is_link_byte (f b) ≡ true) → (t : Text) → list_all is_link_byte (flat_map f t) ≡ true
each_is f is [] = refl
each_is f is (b ∷ bs) = append_is (f b) (flat_map f bs) (is b) (each_is f is bs)

way_is : (t : Text) → list_all is_link_byte (way t) ≡ true
way_is t =
    let d = trimmed t in
    append_is (way_start d) (flat_map way_byte d)
    (cond_both (leads_away d) (codes "/.") [] (λ s. list_all is_link_byte s ≡ true) (λ h. refl) (λ h. refl)) (each_is way_byte way_byte_is d)

onto_is : (k n : ℕ) (acc : Text) → list_all is_link_byte acc ≡ true → list_all is_link_byte (digits_onto k 10 false n acc) ≡ true
onto_is zero n acc h = h
onto_is (suc k) n acc h =
    let g = digit_glyph false (n % 10) in
    let low : n % 10 < 10 = omega arith in
    let e : g ≡ 48 + n % 10 = cond-true (ltb (n % 10) 10) (48 + n % 10) (87 + n % 10) (lt-ltb (n % 10) 10 low) in
    let is : is_link_byte g ≡ true = ap is_link_byte e ∙ digit_is (48 + n % 10) (omega arith) (omega arith) in
    let more : list_all is_link_byte (g ∷ acc) ≡ true = both (is_link_byte g) (list_all is_link_byte acc) is h in
    cond_both (eqb (n / 10) 0) (g ∷ acc) (digits_onto k 10 false (n / 10) (g ∷ acc)) (λ t. list_all is_link_byte t ≡ true) (λ _. more) (λ _. onto_is k (n / 10) (g ∷ acc) more)

number_is : (n : ℕ) → list_all is_link_byte (decimal n) ≡ true
unfolding digits
number_is n = onto_is 64 n [] refl

-- whatever the directory and the name are, the link to a log stays
pub link_stays : (dir name : Text) (n : ℕ) → Stays (written (log_link dir name n))
link_stays dir name n =
    let slash : Text = 47 ∷ [] in (
      way_begins dir (link name ++ (slash ++ (decimal n ++ (slash ++ [])))),
      append_is (way dir) (slash ++ (link name ++ (slash ++ (decimal n ++ (slash ++ []))))) (way_is dir)
          (append_is slash (link name ++ (slash ++ (decimal n ++ (slash ++ [])))) refl
          (append_is (link name) (slash ++ (decimal n ++ (slash ++ []))) (each_is link_byte link_byte_is name)
          (append_is slash (decimal n ++ (slash ++ [])) refl (append_is (decimal n) (slash ++ []) (number_is n) refl)))),
    )
