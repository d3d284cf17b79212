-- No text becomes markup.
use Rattle.std.proofs.Common.{◌≡◌, ◌≢◌, ℕ, zero, suc, ◌+◌, ◌/◌, ◌%◌, ◌<◌, ◌≤◌, List, [], ◌∷◌, ◌++◌, filter, flat_map, Bool, true, false, ◌||◌, ◌&&◌, eqb, ltb, leb, cond, Option, Some, None, refl, sym, ap, ap₂, ◌∙◌, subst, inl, inr, arith, append_assoc}
use Rattle.std.specs.Prelude.{unwrap_or, codes}
use Rattle.std.specs.Fmt.{digits, digits_onto, digit_glyph, decimal}
use Rattle.std.proofs.lemmas.Bool.{cases_Bool, cases_lt, cond-true, cond-false, cond_both, or_cases, or_from, and_parts, eqb-true, eqb-false, ne_eqb, lt-ltb, le-ltb, ltb-true, ltb-false, false≢true, false_from_ne_true}
use Rattle.std.proofs.lemmas.List.Elements.{filter-append}
use Rattle.ccr_page.specs.declared.status.Status.{Status}
use Rattle.ccr_page.specs.declared.status.Status.TheVariants.{Failed, Errored, Aborted, Running, Succeeded, Missing}
use Rattle.ccr_page.specs.declared.data.Urgency.{Urgency}
use Rattle.ccr_page.specs.declared.data.Urgency.TheVariants.{Stopped, Held, Going}
use Rattle.ccr_page.specs.Texts.{Text, entity, escape, escaped, is_plain, hex_digit, percent, link_byte, way_byte, link, trimmed, leads_away, way_start, way, cut, is_ascii}
use Rattle.ccr_page.specs.Statuses.{class_text, status_text, colour_text, urgency_text}
use Rattle.ccr_page.specs.Pieces.{PieceData, Markup, Shown, Cut, Isolated, Number, Link, Way, Class, Standing, Colour, Kind, isolated, piece_text, written}
use Rattle.ccr_page.specs.Markup.{is_markup, markup_in, template_text, template, is_entity, AreEntities}

-- ---- one byte
-- a byte that is none of the four
none_is : (b : ℕ) → eqb b 60 ≡ false → eqb b 62 ≡ false → eqb b 34 ≡ false → eqb b 39 ≡ false → is_markup b ≡ false
none_is b l g q s = or_from (eqb b 60 || eqb b 62 || eqb b 34) (eqb b 39) (or_from (eqb b 60 || eqb b 62) (eqb b 34) (or_from (eqb b 60) (eqb b 62) l g) q) s

-- the same by what numbers it isn't
differs : (b : ℕ) → b ≢ 60 → b ≢ 62 → b ≢ 34 → b ≢ 39 → is_markup b ≡ false
differs b l g q s = none_is b (ne_eqb b 60 l) (ne_eqb b 62 g) (ne_eqb b 34 q) (ne_eqb b 39 s)

-- such a byte before a text
skip : (b : ℕ) (t : Text) → is_markup b ≡ false → markup_in (b ∷ t) ≡ markup_in t
skip b t not = cond-false (is_markup b) (b ∷ markup_in t) (markup_in t) not

-- what stands for a byte, by what it is
picked : Bool → Bool → Bool → Bool → Bool → Bool → ℕ → Text
picked amp lt gt quote apostrophe control b =
    unwrap_or (cond amp (Some (codes "&amp;")) (cond lt (Some (codes "&lt;")) (cond gt (Some (codes "&gt;")) (cond quote (Some (codes "&quot;"))
    (cond apostrophe (Some (codes "&#39;")) (cond control (Some (239 ∷ 191 ∷ 189 ∷ [])) None)))))) (b ∷ [])

picked_plain : (amp lt gt quote apostrophe control : Bool) (b : ℕ) → lt ≡ eqb b 60 → gt ≡ eqb b 62 → quote ≡ eqb b 34 → apostrophe ≡ eqb b 39 → markup_in (picked amp lt gt quote apostrophe control b) ≡ []
unfolding picked
picked_plain true lt gt quote apostrophe control b l g q s = refl
picked_plain false true gt quote apostrophe control b l g q s = refl
picked_plain false false true quote apostrophe control b l g q s = refl
picked_plain false false false true apostrophe control b l g q s = refl
picked_plain false false false false true control b l g q s = refl
picked_plain false false false false false true b l g q s = refl
picked_plain false false false false false false b l g q s = skip b [] (none_is b (sym l) (sym g) (sym q) (sym s))

escape_plain : (b : ℕ) → markup_in (escape b) ≡ []
unfolding picked
escape_plain b = picked_plain (eqb b 38) (eqb b 60) (eqb b 62) (eqb b 34) (eqb b 39) (ltb b 32 || eqb b 127) b refl refl refl refl

-- ---- texts made byte by byte
each_plain : (f : ℕ → Text) → ((b : ℕ) → markup_in (f b) ≡ []) → (t : Text) → markup_in (flat_map f t) ≡ []
each_plain f plain [] = refl
each_plain f plain (b ∷ bs) = filter-append is_markup (f b) (flat_map f bs) ∙ ap₂ (λ x y. x ++ y) (plain b) (each_plain f plain bs)

pub escaped_plain : (t : Text) → markup_in (escaped t) ≡ []
escaped_plain t = each_plain escape escape_plain t

hex_plain : (n : ℕ) → is_markup (hex_digit n) ≡ false
hex_plain n =
    cond_both (ltb n 10) (48 + n) (55 + n) (λ d. is_markup d ≡ false)
    (λ h. let low : n < 10 = ltb-true n 10 h in differs (48 + n) (λ e. omega arith) (λ e. omega arith) (λ e. omega arith) (λ e. omega arith))
    (λ h. let high : 10 ≤ n = ltb-false n 10 h in differs (55 + n) (λ e. omega arith) (λ e. omega arith) (λ e. omega arith) (λ e. omega arith))

percent_plain : (b : ℕ) → markup_in (percent b) ≡ []
percent_plain b = skip (hex_digit (b / 16 % 16)) (hex_digit (b % 16) ∷ []) (hex_plain (b / 16 % 16)) ∙ skip (hex_digit (b % 16)) [] (hex_plain (b % 16))

-- a byte that stands for itself in a link is none of the four
itself_plain : (b : ℕ) → is_plain b ≡ true → is_markup b ≡ false
itself_plain b is = differs b (λ e. other 60 e refl) (λ e. other 62 e refl) (λ e. other 34 e refl) (λ e. other 39 e refl)
  where
    other : (n : ℕ) → b ≡ n → is_plain n ≡ false → ⊥
    other n e not = false≢true (sym not ∙ sym (ap is_plain e) ∙ is)

link_byte_plain : (b : ℕ) → markup_in (link_byte b) ≡ []
link_byte_plain b = cond_both (is_plain b) (b ∷ []) (percent b) (λ t. markup_in t ≡ []) (λ h. skip b [] (itself_plain b h)) (λ h. percent_plain b)

way_byte_plain : (b : ℕ) → markup_in (way_byte b) ≡ []
way_byte_plain b =
    cond_both (eqb b 47) (b ∷ []) (link_byte b) (λ t. markup_in t ≡ [])
    (λ h. let e : b ≡ 47 = eqb-true b 47 h in ap (λ n. markup_in (n ∷ [])) e)
    (λ h. link_byte_plain b)

way_plain : (t : Text) → markup_in (way t) ≡ []
way_plain t =
    let d = trimmed t in
    let start : markup_in (way_start d) ≡ [] = cond_both (leads_away d) (codes "/.") [] (λ s. markup_in s ≡ []) (λ h. refl) (λ h. refl) in
    filter-append is_markup (way_start d) (flat_map way_byte d) ∙ ap₂ (λ x y. x ++ y) start (each_plain way_byte way_byte_plain d)

-- ---- numbers
glyph_plain : (d : ℕ) → is_markup (digit_glyph false d) ≡ false
glyph_plain d =
    cond_both (ltb d 10) (48 + d) (87 + d) (λ n. is_markup n ≡ false)
    (λ h. let low : d < 10 = ltb-true d 10 h in differs (48 + d) (λ e. omega arith) (λ e. omega arith) (λ e. omega arith) (λ e. omega arith))
    (λ h. differs (87 + d) (λ e. omega arith) (λ e. omega arith) (λ e. omega arith) (λ e. omega arith))

onto_plain : (k n : ℕ) (acc : Text) → markup_in acc ≡ [] → markup_in (digits_onto k 10 false n acc) ≡ []
onto_plain zero n acc h = h
onto_plain (suc k) n acc h =
    let g = digit_glyph false (n % 10) in
    let more : markup_in (g ∷ acc) ≡ [] = skip g acc (glyph_plain (n % 10)) ∙ h in
    cond_both (eqb (n / 10) 0) (g ∷ acc) (digits_onto k 10 false (n / 10) (g ∷ acc)) (λ t. markup_in t ≡ []) (λ _. more) (λ _. onto_plain k (n / 10) (g ∷ acc) more)

number_plain : (n : ℕ) → markup_in (decimal n) ≡ []
unfolding digits
number_plain n = onto_plain 64 n [] refl

-- ---- pieces
isolated_is : (t e : Text) → markup_in e ≡ [] → markup_in (isolated t e) ≡ markup_in (template_text (Isolated t 0))
isolated_is t e plain =
    elim (cases_Bool (is_ascii t)) [
      | inl is ↦ ap markup_in (cond-true (is_ascii t) e (codes "<bdi>" ++ e ++ codes "</bdi>") is) ∙ plain ∙ sym (ap markup_in (cond-true (is_ascii t) [] (codes "<bdi></bdi>") is))
      | inr not ↦ ap markup_in (cond-false (is_ascii t) e (codes "<bdi>" ++ e ++ codes "</bdi>") not)
          ∙ filter-append is_markup (codes "<bdi>" ++ e) (codes "</bdi>") ∙ ap (λ x. x ++ markup_in (codes "</bdi>")) (filter-append is_markup (codes "<bdi>") e ∙ ap (λ x. markup_in (codes "<bdi>") ++ x) plain)
          ∙ sym (ap markup_in (cond-false (is_ascii t) [] (codes "<bdi></bdi>") not))
    ]

class_plain : (s : Status) → markup_in (class_text s) ≡ []
class_plain Failed = refl
class_plain Errored = refl
class_plain Aborted = refl
class_plain Running = refl
class_plain Succeeded = refl
class_plain Missing = refl

word_plain : (s : Status) → markup_in (status_text s) ≡ []
word_plain Failed = refl
word_plain Errored = refl
word_plain Aborted = refl
word_plain Running = refl
word_plain Succeeded = refl
word_plain Missing = refl

colour_plain : (s : Status) → markup_in (colour_text s) ≡ []
colour_plain Failed = refl
colour_plain Errored = refl
colour_plain Aborted = refl
colour_plain Running = refl
colour_plain Succeeded = refl
colour_plain Missing = refl

kind_plain : (u : Urgency) → markup_in (urgency_text u) ≡ []
kind_plain Stopped = refl
kind_plain Held = refl
kind_plain Going = refl

piece_is : (p : PieceData) → markup_in (piece_text p) ≡ markup_in (template_text p)
piece_is (Markup t) = refl
piece_is (Shown t) = escaped_plain t
piece_is (Cut t most) = escaped_plain (cut most t)
piece_is (Isolated t most) = isolated_is t (escaped (cut most t)) (escaped_plain (cut most t))
piece_is (Number n) = number_plain n
piece_is (Link t) = each_plain link_byte link_byte_plain t
piece_is (Way t) = way_plain t
piece_is (Class s) = class_plain s
piece_is (Standing s) = word_plain s
piece_is (Colour s) = colour_plain s
piece_is (Kind u) = kind_plain u

-- the markup of pieces is that of their template
pub markup_is : (ps : List PieceData) → markup_in (written ps) ≡ markup_in (template ps)
markup_is [] = refl
markup_is (p ∷ ps) =
    filter-append is_markup (piece_text p) (written ps) ∙ ap₂ (λ x y. x ++ y) (piece_is p) (markup_is ps) ∙ sym (filter-append is_markup (template_text p) (template ps))

-- ---- entities
-- a byte that isn't & before a text
beside : (b : ℕ) (t : Text) → b ≢ 38 → AreEntities t → AreEntities (b ∷ t)
beside b t other are = (λ e. absurd (other e), are)

picked_entities : (amp lt gt quote apostrophe control : Bool) (b : ℕ) (t : Text) → amp ≡ eqb b 38 → AreEntities t → AreEntities (picked amp lt gt quote apostrophe control b ++ t)
unfolding picked
picked_entities true lt gt quote apostrophe control b t a are =
    (λ e. refl, beside 97 (109 ∷ 112 ∷ 59 ∷ t) (λ e. omega arith) (beside 109 (112 ∷ 59 ∷ t) (λ e. omega arith) (beside 112 (59 ∷ t) (λ e. omega arith) (beside 59 t (λ e. omega arith) are))))
picked_entities false true gt quote apostrophe control b t a are =
    (λ e. refl, beside 108 (116 ∷ 59 ∷ t) (λ e. omega arith) (beside 116 (59 ∷ t) (λ e. omega arith) (beside 59 t (λ e. omega arith) are)))
picked_entities false false true quote apostrophe control b t a are =
    (λ e. refl, beside 103 (116 ∷ 59 ∷ t) (λ e. omega arith) (beside 116 (59 ∷ t) (λ e. omega arith) (beside 59 t (λ e. omega arith) are)))
picked_entities false false false true apostrophe control b t a are =
    (λ e. refl, beside 113 (117 ∷ 111 ∷ 116 ∷ 59 ∷ t) (λ e. omega arith) (beside 117 (111 ∷ 116 ∷ 59 ∷ t) (λ e. omega arith) (beside 111 (116 ∷ 59 ∷ t) (λ e. omega arith) (beside 116 (59 ∷ t) (λ e. omega arith) (beside 59 t (λ e. omega arith) are)))))
picked_entities false false false false true control b t a are =
    (λ e. refl, beside 35 (51 ∷ 57 ∷ 59 ∷ t) (λ e. omega arith) (beside 51 (57 ∷ 59 ∷ t) (λ e. omega arith) (beside 57 (59 ∷ t) (λ e. omega arith) (beside 59 t (λ e. omega arith) are))))
picked_entities false false false false false true b t a are =
    beside 239 (191 ∷ 189 ∷ t) (λ e. omega arith) (beside 191 (189 ∷ t) (λ e. omega arith) (beside 189 t (λ e. omega arith) are))
picked_entities false false false false false false b t a are = beside b t (eqb-false b 38 (sym a)) are

pub escaped_entities : (t : Text) → AreEntities (escaped t)
unfolding picked
escaped_entities [] = tt
escaped_entities (b ∷ bs) = picked_entities (eqb b 38) (eqb b 60) (eqb b 62) (eqb b 34) (eqb b 39) (ltb b 32 || eqb b 127) b (escaped bs) refl (escaped_entities bs)
