-- The compact text of a map of texts says which map it is.
use Rattle.std.proofs.Common.{◌≡◌, ℕ, List, [], ◌∷◌, ◌++◌, get_or, drop, take, length, ◌-◌, refl, sym, ap, ap₂, ◌∙◌, arith}
use Rattle.ccr_history.specs.Scan.{after_string}
use Rattle.ccr_history.specs.TextMap.{TextMap, key_text}
use Rattle.ccr_history.specs.Members.{member_text, rest_text}
use Rattle.ccr_history.proofs.Members.{member_passes, before_rest, same_member, rest_left, key_left}
use Rattle.std.proofs.Common.{false}

-- what stands behind a member
behind : (f g : List ℕ × List ℕ) (r s : List ℕ) → member_text f ++ r ≡ member_text g ++ s → r ≡ s
behind f g r s e = sym (member_passes f r) ∙ ap (λ t. after_string false (drop 2 (after_string false (drop 1 t)))) e ∙ member_passes g s

in_front : (f g : List ℕ × List ℕ) (r s : List ℕ) → member_text f ++ r ≡ member_text g ++ s → r ≡ s → member_text f ≡ member_text g
in_front f g r s e rest =
    sym (before_rest f r) ∙ ap₂ (λ (t u : List ℕ). take (length t - length u) t) e rest ∙ before_rest g s

one_member : (f g : List ℕ × List ℕ) → member_text f ≡ member_text g → f ≡ g
one_member f g e = let both = same_member f g e in ap₂ (λ (k t : List ℕ). (k, t)) both.0 both.1

one_rest : (fs gs : TextMap) → rest_text fs ≡ rest_text gs → fs ≡ gs
one_rest [] [] e = refl
one_rest [] (g ∷ gs) e = absurd (let first : 125 ≡ 44 = ap (λ t. get_or t 0 0) e in omega (arith, first))
one_rest (f ∷ fs) [] e = absurd (let first : 44 ≡ 125 = ap (λ t. get_or t 0 0) e in omega (arith, first))
one_rest (f ∷ fs) (g ∷ gs) e =
    let inside : member_text f ++ rest_text fs ≡ member_text g ++ rest_text gs = ap (drop 1) (sym (rest_left (f ∷ fs)).1 ∙ e ∙ (rest_left (g ∷ gs)).1) in
    let rest = behind f g (rest_text fs) (rest_text gs) inside in
    ap₂ (λ (h : List ℕ × List ℕ) (hs : TextMap). h ∷ hs) (one_member f g (in_front f g (rest_text fs) (rest_text gs) inside rest)) (one_rest fs gs rest)

-- two maps with one text are one
pub one_map : (fs gs : TextMap) → key_text fs ≡ key_text gs → fs ≡ gs
one_map [] [] e = refl
one_map [] (g ∷ gs) e = absurd (let first : 125 ≡ 34 = ap (λ t. get_or t 1 0) e in omega (arith, first))
one_map (f ∷ fs) [] e = absurd (let first : 34 ≡ 125 = ap (λ t. get_or t 1 0) e in omega (arith, first))
one_map (f ∷ fs) (g ∷ gs) e =
    let inside : member_text f ++ rest_text fs ≡ member_text g ++ rest_text gs = ap (drop 1) (sym (key_left (f ∷ fs)).1 ∙ e ∙ (key_left (g ∷ gs)).1) in
    let rest = behind f g (rest_text fs) (rest_text gs) inside in
    ap₂ (λ (h : List ℕ × List ℕ) (hs : TextMap). h ∷ hs) (one_member f g (in_front f g (rest_text fs) (rest_text gs) inside rest)) (one_rest fs gs rest)
