-- The laws of any format whose lines are read from the top: what is read is written so, what is written is read so, and no
-- text begins another.
use Rattle.std.proofs.Common.{◌≡◌, ℕ, List, [], ◌∷◌, ◌++◌, length, Bool, true, false, cond, ◌==◌, Ok, Err, ap, ◌∙◌, refl, sym, arith, eqb-true}
use Rattle.std.specs.List.{AllByRecursion}
use Rattle.std.proofs.lemmas.List.{append-nil}
use Rattle.ccr_choice.specs.declared.word.Word.{Word}
use Rattle.ccr_choice.specs.Text.{lines_of, text_of}
use Rattle.ccr_choice.specs.Reading.{Read, whole}
use Rattle.ccr_choice.proofs.Texts.{IsLine, lines_again, lines_found, known_lines}
use Rattle.ccr_choice.proofs.Cuts.{lines_none, lines_some}

-- Reading takes the lines of what it reads off the front, values have lines that are read as them, and each line has a spelling.
pub record IsFormat {A : Type 0} (at : List (List Word) → Read A) (lines : A → List (List Word)) (Is : A → Type 0) : Type 0 where
  pub found : (ls : List (List Word)) (x : A × List (List Word)) → at ls ≡ Ok x → ls ≡ lines x.0 ++ x.1
  pub again : (x : A) (rest : List (List Word)) → Is x → at (lines x ++ rest) ≡ Ok (x, rest)
  pub spelled : (x : A) → Is x → AllByRecursion IsLine (lines x)

finished : {A E : Type 0} (b : Bool) (x y : A) (e : E) → cond b (Ok x) (Err e) ≡ Ok y → (b ≡ true) × (x ≡ y)
finished true x y e h = (refl, cc)
finished false x y e h = cc

none : (ls : List (List Word)) → (length ls == 0) ≡ true → ls ≡ []
none [] h = refl
none (l ∷ ls) h = absurd (omega (arith, eqb-true (length (l ∷ ls)) 0 h))

-- the whole text was read
pub text_read : {A E : Type 0} (bad : ℕ → E) (trailing : E) (n : ℕ) (r : Read A) (x : A) → whole bad trailing n r ≡ Ok x → r ≡ Ok (x, [])
text_read bad trailing n (Err k) x h = cc
text_read bad trailing n (Ok y) x h =
    let f = finished (length y.1 == 0) y.0 x trailing h in
    ap (λ q. Ok (q, y.1)) f.1 ∙ ap (λ ls. Ok (x, ls)) (none y.1 f.0)

-- what is read is written so
pub text_found : {A E : Type 0} {at : List (List Word) → Read A} {lines : A → List (List Word)} {Is : A → Type 0} → IsFormat at lines Is
    → (bad : ℕ → E) (trailing : E) (bs : List ℕ) (x : A) → Is x → whole bad trailing (length (lines_of bs)) (at (lines_of bs)) ≡ Ok x → bs ≡ text_of (lines x)
text_found {A} {E} {at} {lines} format bad trailing bs x is h =
    let read = text_read bad trailing (length (lines_of bs)) (at (lines_of bs)) x h in
    lines_found bs (lines x) (format.found (lines_of bs) (x, []) read ∙ append-nil (lines x)) (known_lines (lines x) (format.spelled x is))

-- a text that is followed by more is read, and the lines of the rest are left
followed : {A : Type 0} {at : List (List Word) → Read A} {lines : A → List (List Word)} {Is : A → Type 0} → IsFormat at lines Is
    → (x : A) (more : List ℕ) → Is x → at (lines_of (text_of (lines x) ++ more)) ≡ Ok (x, lines_of more)
followed {A} {at} {lines} format x more is = ap at (lines_again (lines x) more (format.spelled x is)) ∙ format.again x (lines_of more) is

-- a text alone leaves no line
ended : {A : Type 0} {at : List (List Word) → Read A} {lines : A → List (List Word)} {Is : A → Type 0} → IsFormat at lines Is
    → (x : A) → Is x → at (lines_of (text_of (lines x))) ≡ Ok (x, [])
ended {A} {at} {lines} format x is =
    ap (λ bs. at (lines_of bs)) (sym (append-nil (text_of (lines x)))) ∙ followed format x [] is ∙ ap (λ ls. Ok (x, ls)) (lines_none [] refl)

-- what is written is read so
pub text_again : {A E : Type 0} {at : List (List Word) → Read A} {lines : A → List (List Word)} {Is : A → Type 0} → IsFormat at lines Is
    → (bad : ℕ → E) (trailing : E) (x : A) → Is x → whole bad trailing (length (lines_of (text_of (lines x)))) (at (lines_of (text_of (lines x)))) ≡ Ok x
text_again {A} {E} {at} {lines} format bad trailing x is = ap (whole bad trailing (length (lines_of (text_of (lines x))))) (ended format x is)

none_more : (more : List ℕ) → lines_of more ≡ [] → more ≡ []
none_more [] h = refl
none_more (b ∷ bs) h = absurd (omega (arith, lines_some (b ∷ bs) (omega arith), ap length h))

-- no text begins another
pub text_alone : {A : Type 0} {at : List (List Word) → Read A} {lines : A → List (List Word)} {Is : A → Type 0} → IsFormat at lines Is
    → (bs : List ℕ) (x y : A) (more : List ℕ) → Is x → Is y → bs ≡ text_of (lines x) → text_of (lines y) ≡ bs ++ more → more ≡ []
text_alone {A} {at} {lines} format bs x y more is is' e f =
    let two : Ok (x, lines_of more) ≡ Ok (y, []) =
    sym (followed format x more is) ∙ ap (λ cs. at (lines_of (cs ++ more))) (sym e) ∙ ap (λ cs. at (lines_of cs)) (sym f) ∙ ended format y is' in
    let pair : ◌≡◌ {A = A × List (List Word)} (x, lines_of more) (y, []) = cc (two) in
    none_more more (ap (λ z. z.1) pair)
