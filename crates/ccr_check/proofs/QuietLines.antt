-- No line of a problem's text begins with `proof`, `best` or `none`.
use Rattle.std.proofs.Common.{◌≡◌, ℕ, zero, suc, ◌+◌, ◌-◌, ◌<◌, inl, inr, List, [], ◌∷◌, ◌++◌, length, map, get_or, true, false, not, ◌==◌, IsTrue, ap, ◌∙◌, refl, sym, subst, arith, append_assoc, length-append}
use Rattle.std.specs.List.{flat_map, AllByRecursion, join_with_byte}
use Rattle.std.specs.Str.{all_ascii_digits}
use Rattle.std.specs.Char.{is_ascii_digit}
use Rattle.std.specs.Fmt.{decimal}
use Rattle.std.proofs.lemmas.Bool.{and_parts, cases_lt}
use Rattle.std.proofs.lemmas.Bool.Decides.{nat_tests}
use Rattle.std.proofs.lemmas.Fmt.{digits_decimal, decimal_nonempty}
use Rattle.std.proofs.lemmas.List.{get_or_append_left, get_or-append-add}
use Rattle.std.proofs.Math.Seq.{drop-append-add, get_or-append_seam}
use Rattle.ccr_choice.specs.declared.word.Word.{Word}
use Rattle.ccr_choice.specs.declared.word.Word.TheVariants as word
use Rattle.ccr_choice.specs.Problem.{InputValue, BuildValue, ProblemValue}
use Rattle.ccr_choice.specs.ProblemText.{input_line, build_line, job_lines, problem_lines}
use Rattle.ccr_choice.specs.Text.{spelled, IsWord, line_text, text_of}
use Rattle.ccr_choice.proofs.Words.{own}
use Rattle.ccr_choice.proofs.Texts.{is_clear, line_clear, IsLine}
use Rattle.ccr_check.specs.Cut.{begins, IsLineStart, IsMark}
use Rattle.ccr_check.proofs.AcceptedLine.{behind_blanks, join_flat}

-- ---- the words that lines of a problem begin with
abbrev IsQuietWord : Word → Type 0
IsQuietWord (word.Number n) = Unit {0}
IsQuietWord word.Problem = Unit {0}
IsQuietWord word.Inputs = Unit {0}
IsQuietWord word.Jobs = Unit {0}
IsQuietWord word.Builds = Unit {0}
IsQuietWord w = ⊥

abbrev pub IsQuiet : List Word → Type 0
IsQuiet [] = ⊥
IsQuiet (w ∷ ws) = IsQuietWord w

letters_differ : (d : ℕ) (rest : List ℕ) → (112 == d) ≡ false → (98 == d) ≡ false → (110 == d) ≡ false → begins (d ∷ rest) ≡ false
unfolding begins
letters_differ d rest p b n = rw (p, b, n) refl

-- a digit is none of the letters p, b and n
digit_quiet : (d : ℕ) (rest : List ℕ) → is_ascii_digit d ≡ true → begins (d ∷ rest) ≡ false
digit_quiet d rest h = letters_differ d rest (above 112 d (omega arith) h) (above 98 d (omega arith) h) (above 110 d (omega arith) h)
  where
    above : (c d : ℕ) → 57 < c → is_ascii_digit d ≡ true → (c == d) ≡ false
    above c d high h = grind (arith, nat_tests)

digits_quiet : (ds more : List ℕ) → 0 < length ds → all_ascii_digits ds ≡ true → begins (ds ++ more) ≡ false
digits_quiet [] more some h = absurd (omega arith)
digits_quiet (d ∷ ds) more some h = digit_quiet d (ds ++ more) (and_parts (is_ascii_digit d) (all_ascii_digits ds) h).0

word_quiet : (w : Word) (more : List ℕ) → IsWord w → IsQuietWord w → begins (spelled w ++ more) ≡ false
unfolding begins
word_quiet (word.Number n) more is h = digits_quiet (decimal n) more (decimal_nonempty n (omega (arith, is))) (digits_decimal own n (omega (arith, is)))
word_quiet word.Problem more is h = refl
word_quiet word.Inputs more is h = refl
word_quiet word.Jobs more is h = refl
word_quiet word.Builds more is h = refl
word_quiet word.After more is h = absurd h
word_quiet word.Places more is h = absurd h
word_quiet word.Pairs more is h = absurd h
word_quiet word.Proof more is h = absurd h
word_quiet word.Best more is h = absurd h
word_quiet word.Nothing more is h = absurd h
word_quiet word.Job more is h = absurd h
word_quiet word.Empty more is h = absurd h
word_quiet word.Bounded more is h = absurd h
word_quiet word.Same more is h = absurd h
word_quiet word.Other more is h = absurd h

line_quiet : (l : List Word) (more : List ℕ) → IsLine l → IsQuiet l → begins (line_text l ++ more) ≡ false
line_quiet [] more is h = absurd h
line_quiet (w ∷ ws) more is h =
    let behind = behind_blanks (map spelled ws) in
    ap (λ x. begins ((x ++ 10 ∷ []) ++ more)) (join_flat (spelled w) (map spelled ws))
    ∙ ap (λ x. begins (x ++ more)) (append_assoc (spelled w) behind (10 ∷ []))
    ∙ ap begins (append_assoc (spelled w) (behind ++ 10 ∷ []) more)
    ∙ word_quiet w ((behind ++ 10 ∷ []) ++ more) is.1.0 h

-- ---- where lines start in a text that begins with a line
clear_at : (c : ℕ) (bs : List ℕ) (k : ℕ) → is_clear c bs ≡ true → k < length bs → get_or bs k 0 ≡ c → ⊥
clear_at c [] k h within e = absurd (omega arith)
clear_at c (b ∷ bs) zero h within e = differs c b (and_parts (not (b == c)) (is_clear c bs) h).0 e
  where
    differs : (c b : ℕ) → not (b == c) ≡ true → b ≡ c → ⊥
    differs c b h e = grind (arith, nat_tests)
clear_at c (b ∷ bs) (suc k) h within e = clear_at c bs k (and_parts (not (b == c)) (is_clear c bs) h).1 (omega arith) e

start_at : (bs : List ℕ) (k : ℕ) → get_or bs k 0 ≡ 10 → IsLineStart bs (suc k)
start_at bs k e = inr (omega arith, ap (λ i. get_or bs i 0) (less k) ∙ e)
  where
    less : (k : ℕ) → suc k - 1 ≡ k
    less k = omega arith

start_from : (bs : List ℕ) (k : ℕ) → IsLineStart bs (suc k) → get_or bs k 0 ≡ 10
start_from bs k (inl z) = absurd (omega (arith, z))
start_from bs k (inr p) = ap (λ i. get_or bs i 0) (more k) ∙ p.1
  where
    more : (k : ℕ) → k ≡ suc k - 1
    more k = omega arith

-- a line that starts behind a line starts in what follows it
start_behind_line : (x rest : List ℕ) (j : ℕ) → IsLineStart (x ++ rest) (length x + j) → IsLineStart rest j
start_behind_line x rest zero h = inl refl
start_behind_line x rest (suc j) h =
    let P : ℕ → Type 0 = λ n. IsLineStart (x ++ rest) n in
    let e : length x + suc j ≡ suc (length x + j) = omega arith in
    start_at rest j (sym (get_or-append-add x rest j 0) ∙ start_from (x ++ rest) (length x + j) (subst P e h))

mark_behind_line : (x rest : List ℕ) (j : ℕ) → IsMark (x ++ rest) (length x + j) → IsMark rest j
mark_behind_line x rest j h =
    let P : List ℕ → Type 0 = λ bs. IsTrue (begins bs) in
    (start_behind_line x rest j h.0, subst P (drop-append-add x rest j) h.1)

-- the bytes of a line, with what follows its line feed
line_and : (l : List Word) (rest : List ℕ) → line_text l ++ rest ≡ join_with_byte 32 (map spelled l) ++ 10 ∷ rest
line_and l rest = append_assoc (join_with_byte 32 (map spelled l)) (10 ∷ []) rest

-- a line that starts in what follows a line starts behind it
start_before_line : (l : List Word) (rest : List ℕ) (j : ℕ) → IsLineStart rest j → IsLineStart (line_text l ++ rest) (length (line_text l) + j)
start_before_line l rest zero h =
    let x = join_with_byte 32 (map spelled l) in
    let P : ℕ → Type 0 = λ n. IsLineStart (line_text l ++ rest) n in
    let e : suc (length x) ≡ length (line_text l) + 0 = omega (arith, length-append x (10 ∷ [])) in
    subst P e (start_at (line_text l ++ rest) (length x) (ap (λ bs. get_or bs (length x) 0) (line_and l rest) ∙ get_or-append_seam x 10 rest 0))
start_before_line l rest (suc j) h =
    let P : ℕ → Type 0 = λ n. IsLineStart (line_text l ++ rest) n in
    let e : suc (length (line_text l) + j) ≡ length (line_text l) + suc j = omega arith in
    subst P e (start_at (line_text l ++ rest) (length (line_text l) + j) (get_or-append-add (line_text l) rest j 0 ∙ start_from rest j h))

-- within a line no other line starts, and it begins with none of the words
in_line : (l : List Word) (rest : List ℕ) (k : ℕ) → IsLine l → IsQuiet l → k < length (line_text l) → IsMark (line_text l ++ rest) k → ⊥
in_line l rest zero is quiet within mark = absurd (cc (mark.1, line_quiet l rest is quiet))
in_line l rest (suc k) is quiet within mark =
    let x = join_with_byte 32 (map spelled l) in
    let inside : k < length x = omega (arith, within, length-append x (10 ∷ [])) in
    clear_at 10 x k (line_clear l is.1) inside
    (sym (get_or_append_left x (10 ∷ rest) 0 k inside) ∙ ap (λ bs. get_or bs k 0) (sym (line_and l rest)) ∙ start_from (line_text l ++ rest) k mark.0)

-- no proof or claim starts within lines that begin so
pub lines_quiet : (ls : List (List Word)) (more : List ℕ) (k : ℕ) → AllByRecursion IsLine ls → AllByRecursion IsQuiet ls → k < length (text_of ls) → IsMark (text_of ls ++ more) k → ⊥
lines_quiet [] more k is quiet within mark = absurd (omega arith)
lines_quiet (l ∷ ls) more k is quiet within mark =
    let x = line_text l in
    let rest = text_of ls ++ more in
    let P : List ℕ → Type 0 = λ bs. IsMark bs k in
    let mark : IsMark (x ++ rest) k = subst P (append_assoc x (text_of ls) more) mark in
    elim (cases_lt k (length x)) [
      | inl here ↦ in_line l rest k is.0 quiet.0 here mark
      | inr behind ↦
          let Q : ℕ → Type 0 = λ n. IsMark (x ++ rest) n in
          lines_quiet ls more (k - length x) is.1 quiet.1 (omega (arith, length-append x (text_of ls)))
          (mark_behind_line x rest (k - length x) (subst Q (omega arith) mark))
    ]

-- behind lines a line starts
pub start_behind_lines : (ls : List (List Word)) (more : List ℕ) → IsLineStart (text_of ls ++ more) (length (text_of ls))
start_behind_lines [] more = inl refl
start_behind_lines (l ∷ ls) more =
    let x = line_text l in
    let P : List ℕ → Type 0 = λ bs. IsLineStart bs (length x + length (text_of ls)) in
    let Q : ℕ → Type 0 = λ n. IsLineStart (text_of (l ∷ ls) ++ more) n in
    subst Q (sym (length-append x (text_of ls)))
    (subst P (sym (append_assoc x (text_of ls) more)) (start_before_line l (text_of ls ++ more) (length (text_of ls)) (start_behind_lines ls more)))

-- ---- the lines of a problem
quiet_inputs : (is : List InputValue) (ls : List (List Word)) → AllByRecursion IsQuiet ls → AllByRecursion IsQuiet (map input_line is ++ ls)
quiet_inputs [] ls h = h
quiet_inputs (i ∷ is) ls h = (tt, quiet_inputs is ls h)

quiet_builds : (bs : List BuildValue) (ls : List (List Word)) → AllByRecursion IsQuiet ls → AllByRecursion IsQuiet (map build_line bs ++ ls)
quiet_builds [] ls h = h
quiet_builds (b ∷ bs) ls h = (tt, quiet_builds bs ls h)

quiet_jobs : (js : List (List BuildValue)) → AllByRecursion IsQuiet (flat_map job_lines js)
quiet_jobs [] = tt
quiet_jobs (j ∷ js) = (tt, quiet_builds j (flat_map job_lines js) (quiet_jobs js))

pub problem_quiet : (p : ProblemValue) → AllByRecursion IsQuiet (problem_lines p)
problem_quiet p = (tt, (tt, quiet_inputs p.inputs _ (tt, quiet_jobs p.jobs)))
