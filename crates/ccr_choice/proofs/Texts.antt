-- Lines of words as bytes, both ways.
use Rattle.std.proofs.Common.{if◌then◌else◌, ◌≡◌, ◌≢◌, ℕ, ◌<◌, List, [], ◌∷◌, ◌++◌, length, map, Bool, true, false, not, ◌==◌, ap, ◌∙◌, refl, sym, subst, arith, append_assoc}
use Rattle.std.specs.List.{slice_split, join_with_byte, AllByRecursion, list_all}
use Rattle.std.specs.Str.{all_ascii_digits}
use Rattle.std.specs.Char.{is_ascii_digit}
use Rattle.std.specs.Fmt.{decimal}
use Rattle.std.proofs.lemmas.Bool.{and_parts, and_from, eqb-true}
use Rattle.std.proofs.lemmas.Bool.Decides.{nat_tests}
use Rattle.std.proofs.lemmas.List.Elements.{All-from_recursion}
use Rattle.std.proofs.lemmas.List.Splits.{join_with_byte-slice_split, slice_split_at, slice_split_none, length-slice_split}
use Rattle.std.proofs.lemmas.Fmt.{digits_decimal}
use Rattle.ccr_choice.specs.declared.word.Word.{Word}
use Rattle.ccr_choice.specs.declared.word.Word.TheVariants.{Number, Problem, Inputs, Jobs, After, Places, Builds, Pairs, Proof, Best, Nothing, Job, Empty, Bounded, Same, Other}
use Rattle.ccr_choice.specs.Text.{spelled, IsWord, word_of, words_of, line_text, text_of, lines_from, unended, lines_of}
use Rattle.ccr_choice.proofs.Cuts.{lines_step}
use Rattle.ccr_choice.proofs.Words.{own, word_found, word_again, IsFit, word_fits}

-- the separator isn't among the bytes
abbrev pub is_clear : ℕ → List ℕ → Bool
is_clear c bs = list_all (λ b. not (b == c)) bs

not_true : (b : Bool) → not b ≡ true → b ≡ false
not_true true h = cc
not_true false h = refl

clear_each : (c : ℕ) (bs : List ℕ) → is_clear c bs ≡ true → AllByRecursion (λ b. (b == c) ≡ false) bs
clear_each c [] h = tt
clear_each c (b ∷ bs) h =
    let p = and_parts (not (b == c)) (is_clear c bs) h in
    (not_true (b == c) p.0, clear_each c bs p.1)

digit_clear : (c b : ℕ) → c < 48 → is_ascii_digit b ≡ true → not (b == c) ≡ true
digit_clear c b low h = grind (arith, nat_tests)

digits_clear : (c : ℕ) (bs : List ℕ) → c < 48 → all_ascii_digits bs ≡ true → is_clear c bs ≡ true
digits_clear c [] low h = refl
digits_clear c (b ∷ bs) low h =
    let p = and_parts (is_ascii_digit b) (all_ascii_digits bs) h in
    and_from _ _ (digit_clear c b low p.0) (digits_clear c bs low p.1)

blank_clear : (w : Word) → IsWord w → is_clear 32 (spelled w) ≡ true
blank_clear (Number n) h = digits_clear 32 (decimal n) (omega arith) (digits_decimal own n (omega (arith, h)))
blank_clear Problem h = refl
blank_clear Inputs h = refl
blank_clear Jobs h = refl
blank_clear After h = refl
blank_clear Places h = refl
blank_clear Builds h = refl
blank_clear Pairs h = refl
blank_clear Proof h = refl
blank_clear Best h = refl
blank_clear Nothing h = refl
blank_clear Job h = refl
blank_clear Empty h = refl
blank_clear Bounded h = refl
blank_clear Same h = refl
blank_clear Other h = refl

split_join : (c : ℕ) (x : List ℕ) (more : List (List ℕ)) → AllByRecursion (λ p. is_clear c p ≡ true) (x ∷ more)
    → slice_split (λ b. b == c) (join_with_byte c (x ∷ more)) ≡ x ∷ more
split_join c x [] h = slice_split_none (λ b. b == c) x (All-from_recursion _ x (clear_each c x h.0))
split_join c x (y ∷ more) h =
    slice_split_at (λ b. b == c) x c (join_with_byte c (y ∷ more)) (All-from_recursion _ x (clear_each c x h.0)) (same c)
    ∙ ap (λ ps. x ∷ ps) (split_join c y more h.1)
  where
    same : (n : ℕ) → (n == n) ≡ true
    same n = grind (arith, nat_tests)

words_clear : (ws : List Word) → AllByRecursion IsWord ws → AllByRecursion (λ p. is_clear 32 p ≡ true) (map spelled ws)
words_clear [] h = tt
words_clear (w ∷ ws) h = (blank_clear w h.0, words_clear ws h.1)

all_again : (ws : List Word) → AllByRecursion IsWord ws → map word_of (map spelled ws) ≡ ws
all_again [] h = refl
all_again (w ∷ ws) h = ap (λ v. v ∷ map word_of (map spelled ws)) (word_again w h.0) ∙ ap (λ vs. w ∷ vs) (all_again ws h.1)

-- a line of words is read as these words
pub words_again : (w : Word) (ws : List Word) → AllByRecursion IsWord (w ∷ ws) → words_of (join_with_byte 32 (map spelled (w ∷ ws))) ≡ w ∷ ws
unfolding words_of
words_again w ws h = ap (map word_of) (split_join 32 (spelled w) (map spelled ws) (words_clear (w ∷ ws) h)) ∙ all_again (w ∷ ws) h

all_found : (parts : List (List ℕ)) (ws : List Word) → map word_of parts ≡ ws → AllByRecursion (λ w. w ≢ Other) ws → (parts ≡ map spelled ws) × AllByRecursion IsWord ws
all_found [] [] h known = (refl, tt)
all_found [] (w ∷ ws) h known = cc
all_found (p ∷ parts) [] h known = cc
all_found (p ∷ parts) (w ∷ ws) h known =
    let first = word_found p w (cc) known.0 in
    let others = all_found parts ws (cc) known.1 in
    (ap (λ q. q ∷ parts) first.0 ∙ ap (λ qs. spelled w ∷ qs) others.0, (first.1, others.1))

-- the words that a line was read as are what it says
pub words_found : (line : List ℕ) (ws : List Word) → words_of line ≡ ws → AllByRecursion (λ w. w ≢ Other) ws
    → (line ≡ join_with_byte 32 (map spelled ws)) × AllByRecursion IsWord ws
unfolding words_of
words_found line ws h known =
    let f = all_found (slice_split (λ b. b == 32) line) ws h known in
    (sym (join_with_byte-slice_split 32 line) ∙ ap (join_with_byte 32) f.0, f.1)

feed_clear : (w : Word) → IsWord w → is_clear 10 (spelled w) ≡ true
feed_clear (Number n) h = digits_clear 10 (decimal n) (omega arith) (digits_decimal own n (omega (arith, h)))
feed_clear Problem h = refl
feed_clear Inputs h = refl
feed_clear Jobs h = refl
feed_clear After h = refl
feed_clear Places h = refl
feed_clear Builds h = refl
feed_clear Pairs h = refl
feed_clear Proof h = refl
feed_clear Best h = refl
feed_clear Nothing h = refl
feed_clear Job h = refl
feed_clear Empty h = refl
feed_clear Bounded h = refl
feed_clear Same h = refl
feed_clear Other h = refl

append_clear : (c : ℕ) (xs ys : List ℕ) → is_clear c xs ≡ true → is_clear c ys ≡ true → is_clear c (xs ++ ys) ≡ true
append_clear c [] ys h k = k
append_clear c (x ∷ xs) ys h k =
    let p = and_parts (not (x == c)) (is_clear c xs) h in and_from _ _ p.0 (append_clear c xs ys p.1 k)

-- no line feed is among the bytes of a line's words
pub line_clear : (ws : List Word) → AllByRecursion IsWord ws → is_clear 10 (join_with_byte 32 (map spelled ws)) ≡ true
line_clear [] h = refl
line_clear (w ∷ []) h = feed_clear w h.0
line_clear (w ∷ v ∷ ws) h = append_clear 10 (spelled w) _ (feed_clear w h.0) (line_clear (v ∷ ws) h.1)

-- a line has words, and they can be written
abbrev pub IsLine : List Word → Type 0
IsLine ws = (0 < length ws) × AllByRecursion IsWord ws

cut_line : (x rest : List ℕ) → is_clear 10 x ≡ true → slice_split (λ b. b == 10) ((x ++ 10 ∷ []) ++ rest) ≡ x ∷ slice_split (λ b. b == 10) rest
cut_line x rest h = rw append_assoc (slice_split_at (λ b. b == 10) x 10 rest (All-from_recursion _ x (clear_each 10 x h)) refl)

line_again : (ws : List Word) → IsLine ws → words_of (join_with_byte 32 (map spelled ws)) ≡ ws
line_again [] h = absurd (omega (arith, h.0))
line_again (w ∷ ws) h = words_again w ws h.1

-- lines that are followed by more are read as these lines, and what the rest is read as
pub lines_again : (ls : List (List Word)) (more : List ℕ) → AllByRecursion IsLine ls → lines_of (text_of ls ++ more) ≡ ls ++ lines_of more
lines_again [] more h = refl
lines_again (l ∷ ls) more h =
    let line = join_with_byte 32 (map spelled l) in
    let cut : slice_split (λ b. b == 10) (text_of (l ∷ ls) ++ more) ≡ line ∷ slice_split (λ b. b == 10) (text_of ls ++ more) =
    ap (slice_split (λ b. b == 10)) (append_assoc (line_text l) (text_of ls) more) ∙ cut_line line (text_of ls ++ more) (line_clear l h.0.1) in
    lines_step (text_of (l ∷ ls) ++ more) line (text_of ls ++ more) cut
    ∙ ap (λ v. v ∷ lines_of (text_of ls ++ more)) (line_again l h.0)
    ∙ ap (λ vs. l ∷ vs) (lines_again ls more h.1)

abbrev pub AreKnown : List (List Word) → Type 0
AreKnown ls = AllByRecursion (λ l. AllByRecursion (λ w. w ≢ Other) l) ls

empty_part : (x : List ℕ) → (length x == 0) ≡ true → x ≡ []
empty_part [] h = refl
empty_part (y ∷ ys) h = absurd (omega (arith, eqb-true (length (y ∷ ys)) 0 h))

last_found : (b : Bool) (ls : List (List Word)) → (if b then [] else unended ∷ []) ≡ ls → AreKnown ls → (b ≡ true) × (ls ≡ [])
last_found true ls h known = (refl, sym h)
last_found false [] h known = cc
last_found false (l ∷ ls) h known = absurd (unknown l (cc) known.0)
  where
    unknown : (l : List Word) → unended ≡ l → AllByRecursion (λ w. w ≢ Other) l → ⊥
    unknown [] e k = cc
    unknown (w ∷ ws) e k = k.0 (cc)

parts_found : (parts : List (List ℕ)) (ls : List (List Word)) → 0 < length parts → lines_from parts ≡ ls → AreKnown ls
    → join_with_byte 10 parts ≡ text_of ls
parts_found [] ls some h known = absurd (omega arith)
parts_found (x ∷ []) ls some h known =
    let last = last_found (length x == 0) ls h known in
    empty_part x last.0 ∙ ap text_of (sym last.1)
parts_found (x ∷ y ∷ more) [] some h known = cc
parts_found (x ∷ y ∷ more) (l ∷ ls) some h known =
    let line = words_found x l (cc) known.0 in
    let others = parts_found (y ∷ more) ls (omega arith) (cc) known.1 in
    ap (λ v. v ++ (10 ∷ join_with_byte 10 (y ∷ more))) line.0
    ∙ ap (λ vs. join_with_byte 32 (map spelled l) ++ (10 ∷ vs)) others
    ∙ sym (append_assoc (join_with_byte 32 (map spelled l)) (10 ∷ []) (text_of ls))

-- the lines that a text was read as are what it says
pub lines_found : (bs : List ℕ) (ls : List (List Word)) → lines_of bs ≡ ls → AreKnown ls → bs ≡ text_of ls
unfolding lines_of
lines_found bs ls h known =
    sym (join_with_byte-slice_split 10 bs) ∙ parts_found (slice_split (λ b. b == 10) bs) ls (omega (arith, length-slice_split (λ b. b == 10) bs)) h known

-- words that have a spelling are known
pub known_words : (ws : List Word) → AllByRecursion IsWord ws → AllByRecursion (λ w. w ≢ Other) ws
known_words [] h = tt
known_words (w ∷ ws) h = (known_word w h.0, known_words ws h.1)
  where
    known_word : (w : Word) → IsWord w → w ≢ Other
    known_word w h e = let P : Word → Type 0 = IsWord in subst P e h

pub known_lines : (ls : List (List Word)) → AllByRecursion IsLine ls → AreKnown ls
known_lines [] h = tt
known_lines (l ∷ ls) h = (known_words l h.0.1, known_lines ls h.1)

-- ---- the numbers on the lines of a text are small
words_fit : (parts : List (List ℕ)) → AllByRecursion IsFit (map word_of parts)
words_fit [] = tt
words_fit (p ∷ parts) = (word_fits p, words_fit parts)

line_fits : (line : List ℕ) → AllByRecursion IsFit (words_of line)
unfolding words_of
line_fits line = words_fit (slice_split (λ b. b == 32) line)

last_fits : (b : Bool) → AllByRecursion (λ l. AllByRecursion IsFit l) (if b then [] else unended ∷ [])
last_fits true = tt
last_fits false = ((tt, tt), tt)

parts_fit : (parts : List (List ℕ)) → AllByRecursion (λ l. AllByRecursion IsFit l) (lines_from parts)
parts_fit [] = tt
parts_fit (x ∷ []) = last_fits (length x == 0)
parts_fit (x ∷ y ∷ more) = (line_fits x, parts_fit (y ∷ more))

pub lines_fit : (bs : List ℕ) → AllByRecursion (λ l. AllByRecursion IsFit l) (lines_of bs)
unfolding lines_of
lines_fit bs = parts_fit (slice_split (λ b. b == 10) bs)
