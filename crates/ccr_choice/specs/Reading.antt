-- Reading lines from the first to the last: a line that must be there, a count of things, and what a reader answers.
use Rattle.std.specs.Prelude.{◌≡◌, ℕ, zero, suc, ◌+◌, ◌-◌, ◌≤◌, List, [], ◌∷◌, ◌++◌, length, map, Bool, ◌==◌, Option, Some, None, Result, Ok, Err, if◌then◌else◌}
use Rattle.ccr_choice.specs.declared.word.Word.{Word}
use Rattle.ccr_choice.specs.declared.word.Word.TheVariants.{Number}
use Rattle.ccr_choice.specs.Text.{first_lines, ended_lines}
use Rattle.ccr_choice.specs.declared.stop.Stop.{Stop}
use Rattle.ccr_choice.specs.declared.stop.Stop.TheVariants as stop

-- Why a text is refused: the first line, counted from 1, that breaks a rule, lacks its line feed or is missing; or more
-- bytes behind the last line.
pub data Refusal : Type 0 where
  bad_line : ℕ → Refusal
  trailing : Refusal

-- Reading answers what was read with the lines behind it, or Err k: of the lines that are left, the first, which is the
-- last but k - 1, breaks a rule; where k is 0, no line is left and one is missing.
abbrev pub Read : Type 0 → Type 0
Read A = Result (A × List (List Word)) ℕ

infixl 10 ◌>>=◌
abbrev pub ◌>>=◌ : {A B E : Type 0} → Result A E → (A → Result B E) → Result B E
(Ok x) >>= f = f x
(Err e) >>= f = Err e

-- the value, if it passes the test
abbrev pub keep_if : {A : Type 0} → (A → Bool) → Option A → Option A
keep_if test None = None
keep_if test (Some x) = if test x then Some x else None

-- the value, or the line before these as the one that breaks a rule
abbrev pub or_broken : {A : Type 0} → List (List Word) → Option A → Result A ℕ
or_broken after None = Err (suc (length after))
or_broken after (Some x) = Ok x

-- One line, which must be there, and of which the rule says what it means.
abbrev pub one_line : {A : Type 0} → (List Word → Option A) → List (List Word) → Read A
one_line rule [] = Err 0
one_line rule (l ∷ ls) = do
  x ← or_broken ls (rule l)
  Ok (x, ls)

-- So many things, one after the other, where each may change what is asked of the next.
abbrev pub next_many : {S A : Type 0} → (S → List (List Word) → Read A) → (S → A → S) → ℕ → S → List (List Word)
    → Read (List A)
next_many item next zero s ls = Ok ([], ls)
next_many item next (suc n) s ls = do
  x ← item s ls
  more ← next_many item next n (next s x.0) x.1
  Ok (x.0 ∷ more.0, more.1)

-- The whole text is read, and nothing is left; else the first bad line, counted from 1, or more than the text.
abbrev pub whole : {A E : Type 0} → (ℕ → E) → E → ℕ → Read A → Result A E
whole bad more lines (Err left) = Err (bad (lines + 1 - left))
whole bad more lines (Ok x) = if length x.1 == 0 then Ok x.0 else Err more

-- Line n is the first bad one of a text, as it is seen from outside: the lines before it alone are refused for want of
-- line n; and where line n has its line feed, the first n lines are refused for line n whatever follows.
pub record IsFirstBad {V R : Type 0} (read : List ℕ → Result V R) (bad : ℕ → R) (bytes : List ℕ) (n : ℕ) : Type 0 where
  pub before : read (first_lines (n - 1) bytes) ≡ Err (bad n)
  pub whatever : n ≤ ended_lines bytes → (more : List ℕ) → read (first_lines n bytes ++ more) ≡ Err (bad n)

-- ---- numbers on a line
-- the words that spell these numbers
abbrev pub number_words : List ℕ → List Word
number_words ns = map Number ns

-- the numbers at the front of a line
abbrev pub front_numbers : List Word → List ℕ
front_numbers [] = []
front_numbers (Number n ∷ ws) = n ∷ front_numbers ws
front_numbers (w ∷ ws) = []

-- the words behind the numbers at the front of a line
abbrev pub after_numbers : List Word → List Word
after_numbers [] = []
after_numbers (Number n ∷ ws) = after_numbers ws
after_numbers (w ∷ ws) = w ∷ ws

-- ---- what functions answer
-- A reader that stopped says where reading stops, unless memory ran out.
abbrev pub Stops : {Y : Type 0} → Stop → Result Y ℕ → Type 0
Stops stop.Memory read = Unit {0}
Stops (stop.Left k) read = read ≡ Err k

-- What a function answered, seen by view, is what reading gives, unless memory ran out.
abbrev pub Gives : {X Y : Type 0} → (X → Y) → Result X Stop → Result Y ℕ → Type 0
Gives view (Ok x) read = read ≡ Ok (view x)
Gives view (Err e) read = Stops e read
