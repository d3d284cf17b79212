-- The text of a problem: how it is written, and how it is read from the first line to the last.
use Rattle.std.specs.Prelude.{◌≡◌, ℕ, ◌+◌, List, [], ◌∷◌, ◌++◌, length, map, nat_le, Option, Some, None, is_some, option_and_then, Result, Ok, Err, Bool, not, ◌&&◌, ◌||◌, ◌==◌, if◌then◌else◌}
use Rattle.std.specs.List.{flat_map, list_any}
use Rattle.ccr_choice.specs.declared.word.Word.{Word}
use Rattle.ccr_choice.specs.declared.word.Word.TheVariants.{Number, Problem, Inputs, Jobs, After, Places, Builds, Pairs}
use Rattle.ccr_choice.specs.declared.problem.TheConstants.{MOST_INPUTS, MOST_BUILDS}
use Rattle.ccr_choice.specs.declared.format.TheConstants.{PLAIN_FORMAT, AFTER_FORMAT}
use Rattle.ccr_choice.specs.declared.fault.ProblemFault.{ProblemFault}
use Rattle.ccr_choice.specs.declared.fault.ProblemFault.TheVariants.{BadLine, Trailing, NoMemory}
use Rattle.ccr_choice.specs.Problem.{InputValue, BuildValue, ProblemValue, IsProblem, next_used, used_after, is_input, is_build, scopes_after, jobs_after}
use Rattle.ccr_choice.specs.Text.{text_of, lines_of}
use Rattle.ccr_choice.specs.Reading.{Refusal, bad_line, trailing, Read, ◌>>=◌, keep_if, one_line, next_many, whole, number_words, front_numbers, after_numbers}

-- ---- writing
abbrev pub pair_words : List (ℕ × ℕ) → List Word
pair_words [] = []
pair_words (p ∷ ps) = Number p.0 ∷ Number p.1 ∷ pair_words ps

-- `after U`, where a place is kept
abbrev pub after_words : Option ℕ → List Word
after_words None = []
after_words (Some u) = After ∷ Number u ∷ []

-- `S jobs J.. places P..`, or `S jobs J.. after U places P..` where a place is kept
abbrev pub input_line : InputValue → List Word
input_line i =
    Number i.scope ∷ Jobs ∷ (number_words i.jobs ++ (after_words i.after ++ Places ∷ number_words i.places))

-- `N pairs S P S P ..`
abbrev pub build_line : BuildValue → List Word
build_line b = Number b.number ∷ Pairs ∷ pair_words b.pairs

-- `builds B`, and a line for each build
abbrev pub job_lines : List BuildValue → List (List Word)
job_lines bs = (Builds ∷ Number (length bs) ∷ []) ∷ map build_line bs

-- The format in which inputs are written: 2 where a place is kept for one of them, and else 1.
abbrev pub format_of : List InputValue → ℕ
format_of is = if list_any (λ i. is_some i.after) is then AFTER_FORMAT else PLAIN_FORMAT

-- `problem 1` or `problem 2`, `inputs N`, a line for each input, `jobs M`, and the lines of each job
abbrev pub problem_lines : ProblemValue → List (List Word)
problem_lines p =
    (Problem ∷ Number (format_of p.inputs) ∷ []) ∷ (Inputs ∷ Number (length p.inputs) ∷ []) ∷
    (map input_line p.inputs ++ (Jobs ∷ Number (length p.jobs) ∷ []) ∷ flat_map job_lines p.jobs)

-- The one text of a problem.
abbrev pub problem_text : ProblemValue → List ℕ
problem_text p = text_of (problem_lines p)

-- ---- what a line says
-- the place that is kept, if the words begin with it, and the words behind it
abbrev pub after_on : List Word → Option ℕ × List Word
after_on (After ∷ Number u ∷ ws) = (Some u, ws)
after_on ws = (None, ws)

abbrev pub places_on : ℕ → List ℕ → Option ℕ → List Word → Option InputValue
places_on scope jobs after (Places ∷ ws) =
    if length (after_numbers ws) == 0
    then Some (record { scope = scope; places = front_numbers ws; jobs = jobs; after = after }) else None
places_on scope jobs after ws = None

unfoldable pub input_on : List Word → Option InputValue
input_on (Number scope ∷ Jobs ∷ ws) =
    places_on scope (front_numbers ws) (after_on (after_numbers ws)).0 (after_on (after_numbers ws)).1
input_on ws = None

abbrev pub pairs_on : List Word → Option (List (ℕ × ℕ))
pairs_on [] = Some []
pairs_on (Number scope ∷ Number place ∷ ws) = option_and_then (λ ps. Some ((scope, place) ∷ ps)) (pairs_on ws)
pairs_on ws = None

unfoldable pub build_on : List Word → Option BuildValue
build_on (Number n ∷ Pairs ∷ ws) = option_and_then (λ ps. Some (record { number = n; pairs = ps })) (pairs_on ws)
build_on ws = None

abbrev pub problem_number : List Word → Option ℕ
problem_number (Problem ∷ Number n ∷ []) = Some n
problem_number ws = None

abbrev pub inputs_number : List Word → Option ℕ
inputs_number (Inputs ∷ Number n ∷ []) = Some n
inputs_number ws = None

abbrev pub jobs_number : List Word → Option ℕ
jobs_number (Jobs ∷ Number n ∷ []) = Some n
jobs_number ws = None

abbrev pub builds_number : List Word → Option ℕ
builds_number (Builds ∷ Number n ∷ []) = Some n
builds_number ws = None

-- ---- reading, a line being bad where it says nothing or breaks a rule of problems
abbrev pub problem_head : List Word → Option ℕ
problem_head ws = keep_if (λ n. n == PLAIN_FORMAT || n == AFTER_FORMAT) (problem_number ws)

abbrev pub input_count : List Word → Option ℕ
input_count ws = keep_if (λ n. nat_le n MOST_INPUTS) (inputs_number ws)

-- so many jobs as are mentioned, behind inputs that are written in this format
abbrev pub job_count : Bool → ℕ → List Word → Option ℕ
job_count written mentioned ws = keep_if (λ n. written && n == mentioned) (jobs_number ws)

abbrev pub build_count : List Word → Option ℕ
build_count ws = keep_if (λ n. nat_le n MOST_BUILDS) (builds_number ws)

-- how many scopes and jobs are mentioned, before an input and after it
abbrev pub next_counts : ℕ × ℕ → InputValue → ℕ × ℕ
next_counts used i = (next_used used.0 i.scope, used_after used.1 i.jobs)

-- in format 1 no place is kept
abbrev pub is_input_in : ℕ → ℕ × ℕ → InputValue → Bool
is_input_in format used i = (format == AFTER_FORMAT || not (is_some i.after)) && is_input used.0 used.1 i

unfoldable pub next_input : ℕ → ℕ × ℕ → List (List Word) → Read InputValue
next_input format used = one_line (λ l. keep_if (is_input_in format used) (input_on l))

unfoldable pub next_build : ℕ → ℕ → List (List Word) → Read BuildValue
next_build scopes high = one_line (λ l. keep_if (is_build scopes high) (build_on l))

-- so many inputs
unfoldable pub next_inputs : ℕ → ℕ → List (List Word) → Read (List InputValue)
next_inputs format n = next_many (next_input format) next_counts n (0, 0)

-- so many builds of one job
unfoldable pub next_builds : ℕ → ℕ → List (List Word) → Read (List BuildValue)
next_builds scopes n = next_many (next_build scopes) (λ high b. b.number) n (MOST_BUILDS + 1)

-- the builds of one job, behind the line with their number
unfoldable pub next_job : ℕ → List (List Word) → Read (List BuildValue)
next_job scopes ls = do
  count ← one_line build_count ls
  next_builds scopes count.0 count.1

-- the builds of so many jobs
unfoldable pub next_jobs : ℕ → ℕ → List (List Word) → Read (List (List BuildValue))
next_jobs scopes n = next_many next_job (λ s builds. s) n scopes

unfoldable pub next_problem : List (List Word) → Read ProblemValue
next_problem ls = do
  head ← one_line problem_head ls
  count ← one_line input_count head.1
  inputs ← next_inputs head.0 count.0 count.1
  jobs ← one_line (job_count (head.0 == format_of inputs.0) (jobs_after 0 inputs.0)) inputs.1
  builds ← next_jobs (scopes_after 0 inputs.0) jobs.0 jobs.1
  Ok (record { inputs = inputs.0; jobs = builds.0 }, builds.1)

-- The problem that a text stands for, or why it stands for none: the first line from the top that breaks a rule, lacks
-- its line feed or is missing, or more than a problem.
unfoldable pub problem_in : List ℕ → Result ProblemValue Refusal
problem_in bytes = whole bad_line trailing (length (lines_of bytes)) (next_problem (lines_of bytes))

-- ---- what is said of a reader's answer
-- The fault says why reading refuses, unless memory ran out.
abbrev pub IsProblemFault : {Y : Type 0} → ProblemFault → Result Y Refusal → Type 0
IsProblemFault NoMemory read = Unit {0}
IsProblemFault (BadLine n) read = read ≡ Err (bad_line n)
IsProblemFault Trailing read = read ≡ Err trailing

-- The answer is what reading gives, unless memory ran out.
abbrev pub IsRead : Result ProblemValue ProblemFault → Result ProblemValue Refusal → Type 0
IsRead (Ok p) read = read ≡ Ok p
IsRead (Err e) read = IsProblemFault e read

-- The answer is this problem, unless memory ran out.
abbrev pub IsReadAs : Result ProblemValue ProblemFault → ProblemValue → Type 0
IsReadAs (Ok q) p = q ≡ p
IsReadAs (Err e) p = e ≡ NoMemory

-- No problem's text goes on where this one ends.
abbrev pub NothingFollows : List ℕ → Type 0
NothingFollows bytes = (q : ProblemValue) (more : List ℕ) → IsProblem q → problem_text q ≡ bytes ++ more → more ≡ []
