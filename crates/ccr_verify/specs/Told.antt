-- What the program tells, and the status that it ends with.
use Rattle.std.specs.Prelude.{ℕ, List, [], ◌∷◌, ◌++◌, Result, Ok, Err, String, string_bytes}
use Rattle.ccr_check.specs.Words.{input_fault_words}
use Rattle.ccr_check.specs.declared.input.InputFault.{InputFault}
use Rattle.ccr_check.specs.declared.input.InputFault.TheVariants.{WrongWords, Unreadable, NoMemory}

-- what is said, as bytes: the line and the status, or why there is none
abbrev pub said : {A : Type 0} → Result (String A × ℕ) InputFault → Result (List ℕ × ℕ) InputFault
said (Ok judged) = Ok (string_bytes judged.0, judged.1)
said (Err fault) = Err fault

-- on standard output: the line that was judged, with its line end, and nothing where there is none
abbrev pub printed : Result (List ℕ × ℕ) InputFault → List ℕ
printed (Ok judged) = judged.0 ++ 10 ∷ []
printed (Err fault) = []

-- on standard error: why there is no line, with its line end, and nothing where there is one
abbrev pub explained : Result (List ℕ × ℕ) InputFault → List ℕ
explained (Ok judged) = []
explained (Err fault) = input_fault_words fault ++ 10 ∷ []

-- the status is that of the line which was judged; 2 for another number of words, 4 where there was nothing to judge
abbrev pub status_of : Result (List ℕ × ℕ) InputFault → ℕ
status_of (Ok judged) = judged.1
status_of (Err WrongWords) = 2
status_of (Err Unreadable) = 4
status_of (Err NoMemory) = 4
