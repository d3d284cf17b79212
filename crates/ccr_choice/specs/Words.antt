-- The words in which a verdict and a fault are printed.
use Rattle.std.specs.Prelude.{ℕ, List, ◌++◌, codes}
use Rattle.std.specs.Fmt.{decimal}
use Rattle.ccr_choice.specs.declared.fault.ProblemFault.{ProblemFault}
use Rattle.ccr_choice.specs.declared.fault.ProblemFault.TheVariants.{BadLine, Trailing, NoMemory}
use Rattle.ccr_choice.specs.Reading.{Refusal, bad_line, trailing}
use Rattle.ccr_choice.specs.declared.verdict.Verdict.{Verdict}
use Rattle.ccr_choice.specs.declared.verdict.Verdict.TheVariants.{Satisfies, WrongLength, NotAllowed, NotSuccessful, NotPassed}

-- What is said of a choice with this verdict.
abbrev pub verdict_words : Verdict → List ℕ
verdict_words Satisfies = codes "satisfies"
verdict_words WrongLength = codes "wrong length"
verdict_words (NotAllowed i) = codes "input " ++ decimal i ++ codes " not allowed"
verdict_words (NotSuccessful j) = codes "job " ++ decimal j ++ codes " not successful"
verdict_words (NotPassed i j) = codes "input " ++ (decimal i ++ (codes " not passed job " ++ decimal j))

-- Why a text is no problem's.
abbrev pub problem_refusal_words : Refusal → List ℕ
problem_refusal_words (bad_line n) = codes "problem line " ++ decimal n
problem_refusal_words trailing = codes "problem trailing"

-- The same of a reader, which may also want memory.
abbrev pub problem_fault_words : ProblemFault → List ℕ
problem_fault_words (BadLine n) = problem_refusal_words (bad_line n)
problem_fault_words Trailing = problem_refusal_words trailing
problem_fault_words NoMemory = codes "out of memory"
