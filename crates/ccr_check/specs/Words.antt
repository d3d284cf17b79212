-- The words in which a fault is printed.
use Rattle.std.specs.Prelude.{ℕ, List, ◌++◌, codes}
use Rattle.std.specs.Fmt.{decimal}
use Rattle.ccr_choice.specs.Words.{verdict_words}
use Rattle.ccr_check.specs.declared.fault.CheckFault.{CheckFault}
use Rattle.ccr_check.specs.declared.fault.CheckFault.TheVariants.{BadChoice, NoSuchJob, JobTwice, WrongChildren, NotEmpty, NotBounded, NoSuchInput, NotSame}
use Rattle.ccr_check.specs.declared.input.InputFault.{InputFault}
use Rattle.ccr_check.specs.declared.input.InputFault.TheVariants as input

-- Why a proof isn't accepted.
abbrev pub check_fault_words : CheckFault → List ℕ
check_fault_words (BadChoice v) = codes "choice: " ++ verdict_words v
check_fault_words (NoSuchJob n) = codes "node " ++ decimal n ++ codes ": no such job"
check_fault_words (JobTwice n) = codes "node " ++ decimal n ++ codes ": job twice"
check_fault_words (WrongChildren n) = codes "node " ++ decimal n ++ codes ": wrong children"
check_fault_words (NotEmpty n) = codes "node " ++ decimal n ++ codes ": not empty"
check_fault_words (NotBounded n) = codes "node " ++ decimal n ++ codes ": not bounded"
check_fault_words (NoSuchInput n) = codes "node " ++ decimal n ++ codes ": no such input"
check_fault_words (NotSame n) = codes "node " ++ decimal n ++ codes ": not same"

-- the words of why there is nothing to judge
abbrev pub input_fault_words : InputFault → List ℕ
input_fault_words input.WrongWords = codes "usage: ccr_verify [PROBLEM PROOF]"
input_fault_words input.Unreadable = codes "cannot read"
input_fault_words input.NoMemory = codes "out of memory"
