-- The words in which a fault is printed.
use Rattle.std.specs.Prelude.{ℕ, List, ◌++◌, codes}
use Rattle.std.specs.Fmt.{decimal}
use Rattle.ccr_proof.specs.ProofText.{ProofRefusal, bad_line, too_many_nodes, trailing}
use Rattle.ccr_proof.specs.declared.fault.ProofFault.{ProofFault}
use Rattle.ccr_proof.specs.declared.fault.ProofFault.TheVariants.{BadLine, TooManyNodes, Trailing, NoMemory}

-- Why a text is no proof's.
abbrev pub proof_refusal_words : ProofRefusal → List ℕ
proof_refusal_words (bad_line n) = codes "proof line " ++ decimal n
proof_refusal_words too_many_nodes = codes "too many nodes"
proof_refusal_words trailing = codes "proof trailing"

-- The same of a reader, which may also want memory.
abbrev pub proof_fault_words : ProofFault → List ℕ
proof_fault_words (BadLine n) = proof_refusal_words (bad_line n)
proof_fault_words TooManyNodes = proof_refusal_words too_many_nodes
proof_fault_words Trailing = proof_refusal_words trailing
proof_fault_words NoMemory = codes "out of memory"
