-- What is said of the answer of `read_proof`.
use Rattle.std.specs.Prelude.{◌≡◌, Result, Ok, Err}
use Rattle.ccr_proof.specs.declared.claim.Claim.{Claim}
use Rattle.ccr_proof.specs.declared.proof.Proof.{Proof}
use Rattle.ccr_proof.specs.declared.fault.ProofFault.{ProofFault}
use Rattle.ccr_proof.specs.declared.fault.ProofFault.TheVariants.{NoMemory}
use Rattle.ccr_proof.specs.Tree.{Tree, tree_of}
use Rattle.ccr_proof.specs.ProofText.{ProofRefusal, IsProofFault}

-- The answer is what reading gives, unless memory ran out.
abbrev pub IsRead : Result Proof ProofFault → Result (Claim × Tree) ProofRefusal → Type 0
IsRead (Ok p) read = read ≡ Ok (p.claim, tree_of p.tree)
IsRead (Err e) read = IsProofFault e read

-- The answer is this claim with this tree, unless memory ran out.
abbrev pub IsReadAs : Result Proof ProofFault → Claim → Tree → Type 0
IsReadAs (Ok p) c t = (p.claim ≡ c) × (tree_of p.tree ≡ t)
IsReadAs (Err e) c t = e ≡ NoMemory
