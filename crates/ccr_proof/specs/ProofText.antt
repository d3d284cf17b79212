-- The text of a proof: how it is written, and how it is read from the first line to the last.
use Rattle.std.specs.Prelude.{◌≡◌, ℕ, zero, suc, ◌+◌, ◌-◌, List, [], ◌∷◌, ◌++◌, length, ◌==◌, ◌||◌, nat_le, Option, Some, None, Result, Ok, Err, if◌then◌else◌}
use Rattle.ccr_choice.specs.declared.word.Word.{Word}
use Rattle.ccr_choice.specs.declared.word.Word.TheVariants as word
use Rattle.ccr_choice.specs.Text.{text_of, lines_of}
use Rattle.ccr_choice.specs.Reading.{◌>>=◌, keep_if, one_line}
use Rattle.ccr_proof.specs.declared.claim.Claim.{Claim}
use Rattle.ccr_proof.specs.declared.proof.TheConstants.{MOST_NODES, MOST_LEVELS}
use Rattle.ccr_proof.specs.declared.format.TheConstants.{PROOF_FORMAT, SAME_FORMAT}
use Rattle.ccr_proof.specs.declared.fault.ProofFault.{ProofFault}
use Rattle.ccr_proof.specs.declared.fault.ProofFault.TheVariants.{BadLine, TooManyNodes, Trailing, NoMemory}
use Rattle.ccr_proof.specs.declared.proof_read.NodeLine.{NodeLine}
use Rattle.ccr_proof.specs.declared.proof_read.NodeLine.TheVariants as line
use Rattle.ccr_proof.specs.ClaimText.{claim_line, next_claim}
use Rattle.ccr_proof.specs.Halts.{left, too_many, NodeRead, of_lines}
use Rattle.ccr_proof.specs.Tree.{Tree, Trees, job, empty, bounded, same_as, no_child, child, width, count, has_same}
use Rattle.ccr_proof.specs.Proof.{IsProof}

-- ---- writing
-- A tree in preorder, one node a line: `job J K` with K children, whose trees follow; `empty I`; `bounded`; `same Q`.
abbrev mutual
  pub tree_lines : Tree → List (List Word)
  tree_lines (job j ts) = (word.Job ∷ word.Number j ∷ word.Number (width ts) ∷ []) ∷ trees_lines ts
  tree_lines (empty i) = (word.Empty ∷ word.Number i ∷ []) ∷ []
  tree_lines bounded = (word.Bounded ∷ []) ∷ []
  tree_lines (same_as q) = (word.Same ∷ word.Number q ∷ []) ∷ []

  pub trees_lines : Trees → List (List Word)
  trees_lines no_child = []
  trees_lines (child t ts) = tree_lines t ++ trees_lines ts

-- A tree in which a child is the same as another is written in format 2, every other one in format 1.
abbrev pub format_of : Tree → ℕ
format_of t = if has_same t then SAME_FORMAT else PROOF_FORMAT

-- `proof 1` or `proof 2`, the claim's line, and the lines of the tree
abbrev pub proof_lines : Claim × Tree → List (List Word)
proof_lines x = (word.Proof ∷ word.Number (format_of x.1) ∷ []) ∷ claim_line x.0 ∷ tree_lines x.1

-- The one text of a claim with a tree.
abbrev pub proof_text : Claim → Tree → List ℕ
proof_text c t = text_of (proof_lines (c, t))

-- ---- reading
abbrev pub proof_number : List Word → Option ℕ
proof_number (word.Proof ∷ word.Number n ∷ []) = Some n
proof_number ws = None

abbrev pub proof_head : List Word → Option ℕ
proof_head ws = keep_if (λ n. n == PROOF_FORMAT || n == SAME_FORMAT) (proof_number ws)

-- What a node's line says, in this format.
unfoldable pub node_on : ℕ → List Word → Option NodeLine
node_on format (word.Job ∷ word.Number j ∷ word.Number k ∷ []) =
    if nat_le k MOST_NODES then Some (line.Job j k) else None
node_on format (word.Empty ∷ word.Number i ∷ []) = Some (line.Empty i)
node_on format (word.Bounded ∷ []) = Some line.Bounded
node_on format (word.Same ∷ word.Number q ∷ []) = if format == SAME_FORMAT then Some (line.Same q) else None
node_on format ws = None

abbrev pub by_line : Option NodeLine → List (List Word) → (ℕ → ℕ → List (List Word) → NodeRead Tree) → NodeRead Tree
by_line None ls children = Err (left (suc (length ls)))
by_line (Some (line.Job j k)) ls children = children j k ls
by_line (Some (line.Empty i)) ls children = Ok (empty i, ls)
by_line (Some line.Bounded) ls children = Ok (bounded, ls)
by_line (Some (line.Same q)) ls children = Ok (same_as q, ls)

-- a node on the next line, with what is read where it has children
abbrev pub next_node : ℕ → List (List Word) → (ℕ → ℕ → List (List Word) → NodeRead Tree) → NodeRead Tree
next_node format [] children = Err (left 0)
next_node format (l ∷ ls) children = by_line (node_on format l) ls children

-- so many trees, where so many nodes were read before
abbrev pub next_children : (ℕ → List (List Word) → NodeRead Tree) → ℕ → ℕ → List (List Word) → NodeRead Trees
next_children item zero nodes ls = Ok (no_child, ls)
next_children item (suc k) nodes ls = do
  t ← item nodes ls
  ts ← next_children item k (nodes + count t.0) t.1
  Ok (child t.0 ts.0, ts.1)

-- A tree with so many levels of job nodes at the most, in this format, where so many nodes were read before.
abbrev pub next_tree : ℕ → ℕ → ℕ → List (List Word) → NodeRead Tree
next_tree format zero nodes ls =
    if nat_le MOST_NODES nodes then Err too_many else next_node format ls (λ j k after. Err (left (suc (length after))))
next_tree format (suc levels) nodes ls =
    if nat_le MOST_NODES nodes then Err too_many
    else next_node format ls
    (λ j k after. next_children (next_tree format levels) k (nodes + 1) after >>= λ ts. Ok (job j ts.0, ts.1))

-- A whole tree in this format. One of format 2 in which no child is the same as another is bad at its last line.
abbrev pub of_format : ℕ → Tree × List (List Word) → NodeRead Tree
of_format format t = if format == format_of t.0 then Ok t else Err (left (suc (length t.1)))

abbrev pub next_whole : ℕ → List (List Word) → NodeRead Tree
next_whole format ls = next_tree format MOST_LEVELS 0 ls >>= of_format format

unfoldable pub next_proof : List (List Word) → NodeRead (Claim × Tree)
next_proof ls = do
  head ← of_lines (one_line proof_head ls)
  claim ← of_lines (next_claim head.1)
  tree ← next_whole head.0 claim.1
  Ok ((claim.0, tree.0), tree.1)

-- Why a proof's text is refused: the first line, counted from 1, that breaks a rule, lacks its line feed or is missing;
-- a node beyond the last that a tree may have; or more bytes behind the last line.
pub data ProofRefusal : Type 0 where
  bad_line : ℕ → ProofRefusal
  too_many_nodes : ProofRefusal
  trailing : ProofRefusal

-- The whole text is read, and nothing is left.
abbrev pub whole_proof : ℕ → NodeRead (Claim × Tree) → Result (Claim × Tree) ProofRefusal
whole_proof lines (Ok x) = if length x.1 == 0 then Ok x.0 else Err trailing
whole_proof lines (Err (left k)) = Err (bad_line (lines + 1 - k))
whole_proof lines (Err too_many) = Err too_many_nodes

-- The claim and the tree that a text stands for, or why it stands for none: from the top, the first line that breaks a
-- rule, lacks its line feed or is missing, or a node beyond the last that a tree may have, or more than a proof.
unfoldable pub proof_in : List ℕ → Result (Claim × Tree) ProofRefusal
proof_in bytes = whole_proof (length (lines_of bytes)) (next_proof (lines_of bytes))

-- ---- what is said of a reader's answer
-- The fault says why reading refuses, unless memory ran out.
abbrev pub IsProofFault : {Y : Type 0} → ProofFault → Result Y ProofRefusal → Type 0
IsProofFault NoMemory read = Unit {0}
IsProofFault (BadLine n) read = read ≡ Err (bad_line n)
IsProofFault TooManyNodes read = read ≡ Err too_many_nodes
IsProofFault Trailing read = read ≡ Err trailing

-- No proof's text goes on where this one ends.
abbrev pub NothingFollows : List ℕ → Type 0
NothingFollows bytes = (c : Claim) (t : Tree) (more : List ℕ) → IsProof c t → proof_text c t ≡ bytes ++ more → more ≡ []
