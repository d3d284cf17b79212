-- What is seen of a proof in which no node is the same as another, while it is read.
use Rattle.std.specs.Prelude.{◌≡◌, ℕ, ◌+◌, ◌≤◌, List, [], ◌∷◌, ◌++◌, length, false, Option}
use Rattle.ccr_choice.specs.Problem.{ProblemValue, BuildValue}
use Rattle.ccr_choice.specs.Assignment.{Assignment}
use Rattle.ccr_choice.specs.Preference.{order_of}
use Rattle.ccr_choice.specs.declared.word.Word.{Word}
use Rattle.ccr_choice.specs.declared.word.Word.TheVariants as word
use Rattle.ccr_choice.specs.Text.{text_of}
use Rattle.ccr_proof.specs.declared.claim.Claim.{Claim}
use Rattle.ccr_proof.specs.declared.proof.TheConstants.{MOST_NODES, MOST_LEVELS}
use Rattle.ccr_proof.specs.Tree.{Tree, Trees, width, count, count_all, has_same, have_same, levels, levels_all}
use Rattle.ccr_proof.specs.Proof.{IsProof, IsSmall, AreSmall}
use Rattle.ccr_proof.specs.ProofText.{tree_lines, trees_lines, proof_text}
use Rattle.ccr_proof.specs.Refutes.{Refutes, RefuteEach, IsAccepted}
use Rattle.ccr_check.specs.declared.node_line.NodeLine.{NodeLine}
use Rattle.ccr_check.specs.declared.node_line.NodeLine.TheVariants.{Job, Empty, Bounded}
use Rattle.ccr_check.specs.Fault.{HasBound}

-- the words of a node's line
abbrev pub words_on : NodeLine → List Word
words_on (Job j k) = word.Job ∷ word.Number j ∷ word.Number k ∷ []
words_on (Empty i) = word.Empty ∷ word.Number i ∷ []
words_on Bounded = word.Bounded ∷ []

-- A text begins with that of a tree that refutes: at most so many levels of job nodes, and no node that is the same as
-- another. With its nodes, so many nodes are read as next says, and they aren't too many.
pub record IsCase (p : ProblemValue) (bound : Option (List ℕ)) (a : Assignment) (most nodes next : ℕ) (text rest : List ℕ) : Type 0 where
  pub tree : Tree
  pub begins : text ≡ text_of (tree_lines tree) ++ rest
  pub numbers : IsSmall tree
  pub shallow : levels tree ≤ most
  pub plain : has_same tree ≡ false
  pub counted : next ≡ nodes + count tree
  pub few : next ≤ MOST_NODES
  pub refutes : Refutes (order_of p) p bound a tree

-- A text begins with those of the trees from child k of a node of job j on, one for each of the builds bs, and each of
-- these refutes.
pub record AreCases (p : ProblemValue) (bound : Option (List ℕ)) (a : Assignment) (most j k : ℕ) (bs : List BuildValue) (nodes next : ℕ)
    (text rest : List ℕ) : Type 0 where
  pub trees : Trees
  pub begins : text ≡ text_of (trees_lines trees) ++ rest
  pub numbers : AreSmall trees
  pub shallow : levels_all trees ≤ most
  pub plain : have_same trees ≡ false
  pub counted : next ≡ nodes + count_all trees
  pub each : width trees ≡ length bs
  pub refute : (all : Trees) → RefuteEach (order_of p) p bound a j all k bs trees

-- The text is that of a tree with which a proof of this claim is accepted, and in which no node is the same as another.
pub record IsShown (p : ProblemValue) (c : Claim) (text : List ℕ) : Type 0 where
  pub tree : Tree
  pub whole : text ≡ text_of (tree_lines tree)
  pub numbers : IsSmall tree
  pub shallow : levels tree ≤ MOST_LEVELS
  pub few : count tree ≤ MOST_NODES
  pub plain : has_same tree ≡ false
  pub accepted : IsAccepted (order_of p) p c tree

-- The text is that of a proof of this claim, which is accepted.
pub record IsStreamed (p : ProblemValue) (c : Claim) (text : List ℕ) : Type 0 where
  pub tree : Tree
  pub is_proof : IsProof c tree
  pub whole : text ≡ proof_text c tree
  pub accepted : IsAccepted (order_of p) p c tree
