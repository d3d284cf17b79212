-- Refutation trees, without where they lie in memory.
use Rattle.std.specs.Prelude.{ℕ, suc, ◌+◌, max, Bool, true, false, ◌||◌, List, [], ◌∷◌}
use Rattle.ccr_proof.specs.declared.node.Node.{Node, Empty, Bounded, Same, Job', Row_of-Node, end_of-Node, more_of-Node}

-- A tree: a case for each build of a job, or an input without a possible place, or places that are no better than the
-- claim's, or, below a job, the same case as an earlier child's.
mutual
  pub data Tree : Type 0 where
    job : ℕ → Trees → Tree
    empty : ℕ → Tree
    bounded : Tree
    same_as : ℕ → Tree

  pub data Trees : Type 0 where
    no_child : Trees
    child : Tree → Trees → Trees

-- How many children there are.
abbrev pub width : Trees → ℕ
width no_child = 0
width (child t ts) = suc (width ts)

-- How many nodes a tree has.
abbrev mutual
  pub count : Tree → ℕ
  count (job j ts) = suc (count_all ts)
  count (empty i) = 1
  count bounded = 1
  count (same_as q) = 1

  pub count_all : Trees → ℕ
  count_all no_child = 0
  count_all (child t ts) = count t + count_all ts

-- A child that is the same as another.
abbrev pub is_same : Tree → Bool
is_same (same_as q) = true
is_same (job j ts) = false
is_same (empty i) = false
is_same bounded = false

-- Of each child whether it is the same as another.
abbrev pub are_same : Trees → List Bool
are_same no_child = []
are_same (child t ts) = is_same t ∷ are_same ts

-- Some node of a tree is the same as another.
abbrev mutual
  pub has_same : Tree → Bool
  has_same (job j ts) = have_same ts
  has_same (empty i) = false
  has_same bounded = false
  has_same (same_as q) = true

  pub have_same : Trees → Bool
  have_same no_child = false
  have_same (child t ts) = has_same t || have_same ts

-- How many job nodes lie below one another at the most: the deepest one has this depth, less one, where the root's is
-- 0.
abbrev mutual
  pub levels : Tree → ℕ
  levels (job j ts) = suc (levels_all ts)
  levels (empty i) = 0
  levels bounded = 0
  levels (same_as q) = 0

  pub levels_all : Trees → ℕ
  levels_all no_child = 0
  levels_all (child t ts) = max (levels t) (levels_all ts)

-- The tree that a node is the root of.
abbrev mutual
  pub tree_of : Node → Tree
  tree_of (Job' j shape children) = job j (trees_of_row children)
  tree_of (Empty i) = empty i
  tree_of Bounded = bounded
  tree_of (Same q) = same_as q

  pub trees_of_row : {m : _} → Row_of-Node m → Trees
  trees_of_row end_of-Node = no_child
  trees_of_row (more_of-Node c rest) = child (tree_of c) (trees_of_row rest)

-- The trees that these nodes are the roots of.
abbrev pub trees_of : List Node → Trees
trees_of [] = no_child
trees_of (c ∷ cs) = child (tree_of c) (trees_of cs)
