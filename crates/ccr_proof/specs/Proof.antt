-- The limits that every proof keeps.
use Rattle.std.specs.Prelude.{ℕ, ◌<◌, ◌≤◌, ◌^◌, List, [], ◌∷◌}
use Rattle.std.specs.List.{AllByRecursion}
use Rattle.std.specs.Coded.{×_prop, Unit-prop, le_prop}
use Rattle.ccr_proof.specs.declared.claim.Claim.{Claim}
use Rattle.ccr_proof.specs.declared.proof.TheConstants.{MOST_NODES, MOST_LEVELS}
use Rattle.ccr_proof.specs.declared.claim.Claim.TheVariants.{Best, Nothing}
use Rattle.ccr_proof.specs.Claim.{IsClaim}
use Rattle.ccr_proof.specs.Tree.{Tree, Trees, job, empty, bounded, same_as, no_child, child, count, levels}

-- The numbers of a tree's nodes are below 2 ^ 32.
abbrev mutual
  pub IsSmall : Tree → Type 0
  IsSmall (job j ts) = (j < 2 ^ 32) × AreSmall ts
  IsSmall (empty i) = i < 2 ^ 32
  IsSmall bounded = Unit {0}
  IsSmall (same_as q) = q < 2 ^ 32

  pub AreSmall : Trees → Type 0
  AreSmall no_child = Unit {0}
  AreSmall (child t ts) = IsSmall t × AreSmall ts

-- A claim and a tree that make a proof: no list of the claim is long, and the tree has at most 1,000,000 nodes, of
-- which the job nodes have depth at most 31, the root's being 0.
pub record IsProof (c : Claim) (t : Tree) : Type 0 where
  pub claim : IsClaim c
  pub numbers : IsSmall t
  pub few_nodes : count t ≤ MOST_NODES
  pub shallow : levels t ≤ MOST_LEVELS

-- ---- that a claim is short can be shown in one way only
all-prop : (ns : List ℕ) → IsProp (AllByRecursion (λ n. n < 2 ^ 32) ns)
all-prop [] = Unit-prop
all-prop (n ∷ ns) = ×_prop le_prop (all-prop ns)

pub IsClaim-prop : (c : Claim) → IsProp (IsClaim c)
IsClaim-prop Nothing = Unit-prop
IsClaim-prop (Best c) = ×_prop (×_prop le_prop (all-prop c.places)) (×_prop le_prop (all-prop c.builds))
