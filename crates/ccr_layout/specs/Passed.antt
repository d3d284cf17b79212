-- Edges from job to job: a version that the one gets has to have passed the other.
use Rattle.std.specs.Prelude.{◌≡◌, ℕ, zero, suc, ◌<◌, ◌⊎◌, List, length, map, slice_index_or, Contains, false}
use Rattle.std.specs.declared.vec.Vec.{Vec}
use Rattle.ccr_layout.specs.declared.graph.Kind.{Kind}
use Rattle.ccr_layout.specs.declared.graph.Kind.TheVariants.{Resource}
use Rattle.ccr_layout.specs.declared.graph.Node.{Node}
use Rattle.ccr_layout.specs.declared.graph.Edge.{Edge}
use Rattle.ccr_layout.specs.Nodes.{IsJob, IsResource}
use Rattle.ccr_layout.specs.Layers.{named_in}

-- What a node stands for, by its position: there is nothing but resources past the end.
abbrev pub kind_in : List Node → ℕ → Kind
kind_in nodes k = slice_index_or (map (λ n. n.kind) nodes) k Resource

-- An edge, by its position.
abbrev pub edge_in : List Edge → ℕ → Edge
edge_in edges k = slice_index_or edges k (record { source = 0; target = 0; port = 0; trigger = false })

-- An edge leads from a job to a job.
abbrev pub IsPassed : List Node → Edge → Type 0
IsPassed nodes e = IsJob (kind_in nodes e.source) × IsJob (kind_in nodes e.target)

-- So many edges from job to job lead, one after another, from one node to another.
abbrev pub Follows : List Node → List Edge → ℕ → ℕ → ℕ → Type 0
Follows nodes edges zero s t = t ≡ s
Follows nodes edges (suc n) s t = (k : ℕ) × ((k < length edges) × IsPassed nodes (edge_in edges k)
    × ((edge_in edges k).target ≡ t) × Follows nodes edges n s (edge_in edges k).source)

-- Jobs wait for each other in a circle, and this node is one of them.
abbrev pub IsOnCycle : List Node → List Edge → ℕ → Type 0
IsOnCycle nodes edges t = (n : ℕ) × Follows nodes edges (suc n) t t

-- A job gets this resource.
abbrev pub IsGotten : List Node → List Edge → ℕ → Type 0
IsGotten nodes edges r = (k : ℕ) × ((k < length edges) × ((edge_in edges k).source ≡ r)
    × IsJob (kind_in nodes (edge_in edges k).target))

-- The source and the target of an edge are nodes.
abbrev pub IsWithin : List Node → Edge → Type 0
IsWithin nodes e = (e.source < length nodes) × (e.target < length nodes)

-- WHICH WAY EDGES LEAD: one from a job to a job to a later column, unless its target lies on a cycle; one from a resource to a job
-- to a later column; one from a job to a resource too, unless a job gets that resource.
pub record LeadOn (nodes : List Node) (edges : List Edge) (column : ℕ → ℕ) : Type 0 where
  pub passed : (k : ℕ) → k < length edges → IsWithin nodes (edge_in edges k) → IsPassed nodes (edge_in edges k)
      → (column (edge_in edges k).source < column (edge_in edges k).target) ⊎ IsOnCycle nodes edges (edge_in edges k).target
  pub gets : (k : ℕ) → k < length edges → IsWithin nodes (edge_in edges k)
      → IsResource (kind_in nodes (edge_in edges k).source) → IsJob (kind_in nodes (edge_in edges k).target)
      → column (edge_in edges k).source < column (edge_in edges k).target
  pub puts : (k : ℕ) → k < length edges → IsWithin nodes (edge_in edges k)
      → IsJob (kind_in nodes (edge_in edges k).source) → IsResource (kind_in nodes (edge_in edges k).target)
      → (column (edge_in edges k).source < column (edge_in edges k).target) ⊎ IsGotten nodes edges (edge_in edges k).target

-- Of so many edges from job to job, the targets name the sources, and no node names another.
pub record AreNamed {A : Type 0} (nodes : List Node) (edges : List Edge) (count : ℕ) (named : List (Vec ℕ A)) : Type 0 where
  pub long : length named ≡ length nodes
  pub all : (k : ℕ) → k < count → IsPassed nodes (edge_in edges k) → (edge_in edges k).target < length nodes
      → Contains (named_in named (edge_in edges k).target) (edge_in edges k).source
  pub only : (t s : ℕ) → Contains (named_in named t) s → (k : ℕ) × ((k < length edges)
      × IsPassed nodes (edge_in edges k) × ((edge_in edges k).source ≡ s) × ((edge_in edges k).target ≡ t))
