-- The columns of resources, by the layers of the jobs that get and put them.
use Rattle.std.specs.Prelude.{◌≡◌, ℕ, ◌+◌, ◌<◌, ◌≤◌, List, length, Option, Some, None, slice_index, slice_index_or, All}
use Rattle.ccr_layout.specs.declared.graph.Node.{Node}
use Rattle.ccr_layout.specs.declared.graph.Edge.{Edge}
use Rattle.ccr_layout.specs.Nodes.{IsJob, IsResource}
use Rattle.ccr_layout.specs.Passed.{kind_in, edge_in, IsGotten}

-- For each node a column left of each job that gets it, by so many edges; none where no job does. None lies beyond the last layer.
pub record AreGotten (nodes : List Node) (edges : List Edge) (layers : List ℕ) (count : ℕ) (gotten : List (Option ℕ)) : Type 0 where
  pub long : length gotten ≡ length nodes
  pub least : (k : ℕ) → k < count → IsJob (kind_in nodes (edge_in edges k).target) → (edge_in edges k).source < length nodes
      → (c : ℕ) × ((slice_index_or gotten (edge_in edges k).source None ≡ Some c) × (c ≤ slice_index layers (edge_in edges k).target))
  pub only : (r c : ℕ) → slice_index_or gotten r None ≡ Some c → IsGotten nodes edges r
  pub few : (n r c : ℕ) → All (λ l. l ≤ n) layers → slice_index_or gotten r None ≡ Some c → c ≤ n

-- For each node a column right of each node that puts it, by so many edges, and no column beyond the last, nor over two beyond the last layer.
pub record ArePut (nodes : List Node) (edges : List Edge) (layers : List ℕ) (count : ℕ) (put : List ℕ) : Type 0 where
  pub long : length put ≡ length nodes
  pub greatest : (k : ℕ) → k < count → IsResource (kind_in nodes (edge_in edges k).target) → (edge_in edges k).target < length nodes
      → slice_index layers (edge_in edges k).source + 2 ≤ slice_index put (edge_in edges k).target
  pub low : All (λ c. c ≤ 402) put
  pub few : (n : ℕ) → All (λ l. l ≤ n) layers → All (λ c. c ≤ n + 2) put

-- Where so many nodes stand: a job one column right of its layer, a resource that is gotten no later than it is noted, and any other
-- where it is put. No column lies over two beyond the last layer.
pub record AreStood (nodes : List Node) (layers : List ℕ) (gotten : List (Option ℕ)) (put columns : List ℕ) (count : ℕ) : Type 0 where
  pub long : length columns ≡ count
  pub low : All (λ c. c ≤ 402) columns
  pub few : (n : ℕ) → All (λ l. l ≤ n) layers → All (λ c. c ≤ n + 2) columns
  pub jobs : (k : ℕ) → k < count → IsJob (kind_in nodes k) → slice_index columns k ≡ slice_index layers k + 1
  pub gets : (k : ℕ) → k < count → IsResource (kind_in nodes k) → (c : ℕ) → slice_index_or gotten k None ≡ Some c → slice_index columns k ≤ c
  pub puts : (k : ℕ) → k < count → IsResource (kind_in nodes k) → slice_index_or gotten k None ≡ None → slice_index columns k ≡ slice_index put k
