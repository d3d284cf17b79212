-- What a picture of a graph has to be.
use Rattle.std.specs.Prelude.{◌≡◌, ◌≢◌, ℕ, ◌+◌, ◌-◌, ◌*◌, ◌/◌, ◌<◌, ◌≤◌, ◌⊎◌, List, length, map, min, Option, Some, None, true, slice_index_or, is_some, if◌then◌else◌, AllPairs, Contains}
use Rattle.ccr_layout.specs.declared.graph.Node.{Node}
use Rattle.ccr_layout.specs.declared.graph.Edge.{Edge}
use Rattle.ccr_layout.specs.declared.picture.Point.{Point}
use Rattle.ccr_layout.specs.declared.picture.NodeBox.{NodeBox}
use Rattle.ccr_layout.specs.declared.picture.Tab.{Tab}
use Rattle.ccr_layout.specs.declared.picture.Slot.{Slot}
use Rattle.ccr_layout.specs.declared.picture.Path.{Path}
use Rattle.ccr_layout.specs.declared.picture.Path.TheVariants.{Forward, Back}
use Rattle.ccr_layout.specs.declared.picture.Picture.{Picture}
use Rattle.ccr_layout.specs.Nodes.{IsJob, height_of, first_port_of, job_count}
use Rattle.ccr_layout.specs.Ends.{tab_in}
use Rattle.ccr_layout.specs.Passed.{kind_in, edge_in, IsWithin, LeadOn}

-- The box of a node, by its position.
abbrev pub box_in : List NodeBox → ℕ → NodeBox
box_in boxes k = slice_index_or boxes k (record { column = 0; left = 0; top = 0; width = 0; height = 0 })

-- One box ends at least 12 above the other.
abbrev pub IsAbove : NodeBox → NodeBox → Type 0
IsAbove a b = a.top + a.height + 12 ≤ b.top

-- EACH NODE IS DRAWN ONCE, as high as its ports want, and as wide as it is to be; boxes of one column lie over one another, columns beside each other, and none ends
-- beyond 900,000 or below 10,301,010. Edges lead to later columns, but those that close a cycle, and those to a resource that is gotten.
pub record AreBoxes (nodes : List Node) (edges : List Edge) (boxes : List NodeBox) : Type 0 where
  pub once : length boxes ≡ length nodes
  pub high : (k : ℕ) (d : Node) → k < length nodes
      → (box_in boxes k).height ≡ height_of (slice_index_or nodes k d).kind (slice_index_or nodes k d).tabs.items
  pub wide : (k : ℕ) (d : Node) → k < length nodes → min (slice_index_or nodes k d).width 1000 ≤ (box_in boxes k).width
  pub apart : (i j : ℕ) → i < length boxes → j < length boxes → i ≢ j → (box_in boxes i).column ≡ (box_in boxes j).column
      → IsAbove (box_in boxes i) (box_in boxes j) ⊎ IsAbove (box_in boxes j) (box_in boxes i)
  pub beside : (i j : ℕ) → i < length boxes → j < length boxes → (box_in boxes i).column < (box_in boxes j).column
      → (box_in boxes i).left + (box_in boxes i).width + 46 ≤ (box_in boxes j).left
  pub lead : LeadOn nodes edges (λ k. (box_in boxes k).column)
  pub across : (k : ℕ) → k < length boxes → (box_in boxes k).left + (box_in boxes k).width ≤ 900000
  pub down : (k : ℕ) → k < length boxes → (box_in boxes k).top + (box_in boxes k).height ≤ 10301010

-- A TAB lies at the left of its node's box, with the port in its middle, as wide as it is to be, right of each earlier column; and beside
-- the box of a job, in its height.
pub record IsTab (nodes : List Node) (boxes : List NodeBox) (t : Tab) : Type 0 where
  pub within : t.node < length nodes
  pub has : is_some (tab_in nodes t.node t.port) ≡ true
  pub beside : t.left + t.width ≡ (box_in boxes t.node).left
  pub middle : (d : Node) → t.top + 9 ≡ (box_in boxes t.node).top
      + first_port_of (slice_index_or nodes t.node d).kind (slice_index_or nodes t.node d).tabs.items + 22 * min t.port 32
  pub high : t.height ≡ 18
  pub wide : (w : ℕ) → tab_in nodes t.node t.port ≡ Some w → min w 1000 ≤ t.width
  pub after : (i : ℕ) → i < length boxes → (box_in boxes i).column < (box_in boxes t.node).column
      → (box_in boxes i).left + (box_in boxes i).width + 46 ≤ t.left
  pub inside : IsJob (kind_in nodes t.node) → t.port < 32
      → ((box_in boxes t.node).top ≤ t.top) × (t.top + 18 ≤ (box_in boxes t.node).top + (box_in boxes t.node).height)

-- EACH PORT WITH A TAB HAS ONE, in the order of nodes and ports.
pub record AreTabs (nodes : List Node) (boxes : List NodeBox) (tabs : List Tab) : Type 0 where
  pub each : (t : Tab) → Contains tabs t → IsTab nodes boxes t
  pub all : (k p : ℕ) → k < length nodes → is_some (tab_in nodes k p) ≡ true
      → (t : Tab) × (Contains tabs t × (t.node ≡ k) × (t.port ≡ p))
  pub order : AllPairs (λ s t. (s.node < t.node) ⊎ ((s.node ≡ t.node) × (s.port < t.port))) tabs

-- A point at which the line of a node leaves a column: the middle of the right side of its box, or the right end of its slot.
abbrev pub Leaves : List NodeBox → List Slot → ℕ → ℕ → Point → Type 0
Leaves boxes slots node column p =
    let b : NodeBox = box_in boxes node in
    ((b.column ≡ column) × (p.x ≡ b.left + b.width) × (p.y ≡ b.top + b.height / 2))
    ⊎ ((s : Slot) × (Contains slots s × (s.node ≡ node) × (s.column ≡ column) × (p.x ≡ s.right) × (p.y ≡ s.top)))

-- THE SLOTS: each lies in a later column than its node's box, begins where the node's line leaves the column before, and lies apart from
-- the boxes of its column and from the other nodes' slots there. None is there twice.
pub record AreSlots (boxes : List NodeBox) (slots : List Slot) : Type 0 where
  pub within : (s : Slot) → Contains slots s → s.node < length boxes
  pub order : AllPairs (λ s t. (s.node < t.node) ⊎ ((s.node ≡ t.node) × (s.column < t.column))) slots
  pub joined : (s : Slot) → Contains slots s → Leaves boxes slots s.node (s.column - 1) s.from
  pub later : (s : Slot) → Contains slots s → (box_in boxes s.node).column < s.column
  pub clear : (s : Slot) (k : ℕ) → Contains slots s → k < length boxes → (box_in boxes k).column ≡ s.column
      → (s.top + 12 ≤ (box_in boxes k).top) ⊎ ((box_in boxes k).top + (box_in boxes k).height + 12 ≤ s.top)
  pub apart : (s t : Slot) → Contains slots s → Contains slots t → s.node ≢ t.node → s.column ≡ t.column
      → (s.top + 12 ≤ t.top) ⊎ (t.top + 12 ≤ s.top)

-- Where an edge ends: at the height of its port, at the tab if it has one, and else at the box.
abbrev pub Arrives : List Node → List NodeBox → Edge → Point → ℕ → Type 0
Arrives nodes boxes e bend end =
    let b : NodeBox = box_in boxes e.target in
    ((d : Node) → e.target < length nodes → bend.y ≡ b.top
    + first_port_of (slice_index_or nodes e.target d).kind (slice_index_or nodes e.target d).tabs.items + 22 * min e.port 32)
    × (bend.x ≤ b.left) × (end ≡ (if is_some (tab_in nodes e.target e.port) then bend.x else b.left))

-- The way of an edge: forward from where its source's line leaves the column before its target's, and back, by the lane, from its
-- source's box.
abbrev pub IsPath : List Node → List NodeBox → List Slot → Edge → Path → Type 0
IsPath nodes boxes slots e (Forward from bend end) =
    ((box_in boxes e.source).column < (box_in boxes e.target).column)
    × Leaves boxes slots e.source ((box_in boxes e.target).column - 1) from
    × Arrives nodes boxes e bend end
IsPath nodes boxes slots e (Back from lane bend end) =
    ((box_in boxes e.target).column ≤ (box_in boxes e.source).column)
    × Leaves boxes slots e.source (box_in boxes e.source).column from
    × Arrives nodes boxes e bend end

-- EACH EDGE HAS ONE PATH, in the order of the edges.
pub record ArePaths (nodes : List Node) (edges : List Edge) (boxes : List NodeBox) (slots : List Slot) (paths : List Path) : Type 0 where
  pub once : length paths ≡ length edges
  pub each : (k : ℕ) (e : Edge) (d : Path) → k < length edges → (slice_index_or edges k e).source < length nodes
      → (slice_index_or edges k e).target < length nodes
      → IsPath nodes boxes slots (slice_index_or edges k e) (slice_index_or paths k d)

-- The lane of a path, if it leads back.
abbrev pub lane_of : Path → Option ℕ
lane_of (Forward from bend end) = None
lane_of (Back from lane bend end) = Some lane

-- The lane of the path at a position, if it leads back.
abbrev pub lane_at : List Path → ℕ → Option ℕ
lane_at paths k = slice_index_or (map lane_of paths) k None

-- THE LANES lie below all boxes and slots, and within the picture; edges that lead back to one node share a lane, and those to different
-- nodes have lanes that are 14 apart.
pub record AreLow (nodes : List Node) (edges : List Edge) (boxes : List NodeBox) (slots : List Slot) (paths : List Path) (height : ℕ) : Type 0 where
  pub below_boxes : (k l i : ℕ) → k < length edges → IsWithin nodes (edge_in edges k) → lane_at paths k ≡ Some l → i < length boxes
      → (box_in boxes i).top + (box_in boxes i).height + 16 ≤ l
  pub below_slots : (k l : ℕ) (s : Slot) → k < length edges → IsWithin nodes (edge_in edges k) → lane_at paths k ≡ Some l → Contains slots s
      → s.top + 16 ≤ l
  pub within : (k l : ℕ) → k < length edges → IsWithin nodes (edge_in edges k) → lane_at paths k ≡ Some l → l + 14 ≤ height
  pub shared : (j k l m : ℕ) → j < length edges → k < length edges → IsWithin nodes (edge_in edges j) → IsWithin nodes (edge_in edges k)
      → lane_at paths j ≡ Some l → lane_at paths k ≡ Some m → (edge_in edges j).target ≡ (edge_in edges k).target → l ≡ m
  pub apart : (j k l m : ℕ) → j < length edges → k < length edges → IsWithin nodes (edge_in edges j) → IsWithin nodes (edge_in edges k)
      → lane_at paths j ≡ Some l → lane_at paths k ≡ Some m → (edge_in edges j).target ≢ (edge_in edges k).target
      → (l + 14 ≤ m) ⊎ (m + 14 ≤ l)

-- THE FRAME is as large as what is drawn in it, with a margin at the right.
pub record IsFramed (boxes : List NodeBox) (slots : List Slot) (width height : ℕ) : Type 0 where
  pub right : (k : ℕ) → k < length boxes → (box_in boxes k).left + (box_in boxes k).width + 40 ≤ width
  pub low : (k : ℕ) → k < length boxes → (box_in boxes k).top + (box_in boxes k).height ≤ height
  pub slots_right : (s : Slot) → Contains slots s → s.right + 40 ≤ width
  pub slots_low : (s : Slot) → Contains slots s → s.top ≤ height

-- HOW MUCH IS DRAWN, and so how long each loop over it is: there are at most three columns more than jobs, and at most one slot for each
-- node and column.
pub record IsBounded (nodes : List Node) (boxes : List NodeBox) (slots : List Slot) : Type 0 where
  pub columns : (k : ℕ) → k < length boxes → (box_in boxes k).column < job_count nodes + 3
  pub slot_columns : (s : Slot) → Contains slots s → s.column < job_count nodes + 3
  pub slot_count : length slots ≤ length nodes * (job_count nodes + 3)

-- THE PICTURE of a graph.
pub record IsPicture (nodes : List Node) (edges : List Edge) (p : Picture) : Type 0 where
  pub boxes_are : AreBoxes nodes edges p.boxes.items
  pub tabs_are : AreTabs nodes p.boxes.items p.tabs.items
  pub slots_are : AreSlots p.boxes.items p.slots.items
  pub paths_are : ArePaths nodes edges p.boxes.items p.slots.items p.paths.items
  pub lanes_are : AreLow nodes edges p.boxes.items p.slots.items p.paths.items p.height
  pub frame_is : IsFramed p.boxes.items p.slots.items p.width p.height
  pub size_is : IsBounded nodes p.boxes.items p.slots.items
