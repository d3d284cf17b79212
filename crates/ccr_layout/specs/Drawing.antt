-- What is drawn where, from where everything stands: spans, the bands of the columns, and the tops of each column.
use Rattle.std.specs.Prelude.{◌≡◌, ℕ, ◌+◌, ◌-◌, ◌*◌, ◌/◌, ◌<◌, ◌≤◌, ◌⊎◌, List, length, min, Bool, true, false, if◌then◌else◌, is_some, slice_index, All, AllPairs, Contains}
use Rattle.std.specs.declared.vec.Vec.{Vec}
use Rattle.ccr_layout.specs.declared.graph.Node.{Node}
use Rattle.ccr_layout.specs.declared.graph.Edge.{Edge}
use Rattle.ccr_layout.specs.declared.span.Span.{Span}
use Rattle.ccr_layout.specs.declared.band.Band.{Band}
use Rattle.ccr_layout.specs.declared.picture.Point.{Point}
use Rattle.ccr_layout.specs.declared.picture.NodeBox.{NodeBox}
use Rattle.ccr_layout.specs.declared.picture.Tab.{Tab}
use Rattle.ccr_layout.specs.declared.picture.Slot.{Slot}
use Rattle.ccr_layout.specs.declared.picture.Path.{Path}
use Rattle.ccr_layout.specs.declared.picture.Path.TheVariants.{Forward, Back}
use Rattle.ccr_layout.specs.Bands.{band_in}
use Rattle.ccr_layout.specs.Ends.{tab_in}
use Rattle.ccr_layout.specs.Spans.{Passes, height_in, span_in}
use Rattle.ccr_layout.specs.Standing.{tops_in}

module _ {A : Type 0} (spans : List Span) (bands : List Band) (tops : List (Vec ℕ A)) where
  -- The right end of a node in a column: at the right of the column, in the middle of its box, or in its slot.
  abbrev pub right_end : ℕ → ℕ → Point
  right_end node c = record {
    x = (band_in bands c).right;
    y = slice_index (tops_in tops c) node + height_in (span_in spans node) c / 2;
  }

  -- The box of a node: as wide as its column without the tabs.
  abbrev pub box_of : ℕ → NodeBox
  box_of node =
      let span : Span = span_in spans node in
      let band : Band = band_in bands span.column in
      record {
        column = span.column;
        left = band.inner;
        top = slice_index (tops_in tops span.column) node;
        width = band.right - band.inner;
        height = span.height;
      }

  -- Where an edge comes to the column of its target: at the left of the column, at the height of its port.
  abbrev pub bend_of : Edge → Point
  bend_of e =
      let span : Span = span_in spans e.target in
      record {
        x = (band_in bands span.column).left;
        y = slice_index (tops_in tops span.column) e.target + span.first_port + 22 * min e.port 32;
      }

  -- The tab of a port: at the left of its node's column, with the port in its middle.
  abbrev pub tab_of : ℕ → ℕ → Tab
  tab_of node port =
      let span : Span = span_in spans node in
      let band : Band = band_in bands span.column in
      record {
        node = node;
        port = port;
        left = band.left;
        top = slice_index (tops_in tops span.column) node + span.first_port + 22 * min port 32 - 9;
        width = band.inner - band.left;
        height = 18;
      }

  -- These are tabs of ports, in the order of nodes and ports, none twice; those of the nodes before this one are all there, and those of
  -- this one before this port.
  pub record HasTabs (nodes : List Node) (node port : ℕ) (tabs : List Tab) : Type 0 where
    pub each : All (λ t. (t ≡ tab_of t.node t.port) × (is_some (tab_in nodes t.node t.port) ≡ true) × (t.node < length nodes)) tabs
    pub early : All (λ t. (t.node < node) ⊎ ((t.node ≡ node) × (t.port < port))) tabs
    pub order : AllPairs (λ s t. (s.node < t.node) ⊎ ((s.node ≡ t.node) × (s.port < t.port))) tabs
    pub before : (k p : ℕ) → k < node → is_some (tab_in nodes k p) ≡ true → Contains tabs (tab_of k p)
    pub here : (p : ℕ) → p < port → is_some (tab_in nodes node p) ≡ true → Contains tabs (tab_of node p)

  -- The slot of a node in a column, with the piece that leads to it from the column before.
  abbrev pub slot_of : ℕ → ℕ → Slot
  slot_of node c = record {
    node = node;
    column = c;
    from = right_end node (c - 1);
    left = (band_in bands c).left;
    right = (band_in bands c).right;
    top = slice_index (tops_in tops c) node;
  }

  -- These are slots of nodes, in the order of nodes and columns, none twice; those of the nodes before this one are all there, and those of
  -- this one before this column.
  pub record HasSlots (node column : ℕ) (slots : List Slot) : Type 0 where
    pub each : All (λ s. (s ≡ slot_of s.node s.column) × Passes (span_in spans s.node) s.column × (s.node < length spans)) slots
    pub early : All (λ s. (s.node < node) ⊎ ((s.node ≡ node) × (s.column < column))) slots
    pub order : AllPairs (λ s t. (s.node < t.node) ⊎ ((s.node ≡ t.node) × (s.column < t.column))) slots
    pub before : (k c : ℕ) → k < node → Passes (span_in spans k) c → Contains slots (slot_of k c)
    pub here : (c : ℕ) → c < column → Passes (span_in spans node) c → Contains slots (slot_of node c)

-- Where an edge ends: at its tab, or else at the box.
abbrev pub end_of : List Node → List Span → List Band → Edge → ℕ
end_of nodes spans bands e =
    let band : Band = band_in bands (span_in spans e.target).column in
    if is_some (tab_in nodes e.target e.port) then band.left else band.inner

-- A way forward, or one back with a lane.
abbrev pub path_of : Point → Point → ℕ → ℕ → Bool → Path
path_of from bend end lane true = Forward from bend end
path_of from bend end lane false = Back from lane bend end

-- The way of an edge: forward to a later column, from the last piece before it, and else back, from the box of its source by the lane of
-- its target.
abbrev pub IsPathOf : {A : Type 0} → List Node → List Span → List Band → List (Vec ℕ A) → List ℕ → Edge → Path → Type 0
IsPathOf nodes spans bands tops lanes e (Forward from bend end) =
    ((span_in spans e.source).column < (span_in spans e.target).column)
    × (from ≡ right_end spans bands tops e.source ((span_in spans e.target).column - 1))
    × (bend ≡ bend_of spans bands tops e) × (end ≡ end_of nodes spans bands e)
IsPathOf nodes spans bands tops lanes e (Back from lane bend end) =
    ((span_in spans e.target).column ≤ (span_in spans e.source).column)
    × (from ≡ right_end spans bands tops e.source (span_in spans e.source).column)
    × (bend ≡ bend_of spans bands tops e) × (end ≡ end_of nodes spans bands e) × (lane ≡ slice_index lanes e.target)
