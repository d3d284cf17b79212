-- The picture's graph: what is written in the boxes, and how wide they are.
use Rattle.std.specs.Prelude.{ℕ, ◌+◌, ◌-◌, ◌*◌, ◌/◌, List, [], ◌∷◌, ◌++◌, length, map, min, max, Bool, true, false, if◌then◌else◌, Option, Some, None, String, codes, decimal, string_bytes}
use Rattle.std.specs.declared.alloc.Global.{Global}
use Rattle.ccr_layout.specs.declared.graph.Kind.{Kind}
use Rattle.ccr_layout.specs.declared.graph.Kind.TheVariants as kinds
use Rattle.ccr_layout.specs.declared.graph.Node.{Node}
use Rattle.ccr_layout.specs.declared.graph.Edge.{Edge}
use Rattle.ccr_page.specs.Texts.{Text, units}
use Rattle.ccr_page.specs.Statuses.{is_same, status_text}
use Rattle.ccr_page.specs.Pieces.{PieceData, Markup, Cut, Number, Standing}
use Rattle.ccr_page.specs.declared.status.Status.{Status}
use Rattle.ccr_page.specs.declared.status.Status.TheVariants.{Missing}
use Rattle.ccr_page.specs.declared.data.Version.{Version}
use Rattle.ccr_page.specs.declared.data.Port.{Port}
use Rattle.ccr_page.specs.declared.data.Job.{Job}
use Rattle.ccr_page.specs.declared.data.Resource.{Resource}
use Rattle.ccr_page.specs.declared.data.Arrow.{Arrow}
use Rattle.ccr_page.specs.declared.data.Page.{Page}

-- ---- the second line of a box
-- What is written below a resource's name: its pin, or its newest version.
abbrev pub below_resource : Option (String Global) → Option Version → List PieceData
below_resource (Some pin) newest = Markup (codes "pinned ") ∷ Cut (string_bytes pin) 15 ∷ []
below_resource None (Some v) = Cut (string_bytes v.short) 18 ∷ []
below_resource None None = Markup (codes "no versions") ∷ []

-- How many units wide that is: a text that is cut, with its ellipsis, is a unit wider than it may be.
abbrev pub resource_units : Option (String Global) → Option Version → ℕ
resource_units (Some pin) newest = 7 + min (units (string_bytes pin)) 16
resource_units None (Some v) = min (units (string_bytes v.short)) 19
resource_units None None = 11

-- What is written below a job's name: the number of its newest build and how that stands.
abbrev pub below_job : Status → ℕ → List PieceData
below_job s n =
    if is_same Missing s then Markup (codes "no builds") ∷ [] else Number n ∷ Markup (codes " ") ∷ Standing s ∷ []

-- How many units wide that is.
abbrev pub job_units : Status → ℕ → ℕ
job_units s n = if is_same Missing s then 9 else length (decimal n) + 1 + length (status_text s)

-- ---- the graph
-- A box, without where it lies in memory.
pub record NodeData : Type 0 where
  pub kind : Kind
  pub width : ℕ
  pub tabs : List (Option ℕ)

-- What a value of the layout's type stands for.
abbrev pub node_data : Node → NodeData
node_data n = record { kind = n.kind; width = n.width; tabs = n.tabs.items }

-- How wide a box is, in pixels: a letter of the name has 8, one below it a sixth less.
abbrev pub box_width : ℕ → ℕ → ℕ
box_width name below = 8 * max (max (min name 21) (below - below / 6)) 8 + 20

-- How wide the tab of a port is, in pixels, if it has one.
abbrev pub tab_width : Port → Option ℕ
tab_width port = if port.is_passed then Some (7 * min (units (string_bytes port.resource)) 14 + 12) else None

-- The box of a resource.
abbrev pub resource_node : Resource → NodeData
resource_node r = record {
  kind = kinds.Resource;
  width = box_width (units (string_bytes r.name)) (resource_units r.pin r.newest);
  tabs = [];
}

-- The box of a job.
abbrev pub job_node : Job → NodeData
job_node j = record {
  kind = kinds.Job;
  width = box_width (units (string_bytes j.name)) (job_units j.status j.number);
  tabs = map tab_width j.ports.items;
}

-- THE BOXES: resources, then jobs.
abbrev pub nodes_of : Page → List NodeData
nodes_of p = map resource_node p.resources.items ++ map job_node p.jobs.items

-- A line, as the layout has it.
abbrev pub edge_of : Arrow → Edge
edge_of a = record { source = a.source; target = a.target; port = a.port; trigger = a.trigger }

-- THE LINES.
abbrev pub edges_of : Page → List Edge
edges_of p = map edge_of p.arrows.items
