-- Nodes: how high their boxes are, and where their ports are.
use Rattle.std.specs.Prelude.{ℕ, ◌+◌, ◌-◌, ◌*◌, ◌/◌, List, length, min, max, count_by, Bool, true, false, Option}
use Rattle.ccr_layout.specs.declared.graph.Kind.{Kind}
use Rattle.ccr_layout.specs.declared.graph.Kind.TheVariants.{Resource, Job}
use Rattle.ccr_layout.specs.declared.graph.Node.{Node}

-- A node of this kind is a job.
abbrev pub IsJob : Kind → Type 0
IsJob Resource = ⊥
IsJob Job = Unit {0}

-- A node of this kind is a resource.
abbrev pub IsResource : Kind → Type 0
IsResource Resource = Unit {0}
IsResource Job = ⊥

-- Whether a node of this kind is a job.
abbrev pub is_job : Kind → Bool
is_job Resource = false
is_job Job = true

-- How many of these nodes are jobs.
abbrev pub job_count : List Node → ℕ
job_count nodes = count_by (λ n. is_job n.kind) nodes

-- How many ports a job has: one for each entry of its tabs, at most 32.
abbrev pub port_count : List (Option ℕ) → ℕ
port_count tabs = min (length tabs) 32

-- How high a box is: a resource 40, a job 22 for each port and 6 more, but at least 46.
abbrev pub height_of : Kind → List (Option ℕ) → ℕ
height_of Resource tabs = 40
height_of Job tabs = max (22 * port_count tabs + 6) 46

-- How far below the top of its box the first port is: the ports of a job are 22 apart, as far from the top as from the bottom.
abbrev pub first_port_of : Kind → List (Option ℕ) → ℕ
first_port_of Resource tabs = 20
first_port_of Job tabs = (height_of Job tabs - 22 * port_count tabs) / 2 + 11
