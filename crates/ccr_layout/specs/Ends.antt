-- Where edges end.
use Rattle.std.specs.Prelude.{ℕ, List, [], map, slice_index_or, Option, None}
use Rattle.ccr_layout.specs.declared.graph.Node.{Node}

-- The width of the tab of a port, if it has one.
abbrev pub tab_in : List Node → ℕ → ℕ → Option ℕ
tab_in nodes k port = slice_index_or (slice_index_or (map (λ n. n.tabs.items) nodes) k []) port None
