-- Which way edges lead, by equal columns.
use Rattle.std.proofs.Common.{◌≡◌, ℕ, ◌<◌, List, length, inl, inr, arith}
use Rattle.ccr_layout.specs.declared.graph.Node.{Node}
use Rattle.ccr_layout.specs.declared.graph.Edge.{Edge}
use Rattle.ccr_layout.specs.Passed.{edge_in, LeadOn}

-- edges lead on in columns where they do in columns that are equal
pub lead_same : (nodes : List Node) (edges : List Edge) (f g : ℕ → ℕ) → LeadOn nodes edges f → ((k : ℕ) → k < length nodes → g k ≡ f k) → LeadOn nodes edges g
lead_same nodes edges f g is same = record {
  passed = λ k less w p. elim (is.passed k less w p) [
    | inl h ↦ inl (omega (arith, h, same (edge_in edges k).source w.0, same (edge_in edges k).target w.1))
    | inr c ↦ inr c
  ];
  gets = λ k less w r j. omega (arith, is.gets k less w r j, same (edge_in edges k).source w.0, same (edge_in edges k).target w.1);
  puts = λ k less w j r. elim (is.puts k less w j r) [
    | inl h ↦ inl (omega (arith, h, same (edge_in edges k).source w.0, same (edge_in edges k).target w.1))
    | inr c ↦ inr c
  ];
}
