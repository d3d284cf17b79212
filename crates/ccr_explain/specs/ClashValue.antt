-- A clash, without where it lies in memory.
use Rattle.std.specs.Prelude.{List, Bool}
use Rattle.ccr_explain.specs.declared.demand.Demand.{Demand}

-- Demands, and whether it is known that none of them can be left out.
pub record ClashValue : Type 0 where
  pub demands : List Demand
  pub is_irreducible : Bool
