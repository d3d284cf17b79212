use Rattle.std.proofs.Common.{◌≡◌, ℕ, List, take}
use Rattle.std.specs.List.{list_all}
use Rattle.ccr_explain.specs.Cut.{has_marked, has_place_of}
use Rattle.ccr_explain.proofs.table.tables_of.Given as goal

abbrev pub invariant-loop-input : goal.invariant-loop-input
invariant-loop-input l = (pairs : List (ℕ × ℕ))
    → list_all (λ t. has_marked t pairs) l.tables.items ≡ list_all (λ x. has_place_of x.now pairs) (take l.input-index l.inputs)
