use Rattle.std.proofs.Common.{map, take}
use Rattle.ccr_explain.specs.Cut.{is_of_use, build_in, AreThose}
use Rattle.ccr_explain.proofs.useful.useful_among.Given as goal

abbrev pub invariant-loop-k : goal.invariant-loop-k
invariant-loop-k l = AreThose (is_of_use l.inputs l.job) l.rows.builds (take l.k-index (map (build_in l.rows.builds) l.builds)) l.useful.items
