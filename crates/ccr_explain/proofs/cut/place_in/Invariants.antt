use Rattle.std.proofs.Common.{◌≡◌, ◌+◌, drop}
use Rattle.ccr_explain.specs.Cut.{place_in}
use Rattle.ccr_explain.proofs.cut.place_in.Given as goal

abbrev pub invariant-loop-m : goal.invariant-loop-m
invariant-loop-m l = record {
  counted : l.before ≡ l.m-index;
  left : l.before + place_in (drop l.m-index l.order) l.job ≡ place_in l.order l.job;
}
