use Rattle.std.proofs.Common.{◌≡◌, drop}
use Rattle.ccr_page.specs.Builds.{has_rest}
use Rattle.ccr_page.proofs.build.has_rest.Given as goal

abbrev pub invariant-loop-row : goal.invariant-loop-row
invariant-loop-row l = has_rest (drop l.row-index l.rows) ≡ has_rest l.rows
