use Rattle.std.proofs.Common.{◌≡◌, ◌≤◌, drop}
use Rattle.ccr_run.specs.Last.{behind_last, last_line}
use Rattle.ccr_run.proofs.last.last_line.Given as goal

abbrev pub invariant-loop-at : goal.invariant-loop-at
invariant-loop-at l =
    (l.begin ≤ l.at) × (last_line l.text ≡ behind_last (drop l.begin l.text) (drop l.at l.text))
