use Rattle.std.proofs.Common.{◌≡◌, ◌-◌}
use Rattle.ccr_lines.specs.Newest.{is_sought, newest_up_to, newest_of}
use Rattle.ccr_lines.proofs.newest.newest_of.Given as goal

abbrev pub invariant-loop-newer : goal.invariant-loop-newer
invariant-loop-newer l =
    newest_up_to (is_sought l.history l.sought) l.job l.history.builds (l.count - l.newer)
    ≡ newest_of (is_sought l.history l.sought) l.job l.history
