use Rattle.std.proofs.Common.{◌+◌, ◌/◌}
use Rattle.std.proofs.Math.Nat.{mod-add-div'}
use Rattle.ccr_history.proofs.tally.Tally.note.Goals as goal

pub returns-clause-counted : goal.returns-clause-counted
returns-clause-counted c = (
  (c.args.self.now.commits + 1) / 18446744073709551616,
  mod-add-div' (c.args.self.now.commits + 1) 18446744073709551616,
)
