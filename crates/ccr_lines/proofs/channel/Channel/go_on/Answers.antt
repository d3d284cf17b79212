use Rattle.std.proofs.Common.{◌∙◌, sym}
use Rattle.ccr_lines.proofs.Calling.{given_stops}
use Rattle.ccr_lines.proofs.channel.Channel.go_on.Goals as goal

pub returns-clause-stopped : goal.returns-clause-stopped
returns-clause-stopped g c =
    λ answered _. given_stops c.args.bytes.now c.args.self.now.noted.calls.list c.give.new.self.noted.calls.list
    (sym answered ∙ c.if-self.false) c.give.ensures.calls
