use Rattle.std.proofs.Common.{sym, subst}
use Rattle.ccr_serve.specs.Served.{AfterItems}
use Rattle.ccr_serve.proofs.server.Server.turn.Goals as goal

pub returns-clause-after : goal.returns-clause-after
returns-clause-after g c =
    subst (λ closed. AfterItems g.R.Runner g.S.Shelf g.T.Storage g.O.Lines closed c.take_turn.result c.args.self.now
    c.take_turn.new.self c.args.out.now c.take_turn.new.out) (sym c.if-self.false) c.take_turn.ensures.after
