use Rattle.std.proofs.Common.{sym, subst}
use Rattle.ccr_serve.specs.Served.{AfterItems}
use Rattle.ccr_serve.proofs.server.Server.round.Goals as goal

pub returns-clause-after : goal.returns-clause-after
returns-clause-after g c =
    subst (λ closed. AfterItems g.R.Runner g.S.Shelf g.T.Storage g.O.Lines closed c.go_round.result c.args.self.now
    c.go_round.new.self c.args.out.now c.go_round.new.out) (sym c.if-self.false) c.go_round.ensures.after
