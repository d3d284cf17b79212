use Rattle.std.proofs.Common.{◌∙◌, Err, ap, refl, string_bytes, subst}
use Rattle.ccr_steps.specs.Asks.{answer_data}
use Rattle.ccr_core.specs.Cores.{core_data}
use Rattle.ccr_core.specs.Events.{answer}
use Rattle.ccr_core.specs.Holding.{TakesStep}
use Rattle.ccr_core.specs.Replies.{Replied}
use Rattle.ccr_serve.specs.Views.{bare_view, Made}
use Rattle.ccr_serve.proofs.Again.{gives_again, unmade_again}
use Rattle.ccr_serve.proofs.NotesTold.{fault_own}
use Rattle.ccr_serve.proofs.server.Server.give.Goals as goal

pub returns-in-Ok-Err-TableFull-clause-gives : goal.returns-in-Ok-Err-TableFull-clause-gives
returns-in-Ok-Err-TableFull-clause-gives g c =
    let view = bare_view g.R.Runner g.S.Shelf g.T.Storage in
    let full_is = c.in-Ok-Err-TableFull.field-0-is ∙ ap (λ f. Err f) c.in-Ok-Err-TableFull.field-0-0-is in
    gives_again (string_bytes c.args.names.0) (string_bytes c.args.names.1) c.args.number c.args.turn
    (answer_data c.args.answered) (view c.args.self.now) (view c.make.new.self) (view c.give_errored.new.self)
    c.give_errored.result
    (subst (λ (r : Replied). Made (answer (string_bytes c.args.names.0) c.args.number c.args.turn (answer_data c.args.answered)) r
    (view c.args.self.now) (view c.make.new.self)) full_is c.in-Ok-Err-TableFull.ensures.made)
    c.requires.same c.give_errored.ensures.made

pub returns-in-Ok-Err-TableFull-clause-unmade : goal.returns-in-Ok-Err-TableFull-clause-unmade
returns-in-Ok-Err-TableFull-clause-unmade g c =
    let view = bare_view g.R.Runner g.S.Shelf g.T.Storage in
    let full_is = c.in-Ok-Err-TableFull.field-0-is ∙ ap (λ f. Err f) c.in-Ok-Err-TableFull.field-0-0-is in
    unmade_again (string_bytes c.args.names.0) (string_bytes c.args.names.1) c.args.number c.args.turn
    (answer_data c.args.answered) (view c.args.self.now) (view c.make.new.self) (view c.give_errored.new.self)
    c.give_errored.result
    (subst (λ (r : Replied). Made (answer (string_bytes c.args.names.0) c.args.number c.args.turn (answer_data c.args.answered)) r
    (view c.args.self.now) (view c.make.new.self)) full_is c.in-Ok-Err-TableFull.ensures.made)
    c.requires.same c.give_errored.ensures.unmade

pub returns-in-Ok-Ok-clause-fault : goal.returns-in-Ok-Ok-clause-fault
returns-in-Ok-Ok-clause-fault g c =
    let core = core_data c.args.self.now.core in
    let e = answer (string_bytes c.args.names.0) c.args.number c.args.turn (answer_data c.args.answered) in
    fault_own core (core_data c.make.new.self.core) e c.in-Ok-Ok.reply c.args.fault.now c.args.fault.now refl
    (subst (λ (r : Replied). TakesStep core (core_data c.make.new.self.core) e r) c.in-Ok-Ok.field-0-is
    c.in-Ok-Ok.ensures.made.takes)
