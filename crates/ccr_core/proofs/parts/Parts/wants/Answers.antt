use Rattle.std.proofs.Common.{◌≡◌, ◌<◌, ◌≤◌, Some, None, length, map, sym, ap, ◌∙◌, subst, arith}
use Rattle.ccr_steps.specs.Asks.{ask_data}
use Rattle.ccr_steps.specs.Runs.{run_data, StandsFor}
use Rattle.ccr_core.specs.Cores.{core_data}
use Rattle.ccr_core.specs.Holding.{name_data, name_index, IsAsked}
use Rattle.ccr_core.proofs.Asking.{names_resource}
use Rattle.ccr_core.proofs.Finding.{found, lost}
use Rattle.ccr_core.proofs.parts.Parts.wants.Goals as goal

pub returns-then-k-len-clause-asked : goal.returns-then-k-len-clause-asked
returns-then-k-len-clause-asked c = λ s (h, p, n, each).
    let at : c.index_of-k.result ≡ name_index c.args.job.now c.args.number (map name_data c.args.self.now.names.items) = c.index_of-k.ensures ∙ ap (λ l. name_index c.args.job.now c.args.number (map name_data l)) c.deref.ensures.value in
    let past : length c.args.self.now.runs.items ≤ name_index c.args.job.now c.args.number (map name_data c.args.self.now.names.items) = omega (arith, at, c.if-k-len.true, c.len.ensures, c.args.self.now.runs.ok) in
    subst (λ o. IsAsked o None) (sym (lost c.args.job.now c.args.number c.args.self.now.names.items c.args.self.now.runs.items s.running each past)) tt

pub returns-in-Some-clause-asked : goal.returns-in-Some-clause-asked
returns-in-Some-clause-asked c = λ s (h, p, n, each).
    let at : c.index_of-k.result ≡ name_index c.args.job.now c.args.number (map name_data c.args.self.now.names.items) = c.index_of-k.ensures ∙ ap (λ l. name_index c.args.job.now c.args.number (map name_data l)) c.deref.ensures.value in
    let lt : c.index_of-k.result < length c.args.self.now.runs.items = omega (arith, c.if-k-len.false, c.len.ensures, c.args.self.now.runs.ok) in
    let f = found c.args.job.now c.args.number c.args.self.now.names.items c.args.self.now.runs.items s.running c.index-run.result.now each c.index_of-k.result at lt in
    let st = subst (λ r. StandsFor (run_data r) f.b.plan f.b.inputs f.b.exchanges) (sym c.index-run.ensures) f.stands in
    subst (λ o. IsAsked o (Some (c.turn.result, c.in-Some.ask))) (sym f.at) (c.turn.ensures f.b.plan f.b.inputs f.b.exchanges st, (c.in-Some.ensures.next f.b.plan f.b.inputs f.b.exchanges st).0)

pub returns-in-Some-clause-named : goal.returns-in-Some-clause-named
returns-in-Some-clause-named c =
    names_resource (core_data c.args.self.now) c.args.job.now c.args.number (ask_data c.in-Some.ask) c.requires (λ s (h, p, n, each).
    let at : c.index_of-k.result ≡ name_index c.args.job.now c.args.number (map name_data c.args.self.now.names.items) = c.index_of-k.ensures ∙ ap (λ l. name_index c.args.job.now c.args.number (map name_data l)) c.deref.ensures.value in
    let lt : c.index_of-k.result < length c.args.self.now.runs.items = omega (arith, c.if-k-len.false, c.len.ensures, c.args.self.now.runs.ok) in
    let f = found c.args.job.now c.args.number c.args.self.now.names.items c.args.self.now.runs.items s.running c.index-run.result.now each c.index_of-k.result at lt in
    let st = subst (λ r. StandsFor (run_data r) f.b.plan f.b.inputs f.b.exchanges) (sym c.index-run.ensures) f.stands in
    (f.b, f.at, c.in-Some.ensures.named f.b.plan f.b.inputs f.b.exchanges st))

pub returns-in-None-clause-asked : goal.returns-in-None-clause-asked
returns-in-None-clause-asked c = λ s (h, p, n, each).
    let at : c.index_of-k.result ≡ name_index c.args.job.now c.args.number (map name_data c.args.self.now.names.items) = c.index_of-k.ensures ∙ ap (λ l. name_index c.args.job.now c.args.number (map name_data l)) c.deref.ensures.value in
    let lt : c.index_of-k.result < length c.args.self.now.runs.items = omega (arith, c.if-k-len.false, c.len.ensures, c.args.self.now.runs.ok) in
    let f = found c.args.job.now c.args.number c.args.self.now.names.items c.args.self.now.runs.items s.running c.index-run.result.now each c.index_of-k.result at lt in
    let st = subst (λ r. StandsFor (run_data r) f.b.plan f.b.inputs f.b.exchanges) (sym c.index-run.ensures) f.stands in
    absurd (f.waits (c.in-None.ensures.next f.b.plan f.b.inputs f.b.exchanges st))
