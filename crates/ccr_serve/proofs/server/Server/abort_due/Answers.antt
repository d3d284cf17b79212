use Rattle.std.proofs.Common.{◌≡◌, ◌++◌, Ok, Some, IsSome, is_some, ap, refl, string_bytes, subst, sym}
use Rattle.ccr_task.specs.Places.{places_data}
use Rattle.ccr_task.specs.declared.said.StepFault.TheVariants.{Aborted}
use Rattle.ccr_core.specs.Cores.{core_data}
use Rattle.ccr_core.specs.Events.{abort}
use Rattle.ccr_core.specs.State.{running_at}
use Rattle.ccr_lines.specs.Lines.{lines_of}
use Rattle.ccr_serve.specs.Aborts.{Clears}
use Rattle.ccr_serve.specs.Noted.{IsStepHead}
use Rattle.ccr_serve.specs.Views.{full_view, bare_view, with_calls}
use Rattle.ccr_serve.proofs.Cutting.{abort_unmade}
use Rattle.ccr_serve.proofs.NotesTold.{notes_by}
use Rattle.ccr_serve.proofs.Turning.{abort_served}
use Rattle.ccr_serve.proofs.server.Server.abort_due.Goals as goal

pub abort-requires-clause-runs : goal.abort-requires-clause-runs
abort-requires-clause-runs g c s is =
    let due = c.requires.due s is in
    subst (λ j. IsSome (running_at j c.args.due.number s.running)) (sym c.requires.name) (ap is_some due.there)

pub returns-clause-served : goal.returns-clause-served
returns-clause-served g c before asked =
    let v = with_calls before (full_view g.R.Runner g.S.Shelf g.T.Storage g.O.Lines c.args.self.now c.args.out.now) in
    abort_unmade (places_data c.args.self.now.places) v (string_bytes c.args.due.job) c.args.due.number c.args.due.rank
    (g.S.Shelf.calls c.args.self.now.shelf) c.requires.due asked refl (rw c.requires.name at c.in-Err.ensures.unmade)

pub returns-in-Ok-clause-served : goal.returns-in-Ok-clause-served
returns-in-Ok-clause-served g c before asked =
    let view = full_view g.R.Runner g.S.Shelf g.T.Storage g.O.Lines in
    let bare = bare_view g.R.Runner g.S.Shelf g.T.Storage in
    let v = with_calls before (view c.args.self.now c.args.out.now) in
    let looked = g.S.Shelf.calls c.args.self.now.shelf in
    let name : c.as_str-job.result.now ≡ string_bytes c.args.due.job = c.as_str-job.ensures.value in
    abort_served (places_data c.args.self.now.places) v looked (string_bytes c.args.due.job) c.args.due.number
    c.args.due.rank c.in-Ok.reply (bare c.abort.new.self) (g.S.Shelf.calls c.clear_away.new.shelf)
    (g.O.Lines.written c.print_ended.new.out) asked (rw c.requires.name at c.in-Ok.ensures.made)
    (subst (λ k. Clears (places_data c.args.self.now.places) (string_bytes c.args.due.job) c.args.due.number c.in-Ok.reply k
    (g.S.Shelf.calls c.clear_away.new.shelf)) c.in-Ok.ensures.made.rest.calls
    (c.clear_away.ensures (places_data c.args.self.now.places) (string_bytes c.args.due.job) c.args.due.number
    c.requires.left)) c.requires.due (λ h. subst (λ j. g.O.Lines.written c.print_ended.new.out
    ≡ g.O.Lines.written c.args.out.now ++ lines_of (abort j c.args.due.number) (Ok c.in-Ok.reply) h) name
    (subst (λ w. g.O.Lines.written c.print_ended.new.out
    ≡ w ++ lines_of (abort c.as_str-job.result.now c.args.due.number) (Ok c.in-Ok.reply) h)
    c.tell_fault.ensures.same (c.print_ended.ensures.aborted h)))

pub returns-in-Ok-clause-noted : goal.returns-in-Ok-clause-noted
returns-in-Ok-clause-noted g c =
    let core = core_data c.args.self.now.core in
    let job = string_bytes c.args.due.job in
    let told = g.O.Lines.notes c.args.out.now in
    rw c.print_ended.ensures.notes
    (notes_by c.waiting_head-head.result (IsStepHead core job c.args.due.number) (Some Aborted) told
    (g.O.Lines.notes c.tell_fault.new.out)
    (rw c.as_str-job.ensures.value at c.waiting_head-head.ensures) c.tell_fault.ensures.noted)
