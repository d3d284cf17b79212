use Rattle.std.proofs.Common.{true, false, Some, inl, inr, string_bytes, subst}
use Rattle.ccr_task.specs.Places.{places_data}
use Rattle.ccr_task.specs.declared.said.StepFault.TheVariants.{Aborted}
use Rattle.ccr_core.specs.Cores.{core_data}
use Rattle.ccr_serve.specs.Noted.{IsStepHead, NotesOf, NotesAnswer}
use Rattle.ccr_serve.proofs.Folders.{took_so}
use Rattle.ccr_serve.proofs.NotesTold.{if_ok}
use Rattle.ccr_serve.proofs.Steps.{cut_at_once, items_stop}
use Rattle.ccr_serve.proofs.Turning.{from_lines}
use Rattle.ccr_serve.proofs.server.Server.serve_build.Goals as goal

pub returns-in_default-clause-served : goal.returns-in_default-clause-served
returns-in_default-clause-served g c =
    cut_at_once _ (items_stop _ _) c.requires.ready c.begin_turn.ensures.same

pub returns-in_default-leftovers_of-clause-served : goal.returns-in_default-leftovers_of-clause-served
returns-in_default-leftovers_of-clause-served g c =
    cut_at_once _ (items_stop _ _) c.requires.ready c.begin_turn.ensures.same

pub returns-then-asked-clause-served : goal.returns-then-asked-clause-served
returns-then-asked-clause-served g c =
    from_lines c.begin_turn.ensures.same (c.abort_due.ensures.served (g.S.Shelf.calls c.args.self.now.shelf)
    (took_so (places_data c.args.self.now.places) (string_bytes c.args.due.job) c.args.due.number
    c.in-Ok-leftovers_of.left c.as_str.result.now c.take_request-asked.result true (g.S.Shelf.calls c.args.self.now.shelf)
    (g.S.Shelf.calls c.take_request-asked.new.shelf) (rw c.as_str-job.ensures.value at c.in-Ok-leftovers_of.ensures)
    c.as_str.ensures.value c.if-asked.true c.take_request-asked.ensures))

pub returns-else-asked-clause-served : goal.returns-else-asked-clause-served
returns-else-asked-clause-served g c =
    from_lines c.begin_turn.ensures.same (c.answer_due.ensures.served (g.S.Shelf.calls c.args.self.now.shelf)
    (took_so (places_data c.args.self.now.places) (string_bytes c.args.due.job) c.args.due.number
    c.in-Ok-leftovers_of.left c.as_str.result.now c.take_request-asked.result false (g.S.Shelf.calls c.args.self.now.shelf)
    (g.S.Shelf.calls c.take_request-asked.new.shelf) (rw c.as_str-job.ensures.value at c.in-Ok-leftovers_of.ensures)
    c.as_str.ensures.value c.if-asked.false c.take_request-asked.ensures))

pub returns-then-asked-clause-noted : goal.returns-then-asked-clause-noted
returns-then-asked-clause-noted g c =
    let core = core_data c.args.self.now.core in
    let job = string_bytes c.args.due.job in
    if_ok c.abort_due.result (λ a n. (
      g.S.Shelf.calls c.take_request-asked.new.shelf,
      inl (
        took_so (places_data c.args.self.now.places) (string_bytes c.args.due.job) c.args.due.number
            c.in-Ok-leftovers_of.left c.as_str.result.now c.take_request-asked.result true (g.S.Shelf.calls c.args.self.now.shelf)
            (g.S.Shelf.calls c.take_request-asked.new.shelf) (rw c.as_str-job.ensures.value at c.in-Ok-leftovers_of.ensures)
            c.as_str.ensures.value c.if-asked.true c.take_request-asked.ensures,
        subst (λ o. NotesOf (IsStepHead core job c.args.due.number) (Some Aborted) o (g.O.Lines.notes c.abort_due.new.out))
            c.begin_turn.ensures.notes n,
      ),
    )) c.abort_due.ensures.noted

pub returns-then-asked-clause-quiet : goal.returns-then-asked-clause-quiet
returns-then-asked-clause-quiet g c =
    rw c.begin_turn.ensures.notes at c.abort_due.ensures.quiet

pub returns-else-asked-clause-noted : goal.returns-else-asked-clause-noted
returns-else-asked-clause-noted g c =
    let core = core_data c.args.self.now.core in
    let places = places_data c.args.self.now.places in
    let job = string_bytes c.args.due.job in
    if_ok c.answer_due.result (λ a n. (
      g.S.Shelf.calls c.take_request-asked.new.shelf,
      inr (
        took_so (places_data c.args.self.now.places) (string_bytes c.args.due.job) c.args.due.number
            c.in-Ok-leftovers_of.left c.as_str.result.now c.take_request-asked.result false (g.S.Shelf.calls c.args.self.now.shelf)
            (g.S.Shelf.calls c.take_request-asked.new.shelf) (rw c.as_str-job.ensures.value at c.in-Ok-leftovers_of.ensures)
            c.as_str.ensures.value c.if-asked.false c.take_request-asked.ensures,
        n.0,
        subst (λ o. NotesAnswer places core job c.args.due.number (g.R.Runner.pairs c.args.self.now.runner)
            (g.R.Runner.pairs c.answer_due.new.self.runner) (g.S.Shelf.calls c.take_request-asked.new.shelf) n.0 o
            (g.O.Lines.notes c.answer_due.new.out)) c.begin_turn.ensures.notes n.1,
      ),
    )) c.answer_due.ensures.noted

pub returns-else-asked-clause-quiet : goal.returns-else-asked-clause-quiet
returns-else-asked-clause-quiet g c =
    rw c.begin_turn.ensures.notes at c.answer_due.ensures.quiet
