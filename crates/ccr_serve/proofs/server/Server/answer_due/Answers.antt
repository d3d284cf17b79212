use Rattle.std.proofs.Common.{◌≡◌, ◌++◌, Ok, refl, string_bytes, subst}
use Rattle.ccr_task.specs.Faulty.{said_data}
use Rattle.ccr_task.specs.Places.{places_data}
use Rattle.ccr_core.specs.Cores.{core_data}
use Rattle.ccr_core.specs.Events.{answer}
use Rattle.ccr_lines.specs.Lines.{lines_of}
use Rattle.ccr_serve.specs.Aborts.{Clears}
use Rattle.ccr_serve.specs.Noted.{IsHead}
use Rattle.ccr_serve.specs.Views.{full_view, bare_view, with_calls}
use Rattle.ccr_serve.proofs.Cutting.{turn_unanswered, turn_unmade}
use Rattle.ccr_serve.proofs.NotesTold.{notes_by}
use Rattle.ccr_serve.proofs.Turning.{turn_served}
use Rattle.ccr_serve.proofs.server.Server.answer_due.Goals as goal

pub returns-in_default-clause-served : goal.returns-in_default-clause-served
returns-in_default-clause-served g c before asked =
    let view = full_view g.R.Runner g.S.Shelf g.T.Storage g.O.Lines in
    let v = with_calls before (view c.args.self.now c.args.out.now) in
    let looked = g.S.Shelf.calls c.args.self.now.shelf in
    turn_unanswered (places_data c.args.self.now.places) v (string_bytes c.args.due.job) c.args.due.number c.args.due.rank
    looked c.requires.due asked (g.R.Runner.pairs c.answer_wanted.new.runner) (g.S.Shelf.calls c.answer_wanted.new.shelf)
    (rw c.as_str-job.ensures.value at c.in_default.ensures.err) c.requires.ready refl

pub returns-clause-served : goal.returns-clause-served
returns-clause-served g c before asked =
    let view = full_view g.R.Runner g.S.Shelf g.T.Storage g.O.Lines in
    let v = with_calls before (view c.args.self.now c.args.out.now) in
    let looked = g.S.Shelf.calls c.args.self.now.shelf in
    turn_unmade (places_data c.args.self.now.places) v (string_bytes c.args.due.job) c.args.due.number c.args.due.rank
    looked c.requires.due asked (g.R.Runner.pairs c.answer_wanted.new.runner) (g.S.Shelf.calls c.answer_wanted.new.shelf)
    (rw c.as_str-job.ensures.value at c.in-Ok.ensures.ok) refl (rw c.requires.one at c.in-Err.ensures.unmade)

pub returns-in-Ok-give-clause-served : goal.returns-in-Ok-give-clause-served
returns-in-Ok-give-clause-served g c before asked =
    let view = full_view g.R.Runner g.S.Shelf g.T.Storage g.O.Lines in
    let bare = bare_view g.R.Runner g.S.Shelf g.T.Storage in
    let v = with_calls before (view c.args.self.now c.args.out.now) in
    let looked = g.S.Shelf.calls c.args.self.now.shelf in
    let job = string_bytes c.args.due.job in
    let name : c.as_str-job.result.now ≡ job = c.as_str-job.ensures.value in
    turn_served (places_data c.args.self.now.places) v looked job c.args.due.number c.args.due.rank
    c.in-Ok.turn (said_data c.in-Ok.said) c.in-Ok-give.reply
    (g.S.Shelf.calls c.answer_wanted.new.shelf) (g.R.Runner.pairs c.answer_wanted.new.runner)
    (bare c.give.new.self) (g.S.Shelf.calls c.clear_away.new.shelf) (g.O.Lines.written c.print_ended.new.out) asked
    (rw name at c.in-Ok.ensures.ok) (rw c.requires.one at c.in-Ok-give.ensures.gives)
    (subst (λ k. Clears (places_data c.args.self.now.places) job c.args.due.number c.in-Ok-give.reply k
    (g.S.Shelf.calls c.clear_away.new.shelf)) c.in-Ok-give.ensures.gives.rest.calls
    (c.clear_away.ensures (places_data c.args.self.now.places) job c.args.due.number c.requires.left)) c.requires.due (λ t y h. subst (λ j. g.O.Lines.written c.print_ended.new.out
    ≡ g.O.Lines.written c.args.out.now ++ lines_of (answer j c.args.due.number t y) (Ok c.in-Ok-give.reply) h) name
    (subst (λ w. g.O.Lines.written c.print_ended.new.out
    ≡ w ++ lines_of (answer c.as_str-job.result.now c.args.due.number t y) (Ok c.in-Ok-give.reply) h)
    c.tell_fault.ensures.same (c.print_ended.ensures.answered t y h)))

pub returns-in-Ok-give-clause-noted : goal.returns-in-Ok-give-clause-noted
returns-in-Ok-give-clause-noted g c =
    let core = core_data c.args.self.now.core in
    let places = places_data c.args.self.now.places in
    let job = string_bytes c.args.due.job in
    let name : c.as_str-job.result.now ≡ job = c.as_str-job.ensures.value in
    let pairs = g.R.Runner.pairs c.args.self.now.runner in
    let looked = g.S.Shelf.calls c.args.self.now.shelf in
    let calls = g.S.Shelf.calls c.answer_wanted.new.shelf in
    let told = g.O.Lines.notes c.args.out.now in (
      calls,
      record {
        turn = c.in-Ok.turn;
        x = said_data c.in-Ok.said;
        answered = rw (name, ← c.in-Ok-give.ensures.gives.rest.pairs) at c.in-Ok.ensures.ok;
        fault = c.give.new.fault;
        is_fault = rw c.requires.one at c.in-Ok-give.ensures.fault;
        notes = rw c.print_ended.ensures.notes
            (notes_by c.asking_head-head.result (IsHead core job c.args.due.number) c.give.new.fault told
            (g.O.Lines.notes c.tell_fault.new.out) (rw name at c.asking_head-head.ensures) c.tell_fault.ensures.noted);
      },
    )
