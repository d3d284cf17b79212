use Rattle.std.proofs.Common.{◌≡◌, ◌∙◌, Some, None, refl, string_bytes}
use Rattle.ccr_task.specs.Places.{places_data}
use Rattle.ccr_core.specs.Events.{checked}
use Rattle.ccr_serve.specs.Views.{full_view}
use Rattle.ccr_serve.proofs.Steps.{cut_at_once, cut_by_memory, noting_stop, calls_unmade, check_begun, check_unmade, check_made, check_found_nothing}
use Rattle.ccr_serve.proofs.server.Server.check.Goals as goal

pub returns-in_default-clause-served : goal.returns-in_default-clause-served
returns-in_default-clause-served g c =
    cut_at_once _ (noting_stop _ _ (λ ds. ds ≡ ds)) c.requires.ready c.begin.ensures.same

pub returns-in_default-find_named-clause-served : goal.returns-in_default-find_named-clause-served
returns-in_default-find_named-clause-served g c =
    let v = full_view g.R.Runner g.S.Shelf g.T.Storage g.O.Lines c.args.self.now c.args.out.now in
    let o = c.in_default-find_named.ensures.err in
    cut_by_memory v (record { pair = o.1; event = None })
    (check_begun (places_data c.args.self.now.places) c.args.name.now o.0 v (g.S.Shelf.calls c.find_named.new.shelf) o.1
    o.2 o.4) c.requires.ready o.3 c.begin.ensures.same

pub returns-in-Ok-make-clause-served : goal.returns-in-Ok-make-clause-served
returns-in-Ok-make-clause-served g c =
    let o = c.in-Ok-find_named.ensures.ok in
    check_made (places_data c.args.self.now.places) o.1 c.in-Ok.ensures.copied o.2 c.begin.ensures.same o.3
    (rw c.in-Versions.is at o.4) c.in-Ok-make.ensures.made
    (c.print_checked.ensures.told c.in-Versions.versions.items c.make.new.self.core.history) c.is_ok.ensures.value

pub returns-in-Err-clause-served : goal.returns-in-Err-clause-served
returns-in-Err-clause-served g c =
    let v = full_view g.R.Runner g.S.Shelf g.T.Storage g.O.Lines c.args.self.now c.args.out.now in
    let o = c.in-Ok-find_named.ensures.ok in
    calls_unmade (record { pair = o.1; event = Some (checked (string_bytes c.in-Ok.copy) c.in-Versions.versions.items) }) refl
    (check_unmade (places_data c.args.self.now.places) c.args.name.now (string_bytes c.in-Ok.copy) o.0 v
    (g.S.Shelf.calls c.find_named.new.shelf) o.1 c.in-Versions.versions.items c.in-Ok.ensures.copied o.2
    (rw c.in-Versions.is at o.4)) o.3 c.begin.ensures.same c.in-Err.ensures.unmade

pub returns-in-Nothing-clause-served : goal.returns-in-Nothing-clause-served
returns-in-Nothing-clause-served g c =
    let o = c.in-Ok-find_named.ensures.ok in
    check_found_nothing (places_data c.args.self.now.places) c.args.name.now o.1 c.in-Nothing.cause c.requires.ready o.2
    c.begin.ensures.same o.3 (rw c.in-Nothing.is at o.4) (c.hand_out.ensures.same ∙ c.print_cause.ensures)
