use Rattle.std.proofs.Common.{rules, ◌≡◌, ◌++◌, map, option_map, string_bytes, subst, refl, true, Some}
use Rattle.sqlite.specs.Files.{over_files}
use Rattle.ccr_run.specs.Explained.{told_data}
use Rattle.ccr_run.specs.Found.{is_validation, validation_data, validation_in}
use Rattle.ccr_run.specs.Looked.{ShownOf}
use Rattle.ccr_run.specs.Orders.{Orders}
use Rattle.ccr_run.specs.Paged.{PagedOf, overview_options}
use Rattle.ccr_run.proofs.Looking.{looked_beside}
use Rattle.ccr_run.proofs.Obeying.{aborted, done, looked, misused, paged, validated}
use Rattle.ccr_run.proofs.obey.obey.Goals as goal

pub returns-in-Ok-Command-clause-obeyed : goal.returns-in-Ok-Command-clause-obeyed
returns-in-Ok-Command-clause-obeyed g c =
    done g.R.Runner g.F.Shelf _ _ _ (option_map (λ t. t.now) c.args.clock) (map string_bytes c.args.words.now) c.args.tools _
    (c.args.out.now.shown ++ c.args.out.now.waiting) (c.do_command-status.new.out.shown ++ c.do_command-status.new.out.waiting)
    c.args.out.now.notes c.do_command-status.new.out.notes c.do_command-status.new.out.failed (told_data c.do_command-status.new.telling) c.in-Ok-Command.order c.do_command-status.result.1 c.do_command-status.result.0
    (subst (λ o. Orders (map string_bytes c.args.words.now) o) c.in-Ok-Command.field-0-is c.in-Ok-Command.ensures.ordered)
    c.do_command-status.ensures.did

pub returns-in-Ok-Abort-clause-obeyed : goal.returns-in-Ok-Abort-clause-obeyed
returns-in-Ok-Abort-clause-obeyed g c =
    aborted g.R.Runner g.F.Shelf _ _ _ (option_map (λ t. t.now) c.args.clock) (map string_bytes c.args.words.now) c.args.tools _
    (c.args.out.now.shown ++ c.args.out.now.waiting) (c.do_abort-status.new.out.shown ++ c.do_abort-status.new.out.waiting)
    c.args.out.now.notes c.do_abort-status.new.out.notes c.do_abort-status.new.out.failed (told_data c.do_abort-status.new.telling) c.in-Ok-Abort.order c.do_abort-status.result.1 c.do_abort-status.result.0
    (subst (λ o. Orders (map string_bytes c.args.words.now) o) c.in-Ok-Abort.field-0-is c.in-Ok-Abort.ensures.ordered)
    c.requires.unasked c.do_abort-status.ensures.quiet
    c.do_abort-status.ensures.asks c.do_abort-status.ensures.idle

pub returns-in-Ok-Look-clause-obeyed : goal.returns-in-Ok-Look-clause-obeyed
returns-in-Ok-Look-clause-obeyed g c =
    let it = c.look_at-status.ensures.looked in
    looked g.R.Runner g.F.Shelf _ _ _ (option_map (λ t. t.now) c.args.clock) (map string_bytes c.args.words.now) c.args.tools _
    (c.args.out.now.shown ++ c.args.out.now.waiting) (c.look_at-status.new.out.shown ++ c.look_at-status.new.out.waiting)
    c.args.out.now.notes c.look_at-status.new.out.notes c.look_at-status.new.out.failed (told_data c.look_at-status.new.telling) c.in-Ok-Look.order c.look_at-status.result
    (subst (λ o. Orders (map string_bytes c.args.words.now) o) c.in-Ok-Look.field-0-is c.in-Ok-Look.ensures.ordered)
    c.look_at-status.ensures.quiet it.0
    (looked_beside over_files over_files c.in-Ok-Look.order.options (ShownOf c.in-Ok-Look.order) _ it.0.end
    (c.args.out.now.shown ++ c.args.out.now.waiting) (c.look_at-status.new.out.shown ++ c.look_at-status.new.out.waiting) it.1)
    it.2 it.3 it.4

pub returns-in-Ok-Page-clause-obeyed : goal.returns-in-Ok-Page-clause-obeyed
returns-in-Ok-Page-clause-obeyed g c =
    let it = c.page_at-status.ensures.paged in
    let clock = option_map (λ t. t.now) c.args.clock in
    paged g.R.Runner g.F.Shelf _ _ _ clock (map string_bytes c.args.words.now) c.args.tools _
    (c.args.out.now.shown ++ c.args.out.now.waiting) (c.page_at-status.new.out.shown ++ c.page_at-status.new.out.waiting)
    c.args.out.now.notes c.page_at-status.new.out.notes c.page_at-status.new.out.failed (told_data c.page_at-status.new.telling) c.in-Ok-Page.order c.page_at-status.result
    (subst (λ o. Orders (map string_bytes c.args.words.now) o) c.in-Ok-Page.field-0-is c.in-Ok-Page.ensures.ordered)
    c.page_at-status.ensures.quiet it.0
    (looked_beside over_files over_files c.in-Ok-Page.order.options (PagedOf (overview_options c.in-Ok-Page.order clock)) _ it.0.end
    (c.args.out.now.shown ++ c.args.out.now.waiting) (c.page_at-status.new.out.shown ++ c.page_at-status.new.out.waiting) it.1)
    it.2 it.3 it.4

pub returns-then-is_validation-clause-obeyed : goal.returns-then-is_validation-clause-obeyed
returns-then-is_validation-clause-obeyed g c =
    let named : is_validation (map string_bytes c.args.words.now) ≡ true = search rules in
    let ordered : validation_in (map string_bytes c.args.words.now) ≡ Some (validation_data c.in-Some.validation) = search rules in
    validated g.R.Runner g.F.Shelf _ _ _ (option_map (λ t. t.now) c.args.clock) (map string_bytes c.args.words.now) c.args.tools _
    (c.args.out.now.shown ++ c.args.out.now.waiting) (c.do_validation-status.new.out.shown ++ c.do_validation-status.new.out.waiting)
    c.args.out.now.notes c.do_validation-status.new.out.notes c.do_validation-status.new.out.failed (told_data c.do_validation-status.new.telling) (validation_data c.in-Some.validation)
    c.do_validation-status.result.1 c.do_validation-status.result.0 named ordered
    c.requires.unasked c.do_validation-status.ensures.quiet
    c.do_validation-status.ensures.validates c.do_validation-status.ensures.idle
