use Rattle.std.proofs.Common.{inl, inr, ◌∙◌, ap, ◌≤◌, Ok, map, option_map, string_bytes, subst, sym}
use Rattle.clap.specs.Words.{HasMatchesOf, found_of}
use Rattle.ccr_core.specs.Commands.{command_data}
use Rattle.ccr_command.specs.Aborts.{abort_data, abort_in}
use Rattle.ccr_command.specs.Commands.{command_in}
use Rattle.ccr_command.specs.Options.{options_data}
use Rattle.ccr_command.specs.Numbers.{MOST}
use Rattle.ccr_command.specs.Pages.{page_data}
use Rattle.ccr_run.proofs.Ordering.{some_named, none_named, misused_line, becomes_budget, becomes_ordered, budget_ranged}
use Rattle.ccr_run.proofs.order.ordered_by.Goals as goal

pub returns-in-Some-clause-ordered : goal.returns-in-Some-clause-ordered
returns-in-Some-clause-ordered c =
    let matches =
    subst (λ a. HasMatchesOf a (map string_bytes c.args.words.now) c.in-Ok.matches)
    c.in_ok-line.ensures c.in-Ok.ensures.matches in
    let build =
    some_named abort_data c.abort_of.result c.in-Some.build (abort_in c.in-Ok.matches) c.abort_of.ensures c.in-Some.is in
    (c.in-Ok.matches, matches, c.in-Ok-options_of.ensures, build)

pub returns-in-Some-clause-least : goal.returns-in-Some-clause-least
returns-in-Some-clause-least c =
    (budget_ranged (found_of c.in-Ok.matches) (options_data c.in-Ok-options_of.options) c.in-Ok-options_of.ensures).0

pub returns-in-Some-clause-most : goal.returns-in-Some-clause-most
returns-in-Some-clause-most c =
    (budget_ranged (found_of c.in-Ok.matches) (options_data c.in-Ok-options_of.options) c.in-Ok-options_of.ensures).1

pub returns-in-Ok-Some-clause-ordered : goal.returns-in-Ok-Some-clause-ordered
returns-in-Ok-Some-clause-ordered c =
    let matches =
    subst (λ a. HasMatchesOf a (map string_bytes c.args.words.now) c.in-Ok.matches)
    c.in_ok-line.ensures c.in-Ok.ensures.matches in
    let page = c.in-Ok-Some.ensures ∙ ap (λ page. Ok (option_map page_data page)) c.in-Ok-Some.field-0-is in
    (c.in-Ok.matches, matches, c.in-Ok-options_of.ensures, page)

pub returns-in-Ok-Some-clause-least : goal.returns-in-Ok-Some-clause-least
returns-in-Ok-Some-clause-least c =
    (budget_ranged (found_of c.in-Ok.matches) (options_data c.in-Ok-options_of.options) c.in-Ok-options_of.ensures).0

pub returns-in-Ok-Some-clause-most : goal.returns-in-Ok-Some-clause-most
returns-in-Ok-Some-clause-most c =
    (budget_ranged (found_of c.in-Ok.matches) (options_data c.in-Ok-options_of.options) c.in-Ok-options_of.ensures).1

pub returns-in-Some-2-clause-ordered : goal.returns-in-Some-2-clause-ordered
returns-in-Some-2-clause-ordered c =
    let matches =
    subst (λ a. HasMatchesOf a (map string_bytes c.args.words.now) c.in-Ok.matches)
    c.in_ok-line.ensures c.in-Ok.ensures.matches in
    let command =
    some_named command_data c.in_ok-command.field-0 c.in-Some-2.command (command_in c.in-Ok.matches)
    c.in_ok-command.ensures c.in-Some-2.is in
    becomes_ordered (map string_bytes c.args.words.now) c.in-Ok-options_of.options c.in-Some-2.command c.in-Ok.matches c.asks_look.result
    c.ordered_of.result matches c.in-Ok-options_of.ensures command c.asks_look.ensures c.ordered_of.ensures

pub returns-in-Some-2-clause-least : goal.returns-in-Some-2-clause-least
returns-in-Some-2-clause-least c =
    subst (λ n. 1 ≤ n) (sym (becomes_budget c.in-Ok-options_of.options c.in-Some-2.command c.asks_look.result c.ordered_of.result c.ordered_of.ensures))
    (budget_ranged (found_of c.in-Ok.matches) (options_data c.in-Ok-options_of.options) c.in-Ok-options_of.ensures).0

pub returns-in-Some-2-clause-most : goal.returns-in-Some-2-clause-most
returns-in-Some-2-clause-most c =
    subst (λ n. n ≤ MOST) (sym (becomes_budget c.in-Ok-options_of.options c.in-Some-2.command c.asks_look.result c.ordered_of.result c.ordered_of.ensures))
    (budget_ranged (found_of c.in-Ok.matches) (options_data c.in-Ok-options_of.options) c.in-Ok-options_of.ensures).1

pub returns-in-Err-clause-misused : goal.returns-in-Err-clause-misused
returns-in-Err-clause-misused c =
    misused_line (map string_bytes c.args.words.now) _ c.in-Err.error c.misuse_of.result c.in_ok-line.ensures
    c.in-Err.ensures.passes c.misuse_of.ensures

pub returns-in-Err-options_of-clause-misused : goal.returns-in-Err-options_of-clause-misused
returns-in-Err-options_of-clause-misused c =
    let matches =
    subst (λ a. HasMatchesOf a (map string_bytes c.args.words.now) c.in-Ok.matches)
    c.in_ok-line.ensures c.in-Ok.ensures.matches in
    (c.in-Ok.matches, matches, inl c.in-Err-options_of.ensures)

pub returns-in-Err-page_of-clause-misused : goal.returns-in-Err-page_of-clause-misused
returns-in-Err-page_of-clause-misused c =
    let matches =
    subst (λ a. HasMatchesOf a (map string_bytes c.args.words.now) c.in-Ok.matches)
    c.in_ok-line.ensures c.in-Ok.ensures.matches in
    (c.in-Ok.matches, matches, inr c.in-Err-page_of.ensures)

pub returns-clause-misused : goal.returns-clause-misused
returns-clause-misused c =
    let matches =
    subst (λ a. HasMatchesOf a (map string_bytes c.args.words.now) c.in-Ok.matches)
    c.in_ok-line.ensures c.in-Ok.ensures.matches in
    let no_command =
    none_named command_data c.in_ok-command.field-0 (command_in c.in-Ok.matches) c.in_ok-command.ensures c.in-None.is in
    let no_build = none_named abort_data c.abort_of.result (abort_in c.in-Ok.matches) c.abort_of.ensures c.in_default.is in
    let no_page = c.in-Ok-None.ensures ∙ ap (λ page. Ok (option_map page_data page)) c.in-Ok-None.field-0-is in
    (c.in-Ok.matches, matches, no_command, no_build, no_page)
