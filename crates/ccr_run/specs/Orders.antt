-- What the program's words order.
use Rattle.std.specs.Prelude.{◌≡◌, ◌≢◌, ◌⊎◌, ℕ, List, Bool, true, Some, None, Ok, Err, ⊤}
use Rattle.clap.specs.declared.parser.matches.ArgMatches.{ArgMatches}
use Rattle.clap.specs.Words.{HasMatchesOf, Text, found_of, takes}
use Rattle.ccr_core.specs.Commands.{command_data, shown_data}
use Rattle.ccr_core.specs.declared.command.Command.{Command as CommandValue}
use Rattle.ccr_command.specs.Aborts.{abort_data, abort_in}
use Rattle.ccr_command.specs.Commands.{command_in}
use Rattle.ccr_command.specs.Looking.{look_by, look_in}
use Rattle.ccr_command.specs.Options.{options_data, options_in}
use Rattle.ccr_command.specs.declared.options.Options.{Options}
use Rattle.ccr_command.specs.Pages.{page_data, page_in}
use Rattle.ccr_command.specs.Usage.{line}
use Rattle.ccr_run.specs.Found.{is_validation, validation_in}
use Rattle.ccr_run.specs.declared.order.Misuse.{Misuse}
use Rattle.ccr_run.specs.declared.order.Misuse.TheVariants.{NotText, Line, Option, NoCommand, Validation, NoMemory}
use Rattle.ccr_run.specs.declared.order.AbortOrder.{AbortOrder}
use Rattle.ccr_run.specs.declared.order.LookOrder.{LookOrder}
use Rattle.ccr_run.specs.declared.order.Order.{Order}
use Rattle.ccr_run.specs.declared.order.Ordered.{Ordered}
use Rattle.ccr_run.specs.declared.order.Ordered.TheVariants.{Command, Look, Page, Abort}
use Rattle.ccr_run.specs.declared.order.PageOrder.{PageOrder}

-- the words order a command: the options and the command are those of their matches by the command line, which ask for no look
abbrev pub IsOrdered : List Text → Order → Type 0
IsOrdered words order =
    (m : ArgMatches) × HasMatchesOf line words m
    × (options_in (found_of m) ≡ Ok (options_data order.options))
    × (command_in m ≡ Some (command_data order.command))
    × (look_in m ≡ None)

-- the words order a look: the options, and what is looked at, are those of their matches
abbrev pub IsLookOrdered : List Text → LookOrder → Type 0
IsLookOrdered words order =
    (m : ArgMatches) × HasMatchesOf line words m
    × (options_in (found_of m) ≡ Ok (options_data order.options))
    × (look_in m ≡ Some (shown_data order.what))

-- the words order a page: the options, and what the page is to say of itself, are those of their matches
abbrev pub IsPageOrdered : List Text → PageOrder → Type 0
IsPageOrdered words order =
    (m : ArgMatches) × HasMatchesOf line words m
    × (options_in (found_of m) ≡ Ok (options_data order.options))
    × (page_in m ≡ Ok (Some (page_data order.page)))

-- the words order that a build be asked to be aborted: the options and the build are those of their matches
abbrev pub IsAbortOrdered : List Text → AbortOrder → Type 0
IsAbortOrdered words order =
    (m : ArgMatches) × HasMatchesOf line words m
    × (options_in (found_of m) ≡ Ok (options_data order.options))
    × (abort_in m ≡ Some (abort_data order.build))

-- WHAT WORDS ORDER
abbrev pub Orders : List Text → Ordered → Type 0
Orders words (Command order) = IsOrdered words order
Orders words (Look order) = IsLookOrdered words order
Orders words (Page order) = IsPageOrdered words order
Orders words (Abort order) = IsAbortOrdered words order

-- what a command becomes, where a look is asked for or not: the command itself, or a look at what it shows
abbrev pub Becomes : Options → CommandValue → Bool → Ordered → Type 0
Becomes options command asks (Command order) =
    (order.options ≡ options) × (order.command ≡ command) × (look_by asks (Some (command_data command)) ≡ None)
Becomes options command asks (Look order) =
    (order.options ≡ options) × (look_by asks (Some (command_data command)) ≡ Some (shown_data order.what))
Becomes options command asks (Page order) = ⊥
Becomes options command asks (Abort order) = ⊥

-- the budget among the options of what is ordered
abbrev pub budget_of : Ordered → ℕ
budget_of (Command order) = order.options.budget
budget_of (Look order) = order.options.budget
budget_of (Page order) = order.options.budget
budget_of (Abort order) = order.options.budget

-- WHY WORDS ORDER NOTHING: the command line doesn't take them, or their matches lack an option or have one out of its range, or
-- name neither a command nor a page nor a build to be aborted; or they are those of `validate-pipeline` and don't name one file;
-- or it was out of memory
abbrev pub IsMisused : List Text → Misuse → Type 0
IsMisused words NotText = ⊥
IsMisused words (Line error) = takes line words ≢ true
IsMisused words (Option fault) =
    (m : ArgMatches) × HasMatchesOf line words m × ((options_in (found_of m) ≡ Err fault) ⊎ (page_in m ≡ Err fault))
IsMisused words NoCommand =
    (m : ArgMatches) × HasMatchesOf line words m × (command_in m ≡ None) × (abort_in m ≡ None) × (page_in m ≡ Ok None)
IsMisused words Validation = (is_validation words ≡ true) × (validation_in words ≡ None)
IsMisused words NoMemory = ⊤
