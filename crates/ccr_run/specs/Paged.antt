-- What comes of a page.
use Rattle.std.specs.Prelude.{◌≡◌, ℕ, ◌++◌, Option, None, Some, option_map, Result, Ok, Err}
use Rattle.ccr_history.specs.Text.{Text}
use Rattle.ccr_core.specs.Holding.{CoreData}
use Rattle.ccr_core.specs.declared.command.Command.TheVariants.{Show}
use Rattle.ccr_core.specs.declared.shown.Shown.TheVariants.{Pipeline}
use Rattle.ccr_overview.specs.Overviews.{OptionsData, IsOverview}
use Rattle.ccr_overview.specs.PageData.{page_data}
use Rattle.ccr_page.specs.Pages.{IsPage}
use Rattle.ccr_page.specs.declared.data.Page.{Page}
use Rattle.ccr_serve.specs.declared.fault.ServeFault.TheVariants.{NoMemory}
use Rattle.ccr_run.specs.declared.failure.Failure.{Failure}
use Rattle.ccr_run.specs.declared.failure.Failure.TheVariants.{Refused}
use Rattle.ccr_run.specs.declared.order.Order.{Order}
use Rattle.ccr_run.specs.declared.order.PageOrder.{PageOrder}
use Rattle.ccr_run.specs.declared.run.Outcome.{Outcome}
use Rattle.ccr_run.specs.Explained.{ToldData, explained}

-- when a page is made: as the words say, or else what the clock says, if it can be read
abbrev pub made_at : Option Text → Option Text → Option Text
made_at (Some words) clock = Some words
made_at None clock = clock

-- what a page is to say of itself, with what the clock says
abbrev pub overview_options : PageOrder → Option Text → OptionsData
overview_options order clock = record {
  title = order.page.title.now;
  made = made_at (option_map (λ t. t.now) order.page.made) clock;
  now = option_map (λ t. t.now) order.page.now;
  refresh = order.page.refresh;
  logs = option_map (λ t. t.now) order.page.logs;
}

-- THESE BYTES ARE THE PAGE OF A CORE: that of a value which shows what the core holds
abbrev pub IsCorePage : OptionsData → CoreData → Text → Type 0
IsCorePage options core bytes = (page : Page) × IsOverview options core (page_data page) × IsPage page bytes

-- the page of a core is printed, once and behind all that was printed before, and its status is 0; or nothing is, out of memory
abbrev pub PagedOf : OptionsData → CoreData → Result ℕ Failure → Text → Text → Type 0
PagedOf options core (Ok status) old new = (status ≡ 0) × (bytes : Text) × IsCorePage options core bytes × (new ≡ old ++ bytes)
PagedOf options core (Err failure) old new = (failure ≡ Refused NoMemory) × (new ≡ old)

-- a look at the pipeline in place of a page
abbrev pub as_look : PageOrder → Order
as_look order = record { options = order.options; command = Show Pipeline }

-- WHAT A PAGE TELLS with this outcome: what a look at the pipeline tells, which is why there is none, what to do about it, and that it
-- didn't go out whole
abbrev pub page_told : PageOrder → Outcome → ToldData
page_told order outcome = explained (as_look order) outcome
