-- The page of a core, from what its parts say.
use Rattle.std.proofs.Common.{◌≡◌, refl, subst, ◌++◌, Result, Ok, Err, IfOk}
use Rattle.ccr_history.specs.Text.{Text}
use Rattle.ccr_core.specs.Holding.{CoreData}
use Rattle.ccr_overview.specs.Overviews.{OptionsData, IsOverview}
use Rattle.ccr_overview.specs.PageData.{page_data}
use Rattle.ccr_page.specs.Pages.{IsPage}
use Rattle.ccr_page.specs.declared.data.Page.{Page}
use Rattle.ccr_run.specs.Paged.{IsCorePage, PagedOf}

-- the bytes of a value that shows what a core holds are its page
pub made_of : {X E : Type 0} (items : X → Text) (asked given : OptionsData) (core : CoreData) (page : Page) (made : Result X E)
    → given ≡ asked → IsOverview given core (page_data page) → IfOk made (λ bytes. IsPage page (items bytes))
    → IfOk made (λ bytes. IsCorePage asked core (items bytes))
made_of items asked given core page (Ok bytes) same shows is =
    (page, subst (λ (o : OptionsData). IsOverview o core (page_data page)) same shows, is)
made_of items asked given core page (Err fault) same shows is = tt

-- the page was printed behind what was printed before
pub printed_of : (options : OptionsData) (core : CoreData) (bytes old new : Text) → IsCorePage options core bytes → new ≡ old ++ bytes
    → PagedOf options core (Ok 0) old new
printed_of options core bytes old new made printed = (refl, bytes, made, printed)
