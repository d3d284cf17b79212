use Rattle.std.proofs.Common.{option_map}
use Rattle.ccr_core.specs.Cores.{core_data}
use Rattle.ccr_overview.specs.Overviews.{options_data}
use Rattle.ccr_run.specs.Paged.{overview_options}
use Rattle.ccr_run.proofs.Paging.{made_of}
use Rattle.ccr_run.proofs.page.bytes_of.Goals as goal

pub returns : goal.returns
returns c =
    made_of (λ bytes. bytes.items) (overview_options c.args.order.now (option_map (λ t. t.now) c.args.clock))
    (options_data c.in_ok-options.options) (core_data c.args.core.now) c.in_ok-page.page c.page_of.result
    c.in_ok-options.ensures c.in_ok-page.ensures.shown c.page_of.ensures
