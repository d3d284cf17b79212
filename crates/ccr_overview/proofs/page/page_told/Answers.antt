use Rattle.std.proofs.Common.{◌≤◌, ℕ, map, sym, subst}
use Rattle.ccr_pipeline.specs.Pipelines.{pipeline_data}
use Rattle.ccr_core.specs.Cores.{core_data}
use Rattle.ccr_overview.specs.Overviews.{options_data}
use Rattle.ccr_overview.specs.PageData.{page_data}
use Rattle.ccr_overview.specs.Scenes.{told_data}
use Rattle.ccr_overview.proofs.Paging.{page_told, few_told, told_long}
use Rattle.ccr_overview.proofs.page.page_told.Goals as goal

pub page_with-requires : goal.page_with-requires
page_with-requires c =
    let held = core_data c.args.core.now in
    let P : ℕ → Type 0 = λ n. n ≤ 200 in
    record {
      resources = c.few_members.ensures.resources;
      jobs = c.few_members.ensures.jobs;
      told = subst P
          (sym (told_long (pipeline_data c.args.pipeline.now) held.history held.budget (map told_data c.args.told.now) c.requires))
          c.few_members.ensures.jobs;
    }

pub returns-clause-shown : goal.returns-clause-shown
returns-clause-shown c =
    let held = core_data c.args.core.now in
    page_told page_data c.page_with.result (options_data c.args.options) (pipeline_data c.args.pipeline.now) held.history
    c.history-history.result.now held.budget c.rows_of-row_count.result (map told_data c.args.told.now)
    c.history-history.ensures c.rows_of-row_count.ensures c.requires c.page_with.ensures

pub returns-clause-few : goal.returns-clause-few
returns-clause-few c =
    let held = core_data c.args.core.now in
    few_told c.page_with.result (options_data c.args.options) (pipeline_data c.args.pipeline.now) held.history held.budget
    c.few_members.ensures.resources c.few_members.ensures.jobs (returns-clause-shown c)
