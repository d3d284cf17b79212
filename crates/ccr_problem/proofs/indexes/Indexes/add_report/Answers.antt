use Rattle.std.proofs.Common.{ℕ, List, [], length, map, get_or, ap, sym, ◌∙◌, subst, arith}
use Rattle.std.proofs.lemmas.Option.{slice_get_within}
use Rattle.std.proofs.lemmas.Result.{on_ok_weaker}
use Rattle.ccr_choice.specs.Problem.{ProblemValue, IsProblem}
use Rattle.ccr_index.specs.Index.{IndexValue}
use Rattle.ccr_pipeline.specs.Inputs.{inputs}
use Rattle.ccr_pipeline.specs.JobData.{JobData}
use Rattle.ccr_pipeline.specs.Pipelines.{pipeline_data}
use Rattle.ccr_problem.specs.Follows.{new_places}
use Rattle.ccr_problem.proofs.Kept.{problem_kept}
use Rattle.ccr_problem.specs.Indexes.{problems, AreIndexes, AreBefore}
use Rattle.ccr_problem.specs.Passing.{with_news}
use Rattle.ccr_problem.proofs.Each.{some_at, mapped_at, few_at, from_each, written, on_err_weaker, same_problems}
use Rattle.ccr_problem.proofs.IndexReports.{few_news, news_many, news_at, news_each}
use Rattle.ccr_problem.proofs.indexes.Indexes.add_report.Goals as goal

pub news_of-requires : goal.news_of-requires
news_of-requires c = few_news (pipeline_data c.args.pipeline.now) c.args.history.now c.args.report.now c.args.self.now c.requires c.rules.ensures

pub follow-requires-clause-each : goal.follow-requires-clause-each
follow-requires-clause-each c = λ k d within.
    let p = pipeline_data c.args.pipeline.now in
    let h = c.args.history.now in
    let r = c.args.report.now in
    let xs : List IndexValue = c.deref_mut.result.now in
    let are = subst (AreBefore p h r) (sym (c.deref_mut.ensures.value ∙ c.self.view_is)) c.requires in
    let News : JobData → List (List ℕ) = λ j. map (new_places p h r.scope r.first r.versions.items) (inputs j.plan) in
    let found = some_at p.jobs k (omega (arith, within, news_many p h r xs c.reports_change_problems.ensures are)) in
    let all = ap (map (λ x. map (λ y. y.items) x.items)) c.deref.ensures.value ∙ c.in_ok-news.ensures in
    ap (λ l. length (get_or l k [])) all ∙ ap length (mapped_at News p.jobs k found.0 [] found.1) ∙ news_each p h r xs c.reports_change_problems.ensures are k found.0 d found.1

pub follow-requires-clause-rules : goal.follow-requires-clause-rules
follow-requires-clause-rules c = λ k d within.
    let p = pipeline_data c.args.pipeline.now in
    let h = c.args.history.now in
    let r = c.args.report.now in
    let xs : List IndexValue = c.deref_mut.result.now in
    let are = subst (AreBefore p h r) (sym (c.deref_mut.ensures.value ∙ c.self.view_is)) c.requires in
    let News : JobData → List (List ℕ) = λ j. map (new_places p h r.scope r.first r.versions.items) (inputs j.plan) in
    let found = some_at p.jobs k (omega (arith, within, news_many p h r xs c.reports_change_problems.ensures are)) in
    let all = ap (map (λ x. map (λ y. y.items) x.items)) c.deref.ensures.value ∙ c.in_ok-news.ensures in
    let P : ProblemValue → Type 0 = IsProblem in
    subst P
    (sym (ap (λ l. with_news (get_or xs k d).problem (get_or l k [])) all ∙ ap (with_news (get_or xs k d).problem) (mapped_at News p.jobs k found.0 [] found.1) ∙ news_at p h r xs c.reports_change_problems.ensures are k found.0 d found.1))
    (problem_kept p h (found.0).name (inputs (found.0).plan) c.rules.ensures (few_at c.args.pipeline.now.jobs.items k found.0 found.1))

pub returns-clause-ok : goal.returns-clause-ok
returns-clause-ok c =
    let p = pipeline_data c.args.pipeline.now in
    let h = c.args.history.now in
    let r = c.args.report.now in
    let xs : List IndexValue = c.deref_mut.result.now in
    let are = subst (AreBefore p h r) (sym (c.deref_mut.ensures.value ∙ c.self.view_is)) c.requires in
    let News : JobData → List (List ℕ) = λ j. map (new_places p h r.scope r.first r.versions.items) (inputs j.plan) in
    let all = ap (map (λ x. map (λ y. y.items) x.items)) c.deref.ensures.value ∙ c.in_ok-news.ensures in
    let many = news_many p h r xs c.reports_change_problems.ensures are in
    let same = ap length c.deref_mut.ensures.value in
    on_ok_weaker c.follow.result (λ each.
    subst (AreIndexes p h)
    (sym (written c.follow.new.indexes c.self.inside.of_jobs.items c.self.inside.of_jobs.len (omega (arith, c.self.inside.of_jobs.ok)) (c.follow.ensures.many ∙ same)))
    (from_each p h c.follow.new.indexes (c.follow.ensures.many ∙ many) (λ k j d at.
    each k d (omega (arith, many, slice_get_within p.jobs k j at))
    ∙ ap (λ l. with_news (get_or xs k d).problem (get_or l k [])) all ∙ ap (with_news (get_or xs k d).problem) (mapped_at News p.jobs k j [] at) ∙ news_at p h r xs c.reports_change_problems.ensures are k j d at)))
    c.follow.ensures.ok

pub returns-clause-err : goal.returns-clause-err
returns-clause-err c =
    let same = ap length c.deref_mut.ensures.value in
    on_err_weaker c.follow.result (λ each.
    ap problems (written c.follow.new.indexes c.self.inside.of_jobs.items c.self.inside.of_jobs.len (omega (arith, c.self.inside.of_jobs.ok)) (c.follow.ensures.many ∙ same))
    ∙ same_problems c.deref_mut.result.now c.follow.new.indexes c.follow.ensures.many each
    ∙ ap problems (c.deref_mut.ensures.value ∙ c.self.view_is))
    c.follow.ensures.err
