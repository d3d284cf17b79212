use Rattle.std.proofs.Common.{◌≡◌, ◌∙◌, List, Option, ℕ, length, map, ap, sym, subst, arith}
use Rattle.ccr_history.specs.Changes.{build, edited}
use Rattle.ccr_history.specs.History.{HistoryData}
use Rattle.ccr_index.specs.Index.{IndexValue}
use Rattle.ccr_pipeline.specs.Pipelines.{pipeline_data}
use Rattle.ccr_problem.specs.Indexes.{AreIndexes}
use Rattle.ccr_problem.proofs.Each.{written}
use Rattle.ccr_problem.proofs.Takings.{all_few, all_rules, made_so}
use Rattle.ccr_problem.proofs.indexes.Indexes.make.Goals as goal

pub keep_all-requires-clause-few : goal.keep_all-requires-clause-few
keep_all-requires-clause-few c = λ k d within.
    let p = pipeline_data c.args.pipeline.now in
    let h : HistoryData = c.args.history.now in
    let xs : List IndexValue = c.deref_mut.result.now in
    let are = subst (AreIndexes p h) (sym (c.deref_mut.ensures.value ∙ c.self.view_is)) c.requires.indexed in
    let more : List (List (Option ℕ)) = map (λ x. x.items) c.deref.result.now in
    let is = ap (map (λ x. x.items)) c.deref.ensures.value ∙ c.in_ok-taken.ensures in
    all_few p h c.args.job.now c.args.used.now c.builds_change_problems.ensures.made c.rules.ensures c.requires.used xs are more is k d within

pub keep_all-requires-clause-rules : goal.keep_all-requires-clause-rules
keep_all-requires-clause-rules c = λ k within.
    let p = pipeline_data c.args.pipeline.now in
    let h : HistoryData = c.args.history.now in
    let xs : List IndexValue = c.deref_mut.result.now in
    let are = subst (AreIndexes p h) (sym (c.deref_mut.ensures.value ∙ c.self.view_is)) c.requires.indexed in
    let more : List (List (Option ℕ)) = map (λ x. x.items) c.deref.result.now in
    let is = ap (map (λ x. x.items)) c.deref.ensures.value ∙ c.in_ok-taken.ensures in
    all_rules p h c.args.job.now c.args.used.now c.builds_change_problems.ensures.made c.rules.ensures c.requires.used xs are more is k within

pub returns-clause-indexed : goal.returns-clause-indexed
returns-clause-indexed c =
    let p = pipeline_data c.args.pipeline.now in
    let h : HistoryData = c.args.history.now in
    let xs : List IndexValue = c.deref_mut.result.now in
    let are = subst (AreIndexes p h) (sym (c.deref_mut.ensures.value ∙ c.self.view_is)) c.requires.indexed in
    let more : List (List (Option ℕ)) = map (λ x. x.items) c.deref.result.now in
    let is = ap (map (λ x. x.items)) c.deref.ensures.value ∙ c.in_ok-taken.ensures in
    let made : c.add_build.new.self ≡ edited (build c.args.job.now c.args.used.now) h = c.in_ok-number.ensures.ok in
    let all = made_so p h c.args.job.now c.args.used.now c.builds_change_problems.ensures.made c.rules.ensures c.requires.used xs are more is
    c.keep_all.new.indexes c.keep_all.ensures.many c.keep_all.ensures.problems in
    let same = ap length c.deref_mut.ensures.value in
    subst (λ l. AreIndexes p c.add_build.new.self l)
    (sym (written c.keep_all.new.indexes c.self.inside.of_jobs.items c.self.inside.of_jobs.len (omega (arith, c.self.inside.of_jobs.ok)) (c.keep_all.ensures.many ∙ same)))
    (subst (λ x. AreIndexes p x c.keep_all.new.indexes) (sym made) all)
