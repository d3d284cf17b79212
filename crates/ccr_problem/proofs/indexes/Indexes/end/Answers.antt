use Rattle.std.proofs.Common.{◌≡◌, ◌∙◌, length, sym, subst, arith}
use Rattle.ccr_history.specs.Changes.{ended, edited}
use Rattle.ccr_history.specs.History.{HistoryData, IsHistory}
use Rattle.ccr_pipeline.specs.Pipelines.{pipeline_data}
use Rattle.ccr_problem.specs.Indexes.{AreIndexes}
use Rattle.ccr_problem.specs.Passing.{CanAllTake}
use Rattle.ccr_problem.proofs.Each.{few_at, written, on_is_ok}
use Rattle.ccr_problem.proofs.IndexEnds.{all_take, ends_so}
use Rattle.ccr_problem.proofs.indexes.Indexes.end.Goals as goal

pub add_brought-requires-clause-rules : goal.add_brought-requires-clause-rules
add_brought-requires-clause-rules c =
    let p = pipeline_data c.args.pipeline.now in
    let h : HistoryData = c.args.history.now in
    let over : c.end_build_with.new.self ≡ edited (ended c.args.job.now c.args.number c.args.status c.args.pairs.items) h =
    on_is_ok c.end_build_with.result c.end_build_with.ensures.ok (c.end_build_with.ensures.running.1 c.requires.running) in
    let kept = subst IsHistory over c.text.ensures.kept in
    let all = all_take p h c.args.job.now c.args.number c.args.status c.args.pairs.items c.builds_change_problems.ensures.unsuccessful c.builds_change_problems.ensures.succeeded c.rules.ensures c.requires.running c.requires.newest
    c.args.brought.now c.args.self.now c.requires.indexed c.requires.brought (few_at c.args.pipeline.now.jobs.items) kept in
    subst (CanAllTake c.args.brought.now) (sym (c.deref_mut.ensures.value ∙ c.self.view_is)) all

pub returns-clause-indexed : goal.returns-clause-indexed
returns-clause-indexed c =
    let p = pipeline_data c.args.pipeline.now in
    let h : HistoryData = c.args.history.now in
    let over : c.end_build_with.new.self ≡ edited (ended c.args.job.now c.args.number c.args.status c.args.pairs.items) h =
    on_is_ok c.end_build_with.result c.end_build_with.ensures.ok (c.end_build_with.ensures.running.1 c.requires.running) in
    let are = subst (AreIndexes p h) (sym (c.deref_mut.ensures.value ∙ c.self.view_is)) c.requires.indexed in
    let all = ends_so p h c.args.job.now c.args.number c.args.status c.args.pairs.items c.builds_change_problems.ensures.unsuccessful c.builds_change_problems.ensures.succeeded c.rules.ensures c.requires.running c.requires.newest
    c.args.brought.now c.deref_mut.result.now c.add_brought.new.indexes are c.requires.brought c.add_brought.ensures.many c.add_brought.ensures.problems in
    let same = Rattle.std.proofs.Common.ap length c.deref_mut.ensures.value in
    subst (λ l. AreIndexes p c.end_build_with.new.self l)
    (sym (written c.add_brought.new.indexes c.self.inside.of_jobs.items c.self.inside.of_jobs.len (omega (arith, c.self.inside.of_jobs.ok)) (c.add_brought.ensures.many ∙ same)))
    (subst (λ x. AreIndexes p x c.add_brought.new.indexes) (sym over) all)
