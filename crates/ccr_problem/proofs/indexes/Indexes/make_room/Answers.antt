use Rattle.std.proofs.Common.{◌∙◌, ap, length, arith}
use Rattle.ccr_problem.specs.Indexes.{problems}
use Rattle.ccr_problem.proofs.Each.{written, same_problems}
use Rattle.ccr_problem.proofs.indexes.Indexes.make_room.Goals as goal

pub returns-clause-problems : goal.returns-clause-problems
returns-clause-problems c =
    let same = ap length c.deref_mut.ensures.value in
    ap problems (written c.room_for_all.new.indexes c.self.inside.of_jobs.items c.self.inside.of_jobs.len (omega (arith, c.self.inside.of_jobs.ok)) (c.room_for_all.ensures.many ∙ same))
    ∙ same_problems c.deref_mut.result.now c.room_for_all.new.indexes c.room_for_all.ensures.many c.room_for_all.ensures.problems
    ∙ ap problems (c.deref_mut.ensures.value ∙ c.self.view_is)
