use Rattle.std.proofs.Common.{◌≡◌, ◌≤◌, ◌+◌, ◌∷◌, ◌∙◌, List, length, ap, sym, subst, arith}
use Rattle.ccr_choice.specs.Problem.{BuildValue, builds_at}
use Rattle.ccr_index.specs.Rows.{JobRowsValue}
use Rattle.ccr_index.specs.Index.{IndexValue, AreTops, problem_in, with_new_build, left_after}
use Rattle.ccr_index.proofs.IndexLaws.{viewed, rows_in, job_inside, index_grown, index_roomy_job, new_rule, on_err, left_all, left_none, build_value}
use Rattle.ccr_index.proofs.index.Index.add_build.Goals.{then-added-self, else-added-self}
use Rattle.ccr_index.proofs.index.Index.add_build.Goals as goal

pub tops_with-tops-requires-clause-ascending : goal.tops_with-tops-requires-clause-ascending
tops_with-tops-requires-clause-ascending c = (new_rule c.args.self.now.problem c.args.job (record { number = c.args.number; pairs = c.args.pairs.now }) c.requires.job c.requires.rules).0

pub add-requires-clause-ascending : goal.add-requires-clause-ascending
add-requires-clause-ascending c = (new_rule c.args.self.now.problem c.args.job (record { number = c.args.number; pairs = c.args.pairs.now }) c.requires.job c.requires.rules).0

pub add-requires-clause-few : goal.add-requires-clause-few
add-requires-clause-few c = (new_rule c.args.self.now.problem c.args.job (record { number = c.args.number; pairs = c.args.pairs.now }) c.requires.job c.requires.rules).1

pub add-requires-clause-limit : goal.add-requires-clause-limit
add-requires-clause-limit c =
    let few = (new_rule c.args.self.now.problem c.args.job (record { number = c.args.number; pairs = c.args.pairs.now }) c.requires.job c.requires.rules).2 in
    let inside = job_inside c.self.inside.inputs.items c.self.inside.jobs.items c.self.inside.spare_places c.self.inside.spare_pairs c.args.self.now c.self.view_is c.args.job c.requires.job in
    let was = rows_in c.self.inside.inputs.items c.self.inside.jobs.items c.args.job c.index_mut-rows.result.now inside c.index_mut-rows.ensures.value in
    let same = ap (λ (v : IndexValue). length (builds_at v.problem c.args.job)) c.self.view_is in
    omega (arith, few, ap length c.make_room.ensures.builds, ap length was, same)

pub invariant_of-self : goal.invariant_of-self
invariant_of-self c =
    let inside = job_inside c.self.inside.inputs.items c.self.inside.jobs.items c.self.inside.spare_places c.self.inside.spare_pairs c.args.self.now c.self.view_is c.args.job c.requires.job in
    (index_roomy_job c.self.inside.inputs.items c.self.inside.jobs.items c.self.inside.tops c.self.inside.spare_places c.self.inside.spare_pairs c.self.invariant c.args.job c.index_mut-rows.result.now c.make_room.new.self
    c.index_mut-rows.ensures.value inside c.make_room.ensures.builds c.make_room.ensures.scopes c.make_room.ensures.kept).0

pub returns-in_err-make_room-clause-err : goal.returns-in_err-make_room-clause-err
returns-in_err-make_room-clause-err c =
    let inside = job_inside c.self.inside.inputs.items c.self.inside.jobs.items c.self.inside.spare_places c.self.inside.spare_pairs c.args.self.now c.self.view_is c.args.job c.requires.job in
    let same = (index_roomy_job c.self.inside.inputs.items c.self.inside.jobs.items c.self.inside.tops c.self.inside.spare_places c.self.inside.spare_pairs c.self.invariant c.args.job c.index_mut-rows.result.now c.make_room.new.self
    c.index_mut-rows.ensures.value inside c.make_room.ensures.builds c.make_room.ensures.scopes c.make_room.ensures.kept).1 in
    let V : List (List BuildValue) → IndexValue = λ js. record { problem = record { inputs = (problem_in c.self.inside.inputs.items c.self.inside.jobs.items).inputs; jobs = js }; spare_places = c.self.inside.spare_places; spare_pairs = c.self.inside.spare_pairs } in
    on_err c.from_residual.result _ (ap V same ∙ c.self.view_is)

pub invariant_of-self-2 : goal.invariant_of-self-2
invariant_of-self-2 c =
    let inputs = c.self.inside.inputs.items in
    let jobs = c.self.inside.jobs.items in
    let n = c.self.inside.spare_places in
    let m = c.self.inside.spare_pairs in
    let j = c.args.job in
    let b : BuildValue = record { number = c.args.number; pairs = c.args.pairs.now } in
    let tops = c.tops_with-tops.result in
    let inside = job_inside inputs jobs n m c.args.self.now c.self.view_is j c.requires.job in
    let was : c.index_mut-rows.result.now.builds ≡ builds_at (problem_in inputs jobs) j = rows_in inputs jobs j c.index_mut-rows.result.now inside c.index_mut-rows.ensures.value in
    let grown : c.add.new.self.builds ≡ b ∷ builds_at (problem_in inputs jobs) j = c.add.ensures.builds ∙ ap (λ bs. b ∷ bs) (c.make_room.ensures.builds ∙ was) in
    let scopes = c.add.ensures.scopes ∙ c.make_room.ensures.scopes ∙ ap (λ (r : JobRowsValue). r.scopes) c.index_mut-rows.ensures.value in
    let Tops : IndexValue → Type 0 = λ v. AreTops (with_new_build v.problem j b) tops in
    let best : Tops (viewed inputs jobs n m) = subst Tops (sym c.self.view_is) (c.tops_with-tops.ensures c.args.number c.requires.rules) in
    let low : c.if-added-self.left ≤ m = elim c.if-added-self.branch [ then-added-self w ↦ omega (arith, w.left-is) | else-added-self w ↦ omega (arith, w.left-is) ] in
    index_grown inputs jobs c.self.inside.tops tops n m c.if-added-self.left j b c.index_mut-rows.result.now c.add.new.self c.self.invariant grown scopes (omega (arith, c.add.ensures.spare, c.in_ok-make_room.ensures.room)) low best

pub returns-clause-ok : goal.returns-clause-ok
returns-clause-ok c =
    let inputs = c.self.inside.inputs.items in
    let jobs = c.self.inside.jobs.items in
    let n = c.self.inside.spare_places in
    let m = c.self.inside.spare_pairs in
    let j = c.args.job in
    let added = length c.args.pairs.now + 1 in
    let b : BuildValue = record { number = c.args.number; pairs = c.args.pairs.now } in
    let inside = job_inside inputs jobs n m c.args.self.now c.self.view_is j c.requires.job in
    let was : c.index_mut-rows.result.now.builds ≡ builds_at (problem_in inputs jobs) j = rows_in inputs jobs j c.index_mut-rows.result.now inside c.index_mut-rows.ensures.value in
    let grown : c.add.new.self.builds ≡ b ∷ builds_at (problem_in inputs jobs) j = c.add.ensures.builds ∙ ap (λ bs. b ∷ bs) (c.make_room.ensures.builds ∙ was) in
    let left : c.if-added-self.left ≡ left_after m added = elim c.if-added-self.branch [
      | then-added-self w ↦ w.left-is ∙ left_all m added w.if-added-self.true
      | else-added-self w ↦ w.left-is ∙ left_none m added w.if-added-self.false
    ] in
    build_value inputs jobs n m j added c.if-added-self.left b c.add.new.self c.args.self.now c.self.view_is grown left
