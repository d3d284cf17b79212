use Rattle.std.proofs.Common.{◌≡◌, ◌+◌, ◌<◌, ◌≤◌, ◌∙◌, ◌++◌, ◌∷◌, [], ◌||◌, ap, sym, refl, arith, length, set, slice_get, subst, Some}
use Rattle.std.specs.List.{list_any}
use Rattle.std.proofs.lemmas.Option.{slice_get_read, slice_get_within}
use Rattle.std.proofs.lemmas.List.{length-map}
use Rattle.ccr_history.specs.Builds.{with_build, count_of}
use Rattle.std.specs.Map.{lookup}
use Rattle.std.specs.Option.{option_or}
use Rattle.ccr_history.specs.Newest.{last_given}
use Rattle.ccr_history.specs.Rows.{build_data, builds_data, new_row, is_same, is_input_scope, row_if_at, IsLinked}
use Rattle.ccr_history.specs.Orderly.{AreOrderly}
use Rattle.ccr_history.proofs.Added.{on_err, set_same, more_well, few_positions, next_number, added_well}
use Rattle.ccr_history.proofs.builds.Builds.add.Goals as goal

-- ---- where the numbers were refused
refused : (c : goal.After-from_residual) → let s = c.self.inside in let n = c.numbers.new in
    IsLinked n.jobs n.inputs s.made.rows n.of_jobs.items
    × (builds_data n.jobs n.inputs s.made.rows ≡ builds_data s.jobs s.inputs s.made.rows)
refused c =
    let n = c.numbers.new in
    let e = c.in_err-job.ensures in
    more_well n.jobs n.inputs n.of_jobs.items c.self.invariant.0 refl e.jobs_more e.inputs_more e.kept e.enough

pub invariant_of-self : goal.invariant_of-self
invariant_of-self c = let m = refused c in (m.0, subst AreOrderly (sym m.1) c.self.invariant.1)

pub returns-in_err-job-clause-unchanged : goal.returns-in_err-job-clause-unchanged
returns-in_err-job-clause-unchanged c = on_err _ ((refused c).1 ∙ c.self.view_is)

-- ---- where the room was refused
refused_room : (c : goal.After-drop-used) → let s = c.self.inside in let n = c.numbers.new in
    IsLinked n.jobs n.inputs c.reserve.new.self.rows n.of_jobs.items
    × (builds_data n.jobs n.inputs c.reserve.new.self.rows ≡ builds_data s.jobs s.inputs s.made.rows)
refused_room c =
    let n = c.numbers.new in
    let e = c.in_ok-job.ensures in
    more_well n.jobs n.inputs n.of_jobs.items c.self.invariant.0 c.in_err-reserve.ensures.same e.jobs_more e.inputs_more e.kept e.enough

pub invariant_of-self-in_err-reserve : goal.invariant_of-self-in_err-reserve
invariant_of-self-in_err-reserve c = let m = refused_room c in (m.0, subst AreOrderly (sym m.1) c.self.invariant.1)

pub returns-in_err-reserve-clause-unchanged : goal.returns-in_err-reserve-clause-unchanged
returns-in_err-reserve-clause-unchanged c = on_err _ ((refused_room c).1 ∙ c.self.view_is)

-- ---- the next number
pub index_mut-kept-requires : goal.index_mut-kept-requires
index_mut-kept-requires c =
    omega (arith, slice_get_within c.numbers.new.jobs c.in_ok-job.job c.args.job.now c.in_ok-job.ensures.job, c.in_ok-job.ensures.enough, c.numbers.new.of_jobs.ok.0)

few : (c : goal.After-positions) → length c.positions.result.now ≤ length c.reserve.new.self.rows
few c =
    let n = c.numbers.new in
    let e = c.in_ok-job.ensures in
    let d = c.index_mut-kept.result.now in
    let m = more_well n.jobs n.inputs n.of_jobs.items c.self.invariant.0 c.in_ok-reserve.ensures.same e.jobs_more e.inputs_more e.kept e.enough in
    let within : c.in_ok-job.job < length n.of_jobs.items = omega (arith, slice_get_within n.jobs c.in_ok-job.job c.args.job.now e.job, e.enough) in
    let at : slice_get n.of_jobs.items c.in_ok-job.job ≡ Some d = slice_get_read n.of_jobs.items (length n.of_jobs.items) c.in_ok-job.job d refl within c.index_mut-kept.ensures.value in
    omega (arith, ap length c.positions.ensures, few_positions n.jobs n.inputs c.reserve.new.self.rows n.of_jobs.items c.in_ok-job.job d m.0 at)

pub overflow_cast-number : goal.overflow_cast-number
overflow_cast-number c =
    let s = c.self.inside in
    omega (arith, few c, ap length c.in_ok-reserve.ensures.same, length-map s.made.rows (build_data s.jobs s.inputs), c.self.invariant.1.0)

pub overflow_add-number : goal.overflow_add-number
overflow_add-number c =
    let s = c.self.inside in
    omega (arith, few c, ap length c.in_ok-reserve.ensures.same, length-map s.made.rows (build_data s.jobs s.inputs), c.self.invariant.1.0)

-- ---- where the job's builds were refused one more
refused_job : (c : goal.After-drop-used-in_err-add) → let s = c.self.inside in let n = c.numbers.new in
    IsLinked n.jobs n.inputs c.reserve.new.self.rows (set n.of_jobs.items c.in_ok-job.job c.add.new.self)
    × (builds_data n.jobs n.inputs c.reserve.new.self.rows ≡ builds_data s.jobs s.inputs s.made.rows)
refused_job c =
    let n = c.numbers.new in
    let e = c.in_ok-job.ensures in
    let d = c.index_mut-kept.result.now in
    let m = more_well n.jobs n.inputs n.of_jobs.items c.self.invariant.0 c.in_ok-reserve.ensures.same e.jobs_more e.inputs_more e.kept e.enough in
    let within : c.in_ok-job.job < length n.of_jobs.items = omega (arith, slice_get_within n.jobs c.in_ok-job.job c.args.job.now e.job, e.enough) in
    let at : slice_get n.of_jobs.items c.in_ok-job.job ≡ Some d = slice_get_read n.of_jobs.items (length n.of_jobs.items) c.in_ok-job.job d refl within c.index_mut-kept.ensures.value in
    (subst (IsLinked n.jobs n.inputs c.reserve.new.self.rows) (sym (set_same n.of_jobs.items c.in_ok-job.job d c.add.new.self at c.in_err-add.ensures.unchanged)) m.0, m.1)

pub invariant_of-self-in_err-add : goal.invariant_of-self-in_err-add
invariant_of-self-in_err-add c = let m = refused_job c in (m.0, subst AreOrderly (sym m.1) c.self.invariant.1)

pub returns-in_err-add-clause-unchanged : goal.returns-in_err-add-clause-unchanged
returns-in_err-add-clause-unchanged c = on_err _ ((refused_job c).1 ∙ c.self.view_is)

-- ---- with the new build
numbered : (c : goal.After-drop-used-2) → let s = c.self.inside in let n = c.numbers.new in
    IsLinked n.jobs n.inputs c.reserve.new.self.rows n.of_jobs.items
    × (builds_data n.jobs n.inputs c.reserve.new.self.rows ≡ builds_data s.jobs s.inputs s.made.rows)
    × (slice_get n.of_jobs.items c.in_ok-job.job ≡ Some c.index_mut-kept.result.now)
numbered c =
    let n = c.numbers.new in
    let e = c.in_ok-job.ensures in
    let d = c.index_mut-kept.result.now in
    let m = more_well n.jobs n.inputs n.of_jobs.items c.self.invariant.0 c.in_ok-reserve.ensures.same e.jobs_more e.inputs_more e.kept e.enough in
    let within : c.in_ok-job.job < length n.of_jobs.items = omega (arith, slice_get_within n.jobs c.in_ok-job.job c.args.job.now e.job, e.enough) in
    (m.0, m.1, slice_get_read n.of_jobs.items (length n.of_jobs.items) c.in_ok-job.job d refl within c.index_mut-kept.ensures.value)

well : (c : goal.After-drop-used-2) → let n = c.numbers.new in let rows = c.add-2.new.self.rows in
    IsLinked n.jobs n.inputs rows (set n.of_jobs.items c.in_ok-job.job c.add.new.self) × AreOrderly (builds_data n.jobs n.inputs rows)
    × (builds_data n.jobs n.inputs rows ≡ with_build c.args.job.now c.args.used.now (builds_data n.jobs n.inputs c.reserve.new.self.rows))
well c =
    let s = c.self.inside in
    let n = c.numbers.new in
    let e = c.in_ok-job.ensures in
    let d = c.index_mut-kept.result.now in
    let rows = c.reserve.new.self.rows in
    let m = numbered c in
    let position : c.len-position.result ≡ length rows = c.len-position.ensures in
    added_well n.jobs n.inputs rows c.add-2.new.self.rows n.of_jobs.items c.in_ok-job.job (length c.positions.result.now + 1) c.in_ok-job.used.items d c.add.new.self c.args.job.now c.args.used.now
    m.0 (subst AreOrderly (sym m.1) c.self.invariant.1)
    (omega (arith, ap length c.in_ok-reserve.ensures.same, length-map s.made.rows (build_data s.jobs s.inputs), c.self.invariant.1.0, c.len.ensures, c.if-len-eq-MOST_BUILDS.false))
    c.requires e.apart e.job m.2 e.named e.used
    (c.in_ok-add.ensures.at ∙ ap (λ p. d.at ++ p ∷ []) position)
    (λ u. c.in_ok-add.ensures.used u ∙ ap (λ l. list_any (is_same u) d.used || list_any (is_same u) l) c.deref.ensures.value)
    (λ s. c.in_ok-add.ensures.newest s ∙ ap (λ l. option_or (last_given (row_if_at s) l) (lookup (is_input_scope s) d.newest)) c.deref.ensures.value)
    (ap (λ l. length l + 1) c.positions.ensures)
    (c.add-2.ensures ∙ ap (λ us. rows ++ new_row c.in_ok-job.job (length c.positions.result.now + 1) us ∷ []) c.deref-2.ensures.value)

pub invariant_of-self-2 : goal.invariant_of-self-2
invariant_of-self-2 c = let w = well c in (w.0, w.1)

pub returns-clause-number : goal.returns-clause-number
returns-clause-number c =
    let n = c.numbers.new in
    let e = c.in_ok-job.ensures in
    let m = numbered c in
    ap (λ l. length l + 1) c.positions.ensures
    ∙ ap (λ k. k + 1) (next_number n.jobs n.inputs c.reserve.new.self.rows n.of_jobs.items c.in_ok-job.job c.index_mut-kept.result.now c.args.job.now m.0 e.apart e.job m.2)
    ∙ ap (λ bs. count_of c.args.job.now bs + 1) (m.1 ∙ c.self.view_is)

pub returns-clause-added : goal.returns-clause-added
returns-clause-added c =
    (well c).2 ∙ ap (with_build c.args.job.now c.args.used.now) ((numbered c).1 ∙ c.self.view_is)
