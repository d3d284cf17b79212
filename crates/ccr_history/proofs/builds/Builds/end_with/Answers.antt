use Rattle.std.proofs.Common.{◌≡◌, ◌∙◌, ap, sym, refl, arith, length, subst}
use Rattle.std.proofs.lemmas.Option.{slice_get_within}
use Rattle.std.proofs.lemmas.List.{length-map}
use Rattle.ccr_history.specs.Builds.{is_build_of, with_end}
use Rattle.ccr_history.specs.Rows.{build_data, builds_data, ended_row, IsLinked}
use Rattle.ccr_history.specs.Orderly.{AreOrderly, IsOnly}
use Rattle.ccr_history.proofs.Sorting.{sorted-by_place}
use Rattle.ccr_history.proofs.Added.{ended_well}
use Rattle.ccr_history.proofs.builds.Builds.end_with.Goals as goal

pub end-requires : goal.end-requires
end-requires c =
    let s = c.self.inside in
    let only = c.in_ok-position.ensures.only in
    omega (arith, slice_get_within c.args.self.now c.in_ok-position.position only.it only.here, ap length c.self.view_is, length-map s.made.rows (build_data s.jobs s.inputs))

-- the fields where the build has ended
well : (c : goal.After-end) → let s = c.self.inside in let rows = c.end.new.self.rows in
    IsLinked s.jobs s.inputs rows s.of_jobs.items × AreOrderly (builds_data s.jobs s.inputs rows)
    × (builds_data s.jobs s.inputs rows ≡ with_end c.args.job.now c.args.number c.args.status c.args.moved.items (builds_data s.jobs s.inputs s.made.rows))
well c =
    let s = c.self.inside in
    let i = c.in_ok-position.position in
    let only : IsOnly (is_build_of c.args.job.now c.args.number) (builds_data s.jobs s.inputs s.made.rows) i =
    subst (λ bs. IsOnly (is_build_of c.args.job.now c.args.number) bs i) (sym c.self.view_is) c.in_ok-position.ensures.only in
    let sorted = sorted-by_place c.args.moved.items c.sort_unstable.new.self.items c.requires.once c.sort_unstable.ensures.permutation c.sort_unstable.ensures.sorted in
    let over = c.end.ensures in
    let moved = c.shrink_to_fit.new.self.items in
    subst (λ rows. IsLinked s.jobs s.inputs rows s.of_jobs.items × AreOrderly (builds_data s.jobs s.inputs rows)
    × (builds_data s.jobs s.inputs rows ≡ with_end c.args.job.now c.args.number c.args.status c.args.moved.items (builds_data s.jobs s.inputs s.made.rows)))
    (sym over.2)
    (ended_well s.jobs s.inputs s.made.rows s.of_jobs.items i c.args.job.now c.args.number c.args.status c.args.moved.items moved over.0 (ended_row c.args.status moved over.0)
    c.self.invariant.0 c.self.invariant.1 only over.1 c.requires.ended c.requires.once (c.shrink_to_fit.ensures.items ∙ sorted) refl)

pub invariant_of-self : goal.invariant_of-self
invariant_of-self c = let w = well c in (w.0, w.1)

pub returns-clause-ended : goal.returns-clause-ended
returns-clause-ended c =
    (well c).2 ∙ ap (with_end c.args.job.now c.args.number c.args.status c.args.moved.items) c.self.view_is
