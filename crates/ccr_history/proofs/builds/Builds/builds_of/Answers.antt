use Rattle.std.proofs.Common.{◌≡◌, ◌<◌, ◌∙◌, sym, refl, arith, length, slice_get, Some}
use Rattle.std.proofs.lemmas.Option.{slice_get_read, slice_get_within}
use Rattle.ccr_history.proofs.Links.{positions_kept, positions_absent}
use Rattle.ccr_history.proofs.builds.Builds.builds_of.Goals as goal

pub returns-in-Some-clause-is : goal.returns-in-Some-clause-is
returns-in-Some-clause-is c =
    let s = c.self.inside in
    let linked = c.self.invariant.0 in
    let found = c.in-Some.ensures.found in
    let within : c.in-Some.job < length s.of_jobs.items = omega (arith, slice_get_within s.jobs c.in-Some.job c.args.job.now found, linked.enough) in
    let at : slice_get s.of_jobs.items c.in-Some.job ≡ Some c.index-kept.result.now =
    slice_get_read s.of_jobs.items (length s.of_jobs.items) c.in-Some.job c.index-kept.result.now refl within c.index-kept.ensures in
    rw (← c.self.view_is)
    (c.positions.ensures ∙ positions_kept s.jobs s.inputs s.made.rows s.of_jobs.items linked c.in-Some.ensures.apart c.args.job.now c.in-Some.job c.index-kept.result.now found at)

pub returns-in-None-clause-is : goal.returns-in-None-clause-is
returns-in-None-clause-is c =
    let s = c.self.inside in
    rw (← c.self.view_is) (sym (positions_absent s.jobs s.inputs s.made.rows s.of_jobs.items c.self.invariant.0 c.args.job.now c.in-None.ensures.absent))
