use Rattle.std.proofs.Common.{◌≡◌, ◌<◌, ◌∙◌, sym, refl, arith, length, slice_get, Some}
use Rattle.std.proofs.lemmas.Option.{slice_get_read, slice_get_within}
use Rattle.ccr_history.specs.declared.used_row.InputScope.{InputScope}
use Rattle.ccr_history.proofs.Links.{newest_kept, newest_absent_job, newest_absent_input}
use Rattle.ccr_history.proofs.builds.Builds.newest_used.Goals as goal

pub returns-in_err-job : goal.returns-in_err-job
returns-in_err-job c =
    let s = c.self.inside in
    rw (← c.self.view_is)
    (c.from_residual.ensures
    ∙ sym (newest_absent_job s.jobs s.inputs s.made.rows s.of_jobs.items c.self.invariant.0 c.args.job.now c.args.input.now c.args.scope c.in_err-job.ensures.absent))

pub returns-in_err-input : goal.returns-in_err-input
returns-in_err-input c =
    let s = c.self.inside in
    rw (← c.self.view_is)
    (c.from_residual-in_err-input.ensures
    ∙ sym (newest_absent_input s.jobs s.inputs s.made.rows s.of_jobs.items c.self.invariant.0 c.args.job.now c.args.input.now c.args.scope c.in_err-input.ensures.absent))

pub index-kept-requires : goal.index-kept-requires
index-kept-requires c =
    let s = c.self.inside in
    omega (arith, slice_get_within s.jobs c.in_ok-job.job c.args.job.now c.in_ok-job.ensures.found, c.self.invariant.0.enough, s.of_jobs.ok.0)

pub returns : goal.returns
returns c =
    let s = c.self.inside in
    let linked = c.self.invariant.0 in
    let found = c.in_ok-job.ensures.found in
    let within : c.in_ok-job.job < length s.of_jobs.items = omega (arith, slice_get_within s.jobs c.in_ok-job.job c.args.job.now found, linked.enough) in
    let at : slice_get s.of_jobs.items c.in_ok-job.job ≡ Some c.index-kept.result.now =
    slice_get_read s.of_jobs.items (length s.of_jobs.items) c.in_ok-job.job c.index-kept.result.now refl within c.index-kept.ensures in
    let t : InputScope = record { input = c.in_ok-input.input; scope = c.args.scope } in
    rw (← c.self.view_is)
    (c.newest_used.ensures ∙ newest_kept s.jobs s.inputs s.made.rows s.of_jobs.items linked c.in_ok-job.ensures.apart c.in_ok-input.ensures.apart c.args.job.now c.args.input.now c.in_ok-job.job t c.index-kept.result.now found c.in_ok-input.ensures.found at)
