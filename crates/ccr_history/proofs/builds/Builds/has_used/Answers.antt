use Rattle.std.proofs.Common.{◌≡◌, ◌<◌, ◌∙◌, sym, refl, arith, length, slice_get, Some}
use Rattle.std.proofs.lemmas.Option.{slice_get_read, slice_get_within}
use Rattle.ccr_history.specs.declared.used_row.UsedRow.{UsedRow}
use Rattle.ccr_history.specs.Builds.{UsedData}
use Rattle.ccr_history.proofs.Links.{used_kept, used_absent_job, used_absent_input}
use Rattle.ccr_history.proofs.builds.Builds.has_used.Goals as goal

pub returns-in_default : goal.returns-in_default
returns-in_default c =
    let s = c.self.inside in
    let u : UsedData = record { input = c.args.input.now; scope = c.args.scope; place = c.args.place } in
    rw (← c.self.view_is) (sym (used_absent_job s.jobs s.inputs s.made.rows s.of_jobs.items c.self.invariant.0 c.args.job.now u c.in_default.ensures.absent))

pub returns-in_default-find : goal.returns-in_default-find
returns-in_default-find c =
    let s = c.self.inside in
    let u : UsedData = record { input = c.args.input.now; scope = c.args.scope; place = c.args.place } in
    rw (← c.self.view_is) (sym (used_absent_input s.jobs s.inputs s.made.rows s.of_jobs.items c.self.invariant.0 c.args.job.now u c.in_default-find.ensures.absent))

pub index-kept-requires : goal.index-kept-requires
index-kept-requires c =
    let s = c.self.inside in
    omega (arith, slice_get_within s.jobs c.in-Some.job c.args.job.now c.in-Some.ensures.found, c.self.invariant.0.enough, s.of_jobs.ok.0)

pub returns : goal.returns
returns c =
    let s = c.self.inside in
    let linked = c.self.invariant.0 in
    let found = c.in-Some.ensures.found in
    let within : c.in-Some.job < length s.of_jobs.items = omega (arith, slice_get_within s.jobs c.in-Some.job c.args.job.now found, linked.enough) in
    let at : slice_get s.of_jobs.items c.in-Some.job ≡ Some c.index-kept.result.now =
    slice_get_read s.of_jobs.items (length s.of_jobs.items) c.in-Some.job c.index-kept.result.now refl within c.index-kept.ensures in
    let u : UsedRow = record { input = c.in-Some-find.input; scope = c.args.scope; place = c.args.place } in
    rw (← c.self.view_is)
    (c.has_used.ensures ∙ used_kept s.jobs s.inputs s.made.rows s.of_jobs.items linked c.in-Some.ensures.apart c.in-Some-find.ensures.apart c.args.job.now c.args.input.now c.in-Some.job u c.index-kept.result.now found c.in-Some-find.ensures.found at)
