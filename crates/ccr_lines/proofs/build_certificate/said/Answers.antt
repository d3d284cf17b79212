use Rattle.std.proofs.Common.{inl, arith}
use Rattle.ccr_lines.proofs.Saying.{all_found, none_found, refused_so}
use Rattle.ccr_lines.proofs.Witnessing.{satisfied}
use Rattle.ccr_lines.proofs.build_certificate.said.Goals as goal

pub satisfied_text-requires : goal.satisfied_text-requires
satisfied_text-requires c =
    satisfied c.args.problem.now c.args.places.items c.in-Ok.builds.items c.inputs-inputs.ensures.kept c.requires.each
    (all_found c.args.problem.now c.args.places.items c.deref.result.now c.in_ok-builds.field-0 c.in-Ok.builds
    c.deref.ensures.value c.in-Ok.is c.in_ok-builds.ensures)
    c.requires.allowed

pub returns-in_ok-satisfied_text-in-Ok : goal.returns-in_ok-satisfied_text-in-Ok
returns-in_ok-satisfied_text-in-Ok c =
    inl (
      c.in-Ok.builds.items,
      all_found c.args.problem.now c.args.places.items c.deref.result.now c.in_ok-builds.field-0 c.in-Ok.builds
          c.deref.ensures.value c.in-Ok.is c.in_ok-builds.ensures,
      c.in_ok-satisfied_text-in-Ok.ensures,
    )

pub bounds-jobs-job : goal.bounds-jobs-job
bounds-jobs-job c =
    let first = none_found c.args.problem.now c.args.places.items c.deref.result.now c.in_ok-builds.field-0 c.in-Err.job
    c.deref.ensures.value c.in-Err.is c.in_ok-builds.ensures in
    omega (arith, first.within, c.requires.jobs)

pub returns-in-Err : goal.returns-in-Err
returns-in-Err c =
    let first = none_found c.args.problem.now c.args.places.items c.deref.result.now c.in_ok-builds.field-0 c.in-Err.job
    c.deref.ensures.value c.in-Err.is c.in_ok-builds.ensures in
    refused_so c.args.problem.now c.args.places.items c.args.jobs.now c.in-Err.job c.index-jobs-job.result
    c.as_str.result.now c.not_together.result first (omega (arith, first.within, c.requires.jobs)) c.index-jobs-job.is
    c.as_str.ensures.value c.not_together.ensures
