use Rattle.std.proofs.Common.{◌≡◌, [], ap, ◌∙◌}
use Rattle.std.specs.Prelude.{slice_index_or}
use Rattle.std.proofs.lemmas.List.{get_or_read}
use Rattle.ccr_choice.specs.Problem.{builds_at}
use Rattle.ccr_choice.proofs.Bounds.{builds_kept}
use Rattle.ccr_choice.proofs.Lookups.{builds_ascend, got_ascends}
use Rattle.ccr_choice.proofs.possible.fixed_build.Goals as goal

pub returns-in-Some-clause-ascending : goal.returns-in-Some-clause-ascending
returns-in-Some-clause-ascending c =
    let p = c.args.problem.now in
    let at : c.index-jobs-job.result ≡ builds_at p c.args.job =
    get_or_read p.jobs c.args.job c.index-jobs-job.result c.requires (c.index-jobs-job.is ∙ ap (λ js. slice_index_or js c.args.job c.index-jobs-job.result) c.jobs-jobs.ensures.value) [] in
    let kept = builds_kept p c.args.job c.builds.result.now c.jobs-jobs.ensures.kept c.requires (c.builds.ensures ∙ at) in
    got_ascends c.builds.result.now c.in-Some.k c.get.result (builds_ascend _ c.builds.result.now kept) c.get.ensures.lookup
