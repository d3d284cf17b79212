use Rattle.std.proofs.Common.{length, ap, arith}
use Rattle.ccr_resolve.specs.Search.{places_of}
use Rattle.ccr_resolve.proofs.WantedLaws.{full_split}
use Rattle.ccr_resolve.proofs.wanted.next_split.Goals as goal

pub returns : goal.returns
returns c =
    let p = c.args.index.now.problem in
    full_split p c.args.fixed.now (places_of c.args.best.now) c.in-Some-cheapest_job.job c.in_ok-builds.builds.items c.in-Some-cheapest_job.ensures.0 c.in-Some-cheapest_job.ensures.1
    (omega (arith, c.in_ok-builds.ensures.0, c.len.ensures, ap length c.rows.ensures.value)) (λ k within. c.in_ok-builds.ensures.1 k (omega (arith, within, c.len.ensures, ap length c.rows.ensures.value)))
