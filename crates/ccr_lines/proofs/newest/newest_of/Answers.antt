use Rattle.std.proofs.Common.{◌≡◌, ◌+◌, ◌-◌, suc, ◌∙◌, ap, arith}
use Rattle.ccr_history.specs.Builds.{count_of}
use Rattle.ccr_lines.specs.Newest.{is_sought, newest_up_to, newest_of}
use Rattle.ccr_lines.proofs.Newer.{one_on, one_here}
use Rattle.ccr_lines.proofs.newest.newest_of.Goals as goal

pub loop-newer-init : goal.loop-newer-init
loop-newer-init c =
    let all : c.count_of-count.result - 0 ≡ count_of c.args.job.now c.args.history.now.builds = omega arith in
    ap (λ n. newest_up_to (is_sought c.args.history.now c.args.sought) c.args.job.now c.args.history.now.builds n) all

pub returns-in-Some : goal.returns-in-Some
returns-in-Some c =
    let n = c.count_of-count.result - c.loop-newer.newer in
    let m = c.count_of-count.result - (c.loop-newer.newer + 1) in
    let next : n ≡ suc m = omega arith in
    one_here (is_sought c.args.history.now c.args.sought) c.args.job.now c.args.history.now.builds n m c.if_sought.result
    (newest_of (is_sought c.args.history.now c.args.sought) c.args.job.now c.args.history.now) c.in-Some.build next c.if_sought.ensures
    c.in-Some.is c.loop-newer.invariant

pub loop-newer-preserved : goal.loop-newer-preserved
loop-newer-preserved c =
    let n = c.count_of-count.result - c.loop-newer.newer in
    let m = c.count_of-count.result - (c.loop-newer.newer + 1) in
    let next : n ≡ suc m = omega arith in
    one_on (is_sought c.args.history.now c.args.sought) c.args.job.now c.args.history.now.builds n m c.if_sought.result
    (newest_of (is_sought c.args.history.now c.args.sought) c.args.job.now c.args.history.now) next c.if_sought.ensures c.in-None.is
    c.loop-newer.invariant

pub returns : goal.returns
returns c =
    let none : 0 ≡ c.count_of-count.result - c.loop-newer.newer = omega arith in
    ap (λ n. newest_up_to (is_sought c.args.history.now c.args.sought) c.args.job.now c.args.history.now.builds n) none
    ∙ c.loop-newer.invariant
