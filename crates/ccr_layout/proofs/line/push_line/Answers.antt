use Rattle.std.proofs.Common.{length, ap, arith}
use Rattle.std.proofs.lemmas.List.{length_push}
use Rattle.std.proofs.lemmas.List.Sums.{sum_by-set}
use Rattle.ccr_layout.proofs.line.push_line.Goals as goal

pub returns-in_ok-push-clause-few : goal.returns-in_ok-push-clause-few
returns-in_ok-push-clause-few c =
    let lines = c.args.lines.now.items in
    let old = c.index_mut.result.now in
    let new = c.push.new.self in
    omega (arith, sum_by-set (λ v. length v.items) lines c.args.column new old (omega arith), ap (λ v. length v.items) c.index_mut.ensures.value, ap length c.in_ok-push.ensures.items, length_push old.items c.args.line)
