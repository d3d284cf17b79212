use Rattle.std.proofs.Common.{◌≡◌, ◌+◌, ◌*◌, length, ap, ◌∙◌, arith}
use Rattle.std.proofs.lemmas.List.{length_push}
use Rattle.std.proofs.lemmas.List.Sums.{sum_by_push}
use Rattle.ccr_layout.specs.Lines.{line_count}
use Rattle.ccr_layout.proofs.line.all_pieces.Goals as goal

pub loop-column-preserved : goal.loop-column-preserved
loop-column-preserved c =
    let lines = c.loop-column.lines.items in
    let new = c.in_ok-pieces.field-0 in
    record {
      long = ap length c.in_ok-push.ensures.items ∙ length_push lines new ∙ ap (λ n. n + 1) c.loop-column.invariant.long;
      few = omega (arith, ap line_count c.in_ok-push.ensures.items, sum_by_push (λ v. length v.items) lines new, c.in_ok-pieces.ensures, c.loop-column.invariant.few);
    }

pub returns-clause-few : goal.returns-clause-few
returns-clause-few c =
    let end : c.loop-column.column ≡ c.args.columns = omega (arith, c.loop-column-test.false, c.loop-column.auto.column-end) in
    omega (arith, c.loop-column.invariant.few, ap (λ n. length c.args.spans.now * n) end)
