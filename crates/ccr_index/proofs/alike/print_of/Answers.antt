use Rattle.std.proofs.Common.{◌+◌, ◌*◌, ◌%◌, ◌∙◌, length, get_or, ap, sym, arith}
use Rattle.ccr_index.specs.Alike.{print_of}
use Rattle.ccr_index.proofs.AlikeLaws.{print_more, print_kept, size_more}
use Rattle.ccr_index.proofs.alike.print_of.Goals.{then-does_count, else-does_count}
use Rattle.ccr_index.proofs.alike.print_of.Goals as goal

pub loop-scope-preserved : goal.loop-scope-preserved
loop-scope-preserved c =
    let scopes = c.args.scopes.now in
    let xs = c.args.pairs.now in
    let i = c.loop-scope.scope-index in
    let x = get_or xs i (0, 0) in
    let is = c.loop-scope.invariant in
    elim c.if-does_count.branch [
      | then-does_count w ↦ (let t = sym c.does_count.ensures ∙ w.if-does_count.true in (
        w.number-is ∙ ap (λ n. (n * 1000003 + x.0 * 100001 + x.1) % 4294967296) is.0 ∙ sym (print_more scopes xs i (0, 0) c.loop-scope-test.true t),
        w.size-is ∙ ap (λ n. n + 1) is.1 ∙ sym (size_more scopes xs i (0, 0) c.loop-scope-test.true t),
        omega (arith, w.number-is),
        omega (arith, w.size-is, is.3),
      ))
      | else-does_count w ↦ (let f = sym c.does_count.ensures ∙ w.if-does_count.false in (
        w.number-is ∙ is.0 ∙ ap (print_of 0) (sym (print_kept scopes xs i (0, 0) c.loop-scope-test.true f)),
        w.size-is ∙ is.1 ∙ ap length (sym (print_kept scopes xs i (0, 0) c.loop-scope-test.true f)),
        omega (arith, w.number-is, is.2),
        omega (arith, w.size-is, is.3),
      ))
    ]
