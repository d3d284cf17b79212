use Rattle.std.proofs.Common.{◌∙◌, arith}
use Rattle.ccr_layout.proofs.place.pulled.Goals as goal

pub loop-node-preserved : goal.loop-node-preserved
loop-node-preserved c =
    let is = c.loop-node.invariant in
    record {
      long = c.pull.ensures.long ∙ is.long;
      down = λ k. let a = is.down k in let b = c.pull.ensures.down k in omega (arith, a, b);
    }
