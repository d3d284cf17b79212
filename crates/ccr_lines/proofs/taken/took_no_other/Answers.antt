use Rattle.std.proofs.Common.{map}
use Rattle.ccr_pipeline.specs.Inputs.{input_data}
use Rattle.ccr_lines.specs.BuildCertificates.{has_input}
use Rattle.ccr_lines.proofs.Taking.{other_here, other_on}
use Rattle.ccr_lines.proofs.taken.took_no_other.Goals as goal

pub returns-then-not-has_input : goal.returns-then-not-has_input
returns-then-not-has_input c =
    other_here (λ u. has_input (map input_data c.args.inputs.now) u.input) c.args.build.now.used c.loop-k.k _
    c.has_input.result c.used_at-scope.ensures c.has_input.ensures c.if-not-has_input.true c.loop-k.invariant

pub loop-k-preserved : goal.loop-k-preserved
loop-k-preserved c =
    other_on (λ u. has_input (map input_data c.args.inputs.now) u.input) c.args.build.now.used c.loop-k.k _
    c.has_input.result c.used_at-scope.ensures c.has_input.ensures c.if-not-has_input.false c.loop-k.invariant
