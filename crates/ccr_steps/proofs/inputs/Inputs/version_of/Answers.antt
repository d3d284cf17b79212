use Rattle.std.proofs.Common.{◌≡◌, false, string_bytes, sym, ap, ◌∙◌}
use Rattle.std.specs.Str.{bytes_eq}
use Rattle.ccr_steps.proofs.Choosing.{look_on}
use Rattle.ccr_steps.proofs.inputs.Inputs.version_of.Goals as goal

pub loop-input-preserved : goal.loop-input-preserved
loop-input-preserved c =
    let other : bytes_eq (string_bytes c.input-item.result.name) c.args.name.now ≡ false = ap (λ s. bytes_eq s c.args.name.now) (sym c.as_str.ensures.value) ∙ sym c.eq.ensures ∙ c.if-eq.false in
    look_on c.deref-input-items.result.now c.loop-input.input-index c.input-item.result c.args.name.now _ c.loop-input-test.true c.input-item.is other c.loop-input.invariant.0 c.loop-input.invariant.1
