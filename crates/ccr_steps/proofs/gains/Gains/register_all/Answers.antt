use Rattle.std.proofs.Common.{◌≡◌, ◌+◌, ◌∷◌, map, drop, string_bytes, drop_of_length-le, refl, sym, ap, ◌∙◌, arith}
use Rattle.ccr_steps.specs.Gains.{gains_data, register, register_all}
use Rattle.ccr_steps.proofs.GainLaws.{from_next, grew_same, grew_more}
use Rattle.ccr_steps.proofs.gains.Gains.register_all.Goals as goal

pub loop-name-init : goal.loop-name-init
loop-name-init c = (refl, grew_same (gains_data c.args.self.now))

pub loop-name-preserved : goal.loop-name-preserved
loop-name-preserved c =
    let here : drop c.loop-name.name-index c.args.names.now ≡ c.name-item.result ∷ drop (c.loop-name.name-index + 1) c.args.names.now = from_next c.args.names.now c.loop-name.name-index c.name-item.result c.loop-name-test.true c.name-item.is in (
      ap (register_all (map string_bytes (drop (c.loop-name.name-index + 1) c.args.names.now))) c.in_ok-register.ensures.ok ∙ ap (λ b. register_all (map string_bytes (drop (c.loop-name.name-index + 1) c.args.names.now)) (register b (gains_data c.loop-name.self))) c.as_str.ensures.value ∙ sym (ap (λ l. register_all (map string_bytes l) (gains_data c.loop-name.self)) here) ∙ c.loop-name.invariant.0,
      grew_more (gains_data c.args.self.now) (gains_data c.loop-name.self) (gains_data c.register.new.self) c.loop-name.invariant.1 c.in_ok-register.ensures.grew,
    )

pub returns-clause-ok : goal.returns-clause-ok
returns-clause-ok c = sym (ap (λ l. register_all (map string_bytes l) (gains_data c.loop-name.self)) (drop_of_length-le c.args.names.now (omega arith))) ∙ c.loop-name.invariant.0
