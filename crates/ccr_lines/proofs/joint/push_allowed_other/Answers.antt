use Rattle.std.proofs.Common.{◌≡◌, ◌++◌, ◌<◌, map, codes, nat_lt, slice_get, false, string_bytes, sym, subst, arith}
use Rattle.std.proofs.lemmas.Grind.{common_steps}
use Rattle.std.specs.Prelude.{OnOk, if◌then◌else◌}
use Rattle.ccr_pipeline.specs.Inputs.{input_data}
use Rattle.ccr_lines.specs.ClashWords.{input_name, or_better}
use Rattle.ccr_lines.proofs.joint.push_allowed_other.Goals as goal

pub returns-else-input-own : goal.returns-else-input-own
returns-else-input-own c =
    let i = c.args.input in
    let is = map input_data c.args.inputs.now in
    let old = string_bytes c.args.text.now in
    let new = string_bytes c.push_name.new.text in
    let later : nat_lt i c.args.own ≡ false = grind (arith, common_steps) in
    subst (λ b. OnOk c.push_name.result (new ≡ old ++ (if b then input_name is i ++ or_better (slice_get c.args.places.now i)
    else codes "any allowed " ++ input_name is i))) (sym later)
    (subst (λ name. OnOk c.push_name.result (new ≡ old ++ (codes "any allowed " ++ name))) c.input_name-name.ensures
    c.push_name.ensures)
