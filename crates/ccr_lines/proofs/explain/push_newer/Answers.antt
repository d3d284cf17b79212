use Rattle.std.proofs.Common.{◌≡◌, ◌++◌, [], List, true, false, nat_lt, refl, sym, subst, append-nil, rules, arith}
use Rattle.std.specs.Prelude.{OnOk}
use Rattle.std.proofs.lemmas.Grind.{common_steps}
use Rattle.ccr_pipeline.specs.Inputs.{input_data}
use Rattle.ccr_lines.specs.Explained.{IsRefusedIf}
use Rattle.ccr_lines.specs.ExplainedData.{RefusalData}
use Rattle.ccr_lines.specs.Reasons.{subject_data, taken}
use Rattle.ccr_lines.proofs.explain.push_newer.Goals as goal

pub returns-then-index-place : goal.returns-then-index-place
returns-then-index-place c =
    let s = subject_data c.args.subject.now in
    let x = input_data c.args.input.now in
    let newer : nat_lt (taken s c.args.number) c.args.place ≡ true = first_of (search rules, grind (arith, common_steps)) in
    subst (λ b. OnOk c.push_refusal.result ((own : List RefusalData) × IsRefusedIf b s c.args.number x c.args.place own
    × (c.push_refusal.new.newer.items ≡ c.args.newer.now.items ++ own))) (sym newer) c.push_refusal.ensures

pub returns-else-index-place : goal.returns-else-index-place
returns-else-index-place c =
    let s = subject_data c.args.subject.now in
    let x = input_data c.args.input.now in
    let older : nat_lt (taken s c.args.number) c.args.place ≡ false = first_of (search rules, grind (arith, common_steps)) in
    ([], subst (λ b. IsRefusedIf b s c.args.number x c.args.place []) (sym older) refl, sym (append-nil c.args.newer.now.items))
