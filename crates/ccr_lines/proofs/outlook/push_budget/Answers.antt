use Rattle.std.proofs.Common.{◌++◌, ◌∙◌, ap, append_assoc, codes, decimal, string_bytes}
use Rattle.ccr_lines.proofs.outlook.push_budget.Goals as goal

pub returns : goal.returns
returns c =
    c.in_ok-push_str-2.ensures.bytes
    ∙ (ap (λ x. x ++ c.format.result.now) c.in_ok-push_str.ensures.bytes
    ∙ (ap (λ y. (string_bytes c.args.text.now ++ codes "over budget ") ++ y) c.format.ensures.text
    ∙ append_assoc (string_bytes c.args.text.now) (codes "over budget ") (decimal c.args.budget)))
