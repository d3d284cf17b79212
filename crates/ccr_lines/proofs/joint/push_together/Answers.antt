use Rattle.std.proofs.Common.{◌≡◌, ◌++◌, ◌∙◌, ℕ, List, ap, map, codes, string_bytes, append_assoc}
use Rattle.ccr_history.specs.Text.{Text}
use Rattle.ccr_pipeline.specs.Inputs.{input_data}
use Rattle.ccr_lines.specs.ClashWords.{others_words}
use Rattle.ccr_lines.proofs.joint.push_together.Goals as goal

-- five texts, one behind the other
five : (o a j b w : Text) → ((o ++ (a ++ j)) ++ b) ++ w ≡ o ++ (a ++ (j ++ (b ++ w)))
five o a j b w =
    append_assoc (o ++ (a ++ j)) b w
    ∙ (append_assoc o (a ++ j) (b ++ w) ∙ ap (λ t. o ++ t) (append_assoc a j (b ++ w)))

pub returns : goal.returns
returns c =
    let is = map input_data c.args.inputs.now in
    let old = string_bytes c.args.text.now in
    let job = c.args.job.now in
    let words : List ℕ → Text = λ os. others_words c.args.own c.args.places.now is c.args.demands.now os in
    c.in_ok-push_others.ensures
    ∙ (ap (λ t. t ++ words c.deref.result.now) c.in_ok-push_not_passed.ensures
    ∙ (ap (λ os. ((old ++ (codes "not passed " ++ job)) ++ codes " together with ") ++ words os)
    (c.deref.ensures.value ∙ c.in_ok-others.ensures)
    ∙ five old (codes "not passed ") job (codes " together with ") _))
