use Rattle.std.proofs.Common.{◌++◌, ◌∷◌, [], ◌∙◌, ap, map, append_assoc}
use Rattle.serde_json.specs.Data.{object}
use Rattle.serde_json.specs.Written.{compact_text}
use Rattle.ccr_lines.specs.Objects.{named}
use Rattle.ccr_lines.proofs.object.push_item.Goals as goal

pub returns-clause-object : goal.returns-clause-object
returns-clause-object c = λ ds e.
    let whole = compact_text (object (named (map (λ m. m.0.now) c.args.members.now) ds)) in
    c.in_ok-push_object.ensures.object ds e
    ∙ (ap (λ t. t ++ whole) (c.in_ok-extend_from_slice.ensures.items
    ∙ ap (λ b. c.args.out.now.items ++ b) c.as_bytes.ensures.value)
    ∙ append_assoc c.args.out.now.items (44 ∷ []) whole)
