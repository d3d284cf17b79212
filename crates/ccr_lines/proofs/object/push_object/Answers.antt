use Rattle.std.proofs.Common.{◌++◌, ◌∙◌, ap}
use Rattle.ccr_lines.specs.Objects.{field_text}
use Rattle.ccr_lines.proofs.Objects.{object_is}
use Rattle.ccr_lines.proofs.object.push_object.Goals as goal

pub returns-clause-object : goal.returns-clause-object
returns-clause-object c = λ ds e.
    c.in_ok-push_members.ensures
    ∙ ap (λ t. c.args.out.now.items ++ t) (object_is (λ m. m.0.now) (λ m. field_text m.1) c.args.members.now ds e)
