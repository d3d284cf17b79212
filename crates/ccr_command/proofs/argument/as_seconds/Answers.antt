use Rattle.std.proofs.Common.{◌≡◌, ◌∙◌, ap, Option, Some, pos}
use Rattle.clap.specs.Words.{rule_of}
use Rattle.clap.specs.declared.builder.value_parser.ValueParser.{ValueParser}
use Rattle.clap.specs.declared.builder.value_parser.ValueParser.TheVariants.{Signed}
use Rattle.ccr_command.proofs.argument.as_seconds.Goals as goal

pub returns-clause-rule : goal.returns-clause-rule
returns-clause-rule c =
    let given = c.value_parser-2.ensures.given in
    let made : c.range.result ≡ Signed (pos 1) (pos 86400) = rw c.value_parser.ensures at c.range.ensures in
    let is : c.value_parser-2.result.value_parser ≡ Some (Signed (pos 1) (pos 86400)) = given.1 ∙ ap Some (given.2 ∙ made) in
    ap rule_of c.value_parser-2.ensures.others
    ∙ ap (λ (p : Option ValueParser). record (rule_of c.args.argument) { parser = p }) is
