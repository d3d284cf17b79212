use Rattle.std.proofs.Common.{◌++◌, ◌∷◌, [], ◌∙◌, Ok, ap, rules}
use Rattle.ccr_look.specs.Calls.{opened}
use Rattle.ccr_look.specs.Answers.{is_there}
use Rattle.ccr_look.specs.Noted.{noted}
use Rattle.ccr_look.proofs.Reading.{opened_read}
use Rattle.ccr_look.proofs.reads.read.Goals as goal

pub returns-in-Ok-Some : goal.returns-in-Ok-Some
returns-in-Ok-Some g c =
    opened_read _ _ _ _ c.in-Ok-Some.file.path.now _ c.read_opened.result
    (c.in-Ok-Some.ensures.noted ∙ ap (λ f. noted c.args.reader.now ++ opened c.args.path.now (is_there (Ok f)) ∷ []) c.in-Ok-Some.field-0-is)
    (search rules) c.read_opened.ensures.given
