use Rattle.std.proofs.Common.{◌∙◌}
use Rattle.ccr_choice.proofs.Cuts.{blank_lines}
use Rattle.ccr_choice.proofs.line.is_blank.Goals as goal

pub returns : goal.returns
returns c = c.is_empty.ensures ∙ blank_lines c.args.bytes.now
