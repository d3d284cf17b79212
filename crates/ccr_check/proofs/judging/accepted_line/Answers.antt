use Rattle.std.proofs.Common.{ap, ◌∙◌, sym, codes, string_bytes}
use Rattle.ccr_check.specs.Judged.{choice_line, accepted_line}
use Rattle.ccr_check.proofs.AcceptedLine.{accepted_best, ok_same}
use Rattle.ccr_check.proofs.judging.accepted_line.Goals as goal

pub returns-in-Best : goal.returns-in-Best
returns-in-Best c =
    ok_same string_bytes c.choice_line.result (choice_line (codes "accepted best") c.in-Best.choice) (accepted_line c.args.claim.now)
    (accepted_best c.in-Best.choice ∙ ap accepted_line (sym c.in-Best.is)) c.choice_line.ensures
