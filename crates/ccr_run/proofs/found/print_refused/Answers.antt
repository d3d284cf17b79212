use Rattle.std.proofs.Common.{rules, ◌≡◌, string_bytes}
use Rattle.ccr_run.proofs.Refusing.{prints_refused}
use Rattle.ccr_run.proofs.found.print_refused.Goals as goal

pub returns-clause-shown : goal.returns-clause-shown
returns-clause-shown g c =
    let same : c.as_bytes.result.now ≡ string_bytes c.in_ok-lines.lines = search rules in
    prints_refused _ _ _ _ _ _ c.in_ok-lines.ensures same c.print.ensures.shown
