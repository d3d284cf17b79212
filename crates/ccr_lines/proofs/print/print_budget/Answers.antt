use Rattle.std.proofs.Common.{◌≡◌, ◌++◌, ◌∷◌, [], codes, subst}
use Rattle.ccr_lines.specs.Lines.{job_line}
use Rattle.ccr_lines.proofs.print.print_budget.Goals as goal

pub returns : goal.returns
returns g c =
    subst (λ digits. g.O.Lines.written c.print_line.new.out ≡ g.O.Lines.written c.args.out.now
    ++ job_line c.args.job.now (codes "over budget " ∷ digits ∷ []))
    c.format.ensures.text c.print_line.ensures.told
