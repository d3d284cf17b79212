use Rattle.std.proofs.Common.{◌∙◌, ap}
use Rattle.std.proofs.lemmas.Result.{IfOk-weaker}
use Rattle.ccr_command.specs.Usage.{as_number}
use Rattle.ccr_command.proofs.Lines.{with_argument}
use Rattle.ccr_command.proofs.usage.with_options.Goals as goal

pub returns : goal.returns
returns c =
    let database = with_argument _ _ _ _ _ c.in_ok-arg.ensures c.program.ensures c.required-database.ensures.rule c.required-database.ensures.local in
    let types = with_argument _ _ _ _ _ c.in_ok-arg-2.ensures database c.optional-types.ensures.rule c.optional-types.ensures.local in
    let work = with_argument _ _ _ _ _ c.in_ok-arg-3.ensures types c.optional-work.ensures.rule c.optional-work.ensures.local in
    let budget = with_argument _ _ _ _ _ c.in_ok-arg-4.ensures work (c.as_number.ensures.rule ∙ ap as_number c.optional-budget.ensures.rule)
    (c.as_number.ensures.local ∙ c.optional-budget.ensures.local) in
    IfOk-weaker c.arg-5.result _ _
    (λ made h. with_argument _ _ _ _ _ h budget c.option-launcher.ensures.rule c.option-launcher.ensures.local)
    c.arg-5.ensures
