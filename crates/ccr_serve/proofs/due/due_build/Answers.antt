use Rattle.std.proofs.Common.{◌∙◌, Some, ap, length, nat_lt, subst, string_bytes, sym}
use Rattle.ccr_history.specs.History.{AreNumbered}
use Rattle.ccr_core.specs.Cores.{core_data}
use Rattle.ccr_serve.specs.Due.{next_name}
use Rattle.ccr_serve.specs.Turns.{rank_of}
use Rattle.ccr_serve.proofs.Nexts.{nobody_runs, turn_of}
use Rattle.ccr_serve.proofs.due.due_build.Goals as goal

pub returns-in_default-clause-due : goal.returns-in_default-clause-due
returns-in_default-clause-due c =
    let held = core_data c.args.core.now in
    nobody_runs held.history c.args.last held.names
    (sym (c.in_default.ensures ∙ ap (next_name held.history c.args.last) c.running.ensures.names))

pub returns-in_default-clause-some : goal.returns-in_default-clause-some
returns-in_default-clause-some c =
    let held = core_data c.args.core.now in
    ap (λ ns. nat_lt 0 (length ns))
    (sym (nobody_runs held.history c.args.last held.names
    (sym (c.in_default.ensures ∙ ap (next_name held.history c.args.last) c.running.ensures.names))))

pub returns-clause-due : goal.returns-clause-due
returns-clause-due c =
    let held = core_data c.args.core.now in
    turn_of held c.args.last (string_bytes c.in_ok-job.job) c.in-Some.name.now.1 c.rank_at-rank.result
    (subst (λ h. AreNumbered h.builds) c.history.ensures c.rules.ensures.1.1) c.running.ensures.ordered
    (sym (ap (next_name held.history c.args.last) c.running.ensures.names) ∙ sym c.in-Some.ensures
    ∙ ap (λ j. Some (j, c.in-Some.name.now.1)) (sym (c.in_ok-job.ensures.ok ∙ c.as_str-2.ensures.value)))
    (c.rank_at-rank.ensures
    ∙ ap (λ j. rank_of j c.in-Some.name.now.1 held.history.builds)
    (c.as_str.ensures.value ∙ sym (c.in_ok-job.ensures.ok ∙ c.as_str-2.ensures.value)))
