use Rattle.std.proofs.Common.{map, sym, ap, ◌∙◌, subst}
use Rattle.ccr_history.specs.Changes.{changed, AdmitsAll}
use Rattle.ccr_core.specs.Holding.{name_data}
use Rattle.ccr_core.specs.Resumed.{cut_name}
use Rattle.ccr_core.proofs.Resuming.{all_cut}
use Rattle.ccr_core.proofs.Rows.{changes_so}
use Rattle.ccr_core.proofs.resumed.cut_running.Goals as goal

pub cut_all-requires : goal.cut_all-requires
cut_all-requires c =
    subst (λ l. AdmitsAll c.args.history.now (map cut_name (map name_data l))) (sym c.deref.ensures.value)
    (subst (λ ns. AdmitsAll c.args.history.now (map cut_name ns)) (sym c.in_ok-names.ensures.names) (all_cut c.args.history.now c.rules.ensures.1.1))

pub returns-clause-change : goal.returns-clause-change
returns-clause-change c =
    changes_so _ c.args.history.now c.cut_all.new.history (
      subst (AdmitsAll c.args.history.now) (sym c.in_ok-names.ensures.change) (all_cut c.args.history.now c.rules.ensures.1.1),
      ap (λ es. changed es c.args.history.now) c.in_ok-names.ensures.change
          ∙ sym (c.cut_all.ensures ∙ ap (λ l. changed (map cut_name (map name_data l)) c.args.history.now) c.deref.ensures.value ∙ ap (λ ns. changed (map cut_name ns) c.args.history.now) c.in_ok-names.ensures.names),
    )
    c.in_ok-names.ensures.numbered
