use Rattle.std.proofs.Common.{◌∙◌, sym, ap, is_some}
use Rattle.ccr_history.proofs.NameLemmas.{has_name-by_text, apart_texts, text_at_position}
use Rattle.ccr_history.proofs.names.Names.find.Goals as goal

pub returns-in_err-number-clause-absent : goal.returns-in_err-number-clause-absent
returns-in_err-number-clause-absent c =
    rw c.from_residual.ensures
    (rw (← c.self.view_is) (sym (has_name-by_text c.args.name.now c.self.inside.set.keys) ∙ sym c.get_index_of.ensures.found ∙ ap (λ o. is_some o) c.in_err-number.was))

pub returns-in_err-number-clause-apart : goal.returns-in_err-number-clause-apart
returns-in_err-number-clause-apart c = rw (← c.self.view_is) (apart_texts c.self.inside.set.keys c.self.invariant.1)

pub returns-clause-found : goal.returns-clause-found
returns-clause-found c =
    rw (← c.self.view_is)
    (text_at_position c.args.name.now c.self.inside.set.keys c.in_ok-number.number (sym c.get_index_of.ensures.index ∙ c.in_ok-number.was))

pub returns-clause-apart : goal.returns-clause-apart
returns-clause-apart c = rw (← c.self.view_is) (apart_texts c.self.inside.set.keys c.self.invariant.1)
