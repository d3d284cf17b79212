use Rattle.ccr_page.proofs.MarkupLaws.{escaped_plain, escaped_entities, markup_is}
use Rattle.ccr_page.proofs.law.no_text_is_markup.Goals as goal

pub returns-clause-plain : goal.returns-clause-plain
returns-clause-plain c = escaped_plain

pub returns-clause-entities : goal.returns-clause-entities
returns-clause-entities c = escaped_entities

pub returns-clause-template : goal.returns-clause-template
returns-clause-template c = markup_is
