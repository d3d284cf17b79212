use Rattle.std.proofs.Common.{◌∙◌}
use Rattle.ccr_pipeline.proofs.NameLemmas.{has_name-by_text}
use Rattle.ccr_pipeline.proofs.names.Names.contains.Goals as goal

pub returns : goal.returns
returns c = rw (← c.self.view_is) (c.contains.ensures ∙ has_name-by_text c.args.name.now c.self.inside.set.keys)
