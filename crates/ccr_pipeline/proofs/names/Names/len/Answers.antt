use Rattle.std.proofs.Common.{◌∙◌, sym}
use Rattle.ccr_pipeline.proofs.NameLemmas.{length-names_of}
use Rattle.ccr_pipeline.proofs.names.Names.len.Goals as goal

pub returns : goal.returns
returns c = rw (← c.self.view_is) (c.len.ensures.len ∙ sym (length-names_of c.self.inside.set.keys))
