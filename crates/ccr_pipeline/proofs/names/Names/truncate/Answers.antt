use Rattle.std.proofs.Common.{◌∙◌, ap, take}
use Rattle.ccr_pipeline.specs.Names.{names_of}
use Rattle.ccr_pipeline.proofs.NameLemmas.{names_of-take}
use Rattle.ccr_pipeline.proofs.names.Names.truncate.Goals as goal

pub returns : goal.returns
returns c = ap names_of c.truncate.ensures.keys ∙ names_of-take c.args.len c.self.inside.set.keys ∙ ap (take c.args.len) c.self.view_is
