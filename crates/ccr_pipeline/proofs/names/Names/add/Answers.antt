use Rattle.std.proofs.Common.{◌≡◌, ◌∙◌, ap, not}
use Rattle.std.specs.List.{list_any}
use Rattle.std.specs.String.{string_eq}
use Rattle.indexmap.specs.IndexSet.{insert_key}
use Rattle.ccr_pipeline.specs.Names.{has_name, with_name, names_of}
use Rattle.ccr_pipeline.proofs.NameLemmas.{has_name-names_of, names_of-insert_key}
use Rattle.ccr_pipeline.proofs.names.Names.add.Goals as goal

pub returns-clause-new : goal.returns-clause-new
returns-clause-new c =
    let here : list_any (string_eq c.in_ok-name.name) c.self.inside.set.keys ≡ has_name c.args.self.now c.args.name.now =
    rw (← c.self.view_is, ← c.in_ok-name.ensures.ok) (has_name-names_of c.in_ok-name.name c.self.inside.set.keys) in
    c.in_ok-is_new.ensures.added ∙ ap not here

pub returns-clause-added : goal.returns-clause-added
returns-clause-added c =
    let here : names_of (insert_key string_eq c.self.inside.set.keys c.in_ok-name.name) ≡ with_name c.args.self.now c.args.name.now =
    rw (← c.self.view_is, ← c.in_ok-name.ensures.ok) (names_of-insert_key c.self.inside.set.keys c.in_ok-name.name) in
    ap names_of c.in_ok-is_new.ensures.keys ∙ here
