use Rattle.std.proofs.Common.{◌≡◌, ◌++◌, ◌∷◌, [], ◌∙◌, sym, ap, arith, length, slice_get, string_eq}
use Rattle.indexmap.specs.IndexSet.{insert_key}
use Rattle.ccr_history.specs.Names.{texts_of, with_name}
use Rattle.ccr_history.proofs.NameLemmas.{texts_of-insert_key, with_name-there, with_name-new, slice_get_last, apart_texts}
use Rattle.ccr_history.proofs.names.Names.add.Goals as goal

pub returns-in-Some-clause-added : goal.returns-in-Some-clause-added
returns-in-Some-clause-added c = sym (with_name-there c.args.self.now c.in-Some.number c.args.name.now c.in-Some.ensures.found)

pub returns-clause-added : goal.returns-clause-added
returns-clause-added c =
    let here : texts_of (insert_key string_eq c.self.inside.set.keys c.in_ok-name.name) ≡ with_name c.args.self.now c.args.name.now =
    rw (← c.self.view_is, ← c.in_ok-name.ensures.ok) (texts_of-insert_key c.self.inside.set.keys c.in_ok-name.name) in
    ap texts_of c.in_ok-insert.ensures.keys ∙ here

pub returns-clause-number : goal.returns-clause-number
returns-clause-number c =
    let here : texts_of (insert_key string_eq c.self.inside.set.keys c.in_ok-name.name) ≡ with_name c.args.self.now c.args.name.now =
    rw (← c.self.view_is, ← c.in_ok-name.ensures.ok) (texts_of-insert_key c.self.inside.set.keys c.in_ok-name.name) in
    let last : c.in-Ok.number ≡ length c.args.self.now = omega (arith, c.in-Ok.ensures, c.len.ensures) in
    ap (λ l. slice_get l c.in-Ok.number) (ap texts_of c.in_ok-insert.ensures.keys ∙ here ∙ with_name-new c.args.self.now c.args.name.now c.in_default.ensures.absent)
    ∙ ap (slice_get (c.args.self.now ++ c.args.name.now ∷ [])) last
    ∙ slice_get_last c.args.self.now c.args.name.now

pub returns-clause-apart : goal.returns-clause-apart
returns-clause-apart c = apart_texts c.insert.new.self.keys c.in_ok-insert.ensures.unique
