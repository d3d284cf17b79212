use Rattle.std.proofs.Common.{◌≡◌, List, flat_map, ap, ◌∙◌, subst}
use Rattle.std.specs.Prelude.{Bool}
use Rattle.ccr_page.specs.declared.data.Word.{Word}
use Rattle.ccr_page.specs.Sentences.{sentence}
use Rattle.ccr_page.specs.Resources.{held_open}
use Rattle.ccr_page.specs.Pieces.{Adds}
use Rattle.ccr_page.proofs.Adding.{then_adds}
use Rattle.ccr_page.proofs.resource.push_held_cell.Goals as goal

pub returns : goal.returns
returns c =
    let H : Bool → Type 0 = λ b. Adds c.args.out.now.items c.push_held_open.new.out.items (held_open b) in
    let S : List Word → Type 0 = λ ws. Adds c.push_held_open.new.out.items c.push_sentence.new.out.items (sentence ws) in
    then_adds (then_adds (subst H c.is_some.ensures c.in_ok-push_held_open.ensures) (subst S c.deref.ensures.value c.in_ok-push_sentence.ensures))
    c.in_ok-push.ensures
