use Rattle.std.proofs.Common.{List, subst}
use Rattle.ccr_page.specs.declared.data.Word.{Word}
use Rattle.ccr_page.specs.Sentences.{sentence}
use Rattle.ccr_page.specs.Pieces.{Adds}
use Rattle.ccr_page.proofs.Adding.{then_adds}
use Rattle.ccr_page.proofs.list.push_why.Goals as goal

pub returns : goal.returns
returns c =
    let S : List Word → Type 0 = λ ws. Adds c.push-2.new.out.items c.push_sentence.new.out.items (sentence ws) in
    then_adds (then_adds (then_adds (then_adds c.in_ok-push.ensures c.in_ok-push_anchor.ensures) c.in_ok-push-2.ensures) (subst S c.deref.ensures.value c.in_ok-push_sentence.ensures)) c.in_ok-push-3.ensures
