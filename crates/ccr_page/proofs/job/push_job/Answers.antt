use Rattle.std.proofs.Common.{◌≡◌, List, flat_map, ap, ◌∙◌, subst}
use Rattle.ccr_page.specs.declared.data.Word.{Word}
use Rattle.ccr_page.specs.declared.data.Bar.{Bar}
use Rattle.ccr_page.specs.Sentences.{sentence}
use Rattle.ccr_page.specs.Jobs.{bar_pieces}
use Rattle.ccr_page.specs.Pieces.{Adds}
use Rattle.ccr_page.proofs.Adding.{then_adds}
use Rattle.ccr_page.proofs.job.push_job.Goals as goal

pub returns : goal.returns
returns c =
    let S : List Word → Type 0 = λ ws. Adds c.push_job_open.new.out.items c.push_sentence.new.out.items (sentence ws) in
    let B : List Bar → Type 0 = λ bs. Adds c.push.new.out.items c.push_bars.new.out.items (flat_map (bar_pieces c.args.position) bs) in
    then_adds (then_adds (then_adds (then_adds c.in_ok-push_job_open.ensures (subst S c.deref.ensures.value c.in_ok-push_sentence.ensures)) c.in_ok-push.ensures)
    (subst B c.deref-2.ensures.value c.in_ok-push_bars.ensures)) c.in_ok-push-2.ensures
