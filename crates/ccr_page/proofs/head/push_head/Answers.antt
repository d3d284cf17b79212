use Rattle.std.proofs.Common.{◌≡◌, List, flat_map, ap, ◌∙◌, subst}
use Rattle.std.specs.Prelude.{string_bytes}
use Rattle.ccr_page.specs.declared.status.Status.{Status}
use Rattle.ccr_page.specs.declared.data.Job.{Job}
use Rattle.ccr_page.specs.Heads.{worst, state_pieces, title_end}
use Rattle.ccr_page.specs.Pieces.{Adds}
use Rattle.ccr_page.proofs.Adding.{then_adds}
use Rattle.ccr_page.proofs.head.push_head.Goals as goal

pub returns : goal.returns
returns c =
    let T : Status → Type 0 = λ s. Adds c.push_states.new.out.items c.push_title_end.new.out.items (title_end (string_bytes c.args.page.now.title) s) in
    let S : List Job → Type 0 = λ js. Adds c.push-2.new.out.items c.push_states.new.out.items (state_pieces js) in
    then_adds (then_adds (then_adds (then_adds c.in_ok-push.ensures c.in_ok-push_refresh.ensures) c.in_ok-push-2.ensures) (subst S c.deref-2.ensures.value c.in_ok-push_states.ensures))
    (subst T (c.worst-worst.ensures ∙ ap worst c.deref.ensures.value) c.in_ok-push_title_end.ensures)
