use Rattle.std.proofs.Common.{ℕ, List, ap, ◌∙◌, subst}
use Rattle.ccr_page.specs.declared.data.Job.{Job}
use Rattle.ccr_page.specs.Heads.{all_statuses, sums_pieces, still_count, stands_pieces}
use Rattle.ccr_page.specs.Pieces.{Adds}
use Rattle.ccr_page.proofs.Adding.{then_adds}
use Rattle.ccr_page.proofs.head.push_header.Goals as goal

pub returns : goal.returns
returns c =
    let S : List Job → Type 0 = λ js. Adds c.push_heading.new.out.items c.push_sums.new.out.items (sums_pieces js all_statuses) in
    let N : ℕ → Type 0 = λ n. Adds c.push_sums.new.out.items c.push_stands.new.out.items (stands_pieces n) in
    then_adds (then_adds (then_adds (then_adds (then_adds c.in_ok-push_skip.ensures c.in_ok-push_heading.ensures) (subst S c.deref-2.ensures.value c.in_ok-push_sums.ensures)) (subst N (c.still_count-still.ensures ∙ ap still_count c.deref.ensures.value) c.in_ok-push_stands.ensures)) c.in_ok-push_now.ensures) c.in_ok-push_made.ensures
