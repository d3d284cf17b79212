use Rattle.std.proofs.Common.{◌≡◌, Bool, List, flat_map, ap, ◌∙◌, subst}
use Rattle.std.specs.Prelude.{String}
use Rattle.std.specs.declared.alloc.Global.{Global}
use Rattle.ccr_page.specs.Builds.{column_pieces, rest_head, has_rest, row_pieces}
use Rattle.ccr_page.specs.Pieces.{Adds}
use Rattle.ccr_page.proofs.Adding.{then_adds}
use Rattle.ccr_page.proofs.build.push_table.Goals as goal

pub returns : goal.returns
returns c =
    let C : List (String Global) → Type 0 = λ ts. Adds c.push.new.out.items c.push_columns.new.out.items (flat_map column_pieces ts) in
    let R : Bool → Type 0 = λ b. Adds c.push_columns.new.out.items c.push_rest_head.new.out.items (rest_head b) in
    let W : Bool → Type 0 = λ b. Adds c.push_log_head.new.out.items c.push_rows.new.out.items (flat_map (row_pieces c.args.page.now c.args.position c.args.job.now b) c.args.job.now.rows.items) in
    let e : c.has_rest-has_rest.result ≡ has_rest c.args.job.now.rows.items = c.has_rest-has_rest.ensures ∙ ap has_rest c.as_slice.ensures.value in
    then_adds (then_adds (then_adds (then_adds (then_adds c.in_ok-push.ensures (subst C c.deref.ensures.value c.in_ok-push_columns.ensures)) (subst R e c.in_ok-push_rest_head.ensures)) c.in_ok-push_log_head.ensures) (subst W e c.in_ok-push_rows.ensures)) c.in_ok-push-2.ensures
