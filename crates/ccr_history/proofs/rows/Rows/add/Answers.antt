use Rattle.std.proofs.Common.{◌∙◌, ◌++◌, ◌∷◌, [], ap, arith, length, map}
use Rattle.ccr_history.specs.Rows.{KeptData, new_row, row_data}
use Rattle.ccr_history.proofs.KeptRows.{added_row}
use Rattle.ccr_history.proofs.rows.Rows.add.Goals as goal

pub returns : goal.returns
returns c =
    let s = c.self.inside in
    let places = s.used.items in
    let kept = s.made.items in
    ap (λ l. map (row_data l) c.push_within.new.rows.items) c.extend_within.ensures
    ∙ ap (λ l. map (row_data (places ++ c.args.used.now)) l) c.push_within.ensures
    ∙ ap (λ (k : KeptData). map (row_data (places ++ c.args.used.now)) (kept ++ k ∷ [])) c.new-row.ensures
    ∙ added_row places c.args.used.now kept c.args.job c.args.number c.len.result (length c.args.used.now) c.self.invariant (omega (arith, c.len.ensures, s.used.ok.0)) (omega arith)
    ∙ ap (λ v. v.rows ++ new_row c.args.job c.args.number c.args.used.now ∷ []) c.self.view_is
