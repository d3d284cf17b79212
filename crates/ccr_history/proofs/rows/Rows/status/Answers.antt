use Rattle.std.proofs.Common.{◌≡◌, ◌<◌, ap, sym, refl, arith, length, slice_get, Some}
use Rattle.std.proofs.lemmas.Option.{slice_get_read}
use Rattle.std.proofs.lemmas.List.{length-map}
use Rattle.ccr_history.specs.Rows.{row_data}
use Rattle.ccr_history.proofs.KeptRows.{row_at}
use Rattle.ccr_history.proofs.rows.Rows.status.Goals as goal

pub returns : goal.returns
returns c =
    let s = c.self.inside in
    let k = c.index-row.result.now in
    let within : c.args.position < length s.made.items = omega (arith, c.requires, ap (λ v. length v.rows) c.self.view_is, length-map s.made.items (row_data s.used.items)) in
    let at : slice_get s.made.items c.args.position ≡ Some k = slice_get_read s.made.items (length s.made.items) c.args.position k refl within c.index-row.ensures in
    (row_data s.used.items k, row_at s.used.items s.made.items c.args.self.now.rows c.args.position k (ap (λ v. v.rows) c.self.view_is) at, sym c.status.ensures)
