use Rattle.std.proofs.Common.{◌≡◌, ◌<◌, ap, refl, arith, length, slice_get, Some}
use Rattle.std.proofs.lemmas.Option.{slice_get_read}
use Rattle.std.proofs.lemmas.List.{length-map}
use Rattle.ccr_history.specs.Rows.{row_data}
use Rattle.ccr_history.proofs.KeptRows.{row_at, ended_at}
use Rattle.ccr_history.proofs.rows.Rows.end.Goals as goal

pub returns : goal.returns
returns c =
    let s = c.self.inside in
    let k = c.index_mut-row.result.now in
    let is = ap (λ v. v.rows) c.self.view_is in
    let within : c.args.position < length s.made.items = omega (arith, c.requires, ap length is, length-map s.made.items (row_data s.used.items)) in
    let at : slice_get s.made.items c.args.position ≡ Some k = slice_get_read s.made.items (length s.made.items) c.args.position k refl within c.index_mut-row.ensures.value in (
      row_data s.used.items k,
      row_at s.used.items s.made.items c.args.self.now.rows c.args.position k is at,
      ended_at s.used.items s.made.items c.args.self.now.rows c.args.position c.args.status c.args.moved.items k c.end.new.self is c.end.ensures,
    )
