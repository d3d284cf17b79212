use Rattle.std.proofs.Common.{◌∙◌, ◌==◌, ◌&&◌, false, slice_index_or, ap}
use Rattle.std.specs.List.{list_any}
use Rattle.ccr_explain.proofs.Lists.{any_same}
use Rattle.ccr_explain.proofs.table.table_of.Goals as goal

pub returns : goal.returns
returns c = λ pairs.
    let x = c.args.input.now in
    any_same (λ r. r.0 == c.scope.result && slice_index_or c.in_ok-marks.marks.items r.1 false) (λ r. r.0 == x.scope && list_any (λ y. y == r.1) x.places)
    (λ r. ap (λ s. r.0 == s && slice_index_or c.in_ok-marks.marks.items r.1 false) c.scope.ensures
    ∙ ap (λ b. r.0 == x.scope && b) (c.in_ok-marks.ensures r.1 ∙ ap (λ ps. list_any (λ y. y == r.1) ps) c.places.ensures)) pairs
