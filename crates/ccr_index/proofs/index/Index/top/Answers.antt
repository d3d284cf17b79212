use Rattle.std.proofs.Common.{◌<◌, length, slice_index, subst}
use Rattle.ccr_choice.specs.Preference.{order_of}
use Rattle.ccr_choice.specs.Assignment.{nothing_fixed}
use Rattle.ccr_choice.specs.Possible.{IsBestPlace}
use Rattle.ccr_index.specs.Index.{IndexValue}
use Rattle.ccr_index.proofs.index.Index.top.Goals as goal

pub returns : goal.returns
returns c =
    let i = c.args.input in
    let P : IndexValue → Type 0 = λ v. i < length v.problem.inputs → IsBestPlace (order_of v.problem) v.problem nothing_fixed i (slice_index c.self.inside.tops i) in
    subst P c.self.view_is (c.self.invariant.tops.best i) c.requires
