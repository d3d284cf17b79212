use Rattle.std.proofs.Common.{subst}
use Rattle.ccr_choice.specs.Preference.{order_of}
use Rattle.ccr_choice.specs.Assignment.{Assignment}
use Rattle.ccr_choice.specs.Possible.{IsBestPlace}
use Rattle.ccr_index.proofs.index.Index.greatest.Goals as goal

pub returns : goal.returns
returns c =
    let p = c.args.self.now.problem in
    let P : Assignment → Type 0 = λ a. IsBestPlace (order_of p) p a c.args.input c.greatest_at.result in
    subst P c.positions.ensures c.greatest_at.ensures
