use Rattle.std.proofs.Common.{◌≤◌, ℕ, List, length, max, slice_index, sym, ap, ◌∙◌, subst, length-set}
use Rattle.ccr_layout.proofs.PlaceLaws.{set_no_less}
use Rattle.ccr_layout.proofs.place.pull.Goals as goal

pub returns-clause-long : goal.returns-clause-long
returns-clause-long c =
    let tops = c.args.tops.now.items in
    ap length c.note_low.ensures ∙ length-set tops c.args.node (max (slice_index tops c.args.node) c.args.low)

pub returns-clause-down : goal.returns-clause-down
returns-clause-down c = λ k.
    let tops = c.args.tops.now.items in
    let P : List ℕ → Type 0 = λ ts. slice_index tops k ≤ slice_index ts k in
    subst P (sym c.note_low.ensures) (set_no_less tops c.args.node c.args.low k)
