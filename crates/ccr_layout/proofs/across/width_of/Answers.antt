use Rattle.std.proofs.Common.{◌≡◌, ◌-◌, length, ap, ◌∙◌, arith}
use Rattle.ccr_layout.specs.Bands.{band_in}
use Rattle.ccr_layout.proofs.PictureLaws.{right_last}
use Rattle.ccr_layout.proofs.across.width_of.Goals as goal

pub returns : goal.returns
returns c = λ k within.
    let bands = c.args.bands.now in
    let n = length bands - 1 in
    let at : c.band_at-last.result.right ≡ (band_in bands n).right =
    ap (λ b. b.right) c.band_at-last.ensures ∙ ap (λ m. (band_in bands m).right) (omega (arith, c.saturating_sub.ensures)) in
    omega (arith, right_last bands c.requires k within, at, c.requires.low n (omega (arith, within)), c.saturating_add.ensures)
