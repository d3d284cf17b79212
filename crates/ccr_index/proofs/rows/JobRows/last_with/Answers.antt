use Rattle.std.proofs.Common.{◌≡◌, ℕ, ap, ◌∙◌, subst, Option}
use Rattle.std.specs.Prelude.{unwrap_or}
use Rattle.ccr_index.specs.declared.rows.Seen.{Seen}
use Rattle.ccr_index.specs.Rows.{JobRowsValue, last_with, number_for}
use Rattle.ccr_index.proofs.rows.JobRows.last_with.Goals as goal

pub returns : goal.returns
returns c =
    let pair : ℕ × ℕ = (c.args.scope, c.args.place) in
    let is : c.unwrap_or.result.row ≡ number_for c.self.inside.seen pair = ap (λ (s : Seen). s.row) (c.unwrap_or.ensures ∙ ap (λ (o : Option Seen). unwrap_or o (record { row = 0; size = 0 })) (c.copied.ensures ∙ c.get.ensures.value)) in
    let V : JobRowsValue → Type 0 = λ v. c.unwrap_or.result.row ≡ last_with v.builds pair in
    subst V c.self.view_is (is ∙ c.self.invariant.0.told pair)
