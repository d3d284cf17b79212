use Rattle.std.proofs.Common.{◌≢◌, ◌<◌, ℕ, inl, inr, arith}
use Rattle.std.proofs.lemmas.Bool.{cases_lt, ltb-true, lt-ltb}
use Rattle.ccr_index.specs.Rows.{last_with}
use Rattle.ccr_index.proofs.RowLaws.{last_some}
use Rattle.ccr_index.proofs.rows.JobRows.has_passed.Goals as goal

above : (n : ℕ) → n ≢ 0 → 0 < n
above n some = elim (cases_lt 0 n) [ inl less ↦ less | inr none ↦ absurd (some (omega (arith, none))) ]

pub returns : goal.returns
returns c =
    let bs = c.args.self.now.builds in
    let pair : ℕ × ℕ = (c.args.scope, c.args.place) in (
      λ h. (last_some bs pair).0 (λ z. let more = ltb-true 0 _ h in omega (arith, more, c.last_with.ensures, z)),
      λ h. lt-ltb 0 _ (let more = above (last_with bs pair) ((last_some bs pair).1 h) in omega (arith, more, c.last_with.ensures)),
    )
