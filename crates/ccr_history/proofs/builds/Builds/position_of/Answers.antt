use Rattle.std.proofs.Common.{◌≡◌, ◌+◌, ◌<◌, ◌≤◌, ◌∙◌, sym, ap, inl, inr, subst, refl, arith, length, slice_get, Some, ltb-true, ltb-false}
use Rattle.std.proofs.lemmas.Option.{slice_get_read}
use Rattle.ccr_history.specs.Builds.{is_build_of, positions_of}
use Rattle.ccr_history.specs.Orderly.{IsOnly}
use Rattle.ccr_history.proofs.Numbered.{numbered_only, numbered_none}
use Rattle.ccr_history.proofs.builds.Builds.position_of.Goals as goal

pub returns-in_err-index-clause-none : goal.returns-in_err-index-clause-none
returns-in_err-index-clause-none c =
    let none : c.args.number ≡ 0 = omega (arith, c.in_err-index.ensures) in
    rw c.from_residual.ensures (numbered_none c.args.job.now c.args.self.now c.builds_of-positions.ensures.orderly.1 c.args.number (inl none))

pub returns-in_err-position-clause-none : goal.returns-in_err-position-clause-none
returns-in_err-position-clause-none c =
    let past : length c.builds_of-positions.result.now ≤ c.in_ok-index.index = ltb-false _ _ (sym c.in_err-position.ensures.lookup.0) in
    let out : length (positions_of c.args.job.now c.args.self.now) < c.args.number = omega (arith, past, ap length c.builds_of-positions.ensures.is, c.in_ok-index.ensures) in
    rw c.from_residual-in_err-position.ensures (numbered_none c.args.job.now c.args.self.now c.builds_of-positions.ensures.orderly.1 c.args.number (inr out))

pub returns-clause-only : goal.returns-clause-only
returns-clause-only c =
    let i = c.in_ok-index.index in
    let position = c.in_ok-position.field-0.now in
    let positions = c.builds_of-positions.result.now in
    let within : i < length positions = ltb-true _ _ (sym c.in_ok-position.ensures.lookup.0) in
    let at : slice_get positions i ≡ Some position = slice_get_read positions (length positions) i position refl within c.in_ok-position.ensures.lookup.1 in
    let next : i + 1 ≡ c.args.number = omega (arith, c.in_ok-index.ensures) in
    subst (λ n. IsOnly (is_build_of c.args.job.now n) c.args.self.now position) next
    (numbered_only c.args.job.now c.args.self.now c.builds_of-positions.ensures.orderly.1 i position (ap (λ l. slice_get l i) (sym c.builds_of-positions.ensures.is) ∙ at))
