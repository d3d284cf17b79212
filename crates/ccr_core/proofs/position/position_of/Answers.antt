use Rattle.std.proofs.Common.{◌-◌, inl, inr, slice_get, sym, ap, ◌∙◌, arith}
use Rattle.ccr_history.specs.Builds.{positions_of}
use Rattle.ccr_core.proofs.Standing.{stands_at, stands_nowhere, none_past}
use Rattle.ccr_core.proofs.position.position_of.Goals as goal

pub returns-then-number-eq0 : goal.returns-then-number-eq0
returns-then-number-eq0 c = stands_nowhere c.args.job.now c.args.history.now.builds c.rules.ensures.1.1 c.args.number (inl c.if-number-eq0.true)

pub returns-in-Some : goal.returns-in-Some
returns-in-Some c =
    let above = c.if-number-eq0.false in
    stands_at c.args.job.now c.args.history.now.builds c.rules.ensures.1.1 (c.args.number - 1) c.args.number c.in-Some.position (omega (arith, above)) (ap (λ l. slice_get l (c.args.number - 1)) (sym c.builds_of.ensures) ∙ sym c.in-Some.ensures)

pub returns-in-None : goal.returns-in-None
returns-in-None c =
    let above = c.if-number-eq0.false in
    let past = none_past (positions_of c.args.job.now c.args.history.now.builds) (c.args.number - 1) (ap (λ l. slice_get l (c.args.number - 1)) (sym c.builds_of.ensures) ∙ sym c.in-None.ensures) in
    stands_nowhere c.args.job.now c.args.history.now.builds c.rules.ensures.1.1 c.args.number (inr (omega (arith, above, past)))
