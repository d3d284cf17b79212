use Rattle.std.proofs.Common.{◌∷◌, [], ap, ◌∙◌, refl, sym, eqb-true}
use Rattle.ccr_choice.specs.Text.{lines_of}
use Rattle.ccr_choice.proofs.Cuts.{lines_step, lines_none, lines_unended, some_bytes}
use Rattle.ccr_choice.proofs.line.first_line.Goals as goal

pub returns-then-is_empty : goal.returns-then-is_empty
returns-then-is_empty c = lines_none c.args.bytes.now (eqb-true _ 0 (sym c.is_empty.ensures ∙ c.if-is_empty.true))

pub returns-in_ok-line-in-Some : goal.returns-in_ok-line-in-Some
returns-in_ok-line-in-Some c =
    lines_step c.args.bytes.now c.in-Some.line.now c.in-Some.others.now c.in-Some.ensures.cut
    ∙ ap (λ l. l ∷ lines_of c.in-Some.others.now) (sym c.in_ok-line-in-Some.ensures)

pub returns-in_ok-line-in-None : goal.returns-in_ok-line-in-None
returns-in_ok-line-in-None c =
    lines_unended c.args.bytes.now (some_bytes _ (sym c.is_empty.ensures ∙ c.if-is_empty.false)) c.in-None.ensures.cut
    ∙ ap (λ l. l ∷ []) (sym c.in_ok-line-in-None.ensures)
    ∙ ap (λ ls. c.in_ok-line-in-None.line ∷ ls) (sym (lines_none [] refl))
