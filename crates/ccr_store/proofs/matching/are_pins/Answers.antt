use Rattle.std.proofs.Common.{◌==◌, ℕ, List, [], ◌∷◌, map, length, get_or, String, Global, sym, ap, ap₂, ◌∙◌, arith}
use Rattle.sqlite.specs.declared.types.Value.TheVariants.{Text as Words}
use Rattle.sqlite.specs.Order.{Row}
use Rattle.ccr_history.specs.TextMap.{TextMap}
use Rattle.ccr_history.specs.Pins.{pins_of}
use Rattle.ccr_store.specs.Rows.{pin_row}
use Rattle.ccr_store.proofs.matching.are_pins.Goals as goal

pub returns-in_default-clause-only : goal.returns-in_default-clause-only
returns-in_default-clause-only c same =
    let front = c.loop-resource.invariant.so_far same ∙ ap (λ (es : List (String Global × TextMap)). map pin_row (pins_of es)) c.in-Some.ensures.steps in
    absurd (omega (arith, ap (λ (l : List Row). length l) front, c.in_default.len_below))

pub returns-then-not-is_pin-clause-only : goal.returns-then-not-is_pin-clause-only
returns-then-not-is_pin-clause-only c same =
    let front = c.loop-resource.invariant.so_far same ∙ ap (λ (es : List (String Global × TextMap)). map pin_row (pins_of es)) c.in-Some.ensures.steps in
    sym c.if-not-is_pin.true
    ∙ c.is_pin.ensures.only (c.row-item.is ∙ ap (λ (l : List Row). get_or l 0 c.row-item.result) front
    ∙ ap₂ (λ (a b : List ℕ). Words a ∷ Words b ∷ []) (sym c.as_str.ensures.value) (sym (c.as_str-in-loop-resource.ensures.value ∙ c.in_ok-text.ensures.is)))

pub returns-clause-only : goal.returns-clause-only
returns-clause-only c same =
    let none = c.loop-resource.invariant.so_far same ∙ ap (λ (es : List (String Global × TextMap)). map pin_row (pins_of es)) c.in-None.ensures.steps.0 in
    c.is_empty.ensures ∙ ap (λ (l : List Row). length l == 0) none
