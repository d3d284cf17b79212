use Rattle.std.proofs.Common.{◌≡◌, List, ◌∷◌, ◌++◌, String, Global, string_bytes, ap, sym, ◌∙◌, subst, append-nil}
use Rattle.ccr_history.specs.TextMap.{TextMap}
use Rattle.ccr_history.specs.Pins.{pins_of}
use Rattle.ccr_history.proofs.PinLaws.{Ascend}
use Rattle.ccr_history.proofs.PinMaps.{with_pin-next}
use Rattle.ccr_history.proofs.pins.Pins.copy.Goals as goal

pub loop-resource-init : goal.loop-resource-init
loop-resource-init c =
    rw (c.new-pins.ensures, c.into_iter-resource-iterator.ensures.into_iter_gives, c.iter-resource-items.ensures.rest) c.self.view_is

pub loop-resource-preserved : goal.loop-resource-preserved
loop-resource-preserved c =
    let up : Ascend c.args.self.now = subst Ascend c.self.view_is c.self.invariant.0 in
    let left : c.loop-resource.pins ++ (string_bytes c.in-Some.resource.now, c.in-Some.pin.now) ∷ pins_of c.next.new.self ≡ c.args.self.now =
    ap (λ (es : List (String Global × TextMap)). c.loop-resource.pins ++ pins_of es) (sym c.in-Some.ensures.steps) ∙ c.loop-resource.invariant in
    rw (c.in_ok-set.ensures.ok, c.as_str.ensures.value, c.in_ok-copy.ensures)
    (with_pin-next c.loop-resource.pins (pins_of c.next.new.self) c.args.self.now (string_bytes c.in-Some.resource.now) c.in-Some.pin.now up left)

pub returns : goal.returns
returns c =
    sym (append-nil c.loop-resource.pins)
    ∙ ap (λ (es : List (String Global × TextMap)). c.loop-resource.pins ++ pins_of es) (sym c.in-None.ensures.steps.0) ∙ c.loop-resource.invariant
