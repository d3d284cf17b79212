use Rattle.std.proofs.Common.{◌≡◌, ◌∙◌, sym, subst, string_bytes}
use Rattle.ccr_history.specs.TextMap.{key_text, fields_in}
use Rattle.ccr_history.specs.Members.{IsLeft}
use Rattle.ccr_history.proofs.Members.{key_left, has_members-meets}
use Rattle.ccr_history.proofs.version.Version.meets.Goals as goal

pub returns : goal.returns
returns c =
    let text : c.as_bytes.result.now ≡ key_text (fields_in (string_bytes c.self.inside.key)) = c.as_bytes.ensures.value ∙ c.self.invariant.0 in
    let left : IsLeft (fields_in (string_bytes c.self.inside.key)) c.as_bytes.result.now = subst (IsLeft (fields_in (string_bytes c.self.inside.key))) (sym text) (key_left (fields_in (string_bytes c.self.inside.key))) in
    let wanted : IsLeft c.args.pin.now c.as_bytes-2.result.now = subst (IsLeft c.args.pin.now) (sym c.as_bytes-2.ensures.is) (key_left c.args.pin.now) in
    rw (← c.self.view_is) (c.has_members.ensures _ c.args.pin.now left wanted ∙ has_members-meets _ c.args.pin.now c.self.invariant.1)
