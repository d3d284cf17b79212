use Rattle.std.proofs.Common.{◌≡◌, ◌∙◌, ap, sym, arith, Some, slice_get, subst, insert, map}
use Rattle.ccr_history.specs.declared.used_row.UsedRow.{UsedRow}
use Rattle.ccr_history.specs.Text.{Text}
use Rattle.ccr_history.specs.Names.{HasMore}
use Rattle.ccr_history.specs.Builds.{with_used}
use Rattle.ccr_history.specs.Rows.{used_data}
use Rattle.ccr_history.proofs.NameLemmas.{HasMore-with_name, HasMore-trans}
use Rattle.ccr_history.proofs.UsedPlaces.{with_row, named_with_row}
use Rattle.ccr_history.proofs.used_row.used_rows.Goals as goal

pub loop-left-preserved : goal.loop-left-preserved
loop-left-preserved c =
    let u = c.index-used-left.result in
    let inv = c.loop-left.invariant in
    let names = c.loop-left.inputs in
    let row : UsedRow = record { input = c.in_ok-input.input; scope = c.one.inside.scope; place = c.one.inside.place } in
    let more : HasMore names c.add.new.self = subst (HasMore names) (sym c.in_ok-input.ensures.added) (HasMore-with_name names c.as_str.result.now) in
    let name : c.as_str.result.now ≡ u.input = c.as_str.ensures.value ∙ ap (λ d. d.input) c.one.view_is in
    let name_again : u.input ≡ c.as_str-in-loop-left.result.now = sym (c.as_str-in-loop-left.ensures.value ∙ ap (λ d. d.input) c.one.view_is) in
    let at : slice_get c.add.new.self c.in_ok-input.input ≡ Some u.input = c.in_ok-input.ensures.number ∙ ap (λ (t : Text). Some t) name in
    let put : insert (map (used_data c.add.new.self) c.loop-left.rows.items) c.place_of-place.result u ≡ with_used u (map (used_data c.add.new.self) c.loop-left.rows.items) =
    subst (λ l. insert (map (used_data c.add.new.self) l) c.place_of-place.result u ≡ with_used u (map (used_data c.add.new.self) l)) c.deref.ensures.value (c.place_of-place.ensures.place u name_again) in
    record {
      within = omega arith;
      sorted = with_row names c.add.new.self c.args.used.now c.loop-left.left c.place_of-place.result c.loop-left.rows.items c.insert.new.self.items row u more
          (omega arith) inv.within c.index-used-left.is at (ap (λ d. d.scope) c.one.view_is) (ap (λ d. d.place) c.one.view_is) inv.named inv.sorted put c.in_ok-insert.ensures.items;
      named = named_with_row names c.add.new.self c.loop-left.rows.items c.insert.new.self.items c.place_of-place.result row u.input more at inv.named c.in_ok-insert.ensures.items;
      more = HasMore-trans c.args.inputs.now names c.add.new.self inv.more more;
    }
