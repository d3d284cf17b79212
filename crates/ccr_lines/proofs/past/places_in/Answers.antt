use Rattle.std.proofs.Common.{◌≡◌, ◌∙◌, ℕ, length, sym, ap, subst, IfOk}
use Rattle.std.specs.List.{range_with_len}
use Rattle.ccr_history.specs.History.{places_at}
use Rattle.ccr_history.proofs.Numbers.{places_at-versions}
use Rattle.ccr_lines.proofs.past.places_in.Goals as goal

pub returns : goal.returns
returns c =
    let n = places_at c.args.history.now.tables c.args.scope in
    let same : length c.versions_at.result.now ≡ n =
    ap length c.versions_at.ensures ∙ sym (places_at-versions c.args.scope c.args.history.now.tables) in
    let P : ℕ → Type 0 = λ m. IfOk c.places_to.result (λ places. places.items ≡ range_with_len 1 m) in
    subst P same c.places_to.ensures
