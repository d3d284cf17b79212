use Rattle.std.proofs.Common.{◌≡◌, ℕ, ◌+◌, ◌≤◌, Bool, true, List, get_or, set, slice_index, sym, ap, ◌∙◌, subst, arith}
use Rattle.std.specs.Prelude.{All, Contains}
use Rattle.ccr_layout.specs.Layers.{named_in}
use Rattle.ccr_layout.specs.Turns.{CanBeNext}
use Rattle.ccr_layout.proofs.LayerLaws.{AreLayered, layered_more, layered_same, layered_all}
use Rattle.ccr_layout.proofs.layer.layers_of.Goals as goal
use Rattle.ccr_layout.proofs.layer.layers_of.Goals.{in-Some, in-None}

pub loop-turn-preserved : goal.loop-turn-preserved
loop-turn-preserved c =
    let named = c.args.named.now in
    let done = c.loop-turn.done.items in
    let layers = c.loop-turn.layers.items in
    let turn = c.loop-turn.turn in
    let is = c.loop-turn.invariant in
    let P : List Bool → Type 0 = λ ds. AreLayered named ds c.match-next_node.layers.items (turn + 1) in
    elim c.match-next_node.branch [
      | in-Some w ↦ (let node = w.in-Some.node in
          let above = w.layer_above-above.result in
          let ds = ap (λ v. v.items) w.done-is ∙ w.set_done.ensures in
          let ls = ap (λ v. v.items) w.layers-is ∙ w.set_column_at.ensures in
          let Q : List ℕ → Type 0 = λ xs. AreLayered named (set done node true) xs (turn + 1) in
          let C : List Bool → Type 0 = λ xs. CanBeNext named xs node in
          let A : List ℕ → Type 0 = λ xs. All (λ x. x ≤ turn) xs in
          let high = λ (s : ℕ) (has : Contains (named_in named node) s) (d : get_or done s true ≡ true).
          (let N : List ℕ → Type 0 = λ xs. Contains xs s in
          let D : List Bool → Type 0 = λ xs. get_or xs s true ≡ true in
          let L : List ℕ → Type 0 = λ xs. slice_index xs s + 1 ≤ above in
          subst L w.deref-in-Some.ensures.value (w.layer_above-above.ensures.above s (subst N (sym w.named_by.ensures) has) (subst D (sym w.deref-in-Some-2.ensures.value) d))) in
          subst P (sym ds) (subst Q (sym ls) (layered_more named done layers turn node above is (subst C c.deref.ensures.value w.in-Some.ensures) high
          (w.layer_above-above.ensures.low turn (subst A (sym w.deref-in-Some.ensures.value) is.low))
          (λ most all. let M : List ℕ → Type 0 = λ xs. All (λ x. x ≤ most) xs in w.layer_above-above.ensures.low most (subst M (sym w.deref-in-Some.ensures.value) all))
          (λ none. w.layer_above-above.ensures.first (w.named_by.ensures ∙ none)))))
      | in-None w ↦ (let ds = ap (λ v. v.items) w.done-is in
          let ls = ap (λ v. v.items) w.layers-is in
          let Q : List ℕ → Type 0 = λ xs. AreLayered named done xs (turn + 1) in
          let D : List Bool → Type 0 = λ xs. (t : ℕ) → get_or xs t true ≡ true in
          subst P (sym ds) (subst Q (sym ls) (layered_same named done layers turn is (subst D c.deref.ensures.value w.in-None.ensures))))
    ]

pub returns : goal.returns
returns c =
    layered_all c.args.named.now c.loop-turn.done.items c.loop-turn.layers.items c.loop-turn.turn (omega (arith, c.loop-turn-test.false, c.loop-turn.auto.turn-end)) c.requires c.loop-turn.invariant
