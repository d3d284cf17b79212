use Rattle.std.proofs.Common.{◌≡◌, ◌∷◌, ◌+◌, ℕ, List, length, map, take, drop, sym, inl, inr, not, true, arith, rules, refl, ap, ◌∙◌}
use Rattle.std.proofs.lemmas.Bool.{cond-true, cases_Bool}
use Rattle.std.specs.Prelude.{is_ok}
use Rattle.std.proofs.lemmas.Grind.{common_steps}
use Rattle.ccr_choice.specs.Problem.{BuildValue}
use Rattle.std.proofs.lemmas.List.{length-map, length-reverse, length-drop}
use Rattle.std.proofs.Math.Seq.{take-length}
use Rattle.ccr_index.specs.Rows.{JobRowsValue, number_for, size_for, builds_of, build_of_row}
use Rattle.ccr_index.specs.Alike.{row_for}
use Rattle.ccr_index.proofs.RowLaws.{rows_added}
use Rattle.ccr_index.proofs.TopLaws.{top_added}
use Rattle.ccr_index.proofs.AlikeLaws.{printed_noted, printed_first, first_among}
use Rattle.ccr_index.proofs.rows.JobRows.add.Goals as goal

pub invariant_of-self : goal.invariant_of-self
invariant_of-self c =
    let has_pairs : is_ok c.extend_from_slice.result ≡ true = grind (arith, common_steps) in
    let has_row : is_ok c.push.result ≡ true = grind (arith, common_steps) in
    let grown = c.extend_from_slice.ensures.items ∙ cond-true (is_ok c.extend_from_slice.result) _ _ has_pairs in
    let pushed = c.push.ensures.items ∙ cond-true (is_ok c.push.result) _ _ has_row in
    let begins : c.len-from.result ≡ length c.self.inside.pairs.items = search rules in
    let last : c.len-row.result + 1 ≡ length c.self.inside.rows.items + 1 = search rules in
    let rows = rows_added c.self.inside.pairs.items c.args.pairs.now c.extend_from_slice.new.self.items c.self.inside.rows.items c.push.new.self.items c.self.inside.earlier.items c.note.new.earlier.items c.args.number
    (length c.args.pairs.now) c.len-from.result (c.len-row.result + 1)
    (λ pair. number_for c.self.inside.seen pair) (λ pair. number_for c.note.new.seen pair) c.self.invariant.0 c.requires.ascending grown pushed c.note.ensures.items begins refl last (λ pair. c.note.ensures.told pair) in
    let many : length (builds_of c.self.inside.pairs.items c.self.inside.rows.items) ≡ length c.self.inside.rows.items = length-reverse (map (build_of_row c.self.inside.pairs.items) c.self.inside.rows.items)
    ∙ length-map c.self.inside.rows.items (build_of_row c.self.inside.pairs.items) in
    let size = c.print_of-print.result.size in
    let sizes : ℕ × ℕ → ℕ = λ pair. size_for c.self.inside.seen pair in
    let sized : ℕ × ℕ → ℕ = λ pair. size_for c.note.new.seen pair in
    let bs = builds_of c.self.inside.pairs.items c.self.inside.rows.items in
    let b : BuildValue = record { number = c.args.number; pairs = c.args.pairs.now } in
    let from = c.len-from.result in
    let tail = ap (λ n. take n (drop from c.deref.result.now)) (sym (length-drop from c.deref.result.now)) ∙ take-length (drop from c.deref.result.now) ∙ ap (drop from) c.deref.ensures.value in
    let is = c.print_of-print.ensures in (
      rows.0,
      elim (cases_Bool c.has_first-is_new_kind.result) [
        | inl t ↦ (let x = first_among c.self.inside.scopes c.args.pairs.now c.self.inside.earlier.items c.note.new.earlier.items _ bs (λ pair. number_for c.self.inside.seen pair) c.len-from.result
            c.self.invariant.0.told c.note.ensures.items (omega (arith, begins, c.self.invariant.0.long)) tail (c.has_first-is_new_kind.ensures t) in
            printed_first c.self.inside.scopes bs b (λ n. row_for c.self.inside.prints n) sizes sized size c.self.invariant.1 is.size c.note.ensures.sized _ _ x.0 rows.1 (c.note_print.ensures.unless t) x.1 x.2 x.3)
        | inr f ↦ printed_noted c.self.inside.scopes bs b (λ n. row_for c.self.inside.prints n) sizes sized size c.self.invariant.1 is.size c.note.ensures.sized _ _ c.print_of-print.result.number (c.len-row.result + 1) rows.1 is.number (omega (arith, last, many))
            (c.note_print.ensures.told (ap not f))
      ],
      top_added _ b bs c.self.inside.top c.top_of.result c.max-top.result c.self.invariant.2 c.top_of.ensures.covers c.top_of.ensures.least (omega (arith, c.max-top.ensures)) rows.1,
    )

pub returns-clause-builds : goal.returns-clause-builds
returns-clause-builds c =
    let has_pairs : is_ok c.extend_from_slice.result ≡ true = grind (arith, common_steps) in
    let has_row : is_ok c.push.result ≡ true = grind (arith, common_steps) in
    let grown = c.extend_from_slice.ensures.items ∙ cond-true (is_ok c.extend_from_slice.result) _ _ has_pairs in
    let pushed = c.push.ensures.items ∙ cond-true (is_ok c.push.result) _ _ has_row in
    let begins : c.len-from.result ≡ length c.self.inside.pairs.items = search rules in
    let last : c.len-row.result + 1 ≡ length c.self.inside.rows.items + 1 = search rules in
    (rows_added c.self.inside.pairs.items c.args.pairs.now c.extend_from_slice.new.self.items c.self.inside.rows.items c.push.new.self.items c.self.inside.earlier.items c.note.new.earlier.items c.args.number (length c.args.pairs.now) c.len-from.result (c.len-row.result + 1)
    (λ pair. number_for c.self.inside.seen pair) (λ pair. number_for c.note.new.seen pair) c.self.invariant.0 c.requires.ascending grown pushed c.note.ensures.items begins refl last (λ pair. c.note.ensures.told pair)).1
    ∙ ap (λ (v : JobRowsValue). let bs : List BuildValue = record { number = c.args.number; pairs = c.args.pairs.now } ∷ v.builds in bs) c.self.view_is
