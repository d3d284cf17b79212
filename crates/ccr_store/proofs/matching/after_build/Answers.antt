use Rattle.std.proofs.Common.{ℕ, List, length, map, sym, ap, ◌∙◌, true≢false}
use Rattle.std.proofs.lemmas.List.{length-map}
use Rattle.ccr_store.specs.Rows.{moved_row, used_row}
use Rattle.ccr_store.proofs.ReadRows.{in_parts}
use Rattle.ccr_store.proofs.matching.after_build.Goals as goal

pub returns-then-not-are_moved-clause-only : goal.returns-then-not-are_moved-clause-only
returns-then-not-are_moved-clause-only c more same =
    let b = c.args.build.now in
    let moved = ap (λ (ps : List (ℕ × ℕ)). length ps) c.moved-moved.ensures ∙ sym (length-map b.moved (moved_row c.args.id)) in
    let used = c.used_count-2.ensures ∙ sym (length-map b.used (used_row c.args.id)) in
    let parts = in_parts c.args.rows.now c.split_at.result.0.now c.split_at.result.1.now c.split_at-2.result.0.now c.split_at-2.result.1.now (map (moved_row c.args.id) b.moved) (map (used_row c.args.id) b.used) more _ _ same c.split_at.ensures.front c.split_at.ensures.back moved c.split_at-2.ensures.front c.split_at-2.ensures.back used in
    true≢false (sym (c.are_moved.ensures.only (parts.0 ∙ ap (map (moved_row c.args.id)) (sym c.moved-moved.ensures))) ∙ c.if-not-are_moved.true)

pub returns-then-not-are_used-clause-only : goal.returns-then-not-are_used-clause-only
returns-then-not-are_used-clause-only c more same =
    let b = c.args.build.now in
    let moved = ap (λ (ps : List (ℕ × ℕ)). length ps) c.moved-moved.ensures ∙ sym (length-map b.moved (moved_row c.args.id)) in
    let used = c.used_count-2.ensures ∙ sym (length-map b.used (used_row c.args.id)) in
    let parts = in_parts c.args.rows.now c.split_at.result.0.now c.split_at.result.1.now c.split_at-2.result.0.now c.split_at-2.result.1.now (map (moved_row c.args.id) b.moved) (map (used_row c.args.id) b.used) more _ _ same c.split_at.ensures.front c.split_at.ensures.back moved c.split_at-2.ensures.front c.split_at-2.ensures.back used in
    true≢false (sym (c.are_used.ensures.only parts.1) ∙ c.if-not-are_used.true)

pub returns-clause-only : goal.returns-clause-only
returns-clause-only c more same =
    let b = c.args.build.now in
    let moved = ap (λ (ps : List (ℕ × ℕ)). length ps) c.moved-moved.ensures ∙ sym (length-map b.moved (moved_row c.args.id)) in
    let used = c.used_count-2.ensures ∙ sym (length-map b.used (used_row c.args.id)) in
    (in_parts c.args.rows.now c.split_at.result.0.now c.split_at.result.1.now c.split_at-2.result.0.now c.split_at-2.result.1.now (map (moved_row c.args.id) b.moved) (map (used_row c.args.id) b.used) more _ _ same c.split_at.ensures.front c.split_at.ensures.back moved c.split_at-2.ensures.front c.split_at-2.ensures.back used).2
