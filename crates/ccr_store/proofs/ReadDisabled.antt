-- Disabled places, read from their rows.
use Rattle.std.proofs.Common.{◌≡◌, ℕ, zero, suc, ◌+◌, ◌<◌, ◌≤◌, List, [], ◌∷◌, ◌++◌, length, take, get_or, map, Some, false, cond, ◌||◌, IsTrue, slice_get, refl, sym, ap, ◌∙◌, arith}
use Rattle.std.specs.List.{AllByRecursion}
use Rattle.std.proofs.lemmas.Bool.Decides.{nat_tests}
use Rattle.std.proofs.lemmas.List.{take_all}
use Rattle.sqlite_trees.specs.Tree.{IsAscending}
use Rattle.sqlite.specs.Order.{Row}
use Rattle.ccr_history.specs.Tables.{TableData}
use Rattle.ccr_history.specs.Builds.{is_before, with_moved}
use Rattle.ccr_history.specs.Changes.{disabled, edited}
use Rattle.ccr_history.specs.History.{HistoryData, AreDisabled, has_place}
use Rattle.ccr_history.specs.Pairs.{is_same_pair, has_pair, with_pair}
use Rattle.ccr_history.proofs.Links.{all-at}
use Rattle.ccr_store.specs.Rows.{moved_row, disabled_rows}
use Rattle.ccr_store.proofs.FrontRows.{rows_length, row_there, next_item}
use Rattle.ccr_store.proofs.OneHistory.{from_pairs}

abbrev Before : ℕ × ℕ → ℕ × ℕ → Type 0
Before p q = IsTrue (is_before p q)

-- ---- a place behind others
apart : (p q : ℕ × ℕ) → Before q p → is_same_pair p q ≡ false
apart p q before = grind (arith, nat_tests)

later : (p q : ℕ × ℕ) → Before q p → is_before p q ≡ false
later p q before = grind (arith, nat_tests)

not_among : (p : ℕ × ℕ) (qs : List (ℕ × ℕ)) → AllByRecursion (λ q. Before q p) qs → has_pair p qs ≡ false
not_among p [] h = refl
not_among p (q ∷ qs) h = ap (λ b. b || has_pair p qs) (apart p q h.0) ∙ not_among p qs h.1

at_end : (p : ℕ × ℕ) (qs : List (ℕ × ℕ)) → AllByRecursion (λ q. Before q p) qs → with_moved p qs ≡ qs ++ p ∷ []
at_end p [] h = refl
at_end p (q ∷ qs) h = ap (λ b. cond b (p ∷ q ∷ qs) (q ∷ with_moved p qs)) (later p q h.0) ∙ ap (λ l. q ∷ l) (at_end p qs h.1)

behind : (p : ℕ × ℕ) (qs : List (ℕ × ℕ)) → AllByRecursion (λ q. Before q p) qs → with_pair p qs ≡ qs ++ p ∷ []
behind p qs h = ap (λ b. cond b qs (with_moved p qs)) (not_among p qs h) ∙ at_end p qs h

before_at : (ps : List (ℕ × ℕ)) (i : ℕ) (p : ℕ × ℕ) → IsAscending Before ps → slice_get ps i ≡ Some p → AllByRecursion (λ q. Before q p) (take i ps)
before_at [] i p up at = absurd (cc)
before_at (q ∷ qs) zero p up at = tt
before_at (q ∷ qs) (suc i) p up at = (all-at (Before q) qs i p up.0 at, before_at qs i p up.1 at)

-- ---- the row of a place
pub disabled_read : (ts : List TableData) (ps : List (ℕ × ℕ)) (rows : List Row) (i : ℕ) (r : Row) → AreDisabled ts ps → rows ≡ disabled_rows ps → i < length rows → r ≡ get_or rows i r
    → (p : ℕ × ℕ) × IsTrue (has_place ts p.0 p.1) × (r ≡ moved_row 0 p) × (with_pair p (take i ps) ≡ take (i + 1) ps)
disabled_read ts ps rows i r rules same within is =
    let it = row_there (λ k (xs : List (ℕ × ℕ)). map (moved_row 0) xs) (λ k. moved_row 0) (λ k. refl) (λ k x xs. refl) 1 ps rows i r same within is in (
      it.0,
      all-at (λ p. IsTrue (has_place ts p.0 p.1)) ps i it.0 rules.1 it.1,
      it.2,
      behind it.0 (take i ps) (before_at ps i it.0 (from_pairs Before ps rules.0) it.1) ∙ sym (next_item ps i it.0 it.1),
    )

pub disabled_set : (h at new : HistoryData) (p : ℕ × ℕ) (before after : List (ℕ × ℕ)) → at ≡ record h { disabled = before } → new ≡ edited (disabled p.0 p.1) at → with_pair p before ≡ after → new ≡ record h { disabled = after }
disabled_set h at new p before after was now is =
    now ∙ ap (edited (disabled p.0 p.1)) was ∙ ap (λ (l : List (ℕ × ℕ)). record h { disabled = l }) is

pub disabled_whole : (ps : List (ℕ × ℕ)) (rows : List Row) (i : ℕ) → rows ≡ disabled_rows ps → length rows ≤ i → take i ps ≡ ps
disabled_whole ps rows i same past =
    take_all i ps (omega (arith, ap (λ (l : List Row). length l) same, rows_length (λ k (xs : List (ℕ × ℕ)). map (moved_row 0) xs) (λ k. moved_row 0) (λ k. refl) (λ k x xs. refl) 1 ps, past))
