-- The rows of a history after a place is enabled.
use Rattle.std.proofs.Common.{◌≡◌, ℕ, pos, ◌+◌, ◌<◌, List, [], ◌∷◌, ◌++◌, map, filter, Bool, true, false, not, cond, ◌&&◌, ◌||◌, ◌==◌, is_eq, refl, ap, ap₂, ◌∙◌, arith}
use Rattle.std.proofs.lemmas.Bool.Decides.{nat_tests}
use Rattle.sqlite.specs.declared.types.Value.TheVariants.{Int, Text as Words}
use Rattle.sqlite.specs.Order.{Row, value_cmp}
use Rattle.sqlite_value.proofs.OrderLemmas.{value_cmp-Int, value_cmp-Text}
use Rattle.sqlite_keyed.proofs.ListLemmas.{filter-map, filter_same}
use Rattle.ccr_history.specs.Builds.{UsedData, BuildData}
use Rattle.ccr_history.specs.Pairs.{is_same_pair, has_pair, without_pair}
use Rattle.ccr_tables.specs.Written.{is_row}
use Rattle.ccr_store.specs.Rows.{used_row, moved_row, disabled_rows, pair_rows}

-- the row isn't that of this disabled place
abbrev stays : ℕ → ℕ → Row → Bool
stays scope place r = not (is_row (Int (pos 0)) (Words []) (Int (pos scope)) (Int (pos place)) r)

number_same : (a b : ℕ) → is_eq (value_cmp (Int (pos a)) (Int (pos b))) ≡ (b == a)
number_same a b = ap is_eq (value_cmp-Int (pos a) (pos b)) ∙ grind (arith, nat_tests)

number_apart : (k : ℕ) → 0 < k → is_eq (value_cmp (Int (pos k)) (Int (pos 0))) ≡ false
number_apart k some = ap is_eq (value_cmp-Int (pos k) (pos 0)) ∙ grind (arith, nat_tests)

none_same : is_eq (value_cmp (Words []) (Words [])) ≡ true
none_same = ap is_eq (value_cmp-Text [] [])

abbrev both : Bool → Bool → Bool
both a b = a && b

disabled_same : (scope place : ℕ) (p : ℕ × ℕ) → stays scope place (moved_row 0 p) ≡ not (is_same_pair (scope, place) p)
disabled_same scope place p =
    ap not (ap₂ both (number_same 0 0) (ap₂ both none_same (ap₂ both (number_same p.0 scope) (number_same p.1 place))))

of_disabled : (scope place : ℕ) (ps : List (ℕ × ℕ)) → filter (stays scope place) (disabled_rows ps) ≡ disabled_rows (without_pair (scope, place) ps)
of_disabled scope place ps =
    filter-map (stays scope place) (moved_row 0) ps
    ∙ ap (map (moved_row 0)) (filter_same (λ p. stays scope place (moved_row 0 p)) (λ p. not (is_same_pair (scope, place) p)) (disabled_same scope place) ps)

-- ---- rows of builds stay
filter-append : (keep : Row → Bool) (xs ys : List Row) → filter keep (xs ++ ys) ≡ filter keep xs ++ filter keep ys
filter-append keep [] ys = refl
filter-append keep (x ∷ xs) ys = by (keep x) (filter-append keep xs ys)
  where
    by : (t : Bool) → filter keep (xs ++ ys) ≡ filter keep xs ++ filter keep ys → cond t (x ∷ filter keep (xs ++ ys)) (filter keep (xs ++ ys)) ≡ cond t (x ∷ filter keep xs) (filter keep xs) ++ filter keep ys
    by true e = ap (λ l. x ∷ l) e
    by false e = e

used_stay : (scope place id : ℕ) (us : List UsedData) → 0 < id → filter (stays scope place) (map (used_row id) us) ≡ map (used_row id) us
used_stay scope place id [] some = refl
used_stay scope place id (u ∷ us) some =
    ap (λ b. cond (not (b && (is_eq (value_cmp (Words u.input) (Words [])) && (is_eq (value_cmp (Int (pos u.scope)) (Int (pos scope))) && is_eq (value_cmp (Int (pos u.place)) (Int (pos place))))))) (used_row id u ∷ filter (stays scope place) (map (used_row id) us)) (filter (stays scope place) (map (used_row id) us))) (number_apart id some)
    ∙ ap (λ l. used_row id u ∷ l) (used_stay scope place id us some)

moved_stay : (scope place id : ℕ) (ps : List (ℕ × ℕ)) → 0 < id → filter (stays scope place) (map (moved_row id) ps) ≡ map (moved_row id) ps
moved_stay scope place id [] some = refl
moved_stay scope place id (p ∷ ps) some =
    ap (λ b. cond (not (b && (is_eq (value_cmp (Words []) (Words [])) && (is_eq (value_cmp (Int (pos p.0)) (Int (pos scope))) && is_eq (value_cmp (Int (pos p.1)) (Int (pos place))))))) (moved_row id p ∷ filter (stays scope place) (map (moved_row id) ps)) (filter (stays scope place) (map (moved_row id) ps))) (number_apart id some)
    ∙ ap (λ l. moved_row id p ∷ l) (moved_stay scope place id ps some)

builds_stay : (scope place id : ℕ) (bs : List BuildData) → 0 < id → filter (stays scope place) (pair_rows id bs) ≡ pair_rows id bs
builds_stay scope place id [] some = refl
builds_stay scope place id (b ∷ bs) some =
    let more : 0 < id + 1 = omega arith in
    filter-append (stays scope place) (map (used_row id) b.used ++ map (moved_row id) b.moved) (pair_rows (id + 1) bs)
    ∙ ap₂ (λ (xs ys : List Row). xs ++ ys)
    (filter-append (stays scope place) (map (used_row id) b.used) (map (moved_row id) b.moved)
    ∙ ap₂ (λ (xs ys : List Row). xs ++ ys) (used_stay scope place id b.used some) (moved_stay scope place id b.moved some))
    (builds_stay scope place (id + 1) bs more)

-- the rows without that of the place
pub without_rows_of : (scope place : ℕ) (ps : List (ℕ × ℕ)) (bs : List BuildData)
    → filter (stays scope place) (disabled_rows ps ++ pair_rows 1 bs) ≡ disabled_rows (without_pair (scope, place) ps) ++ pair_rows 1 bs
without_rows_of scope place ps bs =
    filter-append (stays scope place) (disabled_rows ps) (pair_rows 1 bs)
    ∙ ap₂ (λ (xs ys : List Row). xs ++ ys) (of_disabled scope place ps) (builds_stay scope place 1 bs (omega arith))

-- where the place isn't disabled, nothing is left out
pub without_none : (p : ℕ × ℕ) (ps : List (ℕ × ℕ)) → has_pair p ps ≡ false → without_pair p ps ≡ ps
without_none p [] none = refl
without_none p (q ∷ qs) none = by (is_same_pair p q) none (λ rest. without_none p qs rest)
  where
    by : (t : Bool) → (t || has_pair p qs) ≡ false → (has_pair p qs ≡ false → without_pair p qs ≡ qs) → cond (not t) (q ∷ without_pair p qs) (without_pair p qs) ≡ q ∷ qs
    by true some more = absurd (cc)
    by false rest more = ap (λ l. q ∷ l) (more rest)
