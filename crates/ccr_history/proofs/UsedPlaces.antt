-- Where a used place goes among those that are sorted by input name.
use Rattle.std.proofs.Common.{◌≡◌, ℕ, zero, suc, ◌+◌, ◌-◌, ◌<◌, ◌≤◌, List, [], ◌∷◌, ◌++◌, map, length, take, drop, get_or, slice_get, insert, Some, true, false, refl, sym, ap, ◌∙◌, subst, arith, Ordering, Less, Equal, Greater, is_gt, nat_cmp}
use Rattle.std.specs.List.{AllByRecursion}
use Rattle.std.specs.Ordering.{match_ordering}
use Rattle.std.specs.Cmp.Lexicographic.{slice_cmp}
use Rattle.std.proofs.lemmas.List.{get_or-map, length-map, map-append, take-map, drop-map, drop_more}
use Rattle.std.proofs.lemmas.Option.{slice_get_within, get_or_from_slice_get}
use Rattle.ccr_history.specs.declared.used_row.UsedRow.{UsedRow}
use Rattle.ccr_history.specs.Text.{Text}
use Rattle.ccr_history.specs.Names.{name_at, HasMore}
use Rattle.ccr_history.specs.Builds.{UsedData, with_used, by_input}
use Rattle.ccr_history.specs.Rows.{used_data}
use Rattle.ccr_history.proofs.Lists.{each_weaker}
use Rattle.ccr_history.proofs.Links.{length-more, used_data-more}

-- behind those whose inputs' names are less, before one whose input's name is not
pub insert_is-with_used : (u : UsedData) (us : List UsedData) (i : ℕ) → i ≤ length us → ((k : ℕ) (d : UsedData) → k < i → is_gt (slice_cmp nat_cmp u.input (get_or us k d).input) ≡ true)
    → (i < length us → (d : UsedData) → is_gt (slice_cmp nat_cmp u.input (get_or us i d).input) ≡ false) → insert us i u ≡ with_used u us
insert_is-with_used u [] zero within before behind = refl
insert_is-with_used u [] (suc i) within before behind = absurd (omega arith)
insert_is-with_used u (v ∷ vs) zero within before behind = by (slice_cmp nat_cmp u.input v.input) (behind (omega arith) v)
  where
    by : (o : Ordering) → is_gt o ≡ false → u ∷ v ∷ vs ≡ match_ordering o (u ∷ v ∷ vs) (u ∷ v ∷ vs) (v ∷ with_used u vs)
    by Less h = refl
    by Equal h = refl
    by Greater h = absurd (cc)
insert_is-with_used u (v ∷ vs) (suc i) within before behind =
    by (slice_cmp nat_cmp u.input v.input) (before zero v (omega arith))
    (insert_is-with_used u vs i (omega arith) (λ k d h. before (suc k) d (omega (arith, h))) (λ h d. behind (omega (arith, h)) d))
  where
    by : (o : Ordering) → is_gt o ≡ true → insert vs i u ≡ with_used u vs → v ∷ insert vs i u ≡ match_ordering o (u ∷ v ∷ vs) (u ∷ v ∷ vs) (v ∷ with_used u vs)
    by Less h more = absurd (cc)
    by Equal h more = absurd (cc)
    by Greater h more = ap (λ l. v ∷ l) more

-- the same, of rows
pub insert_row_is-with_used : (inputs : List Text) (rows : List UsedRow) (name : Text) (i : ℕ) → i ≤ length rows
    → ((k : ℕ) (d : UsedRow) → k < i → is_gt (slice_cmp nat_cmp name (name_at inputs (get_or rows k d).input)) ≡ true)
    → (i < length rows → (d : UsedRow) → is_gt (slice_cmp nat_cmp name (name_at inputs (get_or rows i d).input)) ≡ false)
    → (u : UsedData) → u.input ≡ name → insert (map (used_data inputs) rows) i u ≡ with_used u (map (used_data inputs) rows)
insert_row_is-with_used inputs rows name i within before behind u same =
    let none : UsedRow = record { input = 0; scope = 0; place = 0 } in
    let at : (k : ℕ) (d : UsedData) → k < length rows → is_gt (slice_cmp nat_cmp u.input (get_or (map (used_data inputs) rows) k d).input) ≡ is_gt (slice_cmp nat_cmp name (name_at inputs (get_or rows k none).input)) =
    λ k d h. ap (λ v. is_gt (slice_cmp nat_cmp u.input v.input)) (get_or-map (used_data inputs) rows k none d h) ∙ ap (λ t. is_gt (slice_cmp nat_cmp t (name_at inputs (get_or rows k none).input))) same in
    insert_is-with_used u (map (used_data inputs) rows) i (omega (arith, length-map rows (used_data inputs)))
    (λ k d h. at k d (omega (arith, h)) ∙ before k none h)
    (λ h d. at i d (omega (arith, h, length-map rows (used_data inputs))) ∙ behind (omega (arith, h, length-map rows (used_data inputs))) none)

map-insert : {X Y : Type 0} (f : X → Y) (xs : List X) (i : ℕ) (y : X) → map f (insert xs i y) ≡ insert (map f xs) i (f y)
map-insert f xs i y =
    map-append f (take i xs) (y ∷ drop i xs)
    ∙ ap (λ l. l ++ f y ∷ map f (drop i xs)) (sym (take-map f i xs))
    ∙ ap (λ l. take i (map f xs) ++ f y ∷ l) (sym (drop-map f i xs))

-- one more used place, in order
pub with_row : (names more : List Text) (used : List UsedData) (left place : ℕ) (rows rows' : List UsedRow) (row : UsedRow) (u : UsedData) → HasMore names more
    → 0 < left → left ≤ length used → u ≡ get_or used (left - 1) u → slice_get more row.input ≡ Some u.input → row.scope ≡ u.scope → row.place ≡ u.place
    → AllByRecursion (λ r. r.input < length names) rows → map (used_data names) rows ≡ by_input (drop left used)
    → insert (map (used_data more) rows) place u ≡ with_used u (map (used_data more) rows) → rows' ≡ insert rows place row
    → map (used_data more) rows' ≡ by_input (drop (left - 1) used)
with_row names more used left place rows rows' row u has some within at named scope place_of all sorted put is =
    let same : used_data more row ≡ u =
    ap (λ t. let d : UsedData = record { input = t; scope = row.scope; place = row.place } in d) (get_or_from_slice_get more row.input u.input [] named)
    ∙ ap (λ n. let d : UsedData = record { input = u.input; scope = n; place = row.place } in d) scope
    ∙ ap (λ n. let d : UsedData = record { input = u.input; scope = u.scope; place = n } in d) place_of in
    let next : drop (left - 1) used ≡ u ∷ drop left used =
    drop_more used (left - 1) u (omega arith) ∙ ap (λ v. v ∷ drop (left - 1 + 1) used) (sym at)
    ∙ ap (λ n. u ∷ drop n used) (let e : left - 1 + 1 ≡ left = omega arith in e) in
    ap (map (used_data more)) is
    ∙ map-insert (used_data more) rows place row
    ∙ ap (insert (map (used_data more) rows) place) same
    ∙ put
    ∙ ap (with_used u) (used_data-more names more has rows all ∙ sorted)
    ∙ sym (ap by_input next)

all-insert : {X : Type 0} (P : X → Type 0) (xs : List X) (i : ℕ) (y : X) → P y → AllByRecursion P xs → AllByRecursion P (insert xs i y)
all-insert P [] zero y h all = (h, tt)
all-insert P [] (suc i) y h all = (h, tt)
all-insert P (x ∷ xs) zero y h all = (h, all)
all-insert P (x ∷ xs) (suc i) y h all = (all.0, all-insert P xs i y h all.1)

pub named_with_row : (names more : List Text) (rows rows' : List UsedRow) (place : ℕ) (row : UsedRow) (name : Text) → HasMore names more → slice_get more row.input ≡ Some name
    → AllByRecursion (λ r. r.input < length names) rows → rows' ≡ insert rows place row → AllByRecursion (λ r. r.input < length more) rows'
named_with_row names more rows rows' place row name has at all is =
    subst (AllByRecursion (λ r. r.input < length more)) (sym is)
    (all-insert (λ r. r.input < length more) rows place row (slice_get_within more row.input name at)
    (each_weaker (λ r. r.input < length names) (λ r. r.input < length more) (λ r lt. omega (arith, lt, length-more names more has)) rows all))
