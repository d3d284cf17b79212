-- Rows of the first format, in the second.
use Rattle.std.proofs.Common.{◌≡◌, ◌⊎◌, inl, inr, pos, ℕ, List, [], ◌∷◌, Option, Some, None, true, false, not, cond, is_eq, refl, sym, ap, subst, ◌∙◌, arith}
use Rattle.std.specs.List.{AllByRecursion}
use Rattle.std.proofs.lemmas.List.Sorted.{IsPermutation-refl}
use Rattle.sqlite.specs.declared.types.Value.TheVariants.{Int, Blob}
use Rattle.sqlite.specs.Effect.{Database}
use Rattle.sqlite.specs.Order.{Row, column, value_cmp}
use Rattle.sqlite.specs.Tree.{Trees}
use Rattle.sqlite_value.proofs.OrderLemmas.{value_cmp-Int}
use Rattle.sqlite_keyed.proofs.ListLemmas.{IsPermutation-same}
use Rattle.ccr_history.specs.History.{HistoryData, IsHistory}
use Rattle.ccr_history.specs.Text.{Text}
use Rattle.ccr_tables.specs.Contents.{Holds, Keeps}
use Rattle.ccr_tables.specs.Written.{without}
use Rattle.ccr_tables.proofs.Edits.{all_permuted}
use Rattle.ccr_store.specs.Reordered.{HasSameRows}
use Rattle.ccr_store.specs.Rows.{format_row, text_row, meta_rows, HasFormat, rows_in, rows_of, raised, in_second}
use Rattle.ccr_store.specs.StoreData.{IsStored}
use Rattle.ccr_store.specs.declared.format.Format.{Format}
use Rattle.ccr_store.specs.declared.format.Format.TheVariants.{One, Two}
use Rattle.ccr_store.proofs.SameRows.{keeps_same}

-- ---- the format of rows
-- the row is that of the format, or one behind it
abbrev IsOf : Format → Row → Type 0
IsOf f r = (r ≡ format_row f) ⊎ (column r 0 ≡ Int (pos 2))

meta_of : (f : Format) (t : Option Text) → AllByRecursion (IsOf f) (meta_rows f t)
meta_of f None = (inl refl, tt)
meta_of f (Some t) = (inl refl, (inr refl, tt))

abbrev number_in : Row → List ℕ
number_in (a ∷ Blob t ∷ r) = t
number_in _ = []

abbrev first_in : List ℕ → ℕ
first_in [] = 0
first_in (n ∷ ns) = n

same_row : (f k : Format) → format_row f ≡ format_row k → f ≡ k
same_row One One e = refl
same_row Two Two e = refl
same_row One Two e = absurd (let bad : 49 ≡ 50 = ap (λ r. first_in (number_in r)) e in omega arith)
same_row Two One e = absurd (let bad : 50 ≡ 49 = ap (λ r. first_in (number_in r)) e in omega arith)

-- a history's rows are of one format
pub one_format : (f k : Format) (h : HistoryData) → HasFormat f (rows_in k h) → f ≡ k
one_format f k h it = by (all_permuted (IsOf k) (meta_rows k h.text) (format_row f ∷ it.0) it.1 (meta_of k h.text)).0
  where
    by : IsOf k (format_row f) → f ≡ k
    by (inl same) = same_row f k same
    by (inr other) = absurd (let bad = other in cc)

-- ---- rows that are raised
one_is_one : is_eq (value_cmp (Int (pos 1)) (Int (pos 1))) ≡ true
one_is_one = ap is_eq (value_cmp-Int (pos 1) (pos 1))

two_is_no_one : is_eq (value_cmp (Int (pos 2)) (Int (pos 1))) ≡ false
two_is_no_one = ap is_eq (value_cmp-Int (pos 2) (pos 1))

abbrev behind : Option Text → List Row
behind None = []
behind (Some t) = text_row t ∷ []

text_alone : (f : Format) (t : Option Text) → without (Int (pos 1)) (meta_rows f t) ≡ behind t
text_alone f None = ap (λ b. cond (not b) (format_row f ∷ []) []) one_is_one
text_alone f (Some t) =
    ap (λ b. cond (not b) (format_row f ∷ without (Int (pos 1)) (text_row t ∷ [])) (without (Int (pos 1)) (text_row t ∷ []))) one_is_one
    ∙ ap (λ b. cond (not b) (text_row t ∷ []) []) two_is_no_one

second_meta : (t : Option Text) → meta_rows Two t ≡ format_row Two ∷ behind t
second_meta None = refl
second_meta (Some t) = refl

pub raised_rows : (f : Format) (h : HistoryData) → HasSameRows (rows_in Two h) (raised (rows_in f h))
raised_rows f h = record {
  meta = IsPermutation-same _ _ (second_meta h.text ∙ ap (λ (rows : List Row). format_row Two ∷ rows) (sym (text_alone f h.text)));
  scopes = IsPermutation-refl _;
  versions = IsPermutation-refl _;
  builds = IsPermutation-refl _;
  pairs = IsPermutation-refl _;
  pins = IsPermutation-refl _;
}

-- trees with rows that were raised have the history's in the second format
pub kept_raised : (f : Format) (h : HistoryData) (trees : Trees) → Keeps (raised (rows_in f h)) trees → Keeps (rows_of h) trees
kept_raised f h trees keeps = keeps_same (rows_in Two h) (raised (rows_in f h)) trees (raised_rows f h) keeps

-- a history whose rows were found in some format, and are in the second now, is stored
pub stored_in : (f : Format) (h : HistoryData) (db : Database) → IsHistory h → (k : Format) × HasFormat k (rows_in f h) × Holds (in_second k (rows_in f h)) db → IsStored h db
stored_in f h db rules it = by f (subst (λ (k : Format). Holds (in_second k (rows_in f h)) db) (one_format it.0 f h it.1) it.2)
  where
    by : (k : Format) → Holds (in_second k (rows_in k h)) db → IsStored h db
    by Two holds = record { rules = rules; rows = holds }
    by One holds = record { rules = rules; rows = record { schema = holds.schema; rows = kept_raised One h db.trees holds.rows } }
