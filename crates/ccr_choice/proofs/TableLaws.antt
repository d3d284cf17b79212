-- What a table of fixed builds stands for.
use Rattle.std.proofs.Common.{◌≡◌, ℕ, zero, suc, ◌+◌, ◌<◌, inl, inr, ◌==◌, List, length, replicate, slice_index, slice_set, refl, sym, ap, ◌∙◌, Some, add-one}
use Rattle.std.specs.Prelude.{slice_get, Contains}
use Rattle.std.proofs.lemmas.Bool.{cases_Bool, eqb-true, cond-true, cond-false, eqb-false}
use Rattle.std.proofs.lemmas.List.{get_or-set_same, get_or-set_other}
use Rattle.std.proofs.lemmas.Option.{slice_get_within, get_or_from_slice_get}
use mathlib.Core.Path.{fun_ext}
use Rattle.ccr_choice.specs.Problem.{ProblemValue, BuildValue, builds_at}
use Rattle.ccr_choice.specs.Assignment.{with_build, nothing_fixed}
use Rattle.ccr_choice.specs.Table.{build_of, assigned}

-- a build written into the table is fixed
pub table_set : (p : ProblemValue) (table : List ℕ) (j k : ℕ) (b : BuildValue) → j < length table → slice_get (builds_at p j) k ≡ Some b
    → assigned p (slice_set table j (k + 1)) ≡ with_build (assigned p table) j b
table_set p table j k b within at = fun_ext (λ m. one m)
  where
    one : (m : ℕ) → assigned p (slice_set table j (k + 1)) m ≡ with_build (assigned p table) j b m
    one m =
        elim (cases_Bool (m == j)) [
          | inl same ↦ let now : m ≡ j = eqb-true m j same in
              let entry : slice_index (slice_set table j (k + 1)) j ≡ suc k = get_or-set_same table j (k + 1) 0 within ∙ add-one k in
              ap (λ n. build_of (builds_at p n) (slice_index (slice_set table j (k + 1)) n)) now ∙ ap (build_of (builds_at p j)) entry ∙ at ∙ sym (cond-true (m == j) (Some b) (assigned p table m) same)
          | inr other ↦
              ap (build_of (builds_at p m)) (get_or-set_other table j m (k + 1) 0 (eqb-false m j other))
              ∙ sym (cond-false (m == j) (Some b) (assigned p table m) other)
        ]

pub zeros : (n j : ℕ) → slice_index (replicate n 0) j ≡ 0
zeros zero j = refl
zeros (suc n) zero = refl
zeros (suc n) (suc j) = zeros n j

-- a table of zeros fixes nothing
pub table_empty : (p : ProblemValue) (n : ℕ) → assigned p (replicate n 0) ≡ nothing_fixed
table_empty p n = fun_ext (λ j. ap (build_of (builds_at p j)) (zeros n j))

-- a fixed build is among the builds
pub build_among : (bs : List BuildValue) (k : ℕ) (b : BuildValue) → build_of bs k ≡ Some b → Contains bs b
build_among bs zero b h = absurd (cc (h))
build_among bs (suc k) b h = (k, slice_get_within bs k b h, get_or_from_slice_get bs k b b h)
