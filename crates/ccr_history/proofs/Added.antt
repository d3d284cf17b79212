-- What a call on builds leaves: a refusal the same builds, an Ok one more or one that ended.
use Rattle.std.proofs.Common.{◌≡◌, ◌≢◌, ℕ, zero, suc, ◌+◌, ◌<◌, ◌≤◌, List, [], ◌∷◌, ◌++◌, map, length, set, slice_get, Bool, true, false, ◌||◌, Some, None, refl, sym, ap, ◌∙◌, subst, arith, AllPairs, Result, Ok, Err, OnErr}
use Rattle.std.specs.List.{AllByRecursion, list_any}
use Rattle.std.specs.Map.{lookup}
use Rattle.std.specs.Option.{option_or}
use Rattle.std.specs.Str.{bytes_eq}
use Rattle.std.proofs.lemmas.List.{length-map}
use Rattle.std.proofs.lemmas.List.Sums.{count_by-le-length}
use Rattle.ccr_history.specs.declared.builds.TheConstants.{MOST_BUILDS}
use Rattle.ccr_history.specs.declared.build.Status.{Status}
use Rattle.ccr_history.specs.declared.build.Status.TheVariants.{Running, Succeeded, Failed, Errored, Aborted}
use Rattle.ccr_history.specs.declared.used_row.UsedRow.{UsedRow}
use Rattle.ccr_history.specs.declared.used_row.InputScope.{InputScope}
use Rattle.ccr_history.specs.Text.{Text}
use Rattle.ccr_history.specs.Names.{AreApart, HasMore}
use Rattle.ccr_history.specs.Builds.{UsedData, BuildData, is_of, is_build_of, is_running, count_of, build_of, by_input, by_place, with_build, with_end}
use Rattle.ccr_history.specs.Rows.{RowData, JobData, used_data, build_data, builds_data, new_row, ended_row, is_same, is_row_of, is_input_scope, row_if_at, IsLinked, HasOneMore}
use Rattle.ccr_history.specs.Newest.{last_given}
use Rattle.ccr_history.specs.Orderly.{AreOrderly, IsOnly}
use Rattle.ccr_history.proofs.Positions.{length-positions}
use Rattle.ccr_history.proofs.Numbered.{build_of-only}
use Rattle.ccr_history.proofs.OrderlyKept.{AreOrderly-with_build, AreOrderly-with_end}
use Rattle.ccr_history.proofs.Links.{builds_data-more, IsLinked-more, IsLinked-push, builds_data-push, IsLinked-end, builds_data-end, positions_kept}
use Rattle.std.proofs.lemmas.Option.{slice_get_within, slice_get-map}

pub on_err : {T E P : Type 0} (r : Result T E) → P → OnErr r P
on_err (Ok x) h = tt
on_err (Err e) h = h

pub set_same : {X : Type 0} (xs : List X) (i : ℕ) (x y : X) → slice_get xs i ≡ Some x → y ≡ x → set xs i y ≡ xs
set_same [] i x y at same = refl
set_same (z ∷ zs) zero x y at same = let e : z ≡ x = cc in ap (λ w. w ∷ zs) (same ∙ sym e)
set_same (z ∷ zs) (suc i) x y at same = ap (λ l. z ∷ l) (set_same zs i x y at same)

-- more names leave the builds
pub more_well : {jobs inputs : List Text} {rows rows' : List RowData} {kept : List JobData} (jobs' inputs' : List Text) (kept' : List JobData) → IsLinked jobs inputs rows kept → rows' ≡ rows
    → HasMore jobs jobs' → HasMore inputs inputs' → HasOneMore kept kept' → length jobs' ≤ length kept'
    → IsLinked jobs' inputs' rows' kept' × (builds_data jobs' inputs' rows' ≡ builds_data jobs inputs rows)
more_well {jobs = jobs} {inputs = inputs} {rows = rows} {rows' = rows'} {kept = kept} jobs' inputs' kept' linked same more_jobs more_inputs one enough = (
  subst (λ l. IsLinked jobs' inputs' l kept') (sym same) (IsLinked-more jobs jobs' inputs inputs' rows kept kept' linked more_jobs more_inputs one enough),
  ap (builds_data jobs' inputs') same ∙ builds_data-more jobs jobs' inputs inputs' more_jobs more_inputs rows linked.named,
)

-- a job has no more builds than there are
pub few_positions : (jobs inputs : List Text) (rows : List RowData) (kept : List JobData) (job : ℕ) (d : JobData) → IsLinked jobs inputs rows kept → slice_get kept job ≡ Some d → length d.at ≤ length rows
few_positions jobs inputs rows kept job d linked at =
    omega (arith, ap length (linked.keeps job d at).0, length-positions (is_row_of job) rows, count_by-le-length (is_row_of job) rows)

-- the next number of a job's builds
pub next_number : (jobs inputs : List Text) (rows : List RowData) (kept : List JobData) (job : ℕ) (d : JobData) (name : Text) → IsLinked jobs inputs rows kept → AreApart jobs
    → slice_get jobs job ≡ Some name → slice_get kept job ≡ Some d → length d.at ≡ count_of name (builds_data jobs inputs rows)
next_number jobs inputs rows kept job d name linked apart at kept_at =
    ap length (positions_kept jobs inputs rows kept linked apart name job d at kept_at) ∙ length-positions (is_of name) (builds_data jobs inputs rows)

-- one more build
pub added_well : (jobs inputs : List Text) (rows rows' : List RowData) (kept : List JobData) (job n : ℕ) (used : List UsedRow) (d d' : JobData) (name : Text) (given : List UsedData)
    → IsLinked jobs inputs rows kept → AreOrderly (builds_data jobs inputs rows) → length rows < MOST_BUILDS → AllPairs (λ u v. bytes_eq u.input v.input ≡ false) given → AreApart jobs
    → slice_get jobs job ≡ Some name → slice_get kept job ≡ Some d → AllByRecursion (λ u. u.input < length inputs) used → map (used_data inputs) used ≡ by_input given
    → d'.at ≡ d.at ++ length rows ∷ [] → ((u : UsedRow) → list_any (is_same u) d'.used ≡ (list_any (is_same u) d.used || list_any (is_same u) used))
    → ((s : InputScope) → lookup (is_input_scope s) d'.newest ≡ option_or (last_given (row_if_at s) used) (lookup (is_input_scope s) d.newest))
    → n ≡ length d.at + 1 → rows' ≡ rows ++ new_row job n used ∷ []
    → IsLinked jobs inputs rows' (set kept job d') × AreOrderly (builds_data jobs inputs rows') × (builds_data jobs inputs rows' ≡ with_build name given (builds_data jobs inputs rows))
added_well jobs inputs rows rows' kept job n used d d' name given linked orderly few once apart at kept_at named same positions_more used_more newer number is =
    let counted : n ≡ count_of name (builds_data jobs inputs rows) + 1 = number ∙ ap (λ m. m + 1) (next_number jobs inputs rows kept job d name linked apart at kept_at) in
    let builds : builds_data jobs inputs rows' ≡ with_build name given (builds_data jobs inputs rows) =
    ap (builds_data jobs inputs) is ∙ builds_data-push jobs inputs rows job n used name given at same counted in (
      subst (λ l. IsLinked jobs inputs l (set kept job d')) (sym is)
          (IsLinked-push jobs inputs rows kept job n used d d' linked (slice_get_within jobs job name at) named kept_at positions_more used_more newer),
      subst AreOrderly (sym builds) (AreOrderly-with_build name given (builds_data jobs inputs rows) (omega (arith, few, length-map rows (build_data jobs inputs))) once orderly),
      builds,
    )

-- one that ends
pub ended_well : (jobs inputs : List Text) (rows : List RowData) (kept : List JobData) (i : ℕ) (name : Text) (n : ℕ) (status : Status) (given moved : List (ℕ × ℕ)) (r r' : RowData)
    → IsLinked jobs inputs rows kept → AreOrderly (builds_data jobs inputs rows) → IsOnly (is_build_of name n) (builds_data jobs inputs rows) i → slice_get rows i ≡ Some r
    → status ≢ Running → AllPairs (λ p q. p ≢ q) given → moved ≡ by_place given → r' ≡ ended_row status moved r
    → IsLinked jobs inputs (set rows i r') kept × AreOrderly (builds_data jobs inputs (set rows i r')) × (builds_data jobs inputs (set rows i r') ≡ with_end name n status given (builds_data jobs inputs rows))
ended_well jobs inputs rows kept i name n status given moved r r' linked orderly only at over once sorted is =
    let builds : builds_data jobs inputs (set rows i r') ≡ with_end name n status given (builds_data jobs inputs rows) =
    ap (λ s. builds_data jobs inputs (set rows i s)) is ∙ builds_data-end jobs inputs rows i name n status given moved r only at sorted in (
      subst (λ s. IsLinked jobs inputs (set rows i s) kept) (sym is) (IsLinked-end jobs inputs rows kept i status moved r linked at),
      subst AreOrderly (sym builds) (AreOrderly-with_end name n status given (builds_data jobs inputs rows) over once orderly),
      builds,
    )

-- ---- how the build at a position stands
pub found_status : (jobs inputs : List Text) (rows : List RowData) (bs : List BuildData) (i : ℕ) (name : Text) (n : ℕ) (r : RowData) → builds_data jobs inputs rows ≡ bs
    → IsOnly (is_build_of name n) bs i → slice_get rows i ≡ Some r → (b : BuildData) × (build_of name n bs ≡ Some b) × (b.status ≡ r.status)
found_status jobs inputs rows bs i name n r is only at =
    let mapped : slice_get bs i ≡ Some (build_data jobs inputs r) =
    ap (λ l. slice_get l i) (sym is) ∙ slice_get-map (build_data jobs inputs) rows i ∙ ap (Rattle.std.proofs.Common.option_map (build_data jobs inputs)) at in
    (build_data jobs inputs r, build_of-only name n bs i only ∙ mapped, refl)

pub runs : (s : Status) → is_running s ≡ true → s ≡ Running
runs Running e = refl
runs Succeeded e = absurd (cc)
runs Failed e = absurd (cc)
runs Errored e = absurd (cc)
runs Aborted e = absurd (cc)

pub runs_not : (s : Status) → is_running s ≡ false → s ≢ Running
runs_not s e same = Rattle.std.proofs.lemmas.Bool.false≢true (sym e ∙ ap is_running same)
