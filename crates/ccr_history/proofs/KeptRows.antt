-- Builds as they are kept, with their parts of the used places of all.
use Rattle.std.proofs.Common.{◌≡◌, ℕ, List, [], ◌∷◌, ◌++◌, map, take, drop, length, slice_get, set, option_map, Some, sym, ap, ◌∙◌, arith}
use Rattle.std.specs.List.{AllByRecursion}
use Rattle.std.proofs.Math.Seq.{drop-append_seam, take-length}
use Rattle.std.proofs.lemmas.List.{take-append-le, drop-append-le, length-drop, map-set, map_push}
use Rattle.std.proofs.lemmas.Option.{slice_get-map}
use Rattle.ccr_history.specs.declared.build.Status.{Status}
use Rattle.ccr_history.specs.declared.build.Status.TheVariants.{Running}
use Rattle.ccr_history.specs.declared.used_row.UsedRow.{UsedRow}
use Rattle.ccr_history.specs.Rows.{RowData, KeptData, new_row, ended_row, row_data, IsWithin}
use Rattle.ccr_history.proofs.Lists.{each_weaker}
use Rattle.ccr_history.proofs.Links.{map_same}

-- with more used places behind, a build has its own
row_data-more : (places more : List UsedRow) (k : KeptData) → IsWithin places k → row_data (places ++ more) k ≡ row_data places k
row_data-more places more k within =
    ap (λ us. let r : RowData = record { job = k.job; number = k.number; status = k.status; used = us; moved = k.moved } in r)
    (ap (take k.count) (drop-append-le k.from places more (omega (arith, within)))
    ∙ take-append-le k.count (drop k.from places) more (omega (arith, within, length-drop k.from places)))

-- one more build, whose used places come to the end
pub added_row : (places used : List UsedRow) (kept : List KeptData) (job number from count : ℕ) → AllByRecursion (IsWithin places) kept → from ≡ length places → count ≡ length used
    → map (row_data (places ++ used)) (kept ++ record { job = job; number = number; status = Running; from = from; count = count; moved = [] } ∷ [])
    ≡ map (row_data places) kept ++ new_row job number used ∷ []
added_row places used kept job number from count within from_end all =
    let k : KeptData = record { job = job; number = number; status = Running; from = from; count = count; moved = [] } in
    let own : take count (drop from (places ++ used)) ≡ used =
    ap (λ n. take count (drop n (places ++ used))) from_end ∙ ap (take count) (drop-append_seam places used)
    ∙ ap (λ n. take n used) all ∙ take-length used in
    map_push (row_data (places ++ used)) kept k
    ∙ ap (λ l. l ++ row_data (places ++ used) k ∷ [])
    (map_same (row_data (places ++ used)) (row_data places) kept
    (each_weaker (IsWithin places) (λ k. row_data (places ++ used) k ≡ row_data places k) (λ k h. row_data-more places used k h) kept within))
    ∙ ap (λ us. map (row_data places) kept ++ new_row job number us ∷ []) own

-- the build at a position
pub row_at : (places : List UsedRow) (kept : List KeptData) (rows : List RowData) (i : ℕ) (k : KeptData) → map (row_data places) kept ≡ rows → slice_get kept i ≡ Some k
    → slice_get rows i ≡ Some (row_data places k)
row_at places kept rows i k is at =
    ap (λ l. slice_get l i) (sym is) ∙ slice_get-map (row_data places) kept i ∙ ap (option_map (row_data places)) at

-- one that ended
pub ended_at : (places : List UsedRow) (kept : List KeptData) (rows : List RowData) (i : ℕ) (status : Status) (moved : List (ℕ × ℕ)) (k new : KeptData) → map (row_data places) kept ≡ rows
    → new ≡ record { job = k.job; number = k.number; status = status; from = k.from; count = k.count; moved = moved }
    → map (row_data places) (set kept i new) ≡ set rows i (ended_row status moved (row_data places k))
ended_at places kept rows i status moved k new is over =
    map-set (row_data places) kept i new
    ∙ ap (λ l. set l i (row_data places new)) is
    ∙ ap (λ n. set rows i (row_data places n)) over
