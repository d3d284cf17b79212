-- Files in which no database was made stand for none.
use Rattle.std.proofs.Common.{◌≡◌, ◌-◌, ◌*◌, ◌<◌, ◌≤◌, ◌∙◌, ℕ, zero, suc, List, [], ◌∷◌, ◌++◌, codes, length, take, slice_index, Option, Some, unwrap_or, inl, inr, refl, sym, ap, arith, get_or-take, true, false}
use Rattle.sqlite_wal.specs.Format.{part}
use Rattle.sqlite_wal.specs.Recovery.{Image, Pages, pages_after}
use Rattle.sqlite_wal.proofs.PartLemmas.{slice_index-part, part_within}
use Rattle.sqlite_wal.proofs.RecoveryLemmas.{replays_once}
use Rattle.sqlite_wal.proofs.AppendLemmas.{some_value, page_from_pages}
use Rattle.sqlite_pool.specs.Stored.{stored_size, used_size, Adopts}
use Rattle.sqlite_pool.specs.StoredLaws.{trimmed_some}
use Rattle.sqlite_pool.specs.Opening.{IsBlankFile}
use Rattle.sqlite_pool.specs.File.{header_in, IsSoundFile}
use Rattle.sqlite_pool.proofs.ProbeLemmas.{first_byte}
use Rattle.sqlite.specs.Files.{IsNothing}

-- nothing is behind the first byte of a page that is so short
short_page : (n : ℕ) → n ≤ 1 → (page : List ℕ) → slice_index (take 100 (take n page)) 1 ≡ 0
short_page zero low page = refl
short_page (suc zero) low [] = refl
short_page (suc zero) low (b ∷ page) = refl
short_page (suc (suc n)) low page = absurd (omega (arith, low))

module _ (size : ℕ) (image : Image) (pages : Pages) (found : Adopts size image pages) (sound : IsSoundFile size pages) where
  abbrev page : List ℕ
  page = (some_value (found.stored 1) found.whole.first).0

  page_is : found.stored 1 ≡ Some page
  page_is = (some_value (found.stored 1) found.whole.first).1

  head : header_in pages ≡ take 100 (take size page)
  head =
      let used : pages 1 ≡ Some (take size page) = ap (λ (p : Pages). p 1) (sym found.shows) ∙ trimmed_some size _ 1 page page_is in
      ap (λ (o : Option (List ℕ)). take 100 (unwrap_or o [])) used

  letter : (k : ℕ) → k < 16 → slice_index (header_in pages) k ≡ slice_index (codes "SQLite format 3" ++ 0 ∷ []) k
  letter k low = sym (get_or-take 16 (header_in pages) k 0 low) ∙ ap (λ (b : List ℕ). slice_index b k) sound.header.0.magic

  -- a page of one byte at most has no header
  some_size : (n : ℕ) → size ≡ n → 2 ≤ n
  some_size zero is = absurd (let never : 0 ≡ 81 = sym (ap (λ (b : List ℕ). slice_index b 1) (head ∙ ap (λ (k : ℕ). take 100 (take k page)) is) ∙ short_page zero (omega arith) page) ∙ letter 1 (omega arith) in omega (arith, never))
  some_size (suc zero) is = absurd (let never : 0 ≡ 81 = sym (ap (λ (b : List ℕ). slice_index b 1) (head ∙ ap (λ (k : ℕ). take 100 (take k page)) is) ∙ short_page (suc zero) (omega arith) page) ∙ letter 1 (omega arith) in omega (arith, never))
  some_size (suc (suc n)) is = omega arith

  -- the first byte of the page is that of the database's file, where no frame is replayed
  from_file : found.found.frames ≡ 0 → (2 ≤ length image.db) × (slice_index image.db 0 ≡ 83)
  from_file none =
      let whole = stored_size size in
      let raw = found.found in
      let some = some_size size refl in
      let alone : pages_after whole image.log image.db 0 1 ≡ Some page = ap (λ (p : Pages). p 1) (ap (pages_after whole image.log image.db) (sym none) ∙ raw.gives) ∙ page_is in
      let start : (1 - 1) * whole ≡ 0 = omega arith in
      let front : part image.db 0 whole ≡ page = ap (λ (at : ℕ). part image.db at whole) (sym start) ∙ (page_from_pages whole image.log image.db 0 1 page alone).0 in
      let byte : slice_index (header_in pages) 0 ≡ slice_index image.db 0 =
      ap (λ (b : List ℕ). slice_index b 0) (head ∙ ap (λ (b : List ℕ). take 100 (take size b)) (sym front)) ∙ get_or-take 100 (take size (part image.db 0 whole)) 0 0 (omega arith)
      ∙ get_or-take size (part image.db 0 whole) 0 0 (omega (arith, some)) ∙ slice_index-part image.db 0 whole 0 (omega (arith, some)) in
      let long = part_within image.db 0 whole (omega (arith, some)) (ap length front ∙ found.whole.sized 1 page page_is) in
      (omega (arith, some, long), sym byte ∙ letter 0 (omega arith))

  not_blank : (other : ℕ) → 0 < other → ¬ IsBlankFile other image
  not_blank other some (inl none) = omega (arith, found.found.present)
  not_blank other some (inr blank) =
      let raw = found.found in
      let none : raw.frames ≡ 0 = elim blank.0 [
        | inl ignored ↦ replays_once (stored_size size) image.log raw.frames 0 raw.replays (inl (ignored.0, refl))
        | inr taken ↦ elim raw.replays [
          | inl ignored ↦ ignored.1
          | inr ours ↦ replays_once (stored_size size) image.log raw.frames 0 raw.replays (rw (sym ours.0.head.size ∙ taken.0.head.size) blank.0)
        ]
      ] in
      let (long, first) = from_file none in
      elim blank.1.0 [
        | inl short ↦ omega (arith, short, long)
        | inr more ↦ elim more [ inl zero' ↦ omega (arith, zero'.1, first) | inr rest ↦ rest.1 (first ∙ sym (first_byte other some)) ]
      ]

  -- so they hold no database
  pub is_adopted : ¬ IsNothing image
  is_adopted (inl plain) = not_blank (used_size 4096 false) (omega arith) plain
  is_adopted (inr summed) = not_blank (used_size 4096 true) (omega arith) summed
