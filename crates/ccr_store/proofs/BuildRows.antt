-- The rows of a new build, and of pairs.
use Rattle.std.proofs.Common.{◌≡◌, ℕ, pos, ◌+◌, List, [], ◌∷◌, ◌++◌, map, length, nat_cmp, sym, ap, ◌∙◌, arith, IsPermutation}
use Rattle.std.specs.Cmp.Lexicographic.{slice_cmp}
use Rattle.std.proofs.lemmas.Bool.{cond_both}
use Rattle.std.proofs.lemmas.List.{append_assoc, append-nil}
use Rattle.std.proofs.lemmas.List.Sorted.{IsPermutation-refl, IsPermutation-sym, IsPermutation-trans, IsPermutation-cons, IsPermutation-map, IsPermutation-append_left, IsPermutation-append_comm, IsPermutation-to_front}
use Rattle.sqlite.specs.declared.types.Value.TheVariants.{Int, Text as Words}
use Rattle.sqlite.specs.Order.{Row}
use Rattle.sqlite_keyed.proofs.ListLemmas.{IsPermutation-same}
use Rattle.ccr_history.specs.Text.{Text}
use Rattle.ccr_history.specs.Builds.{UsedData, BuildData, with_used, by_input, is_before, with_moved, by_place, new_build, count_of, with_build}
use Rattle.ccr_history.proofs.Lists.{match_each}
use Rattle.ccr_tables.specs.Contents.{Contents}
use Rattle.ccr_store.specs.Rows.{build_row, build_rows, used_row, moved_row, pair_rows}
use Rattle.ccr_store.specs.WriteData.{all_made}
use Rattle.ccr_store.specs.WriteData as write
use Rattle.ccr_store.specs.Reordered.{HasSameRows}
use Rattle.ccr_store.proofs.SameRows.{swapped, same_rows, then_rows}

-- ---- orders
with_used-order : (u : UsedData) (us : List UsedData) → IsPermutation (u ∷ us) (with_used u us)
with_used-order u [] = IsPermutation-refl (u ∷ [])
with_used-order u (v ∷ vs) =
    match_each (IsPermutation (u ∷ v ∷ vs)) (slice_cmp nat_cmp u.input v.input) (u ∷ v ∷ vs) (u ∷ v ∷ vs) (v ∷ with_used u vs)
    (λ _. IsPermutation-refl (u ∷ v ∷ vs))
    (λ _. IsPermutation-refl (u ∷ v ∷ vs))
    (λ _. IsPermutation-trans (u ∷ v ∷ vs) (v ∷ u ∷ vs) (v ∷ with_used u vs) (swapped (u ∷ []) (v ∷ []) vs)
    (IsPermutation-cons v (u ∷ vs) (with_used u vs) (with_used-order u vs)))

by_input-order : (us : List UsedData) → IsPermutation us (by_input us)
by_input-order [] = IsPermutation-refl []
by_input-order (u ∷ us) =
    IsPermutation-trans (u ∷ us) (u ∷ by_input us) (with_used u (by_input us))
    (IsPermutation-cons u us (by_input us) (by_input-order us)) (with_used-order u (by_input us))

pub with_moved-order : (p : ℕ × ℕ) (ps : List (ℕ × ℕ)) → IsPermutation (p ∷ ps) (with_moved p ps)
with_moved-order p [] = IsPermutation-refl (p ∷ [])
with_moved-order p (q ∷ qs) =
    cond_both (is_before p q) (p ∷ q ∷ qs) (q ∷ with_moved p qs) (IsPermutation (p ∷ q ∷ qs))
    (λ _. IsPermutation-refl (p ∷ q ∷ qs))
    (λ _. IsPermutation-trans (p ∷ q ∷ qs) (q ∷ p ∷ qs) (q ∷ with_moved p qs) (swapped (p ∷ []) (q ∷ []) qs)
    (IsPermutation-cons q (p ∷ qs) (with_moved p qs) (with_moved-order p qs)))

pub by_place-order : (ps : List (ℕ × ℕ)) → IsPermutation ps (by_place ps)
by_place-order [] = IsPermutation-refl []
by_place-order (p ∷ ps) =
    IsPermutation-trans (p ∷ ps) (p ∷ by_place ps) (with_moved p (by_place ps))
    (IsPermutation-cons p ps (by_place ps) (by_place-order ps)) (with_moved-order p (by_place ps))

-- ---- a build at the end
build_rows-push : (id : ℕ) (bs : List BuildData) (b : BuildData) → build_rows id (bs ++ b ∷ []) ≡ build_rows id bs ++ build_row (id + length bs) b ∷ []
build_rows-push id [] b =
    let same : id ≡ id + 0 = omega arith in
    ap (λ k. build_row k b ∷ []) same
build_rows-push id (c ∷ bs) b =
    let same : id + 1 + length bs ≡ id + length (c ∷ bs) = omega arith in
    ap (λ rows. build_row id c ∷ rows) (build_rows-push (id + 1) bs b ∙ ap (λ k. build_rows (id + 1) bs ++ build_row k b ∷ []) same)

-- the pairs of one build
abbrev pub own_rows : ℕ → BuildData → List Row
own_rows id b = map (used_row id) b.used ++ map (moved_row id) b.moved

pair_rows-push : (id : ℕ) (bs : List BuildData) (b : BuildData) → pair_rows id (bs ++ b ∷ []) ≡ pair_rows id bs ++ own_rows (id + length bs) b
pair_rows-push id [] b =
    let same : id ≡ id + 0 = omega arith in
    append-nil (own_rows id b) ∙ ap (λ k. own_rows k b) same
pair_rows-push id (c ∷ bs) b =
    let same : id + 1 + length bs ≡ id + length (c ∷ bs) = omega arith in
    ap (λ rows. own_rows id c ++ rows) (pair_rows-push (id + 1) bs b ∙ ap (λ k. pair_rows (id + 1) bs ++ own_rows k b) same)
    ∙ sym (append_assoc (own_rows id c) (pair_rows (id + 1) bs) (own_rows (id + length (c ∷ bs)) b))

pub new_build_rows : (job : Text) (used : List UsedData) (bs : List BuildData) → IsPermutation (build_rows 1 (with_build job used bs)) (build_row (length bs + 1) (new_build job (count_of job bs + 1) used) ∷ build_rows 1 bs)
new_build_rows job used bs =
    let b : BuildData = new_build job (count_of job bs + 1) used in
    let next : 1 + length bs ≡ length bs + 1 = omega arith in
    IsPermutation-trans (build_rows 1 (bs ++ b ∷ [])) (build_rows 1 bs ++ build_row (length bs + 1) b ∷ []) (build_row (length bs + 1) b ∷ build_rows 1 bs)
    (IsPermutation-same _ _ (build_rows-push 1 bs b ∙ ap (λ k. build_rows 1 bs ++ build_row k b ∷ []) next))
    (IsPermutation-to_front (build_rows 1 bs) (build_row (length bs + 1) b))

pub new_pair_rows : (job : Text) (used : List UsedData) (bs : List BuildData) → IsPermutation (pair_rows 1 (with_build job used bs)) (map (used_row (length bs + 1)) used ++ pair_rows 1 bs)
new_pair_rows job used bs =
    let b : BuildData = new_build job (count_of job bs + 1) used in
    let next : 1 + length bs ≡ length bs + 1 = omega arith in
    let rows : List Row = map (used_row (length bs + 1)) (by_input used) in
    let old : List Row = pair_rows 1 bs in
    let pushed : pair_rows 1 (bs ++ b ∷ []) ≡ old ++ rows =
    pair_rows-push 1 bs b ∙ ap (λ k. pair_rows 1 bs ++ own_rows k b) next ∙ ap (λ l. pair_rows 1 bs ++ l) (append-nil rows) in
    IsPermutation-trans (pair_rows 1 (bs ++ b ∷ [])) (old ++ rows) (map (used_row (length bs + 1)) used ++ old)
    (IsPermutation-same _ _ pushed)
    (IsPermutation-trans (old ++ rows) (rows ++ old) (map (used_row (length bs + 1)) used ++ old)
    (IsPermutation-append_comm old rows)
    (IsPermutation-append_left old rows (map (used_row (length bs + 1)) used)
    (IsPermutation-map (used_row (length bs + 1)) (by_input used) used (IsPermutation-sym used (by_input used) (by_input-order used)))))

-- ---- what writes of pairs make
pub pairs_made : {X : Type 0} (id : ℕ) (input : X → Text) (scope place : X → ℕ) (xs : List X) (c : Contents)
    → HasSameRows (record c { pairs = map (λ x. Int (pos id) ∷ Words (input x) ∷ Int (pos (scope x)) ∷ Int (pos (place x)) ∷ []) xs ++ c.pairs })
    (all_made (map (λ x. write.pair id (input x) (scope x) (place x)) xs) c)
pairs_made {X} id input scope place [] c = same_rows c
pairs_made {X} id input scope place (x ∷ xs) c =
    let row_of : X → Row = λ y. Int (pos id) ∷ Words (input y) ∷ Int (pos (scope y)) ∷ Int (pos (place y)) ∷ [] in
    let rows : List Row = map row_of xs in
    let first : Contents = record c { pairs = row_of x ∷ c.pairs } in
    then_rows (record c { pairs = row_of x ∷ (rows ++ c.pairs) }) (record first { pairs = rows ++ row_of x ∷ c.pairs }) (all_made (map (λ y. write.pair id (input y) (scope y) (place y)) xs) first)
    (record {
      meta = IsPermutation-refl c.meta;
      scopes = IsPermutation-refl c.scopes;
      versions = IsPermutation-refl c.versions;
      builds = IsPermutation-refl c.builds;
      pairs = swapped (row_of x ∷ []) rows c.pairs;
      pins = IsPermutation-refl c.pins;
    })
    (pairs_made id input scope place xs first)
