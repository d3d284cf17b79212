-- Lists of versions, to which versions are added at the end.
use Rattle.std.proofs.Common.{◌≡◌, ℕ, ◌<◌, ◌≤◌, List, [], ◌∷◌, ◌++◌, length, take, Bool, true, false, refl, ap, ◌∙◌, if◌then◌else◌, length-append, arith}
use Rattle.std.proofs.lemmas.List.{take-append-le, take_all}
use Rattle.std.proofs.lemmas.Map.Keys.{apart_from_distinct}
use Rattle.std.specs.List.{IsDistinct}
use Rattle.std.specs.Prelude.{AllPairs}
use Rattle.ccr_history.specs.declared.table.TheConstants.{MOST_VERSIONS}
use Rattle.ccr_history.specs.TextMap.{TextMap, IsAscending, is_version}
use Rattle.ccr_history.specs.Tables.{has_version, with_version, with_versions, AreVersions}
use Rattle.ccr_history.proofs.Lists.{each_push}

-- ---- a version more

with_version-longer : (vs : List TextMap) (v : TextMap) → length vs ≤ length (with_version vs v)
with_version-longer vs v = by (has_version vs v)
  where
    by : (t : Bool) → length vs ≤ length (if t then vs else vs ++ v ∷ [])
    by true = omega arith
    by false = omega (arith, length-append vs (v ∷ []))

with_version-some : (vs : List TextMap) (v : TextMap) → 0 < length (with_version vs v)
with_version-some [] v = omega arith
with_version-some (x ∷ xs) v = let longer = with_version-longer (x ∷ xs) v in omega (arith, longer)

take-with_version : (n : ℕ) (vs : List TextMap) (v : TextMap) → n ≤ length vs → take n (with_version vs v) ≡ take n vs
take-with_version n vs v le = by (has_version vs v)
  where
    by : (t : Bool) → take n (if t then vs else vs ++ v ∷ []) ≡ take n vs
    by true = refl
    by false = take-append-le n vs (v ∷ []) le

-- ---- versions more

pub with_versions-longer : (vs ws : List TextMap) → length vs ≤ length (with_versions vs ws)
with_versions-longer vs [] = omega arith
with_versions-longer vs (w ∷ ws) = omega (arith, with_version-longer vs w, with_versions-longer (with_version vs w) ws)

pub with_versions-some : (vs ws : List TextMap) → 0 < length ws → 0 < length (with_versions vs ws)
with_versions-some vs [] some = absurd (omega (arith, some))
with_versions-some vs (w ∷ ws) some = omega (arith, with_version-some vs w, with_versions-longer (with_version vs w) ws)

begins : (n : ℕ) (vs ws : List TextMap) → n ≤ length vs → take n (with_versions vs ws) ≡ take n vs
begins n vs [] le = refl
begins n vs (w ∷ ws) le =
    let longer : n ≤ length (with_version vs w) = omega (arith, le, with_version-longer vs w) in
    begins n (with_version vs w) ws longer ∙ take-with_version n vs w le

-- a list stays as it was at the beginning of the longer one
pub take-with_versions : (vs ws : List TextMap) → take (length vs) (with_versions vs ws) ≡ vs
take-with_versions vs ws = begins (length vs) vs ws (omega arith) ∙ take_all (length vs) vs (omega arith)

-- ---- what versions keep

apart : (vs : List TextMap) → IsDistinct is_version vs → AllPairs (λ v w. is_version v w ≡ false) vs
apart vs distinct = λ i j d less within. apart_from_distinct is_version vs i j d distinct less within

-- a version that is new, where there is room for one more
pub are_more : (vs ns : List TextMap) (v : TextMap) → AreVersions vs → has_version vs v ≡ false → length vs < MOST_VERSIONS → IsAscending v → ns ≡ with_version vs v → IsDistinct is_version ns → AreVersions ns
are_more vs ns v are new room ascends is distinct =
    let pushed : ns ≡ vs ++ v ∷ [] = is ∙ ap (λ b. if b then vs else vs ++ v ∷ []) new in
    (omega (arith, ap length pushed, length-append vs (v ∷ [])), apart ns distinct, rw pushed (each_push IsAscending vs v are.2 ascends))
