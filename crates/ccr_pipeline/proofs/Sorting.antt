-- Sorted texts, each once, by their bytes.
use Rattle.std.proofs.Common.{◌≡◌, ℕ, List, [], ◌∷◌, Bool, true, false, refl, ap, sym, ◌∙◌, String, Global, string_bytes, string_cmp, nat_cmp, cond, Less}
use Rattle.std.proofs.lemmas.List.Kept.{Contains-dedup, Contains-from_dedup, IsStrictlySortedBy-dedup}
use Rattle.std.proofs.lemmas.List.Sorted.{IsPermutation-map, IsPermutation-sym, Contains-permutation}
use Rattle.std.proofs.lemmas.Map.Text.{is_eq-slice_cmp}
use Rattle.std.proofs.lemmas.Slice.Eq.{bytes_eq-Decides}
use Rattle.std.specs.Cmp.Lexicographic.{slice_cmp, nat_list_eq_equiv}
use Rattle.std.specs.List.{AllByRecursion, dedup, dedup_from}
use Rattle.std.specs.List.Sorted.{IsPermutation, IsSorted, IsStrictlySortedBy}
use Rattle.std.specs.Str.{bytes_eq}
use Rattle.std.specs.String.{string_cmp_total, string_eq}
use Rattle.ccr_pipeline.specs.Names.{names_of}
use Rattle.ccr_pipeline.specs.Unused.{IsSortedOnce}

-- what is kept of strings is, by its bytes, what is kept of their bytes
by_case : (b : Bool) (k : List ℕ) (one two : List (String Global)) (xs ys : List (List ℕ)) (s : String Global) → string_bytes s ≡ k → names_of one ≡ xs → names_of two ≡ ys → names_of (cond b one (s ∷ two)) ≡ cond b xs (k ∷ ys)
by_case true k one two xs ys s e f g = f
by_case false k one two xs ys s e f g = rw (e, g) refl

names_of-dedup_from : (s : String Global) (ss : List (String Global)) → names_of (dedup_from string_eq s ss) ≡ dedup_from bytes_eq (string_bytes s) (names_of ss)
names_of-dedup_from s [] = refl
names_of-dedup_from s (t ∷ ts) =
    by_case (string_eq t s) (string_bytes s) (dedup_from string_eq s ts) (dedup_from string_eq t ts) _ _ s refl (names_of-dedup_from s ts) (names_of-dedup_from t ts)

names_of-dedup : (ss : List (String Global)) → names_of (dedup string_eq ss) ≡ dedup bytes_eq (names_of ss)
names_of-dedup [] = refl
names_of-dedup (s ∷ ss) = names_of-dedup_from s ss

all_bytes : (s : String Global) (ss : List (String Global)) → AllByRecursion (λ t. string_cmp s t ≡ Less) ss → AllByRecursion (λ k. slice_cmp nat_cmp (string_bytes s) k ≡ Less) (names_of ss)
all_bytes s [] h = tt
all_bytes s (t ∷ ts) h = (h.0, all_bytes s ts h.1)

ascending : (ss : List (String Global)) → IsStrictlySortedBy string_cmp ss → IsStrictlySortedBy (slice_cmp nat_cmp) (names_of ss)
unfolding IsStrictlySortedBy
ascending [] h = tt
ascending (s ∷ ss) h = (all_bytes s ss h.0, ascending ss h.1)

same : (xs ys : List ℕ) → bytes_eq xs ys ≡ true → xs ≡ ys
same xs ys e = (bytes_eq-Decides xs ys).0 e

-- strings sorted, and each kept once, by their bytes
pub sorted_once : (ss sorted kept : List (String Global)) → IsPermutation ss sorted → IsSorted string_cmp sorted → kept ≡ dedup string_eq sorted → IsSortedOnce (names_of ss) (names_of kept)
sorted_once ss sorted kept moved rising is =
    let names : names_of kept ≡ dedup bytes_eq (names_of sorted) = ap names_of is ∙ names_of-dedup sorted in
    let there : IsPermutation (names_of ss) (names_of sorted) = IsPermutation-map string_bytes ss sorted moved in
    let back : IsPermutation (names_of sorted) (names_of ss) = IsPermutation-sym (names_of ss) (names_of sorted) there in
    record {
      ascending = rw is (ascending (dedup string_eq sorted) (IsStrictlySortedBy-dedup string_cmp_total (λ x y. sym (is_eq-slice_cmp (string_bytes x) (string_bytes y))) sorted rising));
      only = λ p h. Contains-permutation _ _ p back (Contains-from_dedup bytes_eq (names_of sorted) p (rw names at h));
      all = λ p h. rw names (Contains-dedup nat_list_eq_equiv same (names_of sorted) p (Contains-permutation _ _ p there h));
    }
