-- A set of texts, by the bytes of its keys.
use Rattle.std.proofs.Common.{◌≡◌, List, [], ◌∷◌, ◌++◌, refl, ap, ◌∙◌, String, string_bytes, Bool, true, false, Global, ◌||◌, cond, length, take, ℕ, zero, suc}
use Rattle.std.specs.List.{list_any}
use Rattle.std.specs.Str.{bytes_eq}
use Rattle.std.specs.String.{string_eq}
use Rattle.indexmap.specs.IndexSet.{insert_key}
use Rattle.ccr_pipeline.specs.Names.{names_of, has_name, with_name}

pub has_name-names_of : (name : String Global) (keys : List (String Global)) → list_any (string_eq name) keys ≡ has_name (names_of keys) (string_bytes name)
has_name-names_of name [] = refl
has_name-names_of name (k ∷ ks) = ap (λ b. string_eq name k || b) (has_name-names_of name ks)

pub has_name-by_text : (name : List ℕ) (keys : List (String Global)) → list_any (λ k. bytes_eq name (string_bytes k)) keys ≡ has_name (names_of keys) name
has_name-by_text name [] = refl
has_name-by_text name (k ∷ ks) = ap (λ b. bytes_eq name (string_bytes k) || b) (has_name-by_text name ks)

names_of-append : (keys : List (String Global)) (k : String Global) → names_of (keys ++ k ∷ []) ≡ names_of keys ++ string_bytes k ∷ []
names_of-append [] k = refl
names_of-append (e ∷ es) k = ap (λ ns. string_bytes e ∷ ns) (names_of-append es k)

by_case : (b : Bool) (keys : List (String Global)) (k : String Global) → names_of (cond b keys (keys ++ k ∷ [])) ≡ cond b (names_of keys) (names_of keys ++ string_bytes k ∷ [])
by_case true keys k = refl
by_case false keys k = names_of-append keys k

pub names_of-insert_key : (keys : List (String Global)) (k : String Global) → names_of (insert_key string_eq keys k) ≡ with_name (names_of keys) (string_bytes k)
names_of-insert_key keys k = by_case (list_any (string_eq k) keys) keys k ∙ ap (λ b. cond b (names_of keys) (names_of keys ++ string_bytes k ∷ [])) (has_name-names_of k keys)

pub length-names_of : (keys : List (String Global)) → length (names_of keys) ≡ length keys
length-names_of [] = refl
length-names_of (k ∷ ks) = ap (λ n. suc n) (length-names_of ks)

pub names_of-take : (n : ℕ) (keys : List (String Global)) → names_of (take n keys) ≡ take n (names_of keys)
names_of-take zero keys = refl
names_of-take (suc n) [] = refl
names_of-take (suc n) (k ∷ ks) = ap (λ ns. string_bytes k ∷ ns) (names_of-take n ks)
