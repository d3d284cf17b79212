-- Names that were met, and each of them once.
use Rattle.std.proofs.Common.{◌≡◌, ◌∙◌, List, [], ◌∷◌, ◌++◌, Bool, true, false, ◌||◌, refl, sym, ap, if◌then◌else◌}
use Rattle.std.proofs.lemmas.List.Folds.{list_any-append}
use Rattle.std.proofs.lemmas.Slice.Eq.{bytes_eq-Decides}
use Rattle.std.specs.Str.{bytes_eq}
use Rattle.ccr_pipeline.specs.Names.{has_name, with_name}
use Rattle.ccr_findings.specs.Present.{HasSame}
use Rattle.ccr_pipeline.specs.Tree.{Text}

absorbed : (b e : Bool) → (e ≡ true → b ≡ true) → (b || (e || false)) ≡ b
absorbed true e h = refl
absorbed false true h = sym (h refl)
absorbed false false h = refl

named : (once : List Text) (n k : Text) → has_name once n ≡ true → bytes_eq k n ≡ true → has_name once k ≡ true
named once n k has e = let same : k ≡ n = (bytes_eq-Decides k n).0 e in rw same has

by_case : (all once : List Text) (n : Text) (b : Bool) → has_name once n ≡ b → HasSame all once → HasSame (all ++ n ∷ []) (if b then once else once ++ n ∷ [])
by_case all once n true e h k =
    list_any-append (bytes_eq k) all (n ∷ [])
    ∙ (ap (λ b. b || (bytes_eq k n || false)) (h k) ∙ absorbed (has_name once k) (bytes_eq k n) (named once n k e))
by_case all once n false e h k =
    list_any-append (bytes_eq k) all (n ∷ [])
    ∙ (ap (λ b. b || (bytes_eq k n || false)) (h k) ∙ sym (list_any-append (bytes_eq k) once (n ∷ [])))

-- with one more name the same are still among both
pub seen_more : (all once : List Text) (n : Text) → HasSame all once → HasSame (all ++ n ∷ []) (with_name once n)
seen_more all once n h = by_case all once n (has_name once n) refl h

-- a name was met, and added to those that are there once
pub seen_pushed : (all once new added : List Text) (n : Text) → HasSame all once → new ≡ all ++ n ∷ [] → added ≡ with_name once n → HasSame new added
seen_pushed all once new added n h e f = rw (e, f) (seen_more all once n h)
