-- What the program's answer says of the lines, from what its parts say.
use Rattle.std.proofs.Common.{◌≡◌, ◌∙◌, ap, sym, subst, ℕ, List, [], ◌∷◌, ◌++◌, Option}
use Rattle.std.proofs.lemmas.List.{append-nil}
use Rattle.std.specs.Io.KnownBytes.{Appends}

-- where nothing was written, nothing waits
pub none_waits : (shown waiting : List ℕ) → shown ++ waiting ≡ [] → waiting ≡ []
none_waits [] waiting is = is
none_waits (b ∷ bs) waiting is = absurd (cc)

-- a writer that got what was shown got all lines, where none waits
pub all_lines : (before holds : Option (List ℕ)) (shown waiting : List ℕ) → waiting ≡ [] → Appends before holds shown
    → Appends before holds (shown ++ waiting)
all_lines before holds shown waiting none it =
    subst (λ (t : List ℕ). Appends before holds t) (sym (ap (λ (w : List ℕ). shown ++ w) none ∙ append-nil shown)) it
