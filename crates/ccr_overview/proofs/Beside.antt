-- What else holds a job, where something holds an input.
use Rattle.std.proofs.Common.{◌≡◌, ◌∷◌, [], ℕ, List, length, map, Bool, false, Option, ap, sym, subst}
use Rattle.std.proofs.lemmas.List.{length-map}
use Rattle.std.specs.Prelude.{◌==◌, codes, nat_lt, if◌then◌else◌}
use Rattle.ccr_history.specs.Builds.{BuildData}
use Rattle.ccr_lines.specs.ExplainedData.{TakenData}
use Rattle.ccr_page.specs.declared.data.Urgency.{Urgency}
use Rattle.ccr_overview.specs.Holds.{HoldData, urgent_ones, worst}
use Rattle.ccr_overview.specs.PageData.{WordData, Plain}
use Rattle.ccr_overview.specs.Scenes.{SceneData}
use Rattle.ccr_overview.specs.Sentences.{alone_words, beside_words, holds_words}

-- where something holds an input, it is said behind a semicolon
pub beside_held : (s : SceneData) (live : Option BuildData) (by_itself : Bool) (ts : List TakenData) (hs : List HoldData)
    (u : Urgency) → (length hs == 0) ≡ false → u ≡ worst hs
    → Plain (codes "; ") ∷ holds_words s live (nat_lt 1 (length ts)) by_itself (urgent_ones u hs)
    ≡ beside_words s live by_itself ts hs
beside_held s live by_itself ts hs u some is =
    let further : Urgency → List WordData =
    λ v. Plain (codes "; ") ∷ holds_words s live (nat_lt 1 (length ts)) by_itself (urgent_ones v hs) in
    subst (λ (v : Urgency). further v ≡ beside_words s live by_itself ts hs) (sym is)
    (sym (ap (λ (b : Bool). if b then Plain (alone_words by_itself) ∷ [] else further (worst hs)) some))

-- a list of something is one of something else
pub some_of : {X Y : Type 0} (f : X → Y) (xs : List X) (ys : List Y) → map f xs ≡ ys → (length xs == 0) ≡ false
    → (length ys == 0) ≡ false
some_of {Y = Y} f xs ys is some =
    subst (λ (zs : List Y). (length zs == 0) ≡ false) is
    (subst (λ (n : ℕ). (n == 0) ≡ false) (sym (length-map xs f)) some)
