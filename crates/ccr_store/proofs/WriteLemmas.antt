-- One write more.
use Rattle.std.proofs.Common.{◌≡◌, ℕ, ◌+◌, ◌<◌, List, [], ◌∷◌, ◌++◌, map, length, take, get_or, sym, ap, ◌∙◌, arith, le_of_lt}
use Rattle.std.proofs.lemmas.List.{append_assoc, map-append, length-take-le, take_more}
use Rattle.ccr_history.specs.Text.{Text}
use Rattle.ccr_history.specs.TextMap.{TextMap, key_text}
use Rattle.ccr_tables.specs.declared.write.Write.{Write}
use Rattle.ccr_store.specs.WriteData.{WriteData, write_data}
use Rattle.ccr_store.specs.WriteData as write
use Rattle.ccr_store.specs.Writes.{version_writes}

pub version_writes-push : (scope place : ℕ) (vs : List TextMap) (v : TextMap) → version_writes scope place (vs ++ v ∷ []) ≡ version_writes scope place vs ++ write.version scope (place + length vs) (key_text v) ∷ []
version_writes-push scope place [] v =
    let same : place ≡ place + 0 = omega arith in
    ap (λ p. write.version scope p (key_text v) ∷ []) same
version_writes-push scope place (w ∷ vs) v =
    let same : place + 1 + length vs ≡ place + length (w ∷ vs) = omega arith in
    ap (λ ws. write.version scope place (key_text w) ∷ ws)
    (version_writes-push scope (place + 1) vs v ∙ ap (λ p. version_writes scope (place + 1) vs ++ write.version scope p (key_text v) ∷ []) same)

-- what is written so far, and one write more
pub pushed : (before now new : List Write) (w : Write) (so_far more : List WriteData) → map write_data now ≡ map write_data before ++ so_far → new ≡ now ++ w ∷ [] → so_far ++ write_data w ∷ [] ≡ more → map write_data new ≡ map write_data before ++ more
pushed before now new w so_far more earlier push last =
    ap (map write_data) push ∙ map-append write_data now (w ∷ []) ∙ ap (λ ws. ws ++ write_data w ∷ []) earlier
    ∙ append_assoc (map write_data before) so_far (write_data w ∷ []) ∙ ap (λ ws. map write_data before ++ ws) last

pub version_more : (scope first : ℕ) (vs : List TextMap) (i place : ℕ) (v : TextMap) (body : Text) → place ≡ first + i → i < length vs → v ≡ get_or vs i v → body ≡ key_text v → version_writes scope first (take i vs) ++ write.version scope place body ∷ [] ≡ version_writes scope first (take (i + 1) vs)
version_more scope first vs i place v body at within is key =
    let many : length (take i vs) ≡ i = length-take-le i vs (le_of_lt within) in
    let last : place ≡ first + length (take i vs) = omega arith in
    ap (λ p. version_writes scope first (take i vs) ++ write.version scope p body ∷ []) last
    ∙ ap (λ t. version_writes scope first (take i vs) ++ write.version scope (first + length (take i vs)) t ∷ []) key
    ∙ sym (version_writes-push scope first (take i vs) v)
    ∙ ap (version_writes scope first) (ap (λ x. take i vs ++ x ∷ []) is ∙ sym (take_more vs i v within))
