-- The line of a claim, word by word.
use Rattle.std.proofs.Common.{◌≡◌, ℕ, List, [], ◌∷◌, ◌++◌, map, ap, ◌∙◌, refl, sym, append_assoc, codes, Result, Ok, Err, IfOk}
use Rattle.std.specs.List.{flat_map, join_with_byte}
use Rattle.std.proofs.lemmas.List.{append-nil}
use Rattle.ccr_choice.specs.declared.word.Word.{Word}
use Rattle.ccr_choice.specs.declared.word.Word.TheVariants as word
use Rattle.ccr_choice.specs.Problem.{ChoiceValue}
use Rattle.ccr_choice.specs.Reading.{number_words}
use Rattle.ccr_choice.specs.Text.{spelled}
use Rattle.ccr_proof.specs.declared.claim.Claim.TheVariants.{Best}
use Rattle.ccr_check.specs.Judged.{spaced, choice_line, accepted_line}

abbrev pub behind_blanks : List (List ℕ) → List ℕ
behind_blanks xs = flat_map (λ x. 32 ∷ x) xs

pub join_flat : (x : List ℕ) (xs : List (List ℕ)) → join_with_byte 32 (x ∷ xs) ≡ x ++ behind_blanks xs
join_flat x [] = sym (append-nil x)
join_flat x (y ∷ ys) = ap (λ r. x ++ (32 ∷ r)) (join_flat y ys)

spaced_numbers : (ns : List ℕ) (ws : List Word) → behind_blanks (map spelled (number_words ns ++ ws)) ≡ flat_map spaced ns ++ behind_blanks (map spelled ws)
spaced_numbers [] ws = refl
spaced_numbers (n ∷ ns) ws = ap (λ r. spaced n ++ r) (spaced_numbers ns ws) ∙ sym (append_assoc (spaced n) (flat_map spaced ns) (behind_blanks (map spelled ws)))

spaced_last : (ns : List ℕ) → behind_blanks (map spelled (number_words ns)) ≡ flat_map spaced ns
spaced_last [] = refl
spaced_last (n ∷ ns) = ap (λ r. spaced n ++ r) (spaced_last ns)

pub accepted_best : (c : ChoiceValue) → choice_line (codes "accepted best") c ≡ accepted_line (Best c)
accepted_best c =
    let places = flat_map spaced c.places in
    let builds = flat_map spaced c.builds in
    append_assoc (codes "accepted best" ++ places) (codes " builds") builds
    ∙ append_assoc (codes "accepted best") places (codes " builds" ++ builds)
    ∙ ap (λ r. codes "accepted best" ++ (places ++ (codes " builds" ++ r))) (sym (spaced_last c.builds))
    ∙ ap (λ r. codes "accepted best" ++ r) (sym (spaced_numbers c.places (word.Builds ∷ number_words c.builds)))
    ∙ ap (λ r. codes "accepted " ++ r) (sym (join_flat (codes "best") (map spelled (number_words c.places ++ word.Builds ∷ number_words c.builds))))

pub ok_same : {X E : Type 0} (view : X → List ℕ) (r : Result X E) (a b : List ℕ) → a ≡ b → IfOk r (λ x. view x ≡ a) → IfOk r (λ x. view x ≡ b)
ok_same view (Ok x) a b e h = h ∙ e
ok_same view (Err x) a b e h = tt
