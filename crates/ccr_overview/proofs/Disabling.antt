-- What is said of disabled versions.
use Rattle.std.proofs.Common.{◌≡◌, ◌-◌, ◌==◌, ◌++◌, ◌∷◌, [], ℕ, List, Bool, false, length, drop, map, codes, sym, ap, ap₂, ◌∙◌}
use Rattle.std.proofs.lemmas.List.{drop-map, length-map}
use Rattle.ccr_lines.specs.Listed.{listed_data}
use Rattle.ccr_lines.specs.declared.versions.Listed.{Listed}
use Rattle.ccr_overview.specs.Each.{each_from}
use Rattle.ccr_overview.specs.PageData.{WordData, Plain}
use Rattle.ccr_overview.specs.PageResources.{listed_words, further_words, disabled_words}

-- the words, of versions that there are
disabled_so : (ls : List Listed) → (length ls == 0) ≡ false
    → Plain (codes "disabled: ") ∷ (each_from listed_words 0 (map listed_data (drop (length ls - 5) ls)) ++ further_words (length ls - 5))
    ≡ disabled_words (map listed_data ls)
disabled_so [] empty = absurd (cc (empty))
disabled_so (l ∷ ls) empty =
    ap (λ xs. Plain (codes "disabled: ") ∷ (each_from listed_words 0 xs ++ further_words (length (l ∷ ls) - 5)))
    (sym (drop-map listed_data (length (l ∷ ls) - 5) (l ∷ ls)))
    ∙ ap (λ n. Plain (codes "disabled: ") ∷ (each_from listed_words 0 (drop (n - 5) (map listed_data (l ∷ ls))) ++ further_words (n - 5)))
    (sym (length-map (l ∷ ls) listed_data))

-- the words that are added one after another
pub disabled_told : (ls last : List Listed) (more : ℕ) (a b c d : List WordData) → (length ls == 0) ≡ false → more ≡ length ls - 5
    → last ≡ drop more ls → a ≡ [] → b ≡ a ++ Plain (codes "disabled: ") ∷ []
    → c ≡ b ++ each_from listed_words 0 (map listed_data last) → d ≡ c ++ further_words more → d ≡ disabled_words (map listed_data ls)
disabled_told ls last more a b c d empty count end one two three four =
    four
    ∙ (ap (λ t. t ++ further_words more)
    (three ∙ ap (λ t. t ++ each_from listed_words 0 (map listed_data last)) (two ∙ ap (λ t. t ++ Plain (codes "disabled: ") ∷ []) one))
    ∙ (ap (λ xs. Plain (codes "disabled: ") ∷ (each_from listed_words 0 (map listed_data xs) ++ further_words more)) end
    ∙ (ap (λ n. Plain (codes "disabled: ") ∷ (each_from listed_words 0 (map listed_data (drop n ls)) ++ further_words n)) count
    ∙ disabled_so ls empty)))
