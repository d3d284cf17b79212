use Rattle.std.proofs.Common.{◌≡◌, ◌<◌, ◌≤◌, ◌⊎◌, ℕ, Some, true, inl, inr, arith}
use Rattle.std.proofs.lemmas.Bool.{cases_lt}
use Rattle.std.proofs.lemmas.Bool.Decides.{nat_tests}
use Rattle.ccr_choice.specs.Preference.{prefers_after}
use Rattle.ccr_resolve.proofs.spans.spans_above.Goals as goal

ascending : (kept x y : ℕ) → kept < x → x < y → prefers_after (Some kept) x y ≡ true
ascending kept x y h k = grind (arith, nat_tests)

descending : (kept x y : ℕ) → x ≤ kept → y < x → prefers_after (Some kept) x y ≡ true
descending kept x y h k = grind (arith, nat_tests)

parted : (kept found best last place : ℕ) → kept < best → found ≤ kept → place ≤ last → (prefers_after (Some kept) found place ≡ true → ⊥) → (prefers_after (Some kept) place best ≡ true → ⊥)
    → ((best ≤ place) × (place ≤ last)) ⊎ ((found ≤ place) × (place ≤ kept))
parted kept found best last place above below end low high =
    elim (cases_lt kept place) [
      | inl up ↦ elim (cases_lt place best) [
        | inl less ↦ absurd (high (ascending kept place best up less))
        | inr le ↦ inl (le, end)
      ]
      | inr down ↦ elim (cases_lt place found) [
        | inl less ↦ absurd (low (descending kept found place below less))
        | inr le ↦ inr (le, down)
      ]
    ]

pub returns-else-kept-found : goal.returns-else-kept-found
returns-else-kept-found c = λ place h low high. parted c.args.kept c.args.found c.args.best c.last_of-end.result place c.requires.above c.if-kept-found.false (c.last_of-end.ensures place h) low high
