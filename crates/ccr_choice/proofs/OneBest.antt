-- The best choices of a problem have the same places, and where there is one, not none satisfies.
use Rattle.std.proofs.Common.{◌≡◌, ℕ, zero, suc, ◌<◌, ◌≤◌, inl, inr, List, length, slice_index, sym, ap, ◌∙◌, arith}
use Rattle.std.proofs.lemmas.Bool.{cases_lt, cases_eq}
use Rattle.ccr_choice.specs.Problem.{ProblemValue}
use Rattle.ccr_choice.specs.Preference.{Preference, IsOrder, IsBetter}
use Rattle.ccr_choice.specs.Optimal.{IsOptimal, HasNoChoice}
use Rattle.ccr_choice.proofs.PossibleLaws.{same_at}

module _ (prefers : Preference) (order : IsOrder prefers) (xs ys : List ℕ) (as_long : length xs ≡ length ys) (not_better : ¬ IsBetter prefers xs ys) (not_worse : ¬ IsBetter prefers ys xs) where
  -- where they are the same up to a position, they are the same there
  same_next : (n : ℕ) → n < length xs → ((k : ℕ) → k < n → slice_index xs k ≡ slice_index ys k) → slice_index xs n ≡ slice_index ys n
  same_next n within same =
      elim (cases_eq (slice_index xs n) (slice_index ys n)) [
        | inl here ↦ here
        | inr differs ↦ elim (order.total n (slice_index xs n) (slice_index ys n) differs) [
          | inl first ↦ absurd (not_better (record { first = n; within = within; reached = omega (arith, within, as_long); same_before = same; preferred = first }))
          | inr second ↦ absurd (not_worse (record { first = n; within = omega (arith, within, as_long); reached = within; same_before = λ k below. sym (same k below); preferred = second }))
        ]
      ]

  same_up_to : (n : ℕ) → n ≤ length xs → (k : ℕ) → k < n → slice_index xs k ≡ slice_index ys k
  same_up_to zero reach k below = absurd (omega (arith, below))
  same_up_to (suc n) reach k below =
      elim (cases_lt k n) [
        | inl before ↦ same_up_to n (omega (arith, reach)) k before
        | inr after ↦ (
            let now : k ≡ n = omega (arith, after, below) in
            ap (slice_index xs) now ∙ same_next n (omega (arith, reach)) (λ m less. same_up_to n (omega (arith, reach)) m less) ∙ ap (slice_index ys) (sym now)
            )
      ]

  -- lists of one length, neither of which is better, are one
  pub neither_better : xs ≡ ys
  neither_better = same_at xs ys as_long (λ k within. same_up_to (length xs) (omega arith) k within)

pub one_best : (prefers : Preference) → IsOrder prefers → (p : ProblemValue) (places builds others their_builds : List ℕ)
    → IsOptimal prefers p places builds → IsOptimal prefers p others their_builds → places ≡ others
one_best prefers order p places builds others their_builds best other =
    neither_better prefers order places others (best.satisfies.lengths.place_each ∙ sym other.satisfies.lengths.place_each)
    (other.none_better places builds best.satisfies) (best.none_better others their_builds other.satisfies)

pub best_or_none : (prefers : Preference) (p : ProblemValue) (places builds : List ℕ) → IsOptimal prefers p places builds → ¬ HasNoChoice p
best_or_none prefers p places builds best none = none places builds best.satisfies
