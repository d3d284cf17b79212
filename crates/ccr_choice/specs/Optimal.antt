-- What the best choice is, and that there is none.
use Rattle.std.specs.Prelude.{List, ℕ}
use Rattle.ccr_choice.specs.Problem.{ProblemValue}
use Rattle.ccr_choice.specs.Satisfies.{Satisfies}
use Rattle.ccr_choice.specs.Preference.{Preference, IsBetter}

-- A choice is optimal if it satisfies the problem and no choice that does has better places.
pub record IsOptimal (prefers : Preference) (p : ProblemValue) (places builds : List ℕ) : Type 0 where
  pub satisfies : Satisfies p places builds
  pub none_better : (others their_builds : List ℕ) → Satisfies p others their_builds → ¬ IsBetter prefers others places

-- No choice satisfies the problem.
abbrev pub HasNoChoice : ProblemValue → Type 0
HasNoChoice p = (places builds : List ℕ) → ¬ Satisfies p places builds
