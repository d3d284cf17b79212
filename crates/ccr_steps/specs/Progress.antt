-- How far a list of exchanges has come in what a plan means.
use Rattle.std.specs.Prelude.{◌≡◌, List, [], ◌∷◌, ◌++◌, Option, Some, None, map, ⊤}
use Rattle.ccr_pipeline.specs.Tree.{Tree}
use Rattle.ccr_steps.specs.declared.outcome.Outcome.{Outcome}
use Rattle.ccr_steps.specs.Asks.{AskData, AnswerData, Exchange, exchange, Chosen}
use Rattle.ccr_steps.specs.Gains.{GainsData, MovedData, no_gains}
use Rattle.ccr_steps.specs.Means.{Means}

-- the plan allows this list, whole
abbrev pub IsAllowed : Chosen → Tree → List Exchange → Type 0
IsAllowed c t es = (o : Outcome) × (g : GainsData) × Means c t no_gains es o g

-- the list begins one that the plan allows
abbrev pub Begins : Chosen → Tree → List Exchange → Type 0
Begins c t es = (rest : List Exchange) × IsAllowed c t (es ++ rest)

-- after the list this is asked: any answer may come, and every allowed list that begins so and goes on asks this there
abbrev pub IsNext : Chosen → Tree → List Exchange → AskData → Type 0
IsNext c t es a =
    ((x : AnswerData) → Begins c t (es ++ exchange a x ∷ []))
    × ((e : Exchange) (rest : List Exchange) → IsAllowed c t (es ++ e ∷ rest) → e.ask ≡ a)

-- what is wanted after the list: nothing exactly where it is whole
abbrev pub IsWanted : Chosen → Tree → List Exchange → Option AskData → Type 0
IsWanted c t es None = IsAllowed c t es
IsWanted c t es (Some a) = IsNext c t es a × (IsAllowed c t es → ⊥)

-- how the list ended: not yet exactly where it isn't whole
abbrev pub IsOutcome : Chosen → Tree → List Exchange → Option Outcome → Type 0
IsOutcome c t es None = IsAllowed c t es → ⊥
IsOutcome c t es (Some o) = (g : GainsData) × Means c t no_gains es o g

-- what a whole list moved
abbrev pub HasMoved : Chosen → Tree → List Exchange → List MovedData → Type 0
HasMoved c t es moved = (o : Outcome) (g : GainsData) → Means c t no_gains es o g → moved ≡ g.moved

-- the answers of a list
abbrev pub answers : List Exchange → List AnswerData
answers es = map (λ e. e.answer) es

-- the answers decide: two allowed lists with the same answers have the same asks, outcome and gains
abbrev pub AnswersDecide : Type 0
AnswersDecide =
    (c : Chosen) (t : Tree) (es fs : List Exchange) (o u : Outcome) (g h : GainsData)
    → Means c t no_gains es o g → Means c t no_gains fs u h → answers es ≡ answers fs → (es ≡ fs) × (o ≡ u) × (g ≡ h)

-- as far as both lists go, they have the same answers
abbrev pub HaveSameAnswers : List Exchange → List Exchange → Type 0
HaveSameAnswers [] fs = ⊤
HaveSameAnswers (e ∷ es) [] = ⊤
HaveSameAnswers (e ∷ es) (f ∷ fs) = (e.answer ≡ f.answer) × HaveSameAnswers es fs

-- as far as both lists go, they have the same asks
abbrev pub HaveSameAsks : List Exchange → List Exchange → Type 0
HaveSameAsks [] fs = ⊤
HaveSameAsks (e ∷ es) [] = ⊤
HaveSameAsks (e ∷ es) (f ∷ fs) = (e.ask ≡ f.ask) × HaveSameAsks es fs

-- two lists that were answered the same ask the same: as far as both go, and next where both have had as many answers
pub record AskAlike (c : Chosen) (t : Tree) (es fs : List Exchange) : Type 0 where
  pub so_far : HaveSameAnswers es fs → HaveSameAsks es fs
  pub whole : answers es ≡ answers fs → es ≡ fs
  pub next : answers es ≡ answers fs → (a b : Option AskData) → IsWanted c t es a → IsWanted c t fs b → a ≡ b

-- the answers decide in builds that still run, too: two beginnings of allowed lists ask alike
abbrev pub BeginningsDecide : Type 0
BeginningsDecide =
    (c : Chosen) (t : Tree) (es fs : List Exchange) → Begins c t es → Begins c t fs → AskAlike c t es fs
