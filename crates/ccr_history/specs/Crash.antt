-- What a crash leaves of a commit.
use Rattle.std.specs.Prelude.{List, [], ◌∷◌, Result, Ok, Err}
use Rattle.ccr_history.specs.History.{HistoryData}

-- after Ok the history with the change alone; after a fault the history with it, or without it
abbrev pub left_by : {A E : Type 0} → Result A E → HistoryData → HistoryData → List HistoryData
left_by (Ok a) before after = after ∷ []
left_by (Err e) before after = after ∷ before ∷ []
