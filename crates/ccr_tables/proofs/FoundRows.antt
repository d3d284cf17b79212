-- Rows of one kind.
use Rattle.std.proofs.Common.{◌≡◌, List, [], ◌∷◌, ◌++◌, Option, Some, None, Vec, Global, refl}
use Rattle.std.specs.Prelude.{IfNone}
use Rattle.std.specs.List.{AllByRecursion}
use Rattle.sqlite.specs.Order.{Row}
use Rattle.ccr_tables.specs.Found.{Are}

all_before : (Kind : Row → Type 0) (rows : List Row) (r : Row) → AllByRecursion Kind (rows ++ r ∷ []) → AllByRecursion Kind rows
all_before Kind [] r all = tt
all_before Kind (s ∷ rows) r all = (all.0, all_before Kind rows r all.1)

last_one : (Kind : Row → Type 0) (rows : List Row) (r : Row) → AllByRecursion Kind (rows ++ r ∷ []) → Kind r
last_one Kind [] r all = all.0
last_one Kind (s ∷ rows) r all = last_one Kind rows r all.1

-- where one isn't of the kind, one more row changes nothing
pub still_none : (Kind : Row → Type 0) (found : Option (Vec Row Global)) (rows : List Row) (r : Row) → ((items : Vec Row Global) → found ≡ Some items → ⊥) → Are Kind rows found → ¬ AllByRecursion Kind (rows ++ r ∷ [])
still_none Kind None rows r none are all = are (all_before Kind rows r all)
still_none Kind (Some items) rows r none are all = absurd (none items refl)

-- the last one isn't of the kind
pub none_now : (Kind : Row → Type 0) {X : Type 0} (read : Option X) (rows : List Row) (r : Row) → ((item : X) → read ≡ Some item → ⊥) → IfNone read (¬ Kind r) → ¬ AllByRecursion Kind (rows ++ r ∷ [])
none_now Kind None rows r none bad all = bad (last_one Kind rows r all)
none_now Kind (Some item) rows r none bad all = absurd (none item refl)
