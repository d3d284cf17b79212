-- What SQLite answered to a creation that failed.
use Rattle.std.specs.Prelude.{◌≡◌, ◌⊎◌, pos, ℕ, List, [], ◌∷◌, Err}
use Rattle.sqlite_trees.specs.declared.store.Store.{Ghosts}
use Rattle.sqlite.specs.declared.error.Error.{Error}
use Rattle.sqlite.specs.declared.types.Value.TheVariants.{Int, Blob}
use Rattle.sqlite.specs.Order.{Row}
use Rattle.sqlite.specs.State.{State, Survives, ExecutesInside}
use Rattle.sqlite.specs.Steps.{FailsToCommit}
use Rattle.sqlite.specs.Held.{Held, state}
use Rattle.ccr_tables.specs.Answered.{put_meta_text}
use Rattle.ccr_tables.specs.Cause.{cause_of}
use Rattle.ccr_tables.specs.declared.cause.Cause.TheVariants.{Refused}
use Rattle.ccr_tables.specs.Contents.{Holds, new_contents}
use Rattle.ccr_tables.specs.Schema.{no_schema}
use Rattle.ccr_tables.specs.Tables.{creation_text}
use Rattle.ccr_tables.specs.declared.table.Table.{Table}

-- ---- the statements that make a new database
-- that of a table, or the write of the format's row
abbrev pub IsFirst : List ℕ → Row → Type 0
IsFirst text params =
    ((table : Table) × (text ≡ creation_text table) × (params ≡ []))
    ⊎ ((text ≡ put_meta_text) × (params ≡ Int (pos 1) ∷ Blob (50 ∷ []) ∷ []))

-- ---- what was answered
module _ {S : Type 0} (g : Ghosts S) (old : State) (e : Error) where
  -- SQLite answered this error to one of the statements, in a transaction of which nothing was committed
  pub record FailedAtFirst : Type 0 where
    pub text : List ℕ
    pub params : Row
    pub first : IsFirst text params
    pub before : Held S
    pub after : Held S
    pub kept : Survives old (state g before) (λ _. ⊥)
    pub answered : ExecutesInside 0 text params (state g before) (state g after) (Err e)

  -- SQLite answered this error at the end of the transaction, in which the six tables and the format's row were made
  pub record FailedAtLast : Type 0 where
    pub before : Held S
    pub after : Held S
    pub made : old.now.schema ≡ no_schema → Holds new_contents (state g before).now
    pub kept : Survives old (state g before) (λ _. ⊥)
    pub answered : FailsToCommit (state g before) (state g after) e

  -- WHY A CREATION FAILS: SQLite answered so
  abbrev pub IsUnmade : Type 0
  IsUnmade = FailedAtFirst ⊎ FailedAtLast

-- SQLITE REFUSED ONE OF THE STATEMENTS: with nothing wrong with memory or disk
abbrev pub WasRefused : {S : Type 0} → Ghosts S → State → Type 0
WasRefused g old = (e : Error) × (cause_of e ≡ Refused) × FailedAtFirst g old e
