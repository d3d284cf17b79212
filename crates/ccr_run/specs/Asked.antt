-- What was asked of the database's files, and what was answered.
use Rattle.std.specs.Prelude.{ℕ, List, Option}
use Rattle.sqlite.specs.declared.error.Error.{Error}
use Rattle.ccr_look.specs.declared.fault.CopyFault.{CopyFault}
use Rattle.ccr_run.specs.declared.asked.Asked.{Asked}
use Rattle.ccr_run.specs.declared.asked.Asked.TheVariants.{Opened, Read}

-- WHAT WAS ASKED: that the database at a path be opened, or that it be read; with the error or the fault that it was answered with, if it
-- was one
pub data AskedData : Type 0 where
  opened : List ℕ → Option Error → AskedData
  read : List ℕ → Option CopyFault → AskedData

-- what a value of the program's type stands for
abbrev pub asked_data : Asked → AskedData
asked_data (Opened path error) = opened path.now error
asked_data (Read path fault) = read path.now fault
