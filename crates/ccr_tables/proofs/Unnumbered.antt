-- A statement that is made, without how many rows it changed.
use Rattle.std.proofs.Common.{◌≡◌, ℕ, Result, Ok, subst}
use Rattle.sqlite.specs.State.{State}
use Rattle.sqlite.specs.declared.error.Error.{Error}
use Rattle.ccr_tables.specs.Contents.{Contents}
use Rattle.ccr_tables.specs.Step.{Alters}

pub without_number : {old new : State} {change : Contents → Contents} {r : Result ℕ Error} {n : ℕ} → r ≡ Ok n → Alters old new change r → Alters {X = Unit {0}} old new change (Ok (tt {0}))
without_number {old} {new} {change} e a =
    let it = subst (Alters old new change) e a in
    record { kept = it.kept; made = it.made; opened = it.opened; sound = it.sound }
