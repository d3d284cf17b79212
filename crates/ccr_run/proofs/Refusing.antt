-- A text that is refused, and lists that end.
use Rattle.std.proofs.Common.{◌≡◌, List, [], ◌++◌, Result, Ok, Err, OnOk, subst}
use Rattle.std.proofs.lemmas.List.{append-nil}
use Rattle.ccr_history.specs.Text.{Text}
use Rattle.ccr_run.specs.Found.{IsRefusedText, PrintsRefused}

pub and_none : {A : Type 0} (xs : List A) → xs ++ [] ≡ xs
and_none xs = append-nil xs

-- the lines that a text has are those that are printed
pub prints_refused : {T E : Type 0} (r : Result T E) (text shown bytes old new : Text) → IsRefusedText text shown → bytes ≡ shown
    → OnOk r (new ≡ old ++ bytes) → OnOk r (PrintsRefused text old new)
prints_refused (Ok x) text shown bytes old new is same printed = (shown, is, subst (λ it. new ≡ old ++ it) same printed)
prints_refused (Err e) text shown bytes old new is same printed = tt
