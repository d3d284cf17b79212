-- What a read shows of any tables.
use Rattle.std.proofs.Common.{List, ℕ, [], Ok, Err, Result, IfOk, Vec, Global, subst}
use Rattle.sqlite.specs.Clock as clock
use Rattle.sqlite.specs.Effect.{Reads}
use Rattle.sqlite.specs.Listing.{understood}
use Rattle.sqlite.specs.Order.{Row}
use Rattle.sqlite.specs.State.{State, Shown, ShowsRows}
use Rattle.sqlite.specs.declared.error.Error.{Error}
use Rattle.ccr_tables.specs.Shown.{Shows}
use Rattle.ccr_tables.proofs.Queries.{IsPlainIf}

pub shows_text : (text : List ℕ) (old new : State) (rows : List Row) → IsPlainIf (understood old.now.schema text) → Shown text [] old new rows → Shows text old.now rows
unfolding Shown
shows_text text old new rows plain h =
    let bare = subst IsPlainIf h.1.is plain in
    let it = subst (λ r. ShowsRows old new text h.0 (clock.timed [] h.0.formats h.1.now) rows r) bare.0 h.2 in
    record {
      statement = h.0;
      is = h.1.is;
      source = it.0;
      read_from = it.1;
      answer = subst (λ f. Reads h.0.command it.0 (clock.timed [] f h.1.now) rows) bare.1 it.2;
    }

pub shown_text : (text : List ℕ) (old new : State) (r : Result (Vec Row Global) Error) → IsPlainIf (understood old.now.schema text) → IfOk r (λ rows. Shown text [] old new rows.items)
    → IfOk r (λ rows. Shows text old.now rows.items)
shown_text text old new (Err e) plain shown = tt
shown_text text old new (Ok rows) plain shown = shows_text text old new rows.items plain shown
