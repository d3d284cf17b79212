use Rattle.std.proofs.Common.{◌≡◌, ℕ, List, [], take}
use Rattle.ccr_history.specs.History.{AreDisabled}
use Rattle.ccr_store.specs.Listed.{KeepsSeen}
use Rattle.ccr_store.specs.Rows.{disabled_rows}
use Rattle.ccr_store.proofs.disabled.disable_all.Given as goal

abbrev pub invariant-loop-row : goal.invariant-loop-row
invariant-loop-row l = record {
  read : (ps : List (ℕ × ℕ)) → AreDisabled l.fn.history.tables ps → l.fn.history.disabled ≡ [] → l.rows ≡ disabled_rows ps → l.history ≡ record l.fn.history { disabled = take l.row-index ps };
  kept : KeepsSeen l.fn.history l.history;
}
