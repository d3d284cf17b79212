use Rattle.std.proofs.Common.{Option, ℕ, ap, ap₂}
use Rattle.std.specs.Prelude.{unwrap_or}
use Rattle.ccr_index.specs.Rows.{number_for, size_for, builds_of}
use Rattle.ccr_index.specs.declared.rows.Seen.{Seen}
use Rattle.ccr_index.specs.Alike.{row_for}
use Rattle.ccr_index.proofs.RowLaws.{rows_same}
use Rattle.ccr_index.proofs.AlikeLaws.{printed_same}
use Rattle.ccr_index.proofs.TopLaws.{top_same}
use Rattle.ccr_index.proofs.rows.JobRows.make_room.Goals as goal

pub invariant_of-self-in_err-reserve-5 : goal.invariant_of-self-in_err-reserve-5
invariant_of-self-in_err-reserve-5 c = (
  rows_same c.self.inside.pairs.items _ c.self.inside.rows.items _ c.self.inside.earlier.items _ (λ pair. number_for c.self.inside.seen pair) _ c.self.invariant.0
      c.reserve-2.ensures.items c.reserve.ensures.items c.reserve-3.ensures.items (λ pair. ap (λ (o : Option Seen). (unwrap_or o (record { row = 0; size = 0 })).row) (c.reserve-4.ensures.entries.2 pair)),
  printed_same c.self.inside.scopes _ _ (λ n. row_for c.self.inside.prints n) _ (λ pair. size_for c.self.inside.seen pair) _ c.self.invariant.1
      (ap₂ builds_of c.reserve-2.ensures.items c.reserve.ensures.items) (λ n. ap (λ (o : Option ℕ). unwrap_or o 0) (c.reserve-5.ensures.entries.2 n))
      (λ pair. ap (λ (o : Option Seen). (unwrap_or o (record { row = 0; size = 0 })).size) (c.reserve-4.ensures.entries.2 pair)),
  top_same _ _ c.self.inside.top c.self.invariant.2 (ap₂ builds_of c.reserve-2.ensures.items c.reserve.ensures.items),
)

pub invariant_of-self-2 : goal.invariant_of-self-2
invariant_of-self-2 c = (
  rows_same c.self.inside.pairs.items _ c.self.inside.rows.items _ c.self.inside.earlier.items _ (λ pair. number_for c.self.inside.seen pair) _ c.self.invariant.0
      c.reserve-2.ensures.items c.reserve.ensures.items c.reserve-3.ensures.items (λ pair. ap (λ (o : Option Seen). (unwrap_or o (record { row = 0; size = 0 })).row) (c.reserve-4.ensures.entries.2 pair)),
  printed_same c.self.inside.scopes _ _ (λ n. row_for c.self.inside.prints n) _ (λ pair. size_for c.self.inside.seen pair) _ c.self.invariant.1
      (ap₂ builds_of c.reserve-2.ensures.items c.reserve.ensures.items) (λ n. ap (λ (o : Option ℕ). unwrap_or o 0) (c.reserve-5.ensures.entries.2 n))
      (λ pair. ap (λ (o : Option Seen). (unwrap_or o (record { row = 0; size = 0 })).size) (c.reserve-4.ensures.entries.2 pair)),
  top_same _ _ c.self.inside.top c.self.invariant.2 (ap₂ builds_of c.reserve-2.ensures.items c.reserve.ensures.items),
)
