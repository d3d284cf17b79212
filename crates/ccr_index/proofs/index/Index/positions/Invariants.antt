use Rattle.std.proofs.Common.{◌≡◌, ℕ, ◌<◌, length, slice_index}
use Rattle.ccr_choice.specs.Problem.{builds_at}
use Rattle.ccr_choice.specs.Table.{build_of}
use Rattle.ccr_index.specs.Rows.{numbered}
use Rattle.ccr_index.proofs.index.Index.positions.Given as goal

abbrev pub invariant-loop-j : goal.invariant-loop-j
invariant-loop-j l =
    (length l.positions ≡ 32) × ((k : ℕ) → k < l.j → build_of (builds_at l.self.problem k) (slice_index l.positions k) ≡ numbered (builds_at l.self.problem k) (slice_index l.fixed k))
