use Rattle.std.proofs.Common.{◌≡◌, ◌+◌, ◌-◌, ◌≤◌, ◌++◌, ℕ, length, map, take, cond, max}
use Rattle.std.specs.Prelude.{vec_len, vec_capacity}
use Rattle.std.specs.HashMap.{spare}
use Rattle.ccr_index.specs.Rows.{number_for, size_for, is_among}
use Rattle.ccr_index.proofs.rows.note.Given as goal

abbrev pub invariant-loop-pair : goal.invariant-loop-pair
invariant-loop-pair l =
    ((pair : ℕ × ℕ) → number_for l.seen pair ≡ cond (is_among (take l.pair-index l.pairs) pair) l.row (number_for l.initial.seen pair))
    × ((pair : ℕ × ℕ) → size_for l.seen pair ≡ cond (is_among (take l.pair-index l.pairs) pair) (max (size_for l.initial.seen pair) l.size) (size_for l.initial.seen pair))
    × (l.earlier.items ≡ l.initial.earlier.items ++ map (λ q. number_for l.initial.seen q) (take l.pair-index l.pairs))
    × (length l.pairs ≤ spare l.seen + l.pair-index)
    × (spare l.initial.seen ≤ spare l.seen + l.pair-index)
    × (length l.pairs ≤ vec_capacity l.earlier - vec_len l.earlier + l.pair-index)
    × (vec_capacity l.initial.earlier - vec_len l.initial.earlier ≤ vec_capacity l.earlier - vec_len l.earlier + l.pair-index)
