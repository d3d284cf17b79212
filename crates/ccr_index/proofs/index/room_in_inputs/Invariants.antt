use Rattle.std.proofs.Common.{◌≡◌, ℕ, ◌<◌, ◌≤◌, map, get_or, All}
use Rattle.ccr_index.specs.Rows.{InputRowsValue}
use Rattle.ccr_index.proofs.index.room_in_inputs.Given as goal

abbrev pub invariant-loop-i : goal.invariant-loop-i
invariant-loop-i l =
    (map (λ x. x.input) l.inputs ≡ map (λ x. x.input) l.initial.inputs)
    × ((n : ℕ) → All (λ x. n ≤ x.spare) l.initial.inputs → All (λ x. n ≤ x.spare) l.inputs)
    × ((k : ℕ) (d : InputRowsValue) → k < l.i → l.places ≤ (get_or l.inputs k d).spare)
