use Rattle.std.proofs.Common.{◌≡◌, ℕ, ◌<◌, ◌≤◌, map, get_or, All}
use Rattle.ccr_index.specs.Rows.{JobRowsValue}
use Rattle.ccr_index.proofs.index.room_in_jobs.Given as goal

abbrev pub invariant-loop-j : goal.invariant-loop-j
invariant-loop-j l =
    (map (λ x. x.builds) l.jobs ≡ map (λ x. x.builds) l.initial.jobs)
    × ((n : ℕ) → All (λ x. n ≤ x.spare) l.initial.jobs → All (λ x. n ≤ x.spare) l.jobs)
    × ((k : ℕ) (d : JobRowsValue) → k < l.j → l.pairs ≤ (get_or l.jobs k d).spare)
    × (map (λ x. x.scopes) l.jobs ≡ map (λ x. x.scopes) l.initial.jobs)
