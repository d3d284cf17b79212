use Rattle.std.proofs.Common.{◌≡◌, take, flat_map, option_copied}
use Rattle.ccr_lines.specs.Listed.{asked_if}
use Rattle.ccr_lines.proofs.builds.builds_asked.Given as goal

abbrev pub invariant-loop-k : goal.invariant-loop-k
invariant-loop-k l =
    l.builds.items ≡ flat_map (λ b. asked_if (option_copied l.job) b) (take l.k l.history.builds)
