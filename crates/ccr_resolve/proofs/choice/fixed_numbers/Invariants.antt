use Rattle.std.proofs.Common.{◌≡◌}
use Rattle.ccr_choice.specs.Table.{assigned}
use Rattle.ccr_resolve.specs.Search.{numbers_of}
use Rattle.ccr_resolve.proofs.choice.fixed_numbers.Given as goal

abbrev pub invariant-loop-j : goal.invariant-loop-j
invariant-loop-j l = l.numbers.items ≡ numbers_of (assigned l.index.problem l.fixed) l.j
