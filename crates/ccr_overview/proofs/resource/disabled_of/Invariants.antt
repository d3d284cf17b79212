use Rattle.std.proofs.Common.{◌≡◌, ◌++◌, drop, map}
use Rattle.ccr_lines.specs.Listed.{listed_data}
use Rattle.std.specs.Prelude.{filter}
use Rattle.ccr_overview.proofs.resource.disabled_of.Given as goal

abbrev pub invariant-loop-it : goal.invariant-loop-it
invariant-loop-it l =
    map listed_data l.all.items ++ filter (λ x. x.is_disabled) (map listed_data (drop l.it-index l.listed)) ≡ filter (λ x. x.is_disabled) (map listed_data l.listed)
