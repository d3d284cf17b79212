use Rattle.std.proofs.Common.{drop}
use Rattle.std.specs.List.{AllByRecursion}
use Rattle.ccr_history.specs.TextMap.{IsAscending}
use Rattle.ccr_core.proofs.reported.versions_ascend.Given as goal

abbrev pub invariant-loop-version : goal.invariant-loop-version
invariant-loop-version l =
    AllByRecursion IsAscending (drop l.version-index l.versions) → AllByRecursion IsAscending l.versions
