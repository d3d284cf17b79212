use Rattle.std.proofs.Common.{◌≡◌, ◌+◌, List, [], take, drop}
use Rattle.std.specs.List.{AllByRecursion}
use Rattle.ccr_history.specs.Builds.{BuildData}
use Rattle.ccr_history.specs.History.{AreBuilds}
use Rattle.ccr_store.specs.Listed.{listed_pairs, KeepsSeen}
use Rattle.ccr_store.specs.Rows.{build_rows}
use Rattle.ccr_store.specs.Texts.{IsTextBuild}
use Rattle.ccr_store.proofs.reading.add_builds.Given as goal

abbrev pub invariant-loop-row : goal.invariant-loop-row
invariant-loop-row l = record {
  read : (bs : List BuildData) → AreBuilds l.fn.history.tables bs → AllByRecursion IsTextBuild bs → l.fn.history.builds ≡ [] → l.builds ≡ build_rows 1 bs → l.pairs ≡ listed_pairs 1 bs → (l.history ≡ record l.fn.history { builds = take l.row-index bs }) × (l.rest ≡ listed_pairs (l.row-index + 1) (drop l.row-index bs));
  kept : KeepsSeen l.fn.history l.history;
}
