-- What lists the six tables, and what is of our hand.
use Rattle.std.proofs.Common.{◌≡◌, inl, inr, IsTrue, sym, subst}
use Rattle.sqlite.specs.Effect.{Database}
use Rattle.sqlite.specs.State.{State, IsLive}
use Rattle.sqlite.specs.Tree.{Trees}
use Rattle.ccr_history.specs.History.{HistoryData, IsHistory, no_history}
use Rattle.ccr_history.proofs.ChangeLaws.{none_is_history}
use Rattle.ccr_tables.specs.Contents.{Holds, ListOurs}
use Rattle.ccr_tables.specs.Schema.{our_schema}
use Rattle.ccr_tables.proofs.Ours.{left_listed}
use Rattle.ccr_store.specs.Rows.{rows_of}
use Rattle.ccr_store.specs.Shown.{IsTakenAs, IsOfOurs, ShowsHistory}
use Rattle.ccr_store.specs.declared.format.Format.TheVariants.{Two}

-- the trees that an open connection has committed list the six tables, if it has our schema
pub left_ours : (s : State) → IsLive s → IsTrue s.is_open → s.committed.schema ≡ our_schema → (trees : Trees) → trees ≡ s.committed.trees → ListOurs trees
left_ours s live up is trees same = left_listed s.committed (live up).1 is trees same

-- a history that SQLite shows in a database that was taken is of our hand
pub of_ours : (was now : Database) (h : HistoryData) → ((k : HistoryData) → IsHistory k → Holds (rows_of k) now → k ≡ h) → ShowsHistory Two h now → IsTakenAs was now → IsOfOurs was h
of_ours was now h only shows (inl made) = inl (made.0, sym (only no_history none_is_history made.1))
of_ours was now h only shows (inr (inl (format, same))) = inr (inl (subst (ShowsHistory Two h) same shows))
of_ours was now h only shows (inr (inr (format, k, rules, fits, shown))) = inr (inr (k, rules, fits, shown))
