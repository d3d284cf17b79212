-- Changes keep histories, and no history at all is one.
use Rattle.std.proofs.Common.{List, [], ◌∷◌, IsTrue, arith}
use Rattle.ccr_history.specs.Tables.{reported}
use Rattle.ccr_history.specs.Builds.{is_before}
use Rattle.ccr_history.specs.History.{HistoryData, no_history, IsHistory}
use Rattle.ccr_history.specs.Changes.{EditData, text, versions, build, ended, pin_set, pin_cleared, disabled, enabled, edited, changed, Admits, AdmitsAll}
use Rattle.ccr_history.proofs.Lists.{pairs_none}
use Rattle.ccr_history.proofs.TableLaws.{Apart, tables_kept, places_kept}
use Rattle.ccr_history.proofs.BuildLaws.{build_kept, end_kept, builds_kept}
use Rattle.ccr_history.proofs.PinLaws.{no_pins, pin_kept, cleared_kept}
use Rattle.ccr_history.proofs.DisabledLaws.{disabled_kept, one_disabled, one_enabled}

pub none_is_history : IsHistory no_history
none_is_history =
    ((omega arith, pairs_none Apart, tt), (omega arith, λ i b found. absurd (cc), tt), no_pins, (pairs_none (λ p q. IsTrue (is_before p q)), tt))

pub kept : (e : EditData) (h : HistoryData) → IsHistory h → Admits h e → IsHistory (edited e h)
kept (text t) h rules takes = rules
kept (versions scope vs) h rules takes = (
  tables_kept scope vs h.tables rules.0 takes.1 takes.0,
  builds_kept h.tables (reported scope vs h.tables) (places_kept scope vs h.tables) h.builds rules.1,
  rules.2,
  disabled_kept h.tables (reported scope vs h.tables) (places_kept scope vs h.tables) h.disabled rules.3,
)
kept (build job used) h rules takes = (rules.0, build_kept h.tables job used h.builds rules.1 takes.0 takes.1, rules.2, rules.3)
kept (ended job number status moved) h rules takes =
    (rules.0, end_kept h.tables job number status moved h.builds rules.1 takes.1 takes.2, rules.2, rules.3)
kept (pin_set resource pin) h rules takes = (rules.0, rules.1, pin_kept resource pin h.pins rules.2 takes, rules.3)
kept (pin_cleared resource) h rules takes = (rules.0, rules.1, cleared_kept resource h.pins rules.2, rules.3)
kept (disabled scope place) h rules takes = (rules.0, rules.1, rules.2, one_disabled h.tables scope place h.disabled rules.3 takes)
kept (enabled scope place) h rules takes = (rules.0, rules.1, rules.2, one_enabled h.tables scope place h.disabled rules.3)

pub all_kept : (es : List EditData) (h : HistoryData) → IsHistory h → AdmitsAll h es → IsHistory (changed es h)
all_kept [] h rules takes = rules
all_kept (e ∷ es) h rules takes = all_kept es (edited e h) (kept e h rules takes.0) takes.1
