-- Why reads fail.
use Rattle.std.proofs.Common.{◌≡◌, ◌⊎◌, List, map, Result, Ok, Err, IfOk, IfErr, refl, sym, subst, ap, ◌∙◌, inl, inr}
use Rattle.std.specs.List.{AllByRecursion}
use Rattle.std.specs.Prelude.{IfSome, IsErrAnd}
use Rattle.sqlite_trees.specs.declared.store.Store.{Ghosts}
use Rattle.sqlite.specs.declared.error.Error.{Error}
use Rattle.sqlite.specs.Order.{Row}
use Rattle.sqlite.specs.Effect.{Database}
use Rattle.sqlite.specs.State.{State, Survives}
use Rattle.ccr_history.specs.History.{HistoryData, IsHistory}
use Rattle.ccr_history.specs.declared.store_fault.StoreFault.{StoreFault}
use Rattle.ccr_history.specs.declared.store_fault.StoreFault.TheVariants as of
use Rattle.ccr_tables.specs.Cause.{cause_of}
use Rattle.ccr_tables.specs.declared.cause.Cause.TheVariants.{NoMemory}
use Rattle.ccr_tables.specs.NamedRows.{IsNamedRow}
use Rattle.ccr_tables.specs.Read.{FailedToRead}
use Rattle.ccr_tables.specs.Tables.{listing_text}
use Rattle.ccr_tables.specs.declared.table.Table.TheVariants as table
use Rattle.ccr_tables.specs.Shown.{Shows, ShowsOther}
use Rattle.ccr_tables.proofs.FailedReads.{failed_after}
use Rattle.ccr_store.specs.Causes.{ComesOfRows, IsUnloaded, IsForeign}
use Rattle.ccr_store.specs.Faults.{read_fault_of}
use Rattle.ccr_store.specs.Listed.{ListsSeen, ListsBuilt, KeepsSeen, history_pairs, without_builds}
use Rattle.ccr_store.specs.Readable.{IsReadable}
use Rattle.ccr_store.specs.Rows.{Fits, meta_rows, scope_rows, table_rows, build_rows, pin_row}
use Rattle.ccr_store.specs.Shown.{ShowsSeen, ShowsBuilt, ShowsHistory, ShowsNone, IsSeenOf}
use Rattle.ccr_store.specs.Texts.{HasTexts, OrNoMemory}
use Rattle.ccr_store.specs.declared.format.Format.{Format}
use Rattle.ccr_store.proofs.ShownRows.{all_builds, all_pairs}

-- what is so of an error is so of the one that is handed on
pub err_so : {Y F : Type 0} (r : Result Y F) (P : F → Type 0) (e : F) → IsErrAnd r (λ x. x ≡ e) → P e → IfErr r P
err_so (Ok y) P e is h = tt
err_so (Err x) P e is h = subst P (sym is) h

-- memory was wanted, or a read failed, after others
pub read_after : {S : Type 0} (g : Ghosts S) (a b : State) (e : Error) → b.now ≡ a.now → Survives a b (λ _. ⊥)
    → (cause_of e ≡ NoMemory) ⊎ FailedToRead g b e → (cause_of e ≡ NoMemory) ⊎ FailedToRead g a e
read_after g a b e same kept (inl memory) = inl memory
read_after g a b e same kept (inr fails) = inr (failed_after g a b e same kept fails)

-- ---- the fault of a read that failed
pub fault_of_read : {S : Type 0} (g : Ghosts S) (old : State) (f : Format) (e : Error) (fault : StoreFault)
    → fault ≡ read_fault_of (cause_of e) → (cause_of e ≡ NoMemory) ⊎ FailedToRead g old e → IsUnloaded g old f fault
fault_of_read g old f e fault is (inl memory) = inl (is ∙ ap read_fault_of memory)
fault_of_read g old f e fault is (inr fails) = inr (inr (record { error = e; fault_is = is; failed = fails }))

pub fault_of_format : {S : Type 0} (g : Ghosts S) (old : State) (e : Error) (fault : StoreFault)
    → fault ≡ read_fault_of (cause_of e) → FailedToRead g old e → IsForeign g old fault
fault_of_format g old e fault is fails = inr (record { error = e; fault_is = is; failed = fails })

-- rows that no history has
pub unseen : {X S : Type 0} (g : Ghosts S) (old : State) (f : Format) (P : HistoryData → X → Type 0) (r : Result X StoreFault) (meta scopes versions : List Row)
    → ShowsSeen old.now meta scopes versions
    → ((h : HistoryData) → IsHistory h → HasTexts h → IfSome h.text IsReadable → ListsSeen f h meta scopes versions → OrNoMemory (P h) r)
    → IfErr r ComesOfRows → IfErr r (IsUnloaded g old f)
unseen g old f P (Ok x) meta scopes versions shown only comes = tt
unseen g old f P (Err of.NoMemory) meta scopes versions shown only comes = inl refl
unseen g old f P (Err of.NotOurs) meta scopes versions shown only comes =
    inr (inl (refl, inl (meta, scopes, versions, shown, λ h it lists. absurd (let same = only h it.rules it.texts it.readable lists in cc))))
unseen g old f P (Err _) meta scopes versions shown only comes = absurd comes

pub seen_shown : (f : Format) (db : Database) (r : Result HistoryData StoreFault) (meta scopes versions : List Row) → ShowsSeen db meta scopes versions → IfOk r (λ history. ListsSeen f history meta scopes versions)
    → ((h : HistoryData) → IsHistory h → HasTexts h → IfSome h.text IsReadable → ListsSeen f h meta scopes versions → OrNoMemory (λ history. history ≡ without_builds h) r)
    → IfOk r (IsSeenOf f db)
seen_shown f db (Err e) meta scopes versions shown lists only = tt
seen_shown f db (Ok history) meta scopes versions shown lists only =
    (meta, scopes, versions, shown, lists, λ h it these. only h it.rules it.texts it.readable these)

pub unbuilt : {X S : Type 0} (g : Ghosts S) (old : State) (f : Format) (history : HistoryData) (r : Result X StoreFault) (builds pairs pins : List Row)
    → IsSeenOf f old.now history → ShowsBuilt old.now builds pairs pins
    → ((h : HistoryData) → IsHistory h → HasTexts h → Fits f h → history ≡ without_builds h → ListsBuilt h builds pairs pins → IfErr r (λ k. k ≡ of.NoMemory))
    → IfErr r ComesOfRows → IfErr r (IsUnloaded g old f)
unbuilt g old f history (Ok x) builds pairs pins seen shown only comes = tt
unbuilt g old f history (Err of.NoMemory) builds pairs pins seen shown only comes = inl refl
unbuilt g old f history (Err of.NotOurs) builds pairs pins seen shown only comes =
    inr (inl (
      refl,
      inr (inr (inr (
        seen.0,
        seen.1,
        seen.2,
        seen.3,
        builds,
        pairs,
        pins,
        shown,
        λ h it here lists. absurd (let same = only h it.rules it.texts it.fits (seen.5 h it here) lists in cc),
      ))),
    ))
unbuilt g old f history (Err _) builds pairs pins seen shown only comes = absurd comes

-- a row that isn't of its kind is no history's
pub others_of_none : (f : Format) (db : Database) → ShowsOther IsNamedRow (listing_text table.Builds) db ⊎ ShowsOther IsNamedRow (listing_text table.Pairs) db → ShowsNone f db
others_of_none f db (inl other) = inr (inl (other.0, other.1, λ h it same. other.2 (subst (AllByRecursion IsNamedRow) (sym same) (all_builds h it.rules it.texts))))
others_of_none f db (inr other) = inr (inr (inl (other.0, other.1, λ h it same. other.2 (subst (AllByRecursion IsNamedRow) (sym same) (all_pairs h it.rules it.texts)))))

-- ---- after another read
answer_after : {S : Type 0} (g : Ghosts S) (a b : State) (f : Format) (fault : StoreFault) → b.now ≡ a.now → Survives a b (λ _. ⊥)
    → IsUnloaded g b f fault → IsUnloaded g a f fault
answer_after g a b f fault same kept (inl memory) = inl memory
answer_after g a b f fault same kept (inr (inl none)) = inr (inl (none.0, subst (ShowsNone f) same none.1))
answer_after g a b f fault same kept (inr (inr fails)) = inr (inr (record {
  error = fails.error;
  fault_is = fails.fault_is;
  failed = failed_after g a b fails.error same kept fails.failed;
}))

-- the fault of a call after others
pub fault_after : {X S : Type 0} (g : Ghosts S) (a b : State) (f : Format) (r : Result X StoreFault) → b.now ≡ a.now → Survives a b (λ _. ⊥)
    → IfErr r (IsUnloaded g b f) → IfErr r (IsUnloaded g a f)
fault_after g a b f (Ok x) same kept h = tt
fault_after g a b f (Err fault) same kept h = answer_after g a b f fault same kept h

-- what was set and seen, and what was built and pinned, is the history that is shown
pub history_shown : (f : Format) (db mid : Database) (old : HistoryData) (r : Result HistoryData StoreFault) → mid ≡ db → IsSeenOf f db old → IfOk r (KeepsSeen old)
    → IfOk r (λ it. (builds : List Row) × (pairs : List Row) × (pins : List Row) × ShowsBuilt mid builds pairs pins × ListsBuilt it builds pairs pins)
    → IfOk r (λ it. ShowsHistory f it db)
history_shown f db mid old (Err e) same seen kept built = tt
history_shown f db mid old (Ok it) same (meta, scopes, versions, shows, lists, only) kept (builds, pairs, pins, shown, these) =
    let seen : ShowsSeen db (meta_rows f it.text) (scope_rows 1 it.tables) (table_rows 1 it.tables) = record {
      set = subst (Shows (listing_text table.Meta) db) (lists.set ∙ ap (meta_rows f) (sym kept.1)) shows.set;
      named = subst (Shows (listing_text table.Scopes) db) (lists.named ∙ ap (scope_rows 1) (sym kept.0)) shows.named;
      reported = subst (Shows (listing_text table.Versions) db) (lists.reported ∙ ap (table_rows 1) (sym kept.0)) shows.reported;
    } in
    let here : ShowsBuilt db builds pairs pins = subst (λ (d : Database). ShowsBuilt d builds pairs pins) same shown in
    let built : ShowsBuilt db (build_rows 1 it.builds) (history_pairs it) (map pin_row it.pins) = record {
      made = subst (Shows (listing_text table.Builds) db) these.made here.made;
      given = subst (Shows (listing_text table.Pairs) db) these.given here.given;
      held = subst (Shows (listing_text table.Pins) db) these.held here.held;
    } in
    (seen, built)
