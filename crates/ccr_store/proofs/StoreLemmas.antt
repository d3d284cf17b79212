-- What a commit leaves, over what a store is.
use Rattle.std.proofs.Common.{◌≡◌, ◌≢◌, Ok, Err, OnOk, OnErr, IfOk, IfErr, Option, Result, List, [], ◌∷◌, map, refl, sym, ap, ◌∙◌, subst, IsTrue, ◌⊎◌, inl, inr, arith}
use Rattle.std.specs.Prelude.{IfSome, IsErrAnd}
use Rattle.sqlite_trees.specs.declared.store.Store.{Ghosts}
use Rattle.sqlite.specs.Tree.{Trees}
use Rattle.sqlite.specs.Effect.{Database}
use Rattle.sqlite.specs.State.{State, HasCleanDisk, IsLive, IsUnchanged, Survives}
use Rattle.sqlite.specs.Held.{state}
use Rattle.sqlite.proofs.StateLemmas.{survives_weaker}
use Rattle.ccr_history.specs.History.{HistoryData, IsHistory}
use Rattle.ccr_history.specs.Changes.{changed}
use Rattle.ccr_history.specs.Edits.{change_data, Accepts}
use Rattle.ccr_history.specs.declared.change.Edit.{Edit}
use Rattle.ccr_history.proofs.ChangeLaws.{all_kept as history_kept}
use Rattle.ccr_tables.specs.Contents.{Contents, Holds, Keeps, ListOurs}
use Rattle.ccr_tables.specs.Schema.{our_schema}
use Rattle.ccr_tables.specs.Left.{WritesNothing, OnlyReads}
use Rattle.ccr_tables.specs.Step.{Turns, IsLeft, IsLeftBy}
use Rattle.ccr_tables.specs.Written.{all_written}
use Rattle.ccr_tables.specs.declared.write.Write.{Write}
use Rattle.ccr_store.specs.Writes.{change_writes}
use Rattle.ccr_store.specs.Reordered.{HasSameRows}
use Rattle.ccr_history.specs.declared.store_fault.StoreFault.{StoreFault}
use Rattle.ccr_history.specs.declared.store_fault.StoreFault.TheVariants.{NoMemory, NotOurs}
use Rattle.ccr_store.specs.Crash.{HoldOneOf, Leaves, IsChangedIn}
use Rattle.ccr_store.specs.Left.{IsAsItWas}
use Rattle.ccr_store.specs.Readable.{IsReadable}
use Rattle.ccr_store.specs.Rows.{Fits, rows_in, rows_of}
use Rattle.ccr_store.specs.declared.format.Format.{Format}
use Rattle.ccr_store.specs.declared.format.Format.TheVariants.{Two}
use Rattle.ccr_store.specs.StoreData.{StoreData, IsStored, IsKept}
use Rattle.ccr_store.specs.Texts.{HasTexts, OrNoMemory, OrFault}
use Rattle.ccr_store.specs.Listed.{AreSeen, AreBuilt, ListsSeen, ListsBuilt, KeepsSeen, without_builds}
use Rattle.ccr_store.proofs.ListedRows.{loaded}
use Rattle.ccr_store.proofs.Ours.{left_ours}
use Rattle.sqlite.specs.Order.{Row}
use Rattle.ccr_history.specs.Text.{Text}
use Rattle.ccr_store.specs.WriteData.{WriteData, write_data, all_made}
use Rattle.ccr_store.proofs.EditWrites.{edits_kept}
use Rattle.ccr_store.proofs.SameRows.{all_written-made, keeps_same}

-- trees that hold what the writes make of the history's rows hold those of the changed history
left_keeps : (h : HistoryData) (es : List Edit) (ws : List Write) (db : Database) (trees : Trees) → IsStored h db → Accepts h es → map write_data ws ≡ change_writes es → IsLeft (all_written ws) db trees → Keeps (rows_of (changed (change_data es) h)) trees
left_keeps h es ws db trees it accepts are left =
    edits_kept es h trees it.rules accepts
    (subst (λ (these : Contents). Keeps these trees)
    (all_written-made ws (rows_of h) ∙ ap (λ (l : List WriteData). all_made l (rows_of h)) are)
    (left (rows_of h) it.rows))

pub stored_now : {S : Type 0} (g : Ghosts S) (s t : StoreData S) (next : Database) (es : List Edit) (ws : List Write) (h : HistoryData) → s ≡ t → map write_data ws ≡ change_writes es
    → Turns (all_written ws) (state g s.conn).now next → IsStored h (state g t.conn).now → Accepts h es → IsStored (changed (change_data es) h) next
stored_now g s t next es ws h same are turns it accepts =
    let here : IsStored h (state g s.conn).now = subst (λ (k : StoreData _). IsStored h (state g k.conn).now) (sym same) it in
    record {
      rules = history_kept (change_data es) h here.rules accepts.0;
      rows = record {
        schema = (turns (rows_of h) here.rows).schema;
        rows = left_keeps h es ws (state g s.conn).now next.trees here accepts are (λ these holds. (turns these holds).rows);
      };
    }

pub crash_now : {S : Type 0} (g : Ghosts S) (s t : StoreData S) (new : State) (es : List Edit) (ws : List Write) → s ≡ t → map write_data ws ≡ change_writes es
    → Survives (state g s.conn) new (IsLeftBy ws (state g s.conn)) → Survives (state g t.conn) new (IsChangedIn es (state g t.conn))
crash_now g s t new es ws same are one =
    subst (λ (k : StoreData _). Survives (state g k.conn) new (IsChangedIn es (state g k.conn))) same
    (survives_weaker (state g s.conn) new _ _ (λ clean trees left. record {
      opened = λ some. left.opened (λ none. some (sym are ∙ ap (map write_data) none));
      made = λ h it accepts. left_keeps h es ws (state g s.conn).now trees it accepts are left.made;
      listed = λ some h it. left.listed (λ none. some (sym are ∙ ap (map write_data) none)) (rows_of h) it.rows;
    }) one)

-- the history that was loaded is stored
pub stored_loaded : {S : Type 0} (g : Ghosts S) (s t : StoreData S) (new : State) (h : HistoryData) (these : Contents) → s ≡ t → IsHistory h → (Holds these (state g s.conn).now → HasSameRows (rows_of h) these)
    → IsUnchanged (state g s.conn) new → Holds these (state g t.conn).now → HasSameRows (rows_of h) these × IsStored h new.now
stored_loaded g s t new h these same rules rows unchanged holds =
    let here : Holds these (state g s.conn).now = subst (λ (k : StoreData _). Holds these (state g k.conn).now) (sym same) holds in
    let there : Holds these new.now = subst (Holds these) (sym unchanged.0.now_is) here in (
      rows here,
      record {
        rules = rules;
        rows = record { schema = there.schema; rows = keeps_same (rows_of h) these new.now.trees (rows here) there.rows };
      },
    )

-- what a read leaves of the connection it leaves of the store
pub reads_store : {X S : Type 0} (g : Ghosts S) (s t : StoreData S) (new : State) (r : Result X StoreFault) → s ≡ t → OnlyReads (state g s.conn) new r → OnlyReads (state g t.conn) new r
reads_store g s t new r same it = subst (λ (k : StoreData _). OnlyReads (state g k.conn) new r) same it

-- outside a transaction, where nothing is written, the tables are as they were
pub as_it_was : (old new : State) → (IsTrue old.is_open → old.now ≡ old.committed) → WritesNothing old new → IsAsItWas old new
as_it_was old new settled it = record {
  was_open = it.was_open;
  now = λ up. by (it.now up) (settled (it.was_open up));
  committed = it.committed;
}
  where
    by : (new.now ≡ old.now) ⊎ (new.now ≡ old.committed) → old.now ≡ old.committed → new.now ≡ old.now
    by (inl same) is = same
    by (inr back) is = back ∙ sym is

pub was_itself : (old : State) → IsAsItWas old old
was_itself old = record { was_open = λ up. up; now = λ up. refl; committed = λ up. refl }

-- the same of a store, whose connection it is
pub as_it_was_kept : {S : Type 0} (g : Ghosts S) (s t : StoreData S) (new : State) → s ≡ t → (IsTrue (state g s.conn).is_open → (state g s.conn).now ≡ (state g s.conn).committed) → WritesNothing (state g s.conn) new
    → IsAsItWas (state g t.conn) new
as_it_was_kept g s t new same settled it = subst (λ (k : StoreData _). IsAsItWas (state g k.conn) new) same (as_it_was (state g s.conn) new settled it)

-- a transaction that was undone leaves the tables as they were
pub undone_as_it_was : (old new : State) → (IsTrue old.is_open → old.now ≡ old.committed) → (IsTrue new.is_open → IsTrue old.is_open) → (IsTrue new.is_open → (new.now ≡ old.committed) × (new.committed ≡ old.committed)) → IsAsItWas old new
undone_as_it_was old new settled was back = record { was_open = was; now = λ up. (back up).0 ∙ sym (settled (was up)); committed = λ up. (back up).1 }

pub undone_kept : {S : Type 0} (g : Ghosts S) (s t : StoreData S) (new : State) → s ≡ t → (IsTrue (state g s.conn).is_open → (state g s.conn).now ≡ (state g s.conn).committed) → (IsTrue new.is_open → IsTrue (state g s.conn).is_open)
    → (IsTrue new.is_open → (new.now ≡ (state g s.conn).committed) × (new.committed ≡ (state g s.conn).committed)) → IsAsItWas (state g t.conn) new
undone_kept g s t new same settled was back = subst (λ (k : StoreData _). IsAsItWas (state g k.conn) new) same (undone_as_it_was (state g s.conn) new settled was back)

pub on_err : {X E : Type 0} (P : Type 0) (r : Result X E) → P → OnErr r P
on_err P (Ok x) p = tt
on_err P (Err e) p = p

pub on_ok_none : {X E : Type 0} (P : Type 0) (r : Result X E) → IfOk r (λ _. ⊥) → OnOk r P
on_ok_none P (Ok x) none = absurd none
on_ok_none P (Err e) none = tt

-- out of memory needs no answer
pub no_memory_no_answer : {X : Type 0} (r : Result X StoreFault) (P : StoreFault → Type 0) → IfErr r (λ e. e ≡ NoMemory) → IfErr r (λ e. e ≢ NoMemory → P e)
no_memory_no_answer (Ok x) P is = tt
no_memory_no_answer (Err e) P is = λ other. absurd (other is)

-- ---- no history has the rows
-- each history of the database has texts, a pipeline that can be read, and isn't there
abbrev HasNone : Format → Database → Type 0
HasNone f db = (h : HistoryData) → IsHistory h → HasTexts h → IfSome h.text IsReadable → Fits f h → ¬ Holds (rows_in f h) db

pub out_of_memory : {X : Type 0} (r : Result X StoreFault) (fault : StoreFault) → IsErrAnd r (λ e. e ≡ fault) → fault ≡ NoMemory → IfErr r (λ e. e ≡ NoMemory)
out_of_memory (Ok x) fault h is = tt
out_of_memory (Err e) fault h is = h ∙ is

-- where a history that the database holds leaves no fault that blames the tables, `NotOurs` says that there is none
pub not_ours_read : {X : Type 0} (f : Format) (r : Result X StoreFault) (db : Database) → ((h : HistoryData) → IsHistory h → HasTexts h → IfSome h.text IsReadable → Fits f h → Holds (rows_in f h) db → IfErr r (λ fault. fault ≢ NotOurs)) → IfErr r (λ fault. fault ≡ NotOurs → HasNone f db)
not_ours_read f (Ok x) db h = tt
not_ours_read f (Err fault) db h = λ ours k rules texts readable fits holds. h k rules texts readable fits holds ours

no_blame : (fault : StoreFault) → fault ≡ NoMemory → fault ≢ NotOurs
no_blame fault is ours = absurd (let both = sym is ∙ ours in cc)

pub or_fault : {X : Type 0} (P : X → Type 0) (r : Result X StoreFault) → OrNoMemory P r → OrFault P r
or_fault P (Ok x) h = h
or_fault P (Err fault) h = no_blame fault h

pub if_fault : {X : Type 0} (r : Result X StoreFault) → IfErr r (λ fault. fault ≡ NoMemory) → IfErr r (λ fault. fault ≢ NotOurs)
if_fault (Ok x) h = tt
if_fault (Err fault) h = no_blame fault h

pub fault_on : {X : Type 0} (r : Result X StoreFault) (fault : StoreFault) → IsErrAnd r (λ e. e ≡ fault) → fault ≢ NotOurs → IfErr r (λ e. e ≢ NotOurs)
fault_on (Ok x) fault is h = tt
fault_on (Err e) fault is h = λ ours. h (sym is ∙ ours)

-- ---- a history in two parts
pub seen_lists : (f : Format) (h history : HistoryData) (meta scopes versions : List Row) → history ≡ without_builds h → ListsSeen f h meta scopes versions → ListsSeen f history meta scopes versions
seen_lists f h history meta scopes versions is lists = subst (λ (k : HistoryData). ListsSeen f k meta scopes versions) (sym is) (record { set = lists.set; named = lists.named; reported = lists.reported })

pub rows_loaded : (f : Format) (r : Result HistoryData StoreFault) (old : HistoryData) (db mid : Database) → (db.schema ≡ our_schema → mid ≡ db)
    → ((these : Contents) → Holds these db → (meta scopes versions : List Row) × AreSeen these meta scopes versions × ListsSeen f old meta scopes versions) → IfOk r (KeepsSeen old)
    → IfOk r (λ it. (these : Contents) → Holds these mid → (builds pairs pins : List Row) × AreBuilt these builds pairs pins × ListsBuilt it builds pairs pins)
    → IfOk r (λ it. (these : Contents) → Holds these db → HasSameRows (rows_in f it) these)
rows_loaded f (Err e) old db mid same seen kept built = tt
rows_loaded f (Ok it) old db mid same seen kept built = λ these holds.
    let first = seen these holds in
    let second = built these (subst (Holds these) (sym (same holds.schema)) holds) in
    loaded f old it these first.0 first.1 first.2 second.0 second.1 second.2 kept first.4 second.4 first.3 second.3

pub readable_on : (r : Result HistoryData StoreFault) (old : HistoryData) → IfSome old.text IsReadable → IfOk r (KeepsSeen old) → IfOk r (λ it. IfSome it.text IsReadable)
readable_on (Err e) old readable kept = tt
readable_on (Ok it) old readable kept = subst (λ (t : Option Text). IfSome t IsReadable) (sym kept.1) readable

pub not_ours_loaded : {X S : Type 0} (g : Ghosts S) (s t : StoreData S) (r : Result X StoreFault) (fault : StoreFault) → s ≡ t → IsErrAnd r (λ e. e ≡ fault) → (fault ≡ NotOurs → HasNone Two (state g s.conn).now) → IfErr r (λ e. e ≡ NotOurs → HasNone Two (state g t.conn).now)
not_ours_loaded g s t (Ok x) fault same is h = tt
not_ours_loaded g s t (Err e) fault same is h = λ ours. subst (λ (k : StoreData _). HasNone Two (state g k.conn).now) same (h (sym is ∙ ours))

-- ---- a store as a storage
-- a commit that was made keeps the changed history
pub kept_changed : {S : Type 0} (g : Ghosts S) (s t : StoreData S) (es : List Edit) (h : HistoryData) → IsKept g s h → Accepts h es
    → (HasCleanDisk (state g t.conn) → IsTrue (state g t.conn).is_open → HasCleanDisk (state g s.conn) × IsTrue (state g s.conn).is_open)
    → (IsStored h (state g s.conn).now → HasCleanDisk (state g t.conn) → IsStored (changed (change_data es) h) (state g t.conn).now × ((state g t.conn).committed ≡ (state g t.conn).now))
    → IsKept g t (changed (change_data es) h)
kept_changed g s t es h kept accepts was done clean up =
    let before = was clean up in
    let it = kept before.0 before.1 in
    let after = done (record { rules = it.1; rows = it.2 }) clean in
    (sym after.1, after.0.rules, after.0.rows)

-- a commit that was refused keeps the history
pub kept_still : {S : Type 0} (g : Ghosts S) (s t : StoreData S) (h : HistoryData) → IsKept g s h
    → (HasCleanDisk (state g t.conn) → IsTrue (state g t.conn).is_open → HasCleanDisk (state g s.conn) × IsTrue (state g s.conn).is_open)
    → (HasCleanDisk (state g t.conn) → IsAsItWas (state g s.conn) (state g t.conn))
    → IsKept g t h
kept_still g s t h kept was refused clean up =
    let before = was clean up in
    let it = kept before.0 before.1 in
    let now = (refused clean).now up in
    (now ∙ it.0 ∙ sym ((refused clean).committed up), it.1, subst (Holds (rows_of h)) (sym now) it.2)

-- ---- what a crash leaves
-- a commit leaves what could be left before, or the changed history
pub leaves_changed : {S : Type 0} (g : Ghosts S) (t u : StoreData S) (es : List Edit) (h : HistoryData) (hs : List HistoryData) → change_writes es ≢ [] → IsKept g t h → Accepts h es → Leaves g t hs
    → Survives (state g t.conn) (state g u.conn) (IsChangedIn es (state g t.conn)) → Leaves g u (changed (change_data es) h ∷ hs)
leaves_changed g t u es h hs some kept accepts before it clean trees may = by (it.crash clean trees may)
  where
    early : HasCleanDisk (state g t.conn)
    early = omega (arith, it.clean)

    by : (state g t.conn).may_leave trees ⊎ IsChangedIn es (state g t.conn) trees → HoldOneOf (changed (change_data es) h ∷ hs) trees × ListOurs trees
    by (inl old) = let left = before early trees old in (inr left.0, left.1)
    by (inr new) =
        let held = kept early (new.opened some) in
        let stored : IsStored h (state g t.conn).now = record { rules = held.1; rows = held.2 } in
        (inl (new.made h stored accepts), new.listed some h stored)

-- a commit that was made leaves the changed history alone
pub leaves_made : {S : Type 0} (g : Ghosts S) (t u : StoreData S) (es : List Edit) (h : HistoryData) → IsKept g t h → Accepts h es
    → (HasCleanDisk (state g u.conn) → IsTrue (state g u.conn).is_open → HasCleanDisk (state g t.conn) × IsTrue (state g t.conn).is_open)
    → (IsStored h (state g t.conn).now → HasCleanDisk (state g u.conn) → IsStored (changed (change_data es) h) (state g u.conn).now × ((state g u.conn).committed ≡ (state g u.conn).now))
    → (HasCleanDisk (state g u.conn) → IsTrue (state g u.conn).is_open)
    → (IsTrue (state g u.conn).is_open → (trees : Trees) → (state g u.conn).may_leave trees → trees ≡ (state g u.conn).committed.trees) → IsLive (state g u.conn) → Leaves g u (changed (change_data es) h ∷ [])
leaves_made g t u es h kept accepts was done opened durable live clean trees may =
    let up = opened clean in
    let before = was clean up in
    let it = kept before.0 before.1 in
    let after = done (record { rules = it.1; rows = it.2 }) clean in
    let these = rows_of (changed (change_data es) h) in
    let same = durable up trees may in (
      inl (subst (Keeps these) (sym (same ∙ ap (λ (d : Database). d.trees) after.1)) after.0.rows.rows),
      left_ours (state g u.conn) live up (ap (λ (d : Database). d.schema) after.1 ∙ after.0.rows.schema) trees same,
    )
