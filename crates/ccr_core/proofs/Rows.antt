-- Rows of builds, and edits that carry them.
use Rattle.std.proofs.Common.{◌≡◌, ℕ, ◌+◌, ◌<◌, List, [], ◌∷◌, ◌++◌, map, length, take, get_or, Bool, true, false, cond, eqb, Some, None, String, string_bytes, refl, sym, ap, ◌∙◌, subst, arith}
use Rattle.std.specs.declared.alloc.Global.{Global}
use Rattle.std.proofs.lemmas.List.{map-append, take_more}
use Rattle.std.proofs.lemmas.Bool.Decides.{nat_tests}
use Rattle.ccr_history.specs.declared.build.Status.{Status}
use Rattle.ccr_history.specs.declared.build.Status.TheVariants.{Errored}
use Rattle.ccr_history.specs.declared.change.Edit.{Edit}
use Rattle.ccr_history.specs.declared.change.Edit.TheVariants as edit
use Rattle.ccr_history.specs.declared.change.Ended.{Ended as EndedEdit}
use Rattle.ccr_history.specs.Text.{Text}
use Rattle.ccr_history.specs.Builds.{UsedData, BuildData, is_build_of, count_of, build_of, new_build, ended as ended_build, with_build, with_end}
use Rattle.ccr_history.specs.Changes.{EditData, ended, edited, changed, AdmitsAll}
use Rattle.ccr_history.specs.Edits.{edit_data, row_of, HasItsNumbers, HaveTheirNumbers}
use Rattle.ccr_history.specs.History.{HistoryData}
use Rattle.ccr_core.specs.Going.{Changes}
use Rattle.ccr_core.specs.Holding.{name_data}
use Rattle.ccr_core.specs.Resumed.{cut_name}
use Rattle.ccr_core.proofs.Keeping.{AreKnown, not_there}
use Rattle.ccr_core.proofs.RunningLists.{id_refl}

-- ---- a new build
row_push : (j : Text) (n : ℕ) (bs : List BuildData) (x : BuildData) → is_build_of j n x ≡ true → build_of j n bs ≡ None → row_of j n (bs ++ x ∷ []) ≡ length bs + 1
row_push j n [] x is none = ap (λ t. cond t 1 0) is
row_push j n (b ∷ bs) x is none = by (is_build_of j n b) none (row_push j n bs x is)
  where
    next : (r k : ℕ) → r ≡ k + 1 → cond (eqb r 0) 0 (r + 1) ≡ k + 1 + 1
    next r k e = grind (arith, nat_tests)

    by : (t : Bool) → cond t (Some b) (build_of j n bs) ≡ None → (build_of j n bs ≡ None → row_of j n (bs ++ x ∷ []) ≡ length bs + 1)
        → cond t 1 (cond (eqb (row_of j n (bs ++ x ∷ [])) 0) 0 (row_of j n (bs ++ x ∷ []) + 1)) ≡ length (b ∷ bs) + 1
    by true none more = absurd (cc)
    by false none more =
        let whole : length (b ∷ bs) + 1 ≡ length bs + 1 + 1 = omega arith in
        next (row_of j n (bs ++ x ∷ [])) (length bs) (more none) ∙ sym whole

-- a new build has the row behind all others
pub row_new : (j : Text) (used : List UsedData) (bs : List BuildData) → AreKnown bs bs → length bs + 1 ≡ row_of j (count_of j bs + 1) (with_build j used bs)
row_new j used bs known =
    let n : ℕ = count_of j bs + 1 in
    sym (row_push j n bs (new_build j n used) (id_refl j n) (not_there bs j n (omega arith) bs known))

-- ---- a build that ends
row_end : (j : Text) (n : ℕ) (job : Text) (number : ℕ) (st : Status) (mv : List (ℕ × ℕ)) (bs : List BuildData) → row_of j n (with_end job number st mv bs) ≡ row_of j n bs
row_end j n job number st mv [] = refl
row_end j n job number st mv (b ∷ bs) =
    ap (λ t. cond t 1 (cond (eqb (row_of j n (with_end job number st mv bs)) 0) 0 (row_of j n (with_end job number st mv bs) + 1))) (by (is_build_of job number b))
    ∙ ap (λ r. cond (is_build_of j n b) 1 (cond (eqb r 0) 0 (r + 1))) (row_end j n job number st mv bs)
  where
    by : (t : Bool) → is_build_of j n (cond t (ended_build st mv b) b) ≡ is_build_of j n b
    by true = refl
    by false = refl

-- rows stay where builds are cut short
pub rows_cut : (j : Text) (n : ℕ) (ns : List (Text × ℕ)) (h : HistoryData) → row_of j n (changed (map cut_name ns) h).builds ≡ row_of j n h.builds
rows_cut j n [] h = refl
rows_cut j n (m ∷ ns) h = rows_cut j n ns (edited (cut_name m) h) ∙ row_end j n m.0 m.1 _ [] h.builds

-- ---- edits
-- changes that the history takes, and the numbers of the edits that make them
pub changes_so : (es : List Edit) (h after : HistoryData) → AdmitsAll h (map edit_data es) × (changed (map edit_data es) h ≡ after) → HaveTheirNumbers h es → Changes es h after
changes_so es h after leads numbers = ((leads.0, numbers), leads.1)

-- one edit more
pub numbers_push : (h : HistoryData) (es : List Edit) (e : Edit) → HaveTheirNumbers h es → HasItsNumbers (changed (map edit_data es) h) e → HaveTheirNumbers h (es ++ e ∷ [])
numbers_push h [] e all one = (one, tt)
numbers_push h (d ∷ es) e all one = (all.0, numbers_push (edited (edit_data d) h) es e all.1 one)

-- ---- builds that are cut short
cut_more : (ns : List (String Global × ℕ)) (i : ℕ) (x : String Global × ℕ) → i < length ns → x ≡ get_or ns i x → map cut_name (map name_data (take i ns)) ++ cut_name (name_data x) ∷ [] ≡ map cut_name (map name_data (take (i + 1) ns))
cut_more ns i x within is =
    sym
    (ap (λ (l : List (String Global × ℕ)). map cut_name (map name_data l)) (take_more ns i x within ∙ ap (λ (y : String Global × ℕ). take i ns ++ y ∷ []) (sym is))
    ∙ ap (map cut_name) (map-append name_data (take i ns) (x ∷ [])) ∙ map-append cut_name (map name_data (take i ns)) (name_data x ∷ []))

-- one build more is cut short
pub cuts_so : (h : HistoryData) (ns : List (String Global × ℕ)) (i : ℕ) (x : String Global × ℕ) (es new : List Edit) (r : EndedEdit) → i < length ns → x ≡ get_or ns i x → new ≡ es ++ edit.Ended r ∷ []
    → map edit_data es ≡ map cut_name (map name_data (take i ns)) → string_bytes r.job ≡ string_bytes x.0 → r.number ≡ x.1 → r.status ≡ Errored → r.moved.items ≡ [] → r.row ≡ row_of (string_bytes x.0) x.1 h.builds
    → HaveTheirNumbers h es → (map edit_data new ≡ map cut_name (map name_data (take (i + 1) ns))) × HaveTheirNumbers h new
cuts_so h ns i x es new r within is push cut job number status moved row numbers =
    let one : edit_data (edit.Ended r) ≡ cut_name (name_data x) =
    ap (λ (y : Text). ended y r.number r.status r.moved.items) job ∙ ap (λ (y : ℕ). ended (string_bytes x.0) y r.status r.moved.items) number
    ∙ ap (λ (y : Status). ended (string_bytes x.0) x.1 y r.moved.items) status ∙ ap (ended (string_bytes x.0) x.1 Errored) moved in
    let all : map edit_data new ≡ map cut_name (map name_data (take (i + 1) ns)) =
    ap (map edit_data) push ∙ map-append edit_data es (edit.Ended r ∷ []) ∙ ap (λ (l : List EditData). l ++ edit_data (edit.Ended r) ∷ []) cut
    ∙ ap (λ (e : EditData). map cut_name (map name_data (take i ns)) ++ e ∷ []) one ∙ cut_more ns i x within is in
    let its : row_of (string_bytes r.job) r.number (changed (map edit_data es) h).builds ≡ row_of (string_bytes x.0) x.1 h.builds =
    ap (λ (y : Text). row_of y r.number (changed (map edit_data es) h).builds) job ∙ ap (λ (n : ℕ). row_of (string_bytes x.0) n (changed (map edit_data es) h).builds) number
    ∙ ap (λ (l : List EditData). row_of (string_bytes x.0) x.1 (changed l h).builds) cut ∙ rows_cut (string_bytes x.0) x.1 (map name_data (take i ns)) h in
    (all, subst (HaveTheirNumbers h) (sym push) (numbers_push h es (edit.Ended r) numbers (row ∙ sym its)))
