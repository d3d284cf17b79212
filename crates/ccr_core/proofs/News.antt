-- Reports with the versions alone that are new.
use Rattle.std.proofs.Common.{◌≡◌, nat_lt, ◌||◌, length, Bool, true, false, cond, List, [], ◌∷◌, ◌++◌, Option, Some, None, refl, sym, ap, ◌∙◌, subst, append-nil, append_assoc}
use Rattle.std.specs.List.{AllByRecursion}
use Rattle.std.specs.Option.{option_map_or}
use Rattle.ccr_history.specs.declared.table.TheConstants.{MOST_VERSIONS, MOST_SCOPES}
use Rattle.ccr_history.specs.Text.{Text}
use Rattle.ccr_history.specs.TextMap.{TextMap, IsAscending}
use Rattle.ccr_history.specs.Scopes.{ScopeData, is_scope}
use Rattle.ccr_history.specs.Tables.{TableData, has_version, with_versions, with_report, reported, versions_of, is_table_full}
use Rattle.ccr_history.specs.declared.change.Edit.TheVariants.{Versions}
use Rattle.ccr_history.specs.declared.change.Reported.{Reported}
use Rattle.ccr_history.specs.Edits.{edit_data, HasItsNumbers}
use Rattle.ccr_history.specs.Changes.{EditData, versions, edited, changed, AdmitsAll}
use Rattle.ccr_history.specs.History.{HistoryData}
use Rattle.ccr_history.proofs.TableLaws.{versions_of-with_report}
use Rattle.ccr_pipeline.specs.JobData.{ResourceData}
use Rattle.ccr_pipeline.specs.Pipelines.{PipelineData}
use Rattle.ccr_steps.specs.Asks.{AskData, AnswerData}
use Rattle.ccr_problem.specs.ProblemOf.{resource_of, scope_of}
use Rattle.ccr_core.specs.Edits.{new_to, with_news, news_in}
use Rattle.ccr_core.specs.Seen.{report, pushed_by, report_by}

-- ---- versions of a list
-- the new ones come behind those that the list has
pub news_behind : (known vs : List TextMap) → with_versions known vs ≡ known ++ new_to known vs
news_behind known [] = sym (append-nil known)
news_behind known (v ∷ vs) = by (has_version known v) (news_behind known vs) (news_behind (known ++ v ∷ []) vs)
  where
    by : (t : Bool) → with_versions known vs ≡ known ++ new_to known vs → with_versions (known ++ v ∷ []) vs ≡ (known ++ v ∷ []) ++ new_to (known ++ v ∷ []) vs
        → with_versions (cond t known (known ++ v ∷ [])) vs ≡ known ++ cond t (new_to known vs) (v ∷ new_to (known ++ v ∷ []) vs)
    by true same more = same
    by false same more = more ∙ append_assoc known (v ∷ []) (new_to (known ++ v ∷ []) vs)

-- a report of these alone comes to the same
news_enough : (known vs : List TextMap) → with_versions known (new_to known vs) ≡ with_versions known vs
news_enough known [] = refl
news_enough known (v ∷ vs) = by (has_version known v) refl (news_enough known vs) (news_enough (known ++ v ∷ []) vs)
  where
    by : (t : Bool) → has_version known v ≡ t → with_versions known (new_to known vs) ≡ with_versions known vs → with_versions (known ++ v ∷ []) (new_to (known ++ v ∷ []) vs) ≡ with_versions (known ++ v ∷ []) vs
        → with_versions known (cond t (new_to known vs) (v ∷ new_to (known ++ v ∷ []) vs)) ≡ with_versions (cond t known (known ++ v ∷ [])) vs
    by true is same more = same
    by false is same more = ap (λ c. with_versions (cond c known (known ++ v ∷ [])) (new_to (known ++ v ∷ []) vs)) is ∙ more

-- what holds of all that is reported holds of the new ones
news_all : (P : TextMap → Type 0) → (known vs : List TextMap) → AllByRecursion P vs → AllByRecursion P (new_to known vs)
news_all P known [] h = tt
news_all P known (v ∷ vs) h = by (has_version known v) (news_all P known vs h.1) (news_all P (known ++ v ∷ []) vs h.1)
  where
    by : (t : Bool) → AllByRecursion P (new_to known vs) → AllByRecursion P (new_to (known ++ v ∷ []) vs) → AllByRecursion P (cond t (new_to known vs) (v ∷ new_to (known ++ v ∷ []) vs))
    by true same more = same
    by false same more = (h.0, more)

-- ---- tables
-- with nothing new in a report, it leaves the tables, if there is its scope's
report_none : (s : ScopeData) (vs : List TextMap) (v : TextMap) (ts : List TableData) → new_to (versions_of s ts) (v ∷ vs) ≡ [] → with_report s (v ∷ vs) ts ≡ ts
report_none s vs v [] e = absurd (cc e)
report_none s vs v (t ∷ ts) e = by (is_scope s t.scope) (report_none s vs v ts) e
  where
    by : (a : Bool) → (new_to (versions_of s ts) (v ∷ vs) ≡ [] → with_report s (v ∷ vs) ts ≡ ts) → new_to (cond a t.versions (versions_of s ts)) (v ∷ vs) ≡ []
        → cond a (record { scope = t.scope; versions = with_versions t.versions (v ∷ vs) } ∷ ts) (t ∷ with_report s (v ∷ vs) ts) ≡ t ∷ ts
    by true more e =
        ap (λ l. record { scope = t.scope; versions = l } ∷ ts) (news_behind t.versions (v ∷ vs) ∙ ap (λ l. t.versions ++ l) e ∙ append-nil t.versions)
    by false more e = ap (λ l. t ∷ l) (more e)

report_some : (s : ScopeData) (vs : List TextMap) (ts : List TableData) → with_report s (new_to (versions_of s ts) vs) ts ≡ with_report s vs ts
report_some s vs [] = ap (λ l. record { scope = s; versions = l } ∷ []) (news_enough [] vs)
report_some s vs (t ∷ ts) = by (is_scope s t.scope) (report_some s vs ts)
  where
    by : (a : Bool) → with_report s (new_to (versions_of s ts) vs) ts ≡ with_report s vs ts
        → cond a (record { scope = t.scope; versions = with_versions t.versions (new_to (cond a t.versions (versions_of s ts)) vs) } ∷ ts) (t ∷ with_report s (new_to (cond a t.versions (versions_of s ts)) vs) ts)
        ≡ cond a (record { scope = t.scope; versions = with_versions t.versions vs } ∷ ts) (t ∷ with_report s vs ts)
    by true more = ap (λ l. record { scope = t.scope; versions = l } ∷ ts) (news_enough t.versions vs)
    by false more = ap (λ l. t ∷ l) more

pub news_reported : (s : ScopeData) (vs : List TextMap) (ts : List TableData) → reported s (new_to (versions_of s ts) vs) ts ≡ reported s vs ts
news_reported s [] ts = refl
news_reported s (v ∷ vs) ts = by (new_to (versions_of s ts) (v ∷ vs)) refl
  where
    by : (news : List TextMap) → new_to (versions_of s ts) (v ∷ vs) ≡ news → reported s news ts ≡ with_report s (v ∷ vs) ts
    by [] e = sym (report_none s vs v ts e)
    by (w ∷ ws) e = ap (λ l. with_report s l ts) (sym e) ∙ report_some s (v ∷ vs) ts

-- ---- changes
-- where the history takes a report, it takes what is new of it, and that leads to the same
abbrev pub IsSame : HistoryData → List EditData → List EditData → Type 0
IsSame h es fs = AdmitsAll h fs × (changed fs h ≡ changed es h)

news_one : (h : HistoryData) (s : ScopeData) (vs : List TextMap) → AdmitsAll h (versions s vs ∷ []) → IsSame h (versions s vs ∷ []) (news_in h (versions s vs ∷ []))
news_one h s vs takes =
    let same = news_reported s vs h.tables in
    let full : is_table_full s (new_to (versions_of s h.tables) vs) h.tables ≡ is_table_full s vs h.tables = ap (λ ts. nat_lt MOST_VERSIONS (length (versions_of s ts)) || nat_lt MOST_SCOPES (length ts)) same in (
      ((full ∙ takes.0.0, news_all IsAscending (versions_of s h.tables) vs takes.0.1), tt),
      ap (λ ts. record { tables = ts; builds = h.builds; pins = h.pins; disabled = h.disabled; text = h.text }) same,
    )

pub news_report : (p : PipelineData) (h : HistoryData) (resource : Text) (vs : List TextMap) → AdmitsAll h (report p resource vs) → IsSame h (report p resource vs) (news_in h (report p resource vs))
news_report p h resource vs = by (resource_of resource p.resources)
  where
    by : (o : Option ResourceData) → AdmitsAll h (option_map_or (λ r. versions (scope_of r) vs ∷ []) o []) → IsSame h (option_map_or (λ r. versions (scope_of r) vs ∷ []) o []) (news_in h (option_map_or (λ r. versions (scope_of r) vs ∷ []) o []))
    by None takes = (tt, refl)
    by (Some x) takes = news_one h (scope_of x) vs takes

pub news_push : (p : PipelineData) (h : HistoryData) (a : AskData) (x : AnswerData) → AdmitsAll h (report_by p a x) → IsSame h (report_by p a x) (news_in h (report_by p a x))
news_push p h a x = by (pushed_by a x)
  where
    by : (o : Option (Text × TextMap)) → AdmitsAll h (option_map_or (λ m. report p m.0 (m.1 ∷ [])) o []) → IsSame h (option_map_or (λ m. report p m.0 (m.1 ∷ [])) o []) (news_in h (option_map_or (λ m. report p m.0 (m.1 ∷ [])) o []))
    by None takes = (tt, refl)
    by (Some m) takes = news_report p h m.0 (m.1 ∷ []) takes

-- ---- what a report brought
same_behind : (xs ys zs : List TextMap) → xs ++ ys ≡ xs ++ zs → ys ≡ zs
same_behind [] ys zs e = e
same_behind (x ∷ xs) ys zs e = same_behind xs ys zs (cc e)

versions_after : (s : ScopeData) (vs : List TextMap) (ts : List TableData) → versions_of s (reported s vs ts) ≡ with_versions (versions_of s ts) vs
versions_after s [] ts = refl
versions_after s (v ∷ vs) ts = versions_of-with_report s (v ∷ vs) ts

news_are : (h after : HistoryData) (s : ScopeData) (vs ws : List TextMap) → after ≡ edited (versions s vs) h → after ≡ edited (versions s ws) h → with_versions (versions_of s h.tables) ws ≡ versions_of s h.tables ++ ws → ws ≡ new_to (versions_of s h.tables) vs
news_are h after s vs ws all news behind =
    let known = versions_of s h.tables in
    same_behind known ws (new_to known vs)
    (sym behind ∙ sym (versions_after s ws h.tables) ∙ ap (λ (y : HistoryData). versions_of s y.tables) (sym news ∙ all) ∙ versions_after s vs h.tables ∙ news_behind known vs)

-- the edit that tells of a report holds what is new of it
pub reported_so : (h after : HistoryData) (s : ScopeData) (vs : List TextMap) (r : Reported) → after ≡ edited (versions s vs) h → after ≡ edited (edit_data (Versions r)) h → HasItsNumbers h (Versions r) → r.scope ≡ s → edit_data (Versions r) ≡ with_news h (versions s vs)
reported_so h after s vs r all news numbers same =
    let behind : with_versions (versions_of s h.tables) r.versions.items ≡ versions_of s h.tables ++ r.versions.items = subst (λ y. with_versions (versions_of y h.tables) r.versions.items ≡ versions_of y h.tables ++ r.versions.items) same numbers.3 in
    let its : after ≡ edited (versions s r.versions.items) h = news ∙ ap (λ y. edited (versions y r.versions.items) h) same in
    ap (λ y. versions y r.versions.items) same ∙ ap (versions s) (news_are h after s vs r.versions.items all its behind)
