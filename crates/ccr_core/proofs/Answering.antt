-- How one build goes on, from the parts that its machine and the history give.
use Rattle.std.proofs.Common.{◌≡◌, ◌≢◌, ◌⊎◌, inl, inr, ℕ, Bool, true, false, List, [], ◌∷◌, ◌++◌, Option, Some, None, refl, sym, ap, ◌∙◌, subst, append_assoc}
use Rattle.std.proofs.lemmas.List.{map-append}
use Rattle.std.specs.Prelude.{IsSomeAnd, option_map}
use Rattle.std.specs.Option.{option_map_or}
use Rattle.ccr_history.specs.declared.build.Status.TheVariants as status
use Rattle.ccr_history.specs.Text.{Text}
use Rattle.ccr_history.specs.TextMap.{TextMap}
use Rattle.ccr_history.specs.Tables.{is_table_full}
use Rattle.ccr_history.specs.Changes.{EditData, versions, ended, edited, changed, IsRunning, AdmitsAll}
use Rattle.ccr_history.specs.History.{HistoryData}
use Rattle.ccr_pipeline.specs.JobData.{ResourceData}
use Rattle.ccr_pipeline.specs.Pipelines.{PipelineData}
use Rattle.ccr_pipeline.specs.Tree.{Tree}
use Rattle.ccr_steps.specs.Asks.{AskData, ask_data, AnswerData, errored, Chosen, Exchange, exchange}
use Rattle.ccr_steps.specs.Progress.{IsAllowed, IsNext, IsWanted}
use Rattle.ccr_steps.specs.Runs.{RunData, StandsFor}
use Rattle.ccr_steps.specs.declared.ask.Ask.{Ask}
use Rattle.ccr_steps.specs.declared.outcome.Outcome.{Outcome}
use Rattle.ccr_steps.specs.declared.outcome.Outcome.TheVariants as outcome
use Rattle.ccr_problem.specs.ProblemOf.{resource_of, scope_of}
use Rattle.ccr_core.specs.declared.fault.CoreFault.{CoreFault}
use Rattle.ccr_core.specs.declared.fault.CoreFault.TheVariants.{TableFull, NoMemory}
use Rattle.ccr_core.specs.declared.pushed.Report.{Report}
use Rattle.ccr_history.specs.declared.change.Edit.{Edit}
use Rattle.ccr_history.specs.declared.change.Reported.{Reported}
use Rattle.ccr_history.specs.declared.change.Edit.TheVariants.{Versions}
use Rattle.ccr_history.specs.Edits.{edit_data, change_data}
use Rattle.ccr_core.specs.Builds.{status_of, Settles}
use Rattle.ccr_core.specs.Edits.{news_in, AreEndEdits, AreMoreEdits, AreNextEdits}
use Rattle.ccr_core.specs.Endings.{reports, report_edits, IsOver, IsEnding, IsAtEnding, end_edits, PairsFit, EndFits, ReportFits}
use Rattle.ccr_core.specs.Going.{named, Waits, CanGoOn, PushIsFull, GoesOn, IsRefused, Changes}
use Rattle.ccr_core.specs.Kept.{IsAnswer}
use Rattle.ccr_core.specs.Seen.{pairs_of, report, pushed_by, report_by}
use Rattle.ccr_core.specs.State.{RunningData}
use Rattle.ccr_core.proofs.Sound.{pushed_up}

-- ---- what is asked
-- what is asked next is one ask
pub next_one : (inputs : Chosen) (plan : Tree) (es : List Exchange) (a b : AskData) → IsNext inputs plan es a → IsNext inputs plan es b → a ≡ b
next_one inputs plan es a b n m =
    let (rest, allowed) = n.0 errored in
    m.1 (exchange a errored) rest (subst (IsAllowed inputs plan) (append_assoc es (exchange a errored ∷ []) rest) allowed)

-- ---- endings
-- a build that ended doesn't run
pub ends_over : (o : Outcome) → status_of o ≢ status.Running
ends_over outcome.Succeeded e = absurd (cc (e))
ends_over outcome.Failed e = absurd (cc (e))
ends_over outcome.Errored e = absurd (cc (e))
ends_over outcome.Aborted e = absurd (cc (e))

-- the history once a build stands so
pub settles_so : (p : PipelineData) (h : HistoryData) (job : Text) (number : ℕ) (plan : Tree) (inputs : Chosen) (es : List Exchange) (o : Option Outcome) (pairs : List (ℕ × ℕ)) (after : HistoryData) → IsEnding p h inputs plan es o pairs → after ≡ changed (end_edits job number o pairs) h → Settles p h (named job number plan inputs es) o after
settles_so p h job number plan inputs es None pairs after (begins, waits) is = (begins, waits, is)
settles_so p h job number plan inputs es (Some o) pairs after (g, means, same) is = (g, means, is ∙ ap (λ ps. edited (ended job number (status_of o) ps) h) same)

-- what it moved fits
pub pairs_fit : (p : PipelineData) (h : HistoryData) (r : RunData) (o : Option Outcome) (pairs : List (ℕ × ℕ)) → EndFits p h r → IsAtEnding p h r o pairs → PairsFit h.tables o pairs
pairs_fit p h r None pairs fits stands = tt
pairs_fit p h r (Some o) pairs (plan, inputs, es, st, fits) stands =
    let (g, means, same) = stands plan inputs es st in
    subst (λ ps. PairsFit h.tables (Some o) ps) (sym same) (fits o g means)

-- the history takes its end
pub end_taken : (h : HistoryData) (job : Text) (number : ℕ) (o : Option Outcome) (pairs : List (ℕ × ℕ)) → IsRunning job number h.builds → PairsFit h.tables o pairs → AdmitsAll h (end_edits job number o pairs)
end_taken h job number None pairs runs fits = tt
end_taken h job number (Some o) pairs runs fits = ((runs, ends_over o, fits), tt)

-- ---- reports
-- a report leaves the builds
pub reports_builds : (r : Option Report) (h : HistoryData) → (changed (reports r) h).builds ≡ h.builds
reports_builds None h = refl
reports_builds (Some r) h = refl

-- what runs still does after a report
pub reports_run : (r : Option Report) (h mid : HistoryData) (job : Text) (number : ℕ) → mid ≡ changed (reports r) h → IsRunning job number h.builds → IsRunning job number mid.builds
reports_run r h mid job number is runs = subst (λ bs. IsRunning job number bs) (sym (reports_builds r h) ∙ sym (ap (λ y. y.builds) is)) runs

-- a report and then more
pub changes_then : (r : Option Reported) (es all : List Edit) (h mid after : HistoryData) → all ≡ report_edits r ++ es → Changes (report_edits r) h mid → Changes es mid after → Changes all h after
changes_then None es all h mid after is first more =
    subst (λ l. Changes l h after) (sym is) (subst (λ y. Changes es y after) (sym first.1) more)
changes_then (Some r) es all h mid after is first more =
    let then : Changes es (edited (edit_data (Versions r)) h) after = subst (λ y. Changes es y after) (sym first.1) more in
    subst (λ l. Changes l h after) (sym is) (((first.0.0.0, then.0.0), (first.0.1.0, then.0.1)), then.1)

-- a report that isn't over is one that the history takes
pub report_taken : (p : PipelineData) (h : HistoryData) (a : AskData) (x : AnswerData) (r : Option Report) → reports r ≡ report_by p a x → IsAnswer x → (IsOver r h → ⊥) → AdmitsAll h (reports r)
report_taken p h a x None is up room = tt
report_taken p h a x (Some r) is up room = by (pushed_by a x) refl is
  where
    fits : (t : Bool) → is_table_full r.scope r.versions.items h.tables ≡ t → is_table_full r.scope r.versions.items h.tables ≡ false
    fits true e = absurd (room e)
    fits false e = e

    ascends : (m : Text × TextMap) (o : Option ResourceData) → pushed_by a x ≡ Some m → reports (Some r) ≡ option_map_or (λ y. versions (scope_of y) (m.1 ∷ []) ∷ []) o [] → AdmitsAll h (reports (Some r))
    ascends m None at e = absurd (cc (e))
    ascends m (Some y) at e =
        let vs : r.versions.items ≡ m.1 ∷ [] = cc e in
        ((fits (is_table_full r.scope r.versions.items h.tables) refl, rw vs (pushed_up a x m.0 m.1 up at, tt)), tt)

    by : (o : Option (Text × TextMap)) → pushed_by a x ≡ o → reports (Some r) ≡ option_map_or (λ m. report p m.0 (m.1 ∷ [])) o [] → AdmitsAll h (reports (Some r))
    by None at e = absurd (cc (e))
    by (Some m) at e = ascends m (resource_of m.0 p.resources) at e

-- what is pushed has no place where its report is over
pub push_full : (p : PipelineData) (h : HistoryData) (plan : Tree) (inputs : Chosen) (es : List Exchange) (a : AskData) (x : AnswerData) (r : Option Report) → IsNext inputs plan es a → reports r ≡ report_by p a x → IsOver r h → PushIsFull p h plan inputs es x
push_full p h plan inputs es a x None next is over = absurd over
push_full p h plan inputs es a x (Some r) next is over = by (pushed_by a x) refl is
  where
    full : (m : Text × TextMap) (o : Option ResourceData) → reports (Some r) ≡ option_map_or (λ y. versions (scope_of y) (m.1 ∷ []) ∷ []) o [] → IsSomeAnd o (λ y. is_table_full (scope_of y) (m.1 ∷ []) h.tables ≡ true)
    full m None e = absurd (cc (e))
    full m (Some y) e =
        let scope : r.scope ≡ scope_of y = cc e in
        let vs : r.versions.items ≡ m.1 ∷ [] = cc e in
        subst (λ l. is_table_full (scope_of y) l h.tables ≡ true) vs (subst (λ s. is_table_full s r.versions.items h.tables ≡ true) scope over)

    by : (o : Option (Text × TextMap)) → pushed_by a x ≡ o → reports (Some r) ≡ option_map_or (λ m. report p m.0 (m.1 ∷ [])) o [] → PushIsFull p h plan inputs es x
    by None at e = absurd (cc (e))
    by (Some m) at e = (a, m.0, m.1, next, at, full m (resource_of m.0 p.resources) e)

-- and it has one where its report isn't
pub push_fits : (p : PipelineData) (h : HistoryData) (plan : Tree) (inputs : Chosen) (es : List Exchange) (a : AskData) (x : AnswerData) (r : Option Report) → IsNext inputs plan es a → reports r ≡ report_by p a x → (IsOver r h → ⊥) → PushIsFull p h plan inputs es x → ⊥
push_fits p h plan inputs es a x r next is room (b, resource, v, other, at, full) =
    let same = next_one inputs plan es a b next other in
    let one : reports r ≡ report p resource (v ∷ []) = is ∙ ap (λ c. report_by p c x) same ∙ ap (λ o. option_map_or (λ m. report p m.0 (m.1 ∷ [])) o []) at in
    by r (resource_of resource p.resources) room one full
  where
    by : (q : Option Report) (o : Option ResourceData) → (IsOver q h → ⊥) → reports q ≡ option_map_or (λ y. versions (scope_of y) (v ∷ []) ∷ []) o [] → IsSomeAnd o (λ y. is_table_full (scope_of y) (v ∷ []) h.tables ≡ true) → ⊥
    by q None room e full = full
    by None (Some y) room e full = absurd (cc (e))
    by (Some q) (Some y) room e full =
        let scope : q.scope ≡ scope_of y = cc e in
        let vs : q.versions.items ≡ v ∷ [] = cc e in
        room (subst (λ l. is_table_full q.scope l h.tables ≡ true) (sym vs) (subst (λ s. is_table_full s (v ∷ []) h.tables ≡ true) (sym scope) full))

-- ---- going on
-- the condition of a report and what follows, from that of an answer
pub report_fits : (p : PipelineData) (h : HistoryData) (old new : RunData) (job : Text) (number : ℕ) (x : AnswerData) (o : Option Ask) (ask : Ask) (r : Option Report) → CanGoOn p h old job number → o ≡ Some ask → ((plan : Tree) (inputs : Chosen) (es : List Exchange) → StandsFor old plan inputs es → IsWanted inputs plan es (option_map ask_data o)) → IsAnswer x → reports r ≡ report_by p (ask_data ask) x → ((plan : Tree) (inputs : Chosen) (es : List Exchange) → StandsFor old plan inputs es → (a : AskData) × IsNext inputs plan es a × StandsFor new plan inputs (es ++ exchange a x ∷ [])) → ReportFits p h r new
report_fits p h old new job number x o ask r (running, (plan, inputs, es, (stands, waits), fits)) some wants up is fed =
    let wanted = subst (λ q. IsWanted inputs plan es (option_map ask_data q)) some (wants plan inputs es stands) in
    let (a, next, now) = fed plan inputs es stands in
    let same = next_one inputs plan es (ask_data ask) a wanted.0 next in
    let edits : reports r ≡ report_by p a x = is ∙ ap (λ c. report_by p c x) same in (
      report_taken p h (ask_data ask) x r is up,
      λ takes. (plan, inputs, es ++ exchange a x ∷ [], now, λ u g means. subst (λ l. PairsFit (changed l h).tables (Some u) (pairs_of p (changed l h) g.moved)) (sym edits) (fits a x u g next up (subst (AdmitsAll h) edits takes) means)),
    )

-- the build goes on
pub goes_on : (p : PipelineData) (h after : HistoryData) (old new : RunData) (job : Text) (number : ℕ) (x : AnswerData) (u : Option Outcome) (o : Option Ask) (ask : Ask) (r : Option Report) → o ≡ Some ask → ((plan : Tree) (inputs : Chosen) (es : List Exchange) → StandsFor old plan inputs es → IsWanted inputs plan es (option_map ask_data o)) → reports r ≡ report_by p (ask_data ask) x → ((plan : Tree) (inputs : Chosen) (es : List Exchange) → StandsFor old plan inputs es → (a : AskData) × IsNext inputs plan es a × StandsFor new plan inputs (es ++ exchange a x ∷ [])) → ((plan : Tree) (inputs : Chosen) (es : List Exchange) → StandsFor new plan inputs es → Settles p (changed (reports r) h) (named job number plan inputs es) u after) → (IsOver r h → ⊥) → GoesOn p h old job number x u after new
goes_on p h after old new job number x u o ask r some wants is fed settled room plan inputs es (stands, waits) =
    let wanted = subst (λ q. IsWanted inputs plan es (option_map ask_data q)) some (wants plan inputs es stands) in
    let (a, next, now) = fed plan inputs es stands in
    let same = next_one inputs plan es (ask_data ask) a wanted.0 next in
    let edits : reports r ≡ report_by p a x = is ∙ ap (λ c. report_by p c x) same in (
      push_fits p h plan inputs es a x r next edits room,
      (a, next, now, subst (λ l. Settles p (changed l h) (named job number plan inputs (es ++ exchange a x ∷ [])) u after) edits (settled plan inputs (es ++ exchange a x ∷ []) now)),
    )

-- why it doesn't
pub is_refused : (p : PipelineData) (h : HistoryData) (old : RunData) (x : AnswerData) (o : Option Ask) (ask : Ask) (r : Option Report) (f : CoreFault) → o ≡ Some ask → ((plan : Tree) (inputs : Chosen) (es : List Exchange) → StandsFor old plan inputs es → IsWanted inputs plan es (option_map ask_data o)) → reports r ≡ report_by p (ask_data ask) x → (f ≡ NoMemory) ⊎ ((f ≡ TableFull) × IsOver r h) → IsRefused p h old x f
is_refused p h old x o ask r f some wants is (inl memory) plan inputs es waits = inl memory
is_refused p h old x o ask r f some wants is (inr (full, over)) plan inputs es (stands, waits) =
    let wanted = subst (λ q. IsWanted inputs plan es (option_map ask_data q)) some (wants plan inputs es stands) in
    inr (full, push_full p h plan inputs es (ask_data ask) x r wanted.0 is over)

-- ---- edits
-- a report's edit, and then an end's
pub more_so : (p : PipelineData) (h mid : HistoryData) (told : List EditData) (r : Option Reported) (ends all : List Edit) (b : RunningData) (u : Option Outcome) → all ≡ report_edits r ++ ends → change_data (report_edits r) ≡ news_in h told → mid ≡ changed told h → AreEndEdits p mid b u (change_data ends) → AreMoreEdits p h told b u (change_data all)
more_so p h mid told r ends all b u is news to are = (
  change_data ends,
  subst (λ y. AreEndEdits p y b u (change_data ends)) to are,
  ap change_data is ∙ map-append edit_data (report_edits r) ends ∙ ap (λ l. l ++ change_data ends) news,
)

-- those of a build that goes on
pub next_so : (p : PipelineData) (h : HistoryData) (old new : RunData) (job : Text) (number : ℕ) (x : AnswerData) (u : Option Outcome) (o : Option Ask) (ask : Ask) (r : Option Report) (edits : List EditData) → o ≡ Some ask → ((plan : Tree) (inputs : Chosen) (es : List Exchange) → StandsFor old plan inputs es → IsWanted inputs plan es (option_map ask_data o)) → reports r ≡ report_by p (ask_data ask) x → ((plan : Tree) (inputs : Chosen) (es : List Exchange) → StandsFor old plan inputs es → (a : AskData) × IsNext inputs plan es a × StandsFor new plan inputs (es ++ exchange a x ∷ [])) → ((plan : Tree) (inputs : Chosen) (es : List Exchange) → StandsFor new plan inputs es → AreMoreEdits p h (reports r) (named job number plan inputs es) u edits) → (plan : Tree) (inputs : Chosen) (es : List Exchange) → Waits old plan inputs es → AreNextEdits p h (named job number plan inputs es) x u edits
next_so p h old new job number x u o ask r edits some wants is fed more plan inputs es (stands, waits) =
    let wanted = subst (λ q. IsWanted inputs plan es (option_map ask_data q)) some (wants plan inputs es stands) in
    let (a, next, now) = fed plan inputs es stands in
    let same = next_one inputs plan es (ask_data ask) a wanted.0 next in
    let told : reports r ≡ report_by p a x = is ∙ ap (λ c. report_by p c x) same in
    (a, next, subst (λ l. AreMoreEdits p h l (named job number plan inputs (es ++ exchange a x ∷ [])) u edits) told (more plan inputs (es ++ exchange a x ∷ []) now))
