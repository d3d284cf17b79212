-- A build that a core makes, and a schedule or a trigger that it refuses.
use Rattle.std.proofs.Common.{◌≡◌, ◌⊎◌, inl, inr, ℕ, ◌<◌, ◌≤◌, Bool, true, false, List, [], ◌∷◌, ◌++◌, Option, Some, None, Ok, Err, length, map, String, string_bytes, refl, sym, ap, ◌∙◌, subst, arith}
use Rattle.std.specs.Prelude.{unwrap_or, Result, IfErr, IsErrAnd}
use Rattle.std.specs.declared.alloc.Global.{Global}
use Rattle.ccr_history.specs.declared.builds.TheConstants.{MOST_BUILDS}
use Rattle.ccr_history.specs.Text.{Text}
use Rattle.ccr_history.specs.Changes.{EditData}
use Rattle.ccr_history.specs.History.{HistoryData}
use Rattle.ccr_pipeline.specs.Inputs.{inputs}
use Rattle.ccr_pipeline.specs.JobData.{JobData}
use Rattle.ccr_pipeline.specs.Pipelines.{PipelineData}
use Rattle.ccr_steps.specs.Progress.{IsAllowed}
use Rattle.ccr_steps.specs.Runs.{RunData, run_data, StandsFor}
use Rattle.ccr_steps.specs.declared.build.BuildRun.{BuildRun}
use Rattle.ccr_steps.specs.declared.outcome.Outcome.{Outcome}
use Rattle.ccr_problem.specs.ProblemOf.{job_of}
use Rattle.ccr_core.specs.declared.fault.CoreFault.{CoreFault}
use Rattle.ccr_core.specs.declared.fault.CoreFault.TheVariants.{NoPipeline, NoJob, NoResource, NoBuild, BuildsOpen, NotWanted, TooManyOpen, TableFull, NoMemory, NoVersion}
use Rattle.ccr_core.specs.declared.limit.TheConstants.{MOST_RUNNING}
use Rattle.ccr_core.specs.declared.pick.Picked.{Picked}
use Rattle.ccr_core.specs.declared.pick.Picked.TheVariants as pick
use Rattle.ccr_core.specs.declared.reply.Reply.{Reply}
use Rattle.ccr_core.specs.declared.reply.Reply.TheVariants.{Made, NoneSatisfies, OverBudget, NotNew, Busy}
use Rattle.ccr_core.specs.Builds.{begun, history_with, Makes}
use Rattle.ccr_core.specs.Choices.{best, Finds}
use Rattle.ccr_core.specs.Edits.{AreBuildEdits, AreMadeEdits, AreEdits}
use Rattle.ccr_core.specs.Faults.{Meets, MayRefuse, IsFree}
use Rattle.ccr_core.specs.Going.{CanMake, IsMade}
use Rattle.ccr_core.specs.Holding.{CoreData, name_data, AreRuns, Stands, HasEdits, IsCore, TakesStep}
use Rattle.ccr_core.specs.Opening.{asked, LacksRoom, IsOpened}
use Rattle.ccr_core.specs.Picking.{name_of, Picks, IsPicked}
use Rattle.ccr_core.specs.State.{RunningData, State, no_pipeline, pipeline_of, jobs_of, moved_on}
use Rattle.ccr_core.specs.Steps.{IsIdle, IsHeld, has_news, Step}
use Rattle.ccr_core.proofs.Choosing.{ArePlaced}
use Rattle.ccr_core.proofs.Finding.{Names}
use Rattle.ccr_core.proofs.Placing.{moved_fit}
use Rattle.ccr_core.proofs.Reaching.{firm, as_many}
use Rattle.ccr_core.proofs.Refusing.{none_met, none_before, refuses}
use Rattle.ccr_core.proofs.Sound.{IsSound, placed, takes_build, sound_begun}

-- ---- lists of builds that run
pub runs_more : (ns : List (Text × ℕ)) (rs : List RunData) (bs : List RunningData) (n : Text × ℕ) (r : RunData) (b : RunningData) → AreRuns ns rs bs → n ≡ (b.job, b.number) → StandsFor r b.plan b.inputs b.exchanges → (IsAllowed b.inputs b.plan b.exchanges → ⊥) → AreRuns (ns ++ n ∷ []) (rs ++ r ∷ []) (bs ++ b ∷ [])
runs_more [] [] [] n r b are same st waits = (same, st, waits, tt)
runs_more (m ∷ ns) (q ∷ rs) (c ∷ bs) n r b (e, s, w, rest) same st waits = (e, s, w, runs_more ns rs bs n r b rest same st waits)
runs_more [] [] (c ∷ bs) n r b are same st waits = absurd are
runs_more [] (q ∷ rs) bs n r b are same st waits = absurd are
runs_more (m ∷ ns) [] bs n r b are same st waits = absurd are
runs_more (m ∷ ns) (q ∷ rs) [] n r b are same st waits = absurd are

pub names_are : (ns : List (Text × ℕ)) (rs : List RunData) (bs : List RunningData) → AreRuns ns rs bs → map name_of bs ≡ ns
names_are [] [] [] are = refl
names_are (m ∷ ns) (q ∷ rs) (c ∷ bs) (e, s, w, rest) = ap (λ n. n ∷ map name_of bs) (sym e) ∙ ap (λ l. m ∷ l) (names_are ns rs bs rest)
names_are [] [] (c ∷ bs) are = absurd are
names_are [] (q ∷ rs) bs are = absurd are
names_are (m ∷ ns) [] bs are = absurd are
names_are (m ∷ ns) (q ∷ rs) [] are = absurd are

-- ---- the condition of a build
placed_length : (p : PipelineData) (h : HistoryData) (is : List _) (ns : List ℕ) → ArePlaced p h is ns → length ns ≡ length is
placed_length p h [] [] placed = refl
placed_length p h (i ∷ is) (n ∷ ns) (one, rest) = let same = placed_length p h is ns rest in omega (arith, same)
placed_length p h [] (n ∷ ns) placed = absurd placed
placed_length p h (i ∷ is) [] placed = absurd placed

pub can_make : (s : State) (name : Text) (j : JobData) (places : List ℕ) → IsSound s → job_of name (pipeline_of s).jobs ≡ Some j → Finds s j.name (best places) → ¬ (MOST_BUILDS ≤ length s.history.builds) → CanMake (pipeline_of s) s.history j places
can_make s name j places sound at finds room =
    let begins = sound_begun s name j places sound at finds room in
    let takes = takes_build s name j places sound at finds room in
    record {
      room = takes.0;
      each = placed_length (pipeline_of s) s.history (inputs j.plan) places (placed s name j places sound at finds room);
      used = takes.1;
      fits = λ o g means. moved_fit (pipeline_of s) (history_with (pipeline_of s) s.history j places) (begun (pipeline_of s) s.history j places).inputs j.plan [] o g begins.got begins.known tt means;
    }

-- ---- a build that is made
pub makes : (s : State) (j : JobData) (places : List ℕ) (number : ℕ) (h : HistoryData) (p : Option PipelineData) (budget : ℕ) (ns ms : List (Text × ℕ)) (rs qs : List RunData) → p ≡ s.pipeline → budget ≡ s.budget → AreRuns ns rs s.running → IsOpened (pipeline_of s) s.history j places number h ns ms rs qs → (after : State) × Makes s j places number after × Stands (record { history = h; pipeline = p; budget = budget; names = ms; runs = qs }) after
makes s j places number h p budget ns ms rs qs piped budgeted are (None, run, (is, st, settles), names, runs) =
    let b = begun (pipeline_of s) s.history j places in
    let more = runs_more ns rs s.running (j.name, number) run b are (ap (λ n. (j.name, n)) is) st settles.1 in
    (moved_on s h (s.running ++ b ∷ []), (is, (None, h, settles, refl)), (refl, piped, budgeted, subst (λ l. AreRuns l qs (s.running ++ b ∷ [])) (sym names) (subst (λ l. AreRuns (ns ++ (j.name, number) ∷ []) l (s.running ++ b ∷ [])) (sym runs) more)))
makes s j places number h p budget ns ms rs qs piped budgeted are (Some o, run, (is, st, settles), names, runs) =
    (moved_on s h s.running, (is, (Some o, h, settles, refl)), (refl, piped, budgeted, subst (λ l. AreRuns l qs s.running) (sym names) (subst (λ l. AreRuns ns l s.running) (sym runs) are)))

-- ---- steps
pub step_held : (by_command : Bool) (s : State) (name : Text) (j : JobData) (r : Reply) → IsFree s (asked by_command name) → job_of name (jobs_of s) ≡ Some j → IsHeld s j r → Step s (asked by_command name) (Ok r) s
step_held true s name j Busy free at held = (free, (j, at, (held, refl)))
step_held true s name j NoneSatisfies free at held = (free, (j, at, (held, refl)))
step_held true s name j (OverBudget n) free at held = (free, (j, at, (held, refl)))
step_held false s name j Busy free at held = (free, (j, at, (held, refl)))
step_held false s name j NoneSatisfies free at held = (free, (j, at, (held, refl)))
step_held false s name j (OverBudget n) free at held = (free, (j, at, (held, refl)))
step_held by_command s name j r free at held = absurd held

pub step_not_new : (by_command : Bool) (s : State) (name : Text) (j : JobData) → IsFree s (asked by_command name) → job_of name (jobs_of s) ≡ Some j → by_command ≡ false → IsIdle s j → (places : List ℕ) × Finds s j.name (best places) × (has_news s j places ≡ false) → Step s (asked by_command name) (Ok NotNew) s
step_not_new true s name j free at is idle found = absurd (cc is)
step_not_new false s name j free at is idle (places, finds, old) = (free, (j, at, (idle, (places, finds, old, refl))))

pub step_made : (by_command : Bool) (s : State) (name : Text) (j : JobData) (places : List ℕ) (number : ℕ) (after : State) → IsFree s (asked by_command name) → job_of name (jobs_of s) ≡ Some j → IsIdle s j → Finds s j.name (best places) → (by_command ≡ true) ⊎ (has_news s j places ≡ true) → Makes s j places number after → Step s (asked by_command name) (Ok (Made number)) after
step_made true s name j places number after free at idle finds news made = (free, (j, at, (idle, (places, finds, made))))
step_made false s name j places number after free at idle finds (inl is) made = absurd (cc is)
step_made false s name j places number after free at idle finds (inr news) made = (free, (j, at, (idle, (places, finds, news, made))))

-- ---- edits
pub asked_edits : (by_command : Bool) (s : State) (name : Text) (r : Reply) (edits : List EditData) → AreMadeEdits s name r edits → AreEdits s (asked by_command name) (Ok r) edits
asked_edits true s name r edits are = are
asked_edits false s name r edits are = are

-- ---- faults
pub free_asked : (by_command : Bool) (s : State) (name : Text) → ¬ (s.pipeline ≡ None) → ¬ (job_of name (jobs_of s) ≡ None) → ¬ (MOST_RUNNING ≤ length s.running) → ¬ (MOST_BUILDS ≤ length s.history.builds) → IsFree s (asked by_command name)
free_asked true s name piped job few room = none_met (Meets s (asked true name)) (λ h. h) piped job (λ h. h) (λ h. h) (λ h. h) (λ h. h) few room (λ h. h)
free_asked false s name piped job few room = none_met (Meets s (asked false name)) (λ h. h) piped job (λ h. h) (λ h. h) (λ h. h) (λ h. h) few room (λ h. h)

pub refuses_open : (by_command : Bool) (s : State) (name : Text) → ¬ (s.pipeline ≡ None) → ¬ (job_of name (jobs_of s) ≡ None) → MOST_RUNNING ≤ length s.running → MayRefuse s (asked by_command name) TooManyOpen
refuses_open true s name piped job many = inr (many, none_before (Meets s (asked true name)) 7 (λ _ h. h) (λ _. piped) (λ _. job) (λ _ h. h) (λ _ h. h) (λ _ h. h) (λ _ h. h) (λ lt _. absurd (omega (arith, lt))) (λ lt _. absurd (omega (arith, lt))) (λ lt _. absurd (omega (arith, lt))))
refuses_open false s name piped job many = inr (many, none_before (Meets s (asked false name)) 7 (λ _ h. h) (λ _. piped) (λ _. job) (λ _ h. h) (λ _ h. h) (λ _ h. h) (λ _ h. h) (λ lt _. absurd (omega (arith, lt))) (λ lt _. absurd (omega (arith, lt))) (λ lt _. absurd (omega (arith, lt))))

pub refuses_room : (by_command : Bool) (s : State) (name : Text) → ¬ (s.pipeline ≡ None) → ¬ (job_of name (jobs_of s) ≡ None) → ¬ (MOST_RUNNING ≤ length s.running) → MOST_BUILDS ≤ length s.history.builds → MayRefuse s (asked by_command name) TableFull
refuses_room true s name piped job few many = inr (many, none_before (Meets s (asked true name)) 8 (λ _ h. h) (λ _. piped) (λ _. job) (λ _ h. h) (λ _ h. h) (λ _ h. h) (λ _ h. h) (λ _. few) (λ lt _. absurd (omega (arith, lt))) (λ lt _. absurd (omega (arith, lt))))
refuses_room false s name piped job few many = inr (many, none_before (Meets s (asked false name)) 8 (λ _ h. h) (λ _. piped) (λ _. job) (λ _ h. h) (λ _ h. h) (λ _ h. h) (λ _ h. h) (λ _. few) (λ lt _. absurd (omega (arith, lt))) (λ lt _. absurd (omega (arith, lt))))

-- ---- what the parts of a core do at a schedule or a trigger
module _ (c : CoreData) (by_command : Bool) (name : Text) where
  module _ (p : PipelineData) (piped : c.pipeline ≡ Some p) where
    is_piped : (s : State) → Stands c s → ¬ (s.pipeline ≡ None)
    is_piped s st none = let no : Some p ≡ None = sym piped ∙ st.1 ∙ none in absurd (cc no)

    pipe : (s : State) → Stands c s → p ≡ pipeline_of s
    pipe s st = ap (λ o. unwrap_or o no_pipeline) (sym piped ∙ st.1)

    module _ (j : JobData) (at : job_of name p.jobs ≡ Some j) where
      there : (s : State) → Stands c s → job_of name (jobs_of s) ≡ Some j
      there s st = ap (λ q. job_of name q.jobs) (sym (pipe s st)) ∙ at

      is_job : (s : State) → Stands c s → ¬ (job_of name (jobs_of s) ≡ None)
      is_job s st none = let no : Some j ≡ None = sym (there s st) ∙ none in absurd (cc no)

      pub too_many : MOST_RUNNING ≤ length c.names → TakesStep c c (asked by_command name) (Err TooManyOpen)
      too_many many = refuses c (asked by_command name) TooManyOpen (λ s st. refuses_open by_command s name (is_piped s st) (is_job s st) (let same = (as_many c.names c.runs s.running st.3).0 in omega (arith, same, many)))

      module _ (less : length c.names < MOST_RUNNING) where
        few : (s : State) → Stands c s → ¬ (MOST_RUNNING ≤ length s.running)
        few s st many = let same = (as_many c.names c.runs s.running st.3).0 in absurd (omega (arith, same, many, less))

        pub table_full : MOST_BUILDS ≤ length c.history.builds → TakesStep c c (asked by_command name) (Err TableFull)
        table_full many = refuses c (asked by_command name) TableFull (λ s st. refuses_room by_command s name (is_piped s st) (is_job s st) (few s st) (subst (λ h. MOST_BUILDS ≤ length h.builds) st.0 many))

        module _ (room : length c.history.builds < MOST_BUILDS) where
          has_room : (s : State) → Stands c s → ¬ (MOST_BUILDS ≤ length s.history.builds)
          has_room s st many = let was : MOST_BUILDS ≤ length c.history.builds = subst (λ h. MOST_BUILDS ≤ length h.builds) (sym st.0) many in absurd (omega (arith, was, room))

          free : (s : State) → Stands c s → IsFree s (asked by_command name)
          free s st = free_asked by_command s name (is_piped s st) (is_job s st) (few s st) (has_room s st)

          pub picks : (x : Picked) → IsPicked p c.history c.budget c.names j by_command x → (s : State) → Stands c s → Picks s j by_command x
          picks x is s st = is s (sym st.1 ∙ piped) (sym st.0) (sym st.2) (names_are c.names c.runs s.running st.3)

          pub busy : IsPicked p c.history c.budget c.names j by_command pick.Busy → TakesStep c c (asked by_command name) (Ok Busy)
          busy is s st = (s, step_held by_command s name j Busy (free s st) (there s st) (picks pick.Busy is s st), st)

          pub none_satisfies : IsPicked p c.history c.budget c.names j by_command pick.NoneSatisfies → TakesStep c c (asked by_command name) (Ok NoneSatisfies)
          none_satisfies is s st = (s, step_held by_command s name j NoneSatisfies (free s st) (there s st) (picks pick.NoneSatisfies is s st), st)

          pub over_budget : (n : ℕ) → IsPicked p c.history c.budget c.names j by_command (pick.OverBudget n) → TakesStep c c (asked by_command name) (Ok (OverBudget n))
          over_budget n is s st = (s, step_held by_command s name j (OverBudget n) (free s st) (there s st) (picks (pick.OverBudget n) is s st), st)

          pub not_new : IsPicked p c.history c.budget c.names j by_command pick.NotNew → TakesStep c c (asked by_command name) (Ok NotNew)
          not_new is s st = (let (scheduled, idle, found) = picks pick.NotNew is s st in (s, step_not_new by_command s name j (free s st) (there s st) scheduled idle found, st))

          module _ (places : List ℕ) (is : (s : State) → Stands c s → IsIdle s j × Finds s j.name (best places) × ((by_command ≡ true) ⊎ (has_news s j places ≡ true))) where
            pub can : IsCore c → CanMake p c.history j places
            can core =
                let t = firm c core in
                let (idle, finds, news) = is t.state t.stands in
                subst (λ h. CanMake p h j places) (sym t.stands.0)
                (subst (λ q. CanMake q t.state.history j places) (sym (pipe t.state t.stands))
                (can_make t.state name j places t.sound (there t.state t.stands) finds (has_room t.state t.stands)))

            pub made : (number : ℕ) (h : HistoryData) (ms : List (Text × ℕ)) (qs : List RunData) → IsOpened p c.history j places number h c.names ms c.runs qs → TakesStep c (record { history = h; pipeline = c.pipeline; budget = c.budget; names = ms; runs = qs }) (asked by_command name) (Ok (Made number))
            made number h ms qs opened s st =
                let (idle, finds, news) = is s st in
                let here : IsOpened (pipeline_of s) s.history j places number h c.names ms c.runs qs = subst (λ g. IsOpened (pipeline_of s) g j places number h c.names ms c.runs qs) st.0 (subst (λ q. IsOpened q c.history j places number h c.names ms c.runs qs) (pipe s st) opened) in
                let (after, made, stands) = makes s j places number h c.pipeline c.budget c.names ms c.runs qs st.1 st.2 st.3 here in
                (after, step_made by_command s name j places number after (free s st) (there s st) idle finds news made, stands)

            pub made_edits : (number : ℕ) (edits : List EditData) → AreBuildEdits p c.history j places edits → HasEdits c (asked by_command name) (Ok (Made number)) edits
            made_edits number edits are s st =
                let (idle, finds, news) = is s st in
                let here : AreBuildEdits (pipeline_of s) s.history j places edits = subst (λ g. AreBuildEdits (pipeline_of s) g j places edits) st.0 (subst (λ q. AreBuildEdits q c.history j places edits) (pipe s st) are) in
                asked_edits by_command s name (Made number) edits (j, there s st, (places, finds, here))

-- ---- a build that comes to those that run
map_more : {X Y : Type 0} → (f : X → Y) (xs : List X) (x : X) → map f (xs ++ x ∷ []) ≡ map f xs ++ f x ∷ []
map_more f [] x = refl
map_more f (y ∷ xs) x = ap (λ l. f y ∷ l) (map_more f xs x)

module _ (p : PipelineData) (h : HistoryData) (j : JobData) (places : List ℕ) (number : ℕ) (after : HistoryData) (run : BuildRun) (o : Option Outcome) (is : IsMade p h j places number o after (run_data run)) (ns ms : Names) (rs qs : List BuildRun) where
  pub opened_ended : (u : Outcome) → o ≡ Some u → ms ≡ ns → qs ≡ rs → IsOpened p h j places number after (map name_data ns) (map name_data ms) (map run_data rs) (map run_data qs)
  opened_ended u ended names runs =
      (Some u, run_data run, subst (λ y. IsMade p h j places number y after (run_data run)) ended is, ap (map name_data) names, ap (map run_data) runs)

  pub opened_open : (name : String Global) → o ≡ None → string_bytes name ≡ j.name → ms ≡ ns ++ (name, number) ∷ [] → qs ≡ rs ++ run ∷ [] → IsOpened p h j places number after (map name_data ns) (map name_data ms) (map run_data rs) (map run_data qs)
  opened_open name runs_on called names runs = (
    None,
    run_data run,
    subst (λ y. IsMade p h j places number y after (run_data run)) runs_on is,
    ap (map name_data) names ∙ map_more name_data ns (name, number) ∙ ap (λ t. map name_data ns ++ (t, number) ∷ []) called,
    ap (map run_data) runs ∙ map_more run_data rs run,
  )

-- one name more
pub name_more : (ns ms : Names) (name : String Global) (m : ℕ) (job : Text) (number : ℕ) → ms ≡ ns ++ (name, m) ∷ [] → string_bytes name ≡ job → m ≡ number → map name_data ms ≡ map name_data ns ++ (job, number) ∷ []
name_more ns ms name m job number is called numbered =
    ap (map name_data) is ∙ map_more name_data ns (name, m) ∙ ap (λ j. map name_data ns ++ (j, m) ∷ []) called ∙ ap (λ n. map name_data ns ++ (job, n) ∷ []) numbered

-- a schedule or a trigger is refused where there is no room
pub no_room : (c : CoreData) (by_command : Bool) (name : Text) (p : PipelineData) (piped : c.pipeline ≡ Some p) (j : JobData) (at : job_of name p.jobs ≡ Some j) (running : ℕ) (f : CoreFault) → running ≡ length c.names → LacksRoom c.history running f → TakesStep c c (asked by_command name) (Err f)
no_room c by_command name p piped j at running TooManyOpen same many = too_many c by_command name p piped j at (omega (arith, same, many))
no_room c by_command name p piped j at running TableFull same (less, many) = table_full c by_command name p piped j at (omega (arith, same, less)) many
no_room c by_command name p piped j at running NoPipeline same lacks = absurd lacks
no_room c by_command name p piped j at running NoJob same lacks = absurd lacks
no_room c by_command name p piped j at running NoResource same lacks = absurd lacks
no_room c by_command name p piped j at running NoBuild same lacks = absurd lacks
no_room c by_command name p piped j at running BuildsOpen same lacks = absurd lacks
no_room c by_command name p piped j at running NotWanted same lacks = absurd lacks
no_room c by_command name p piped j at running NoMemory same lacks = absurd lacks
no_room c by_command name p piped j at running NoVersion same lacks = absurd lacks

pub ends_so : {X : Type 0} → (P : CoreFault → Type 0) → (r : Result X CoreFault) (f : CoreFault) → IsErrAnd r (λ e. e ≡ f) → P f → IfErr r P
ends_so P (Ok x) f is h = tt
ends_so P (Err e) f is h = subst P (sym is) h
